-- A movie box that was written reads back, box by box.
use Rattle.std.proofs.Common.{◌≡◌, ◌∙◌, ℕ, ℤ, ◌+◌, ◌*◌, ◌<◌, ◌≤◌, ◌^◌, ltb, Bool, true, false, cond, List, [], ◌∷◌, ◌++◌, length, map, take, drop, Some, append_assoc, length-append, ap, refl, sym, arith}
use Rattle.std.proofs.lemmas.Bool.Decides.{nat_tests}
use Rattle.std.proofs.lemmas.List.{drop_at, take-append-le, length-drop}
use Rattle.std.specs.List.{flat_map, AllByRecursion}
use Rattle.std.specs.Option.{option_map}
use lib.Chars.{codes}
use Rattle.mse_base.specs.declared.track.Kind.{Kind}
use Rattle.mse_base.specs.declared.track.Kind.TheVariants.{Video, Audio, Other}
use Rattle.bmff_boxes.specs.declared.box_header.Header.{Header}
use Rattle.bmff_boxes.specs.declared.box_header.Header.TheVariants as head
use Rattle.bmff_boxes.specs.Headers.{header_of}
use Rattle.bmff_boxes.specs.Children.{ChildView, Box, NoBytes, NoBox, whole_box, child_of}
use Rattle.bmff_boxes.specs.Fields.{field, is_version}
use Rattle.bmff_boxes.specs.MovieFields.{mvhd_scale_of, mvhd_duration_of, tkhd_track_of, mdhd_scale_of, hdlr_handler_of, entry_count_of, trex_duration_of, trex_size_of, trex_flags_of}
use Rattle.bmff_boxes.specs.Rows.{BoxView, row_by, row_of, first_of, all_of}
use Rattle.bmff_boxes.proofs.HeaderLaws.{header-longer, is_short}
use Rattle.bmff_boxes.proofs.ChildLaws.{child-whole}
use Rattle.bmff_boxes.proofs.RowLaws.{row-step, row-nil}
use Rattle.bmff_write.specs.declared.boxes.Field.TheVariants.{Full, U16, U32, Code, Zeros}
use Rattle.bmff_write.specs.declared.track_out.TrackOut.{TrackOut}
use Rattle.bmff_write.specs.Boxes.{fields_bytes, field_bytes, box_bytes}
use Rattle.bmff_write.specs.Tracks.{AreEdits, IsTrackOut, AreTracksOut, IsSampleDescription, AreSampleDescriptions}
use Rattle.bmff_write.specs.Movie.{unity_matrix, volume_of, handler_of, media_header_bytes, greatest_number, mvhd_bytes, tkhd_bytes, edts_bytes, mdhd_bytes, hdlr_bytes, vmhd_bytes, smhd_bytes, dinf_bytes, dref_bytes, empty_table_bytes, stsz_bytes, stbl_bytes, minf_bytes, mdia_bytes, trak_bytes, traks_bytes, trex_bytes, mvex_bytes, moov_bytes}
use Rattle.bmff_write.proofs.BoxLaws.{box_size, fields_size}
use Rattle.bmff_write.proofs.MovieSizes.{vmhd_size, smhd_size, edts_size, dref_size, stbl_size, minf_size, mdia_size, trak_size, mvex_size, moov_size}
use Rattle.bmff_write.proofs.ReadBoxes.{row_more, row_one}
use Rattle.bmff_write.proofs.ReadFields.{u32_alone}
use Rattle.bmff_write.proofs.ReadEdits.{edts_boxes, edts_row_read}

-- ---- sizes

pub header_below : (kind : Kind) → length (media_header_bytes kind) ≤ 20
header_below Video = omega (arith, vmhd_size)
header_below Audio = omega (arith, smhd_size)
header_below Other = omega (arith, vmhd_size)

pub edts_below : (edits : List (ℕ × ℤ)) → length edits ≤ 1000 → length (edts_bytes edits) ≤ 12024
unfolding edts_bytes
edts_below [] few = omega arith
edts_below (edit ∷ edits) few = let size = edts_size (edit ∷ edits) (omega arith) in omega (arith, size)

pub minf_below : (kind : Kind) (stsd : List ℕ) → length stsd ≤ 2 ^ 16 → length (minf_bytes kind stsd) ≤ 2 ^ 16 + 140
minf_below kind stsd short = let h = header_below kind in omega (arith, h, minf_size kind stsd, stbl_size stsd)

pub trak_below : (t : TrackOut) (stsd : List ℕ) → length t.edits ≤ 1000 → length stsd ≤ 2 ^ 16 → length (trak_bytes t stsd) ≤ 2 ^ 17
trak_below t stsd few short =
    let a = minf_below t.kind stsd short in
    let b = edts_below t.edits few in
    omega (arith, a, b, trak_size t stsd, mdia_size t stsd)

-- ---- a given sample description: a box alone, and with bytes behind it

-- what stands next, and what stands behind it
abbrev BoxAndRest : Type 0
BoxAndRest = ChildView × List ℕ

first_is : (view other : ChildView) (rest others : List ℕ) → ◌≡◌ {A = BoxAndRest} (view, rest) (other, others) → (view ≡ other) × (rest ≡ others)
first_is view other rest others e = (ap (λ (p : BoxAndRest). p.0) e, ap (λ (p : BoxAndRest). p.1) e)

whole_alone : (b kind payload found : List ℕ) (start len : ℕ) (t : Bool) → ltb (length b) len ≡ t
    → ◌≡◌ {A = BoxAndRest} (cond t (NoBox, b) (Box found (drop start (take len b)), drop len b)) (Box kind payload, [])
    → (found ≡ kind) × (drop start (take len b) ≡ payload) × (len ≡ length b)
whole_alone b kind payload found start len true e is =
    let view = (first_is NoBox (Box kind payload) b [] is).0 in absurd cc
whole_alone b kind payload found start len false e is =
    let parts = first_is (Box found (drop start (take len b))) (Box kind payload) (drop len b) [] is in
    let view = parts.0 in
    let few : len ≤ length b = grind (arith, nat_tests) in
    let size = length-drop len b in
    let nothing = ap length parts.1 in
    (cc, cc, omega (arith, few, size, nothing))

child_by : (x : ℕ) (b c kind payload : List ℕ) (h : Header) → header_of (x ∷ b) ≡ h → whole_box (x ∷ b) h ≡ (let both : BoxAndRest = (Box kind payload, []) in both)
    → child_of ((x ∷ b) ++ c) ≡ (let both : BoxAndRest = (Box kind payload, c) in both)
child_by x b c kind payload head.Short e is =
    let view = (first_is NoBox (Box kind payload) (x ∷ b) [] is).0 in absurd cc
child_by x b c kind payload (head.Bad f) e is =
    let view = (first_is NoBox (Box kind payload) (x ∷ b) [] is).0 in absurd cc
child_by x b c kind payload (head.Whole found start len) e is =
    let all : List ℕ = x ∷ b in
    let parts = whole_alone all kind payload found start len (ltb (length all) len) refl is in
    let longer : header_of (all ++ c) ≡ head.Whole found start len = header-longer all c (ap is_short e) ∙ e in
    let there : len ≤ length (all ++ c) = omega (arith, parts.2, length-append all c) in
    let front : take len (all ++ c) ≡ take len all = take-append-le len all c (omega (arith, parts.2)) in
    let behind : drop len (all ++ c) ≡ c = drop_at all c len (sym parts.2) in
    child-whole (all ++ c) found start len longer there
    ∙ ap (λ (k : List ℕ). let both : BoxAndRest = (Box k (drop start (take len (all ++ c))), drop len (all ++ c)) in both) parts.0
    ∙ ap (λ (xs : List ℕ). let both : BoxAndRest = (Box kind (drop start xs), drop len (all ++ c)) in both) front
    ∙ ap (λ (xs : List ℕ). let both : BoxAndRest = (Box kind xs, drop len (all ++ c)) in both) parts.1
    ∙ ap (λ (xs : List ℕ). let both : BoxAndRest = (Box kind payload, xs) in both) behind

child_longer : (b c kind payload : List ℕ) → child_of b ≡ (Box kind payload, []) → child_of (b ++ c) ≡ (Box kind payload, c)
unfolding child_of
child_longer [] c kind payload is =
    let view = (first_is NoBytes (Box kind payload) [] [] is).0 in absurd cc
child_longer (x ∷ b) c kind payload is = child_by x b c kind payload (header_of (x ∷ b)) refl is

pub given_row : (b rest kind payload : List ℕ) (row : List BoxView) → child_of b ≡ (Box kind payload, []) → row_of rest ≡ Some row → row_of (b ++ rest) ≡ Some (record { kind = kind; payload = payload } ∷ row)
given_row b rest kind payload row is behind =
    row-step (b ++ rest) ∙ ap (row_by row_of) (child_longer b rest kind payload is) ∙ ap (option_map (λ row. record { kind = kind; payload = payload } ∷ row)) behind

-- ---- the sample table

abbrev pub table_payload : List ℕ
table_payload = fields_bytes (Full 0 0 ∷ U32 0 ∷ [])

abbrev pub stsz_payload : List ℕ
stsz_payload = fields_bytes (Full 0 0 ∷ U32 0 ∷ U32 0 ∷ [])

abbrev pub table_row : List ℕ → List BoxView
table_row stsd =
    record { kind = codes "stsd"; payload = stsd } ∷ record { kind = codes "stts"; payload = table_payload } ∷ record { kind = codes "stsc"; payload = table_payload }
    ∷ record { kind = codes "stsz"; payload = stsz_payload } ∷ record { kind = codes "stco"; payload = table_payload } ∷ []

abbrev pub stbl_payload : List ℕ → List ℕ
stbl_payload stsd = stsd ++ (empty_table_bytes (codes "stts") ++ (empty_table_bytes (codes "stsc") ++ (stsz_bytes ++ empty_table_bytes (codes "stco"))))

pub table_row_read : (codec stsd : List ℕ) (d : IsSampleDescription codec stsd) → row_of (stbl_payload stsd) ≡ Some (table_row d.payload)
unfolding empty_table_bytes stsz_bytes
table_row_read codec stsd d =
    let a = fields_size (Full 0 0 ∷ U32 0 ∷ []) in
    let b = fields_size (Full 0 0 ∷ U32 0 ∷ U32 0 ∷ []) in
    given_row stsd _ (codes "stsd") d.payload _ d.whole
    (row_more (codes "stts") table_payload _ _ refl (omega (arith, a))
    (row_more (codes "stsc") table_payload _ _ refl (omega (arith, a))
    (row_more (codes "stsz") stsz_payload _ _ refl (omega (arith, b))
    (row_one (codes "stco") table_payload refl (omega (arith, a))))))

pub no_entries : entry_count_of table_payload ≡ Some 0
no_entries = u32_alone (Full 0 0 ∷ []) [] 0 (omega arith)

-- ---- the media

abbrev pub header_box : Kind → BoxView
header_box Video = record { kind = codes "vmhd"; payload = fields_bytes (Full 0 1 ∷ Zeros 8 ∷ []) }
header_box Audio = record { kind = codes "smhd"; payload = fields_bytes (Full 0 0 ∷ Zeros 4 ∷ []) }
header_box Other = record { kind = codes "vmhd"; payload = fields_bytes (Full 0 1 ∷ Zeros 8 ∷ []) }

abbrev pub information_row : Kind → List ℕ → List BoxView
information_row kind stsd =
    header_box kind ∷ record { kind = codes "dinf"; payload = dref_bytes } ∷ record { kind = codes "stbl"; payload = stbl_payload stsd } ∷ []

abbrev pub minf_payload : Kind → List ℕ → List ℕ
minf_payload kind stsd = media_header_bytes kind ++ (dinf_bytes ++ stbl_bytes stsd)

pub stbl_small : (stsd : List ℕ) → length stsd ≤ 2 ^ 16 → 8 + length (stbl_payload stsd) < 2 ^ 32
unfolding stbl_bytes
stbl_small stsd short =
    let a = stbl_size stsd in
    let b = box_size (codes "stbl") (stbl_payload stsd) refl in
    omega (arith, a, b)

pub inner_row : (stsd : List ℕ) → length stsd ≤ 2 ^ 16
    → row_of (dinf_bytes ++ stbl_bytes stsd) ≡ Some (record { kind = codes "dinf"; payload = dref_bytes } ∷ record { kind = codes "stbl"; payload = stbl_payload stsd } ∷ [])
unfolding dinf_bytes stbl_bytes
inner_row stsd short =
    row_more (codes "dinf") dref_bytes _ _ refl (omega (arith, dref_size)) (row_one (codes "stbl") (stbl_payload stsd) refl (stbl_small stsd short))

pub information_read : (kind : Kind) (stsd : List ℕ) → length stsd ≤ 2 ^ 16 → row_of (minf_payload kind stsd) ≡ Some (information_row kind stsd)
unfolding vmhd_bytes smhd_bytes
information_read Video stsd short = row_more (codes "vmhd") (fields_bytes (Full 0 1 ∷ Zeros 8 ∷ [])) _ _ refl (omega (arith, fields_size (Full 0 1 ∷ Zeros 8 ∷ []))) (inner_row stsd short)
information_read Audio stsd short = row_more (codes "smhd") (fields_bytes (Full 0 0 ∷ Zeros 4 ∷ [])) _ _ refl (omega (arith, fields_size (Full 0 0 ∷ Zeros 4 ∷ []))) (inner_row stsd short)
information_read Other stsd short = row_more (codes "vmhd") (fields_bytes (Full 0 1 ∷ Zeros 8 ∷ [])) _ _ refl (omega (arith, fields_size (Full 0 1 ∷ Zeros 8 ∷ []))) (inner_row stsd short)

pub stbl_first : (kind : Kind) (stsd : List ℕ) → first_of (codes "stbl") (information_row kind stsd) ≡ Some (stbl_payload stsd)
stbl_first Video stsd = refl
stbl_first Audio stsd = refl
stbl_first Other stsd = refl

abbrev pub mdhd_payload : ℕ → List ℕ
mdhd_payload scale = fields_bytes (Full 0 0 ∷ Zeros 8 ∷ U32 scale ∷ Zeros 4 ∷ U16 0x55c4 ∷ Zeros 2 ∷ [])

abbrev pub hdlr_payload : Kind → List ℕ
hdlr_payload kind = fields_bytes (Full 0 0 ∷ Zeros 4 ∷ Code (handler_of kind) ∷ Zeros 12 ∷ Zeros 1 ∷ [])

-- the handler that hdlr names
pub handler_written : (kind : Kind) → hdlr_handler_of (hdlr_payload kind) ≡ Some (handler_of kind)
unfolding fields_bytes field_bytes
handler_written Video = refl
handler_written Audio = refl
handler_written Other = refl

abbrev pub media_row : TrackOut → List ℕ → List BoxView
media_row t stsd =
    record { kind = codes "mdhd"; payload = mdhd_payload t.scale } ∷ record { kind = codes "hdlr"; payload = hdlr_payload t.kind }
    ∷ record { kind = codes "minf"; payload = minf_payload t.kind stsd } ∷ []

abbrev pub mdia_payload : TrackOut → List ℕ → List ℕ
mdia_payload t stsd = mdhd_bytes t.scale ++ (hdlr_bytes t.kind ++ minf_bytes t.kind stsd)

pub handler_size : (kind : Kind) → length (hdlr_payload kind) ≤ 25
handler_size Video = omega (arith, fields_size (Full 0 0 ∷ Zeros 4 ∷ Code (handler_of Video) ∷ Zeros 12 ∷ Zeros 1 ∷ []))
handler_size Audio = omega (arith, fields_size (Full 0 0 ∷ Zeros 4 ∷ Code (handler_of Audio) ∷ Zeros 12 ∷ Zeros 1 ∷ []))
handler_size Other = omega (arith, fields_size (Full 0 0 ∷ Zeros 4 ∷ Code (handler_of Other) ∷ Zeros 12 ∷ Zeros 1 ∷ []))

pub minf_small : (kind : Kind) (stsd : List ℕ) → length stsd ≤ 2 ^ 16 → 8 + length (minf_payload kind stsd) < 2 ^ 32
unfolding minf_bytes
minf_small kind stsd short =
    let a = minf_below kind stsd short in
    let b = box_size (codes "minf") (minf_payload kind stsd) refl in
    omega (arith, a, b)

pub media_row_read : (t : TrackOut) (stsd : List ℕ) → length stsd ≤ 2 ^ 16 → row_of (mdia_payload t stsd) ≡ Some (media_row t stsd)
unfolding mdhd_bytes hdlr_bytes minf_bytes
media_row_read t stsd short =
    let a = fields_size (Full 0 0 ∷ Zeros 8 ∷ U32 t.scale ∷ Zeros 4 ∷ U16 0x55c4 ∷ Zeros 2 ∷ []) in
    let b = handler_size t.kind in
    row_more (codes "mdhd") (mdhd_payload t.scale) _ _ refl (omega (arith, a))
    (row_more (codes "hdlr") (hdlr_payload t.kind) _ _ refl (omega (arith, b))
    (row_one (codes "minf") (minf_payload t.kind stsd) refl (minf_small t.kind stsd short)))

pub short_scale : (scale : ℕ) → mdhd_scale_of (mdhd_payload scale) ≡ field 4 12 (mdhd_payload scale)
unfolding fields_bytes field_bytes
short_scale scale = refl

pub scale_read : (scale : ℕ) → scale < 2 ^ 32 → mdhd_scale_of (mdhd_payload scale) ≡ Some scale
scale_read scale fits = short_scale scale ∙ u32_alone (Full 0 0 ∷ Zeros 8 ∷ []) (Zeros 4 ∷ U16 0x55c4 ∷ Zeros 2 ∷ []) scale fits

-- ---- a track

abbrev pub tkhd_payload : TrackOut → List ℕ
tkhd_payload t = fields_bytes (Full 0 7 ∷ Zeros 8 ∷ U32 t.id ∷ Zeros 20 ∷ U16 (volume_of t.kind) ∷ Zeros 2 ∷ (unity_matrix ++ Zeros 8 ∷ []))

abbrev pub track_row : TrackOut → List ℕ → List BoxView
track_row t stsd = record { kind = codes "tkhd"; payload = tkhd_payload t } ∷ (edts_boxes t.edits ++ record { kind = codes "mdia"; payload = mdia_payload t stsd } ∷ [])

abbrev pub trak_payload : TrackOut → List ℕ → List ℕ
trak_payload t stsd = tkhd_bytes t ++ (edts_bytes t.edits ++ mdia_bytes t stsd)

pub mdia_small : (t : TrackOut) (stsd : List ℕ) → length stsd ≤ 2 ^ 16 → 8 + length (mdia_payload t stsd) < 2 ^ 32
unfolding mdia_bytes
mdia_small t stsd short =
    let a = mdia_size t stsd in
    let b = box_size (codes "mdia") (mdia_payload t stsd) refl in
    let c = minf_below t.kind stsd short in
    omega (arith, a, b, c)

pub track_row_read : (t : TrackOut) (stsd : List ℕ) → length t.edits ≤ 1000 → length stsd ≤ 2 ^ 16 → row_of (trak_payload t stsd) ≡ Some (track_row t stsd)
unfolding tkhd_bytes mdia_bytes
track_row_read t stsd few short =
    let a = fields_size (Full 0 7 ∷ Zeros 8 ∷ U32 t.id ∷ Zeros 20 ∷ U16 (volume_of t.kind) ∷ Zeros 2 ∷ (unity_matrix ++ Zeros 8 ∷ [])) in
    row_more (codes "tkhd") (tkhd_payload t) _ _ refl (omega (arith, a))
    (edts_row_read t.edits _ _ few (row_one (codes "mdia") (mdia_payload t stsd) refl (mdia_small t stsd short)))

pub mdia_first : (t : TrackOut) (stsd : List ℕ) (edits : List (ℕ × ℤ))
    → first_of (codes "mdia") (edts_boxes edits ++ record { kind = codes "mdia"; payload = mdia_payload t stsd } ∷ []) ≡ Some (mdia_payload t stsd)
mdia_first t stsd [] = refl
mdia_first t stsd (edit ∷ edits) = refl

pub edts_first : (mdia : List ℕ) (edits : List (ℕ × ℤ)) → first_of (codes "edts") (edts_boxes edits ++ record { kind = codes "mdia"; payload = mdia } ∷ []) ≡ first_of (codes "edts") (edts_boxes edits)
edts_first mdia [] = refl
edts_first mdia (edit ∷ edits) = refl

pub short_number : (t : TrackOut) → tkhd_track_of (tkhd_payload t) ≡ field 4 12 (tkhd_payload t)
unfolding fields_bytes field_bytes
short_number t = refl

pub number_read : (t : TrackOut) → t.id < 2 ^ 32 → tkhd_track_of (tkhd_payload t) ≡ Some t.id
number_read t fits =
    short_number t ∙ u32_alone (Full 0 7 ∷ Zeros 8 ∷ []) (Zeros 20 ∷ U16 (volume_of t.kind) ∷ Zeros 2 ∷ (unity_matrix ++ Zeros 8 ∷ [])) t.id fits

abbrev pub trex_payload : TrackOut → List ℕ
trex_payload t = fields_bytes (Full 0 0 ∷ U32 t.id ∷ U32 1 ∷ Zeros 12 ∷ [])

pub trex_len : (t : TrackOut) → length (trex_payload t) ≡ 24
trex_len t = fields_size (Full 0 0 ∷ U32 t.id ∷ U32 1 ∷ Zeros 12 ∷ [])

-- twelve bytes of value 0 are three numbers
pub trex_zero : (t : TrackOut) → (trex_duration_of (trex_payload t) ≡ Some 0) × (trex_size_of (trex_payload t) ≡ Some 0) × (trex_flags_of (trex_payload t) ≡ Some 0)
unfolding fields_bytes field_bytes field
trex_zero t = (refl, refl, refl)

pub few_edits : (edits : List (ℕ × ℤ)) → AreEdits edits → length edits ≤ 1000
few_edits [] are = omega arith
few_edits (edit ∷ edits) are = are.1

-- ---- the tracks

abbrev pub trak_payloads : List TrackOut → List (List ℕ) → List (List ℕ)
trak_payloads [] stsds = []
trak_payloads (t ∷ ts) [] = []
trak_payloads (t ∷ ts) (stsd ∷ stsds) = trak_payload t stsd ∷ trak_payloads ts stsds

-- ---- the movie

abbrev pub trak_boxes : List TrackOut → List (List ℕ) → List BoxView
trak_boxes [] stsds = []
trak_boxes (t ∷ ts) [] = []
trak_boxes (t ∷ ts) (stsd ∷ stsds) = record { kind = codes "trak"; payload = trak_payload t stsd } ∷ trak_boxes ts stsds

pub trak_small : (t : TrackOut) (stsd : List ℕ) → length t.edits ≤ 1000 → length stsd ≤ 2 ^ 16 → 8 + length (trak_payload t stsd) < 2 ^ 32
unfolding trak_bytes
trak_small t stsd few short =
    let a = trak_below t stsd few short in
    let b = box_size (codes "trak") (trak_payload t stsd) refl in
    omega (arith, a, b)

pub traks_row : (ts : List TrackOut) (stsds : List (List ℕ)) (rest : List ℕ) (row : List BoxView) → AllByRecursion IsTrackOut ts → AreSampleDescriptions ts stsds → row_of rest ≡ Some row
    → row_of (traks_bytes ts stsds ++ rest) ≡ Some (trak_boxes ts stsds ++ row)
unfolding traks_bytes trak_bytes
traks_row [] stsds rest row each are behind = behind
traks_row (t ∷ ts) [] rest row each are behind = absurd are
traks_row (t ∷ ts) (stsd ∷ stsds) rest row each are behind =
    let is = each.0 in
    let d = are.0 in
    let others = traks_row ts stsds rest row each.1 are.1 behind in
    ap row_of (append_assoc (box_bytes (codes "trak") (trak_payload t stsd)) (traks_bytes ts stsds) rest)
    ∙ row_more (codes "trak") (trak_payload t stsd) (traks_bytes ts stsds ++ rest) (trak_boxes ts stsds ++ row) refl (trak_small t stsd (few_edits t.edits is.edited) d.short) others

pub traks_below : (ts : List TrackOut) (stsds : List (List ℕ)) → AllByRecursion IsTrackOut ts → AreSampleDescriptions ts stsds → length (traks_bytes ts stsds) ≤ length ts * 2 ^ 17
unfolding traks_bytes
traks_below [] stsds each are = omega arith
traks_below (t ∷ ts) [] each are = absurd are
traks_below (t ∷ ts) (stsd ∷ stsds) each are =
    let is = each.0 in
    let d = are.0 in
    let one = trak_below t stsd (few_edits t.edits is.edited) d.short in
    let ih = traks_below ts stsds each.1 are.1 in
    omega (arith, one, ih, length-append (trak_bytes t stsd) (traks_bytes ts stsds))

abbrev pub mvhd_payload : ℕ → List ℕ
mvhd_payload next =
    fields_bytes (Full 0 0 ∷ Zeros 8 ∷ U32 1000 ∷ Zeros 4 ∷ U32 0x00010000 ∷ U16 0x0100 ∷ Zeros 10 ∷ (unity_matrix ++ Zeros 24 ∷ U32 next ∷ []))

abbrev pub trex_boxes : List TrackOut → List BoxView
trex_boxes [] = []
trex_boxes (t ∷ ts) = record { kind = codes "trex"; payload = trex_payload t } ∷ trex_boxes ts

abbrev pub mvex_payload : List TrackOut → List ℕ
mvex_payload ts = flat_map trex_bytes ts

pub trexes_row : (ts : List TrackOut) → row_of (mvex_payload ts) ≡ Some (trex_boxes ts)
unfolding trex_bytes
trexes_row [] = row-nil
trexes_row (t ∷ ts) =
    row_more (codes "trex") (trex_payload t) (mvex_payload ts) (trex_boxes ts) refl (omega (arith, fields_size (Full 0 0 ∷ U32 t.id ∷ U32 1 ∷ Zeros 12 ∷ []))) (trexes_row ts)

pub trexes_all : (ts : List TrackOut) → all_of (codes "trex") (trex_boxes ts) ≡ map trex_payload ts
trexes_all [] = refl
trexes_all (t ∷ ts) = ap (λ (xs : List (List ℕ)). trex_payload t ∷ xs) (trexes_all ts)

abbrev pub movie_row : List TrackOut → List (List ℕ) → List BoxView
movie_row ts stsds =
    record { kind = codes "mvhd"; payload = mvhd_payload (greatest_number ts + 1) } ∷ (trak_boxes ts stsds ++ record { kind = codes "mvex"; payload = mvex_payload ts } ∷ [])

pub traks_all : (ts : List TrackOut) (stsds : List (List ℕ)) (mvex : List ℕ) → all_of (codes "trak") (trak_boxes ts stsds ++ record { kind = codes "mvex"; payload = mvex } ∷ []) ≡ trak_payloads ts stsds
traks_all [] stsds mvex = refl
traks_all (t ∷ ts) [] mvex = refl
traks_all (t ∷ ts) (stsd ∷ stsds) mvex = ap (λ (xs : List (List ℕ)). trak_payload t stsd ∷ xs) (traks_all ts stsds mvex)

pub mvex_first : (ts : List TrackOut) (stsds : List (List ℕ)) (mvex : List ℕ) → first_of (codes "mvex") (trak_boxes ts stsds ++ record { kind = codes "mvex"; payload = mvex } ∷ []) ≡ Some mvex
mvex_first [] stsds mvex = refl
mvex_first (t ∷ ts) [] mvex = refl
mvex_first (t ∷ ts) (stsd ∷ stsds) mvex = mvex_first ts stsds mvex

pub mvhd_scale : (next : ℕ) → mvhd_scale_of (mvhd_payload next) ≡ Some 1000
unfolding fields_bytes field_bytes field
mvhd_scale next = refl

pub mvhd_duration : (next : ℕ) → mvhd_duration_of (mvhd_payload next) ≡ Some 0
unfolding fields_bytes field_bytes field
mvhd_duration next = refl

pub mvhd_version : (next : ℕ) → is_version 1 (mvhd_payload next) ≡ false
unfolding fields_bytes field_bytes
mvhd_version next = refl

abbrev pub moov_payload : List TrackOut → List (List ℕ) → List ℕ
moov_payload ts stsds = mvhd_bytes (greatest_number ts + 1) ++ (traks_bytes ts stsds ++ mvex_bytes ts)

pub mvex_small : (ts : List TrackOut) → length ts ≤ 64 → 8 + length (mvex_payload ts) < 2 ^ 32
unfolding mvex_bytes
mvex_small ts few =
    let a = mvex_size ts in
    let b = box_size (codes "mvex") (mvex_payload ts) refl in
    omega (arith, a, b)

pub movie_row_read : (ts : List TrackOut) (stsds : List (List ℕ)) → AreTracksOut ts → AreSampleDescriptions ts stsds → row_of (moov_payload ts stsds) ≡ Some (movie_row ts stsds)
unfolding mvhd_bytes mvex_bytes
movie_row_read ts stsds are described =
    let next : ℕ = greatest_number ts + 1 in
    let a = fields_size (Full 0 0 ∷ Zeros 8 ∷ U32 1000 ∷ Zeros 4 ∷ U32 0x00010000 ∷ U16 0x0100 ∷ Zeros 10 ∷ (unity_matrix ++ Zeros 24 ∷ U32 next ∷ [])) in
    row_more (codes "mvhd") (mvhd_payload next) _ _ refl (omega (arith, a))
    (traks_row ts stsds _ _ are.each described (row_one (codes "mvex") (mvex_payload ts) refl (mvex_small ts are.few)))

-- a moov has at most 2 ^ 24 bytes
pub moov_below : (ts : List TrackOut) (stsds : List (List ℕ)) → AreTracksOut ts → AreSampleDescriptions ts stsds → length (moov_bytes ts stsds) ≤ 2 ^ 24
moov_below ts stsds are described =
    let a = traks_below ts stsds are.each described in
    let few = are.few in
    omega (arith, a, few, moov_size ts stsds, mvex_size ts)

pub moov_small : (ts : List TrackOut) (stsds : List (List ℕ)) → AreTracksOut ts → AreSampleDescriptions ts stsds → 8 + length (moov_payload ts stsds) < 2 ^ 32
unfolding moov_bytes
moov_small ts stsds are described =
    let a = moov_below ts stsds are described in
    let b = box_size (codes "moov") (moov_payload ts stsds) refl in
    omega (arith, a, b)
