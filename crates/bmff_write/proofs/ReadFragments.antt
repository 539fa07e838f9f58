-- A movie fragment that was written reads back, box by box.
use Rattle.std.proofs.Common.{◌≡◌, ◌∙◌, ℕ, ◌+◌, ◌<◌, ◌≤◌, ◌^◌, List, [], ◌∷◌, ◌++◌, length, Some, append-nil, ap, refl, sym, arith}
use Rattle.std.proofs.lemmas.List.Sums.{sum_by-cons}
use Rattle.std.specs.List.{sum_by}
use lib.Chars.{codes}
use Rattle.bmff_boxes.specs.Fields.{field, flags_of}
use Rattle.bmff_boxes.specs.FragmentFields.{tfdt_time_of}
use Rattle.bmff_boxes.specs.Rows.{BoxView, row_of, all_of}
use Rattle.bmff_boxes.proofs.RowLaws.{row-nil}
use Rattle.bmff_write.specs.declared.boxes.Field.TheVariants.{Full, U32, U64}
use Rattle.bmff_write.specs.declared.traf_out.SampleOut.{SampleOut}
use Rattle.bmff_write.specs.declared.traf_out.TrafOut.{TrafOut}
use Rattle.bmff_write.specs.Boxes.{fields_bytes, field_bytes}
use Rattle.bmff_write.specs.Tracks.{AreTrafsOut, payload_len}
use Rattle.bmff_write.specs.Fragment.{mfhd_bytes, tfhd_bytes, tfdt_bytes, trun_bytes, traf_bytes, trafs_bytes, moof_len, moof_bytes}
use Rattle.bmff_write.proofs.BoxLaws.{box_size, fields_size}
use Rattle.bmff_write.proofs.FragmentSizes.{traf_size, trun_size, moof_size, trafs_len_is}
use Rattle.bmff_write.proofs.ReadBoxes.{row_more, row_one}
use Rattle.bmff_write.proofs.ReadFields.{u32_alone, u64_written, flags_written}
use Rattle.bmff_write.proofs.ReadRuns.{trun_payload}

-- ---- track fragments

abbrev pub tfhd_payload : ℕ → List ℕ
tfhd_payload id = fields_bytes (Full 0 0x020000 ∷ U32 id ∷ [])

abbrev pub tfdt_payload : ℕ → List ℕ
tfdt_payload decode = fields_bytes (Full 1 0 ∷ U64 decode ∷ [])

pub tfhd_flags : (id : ℕ) → flags_of (tfhd_payload id) ≡ Some 0x020000
tfhd_flags id = ap flags_of (sym (append-nil (tfhd_payload id))) ∙ flags_written 0 0x020000 (U32 id ∷ []) [] (omega arith)

pub tfhd_number : (id : ℕ) → id < 2 ^ 32 → field 4 4 (tfhd_payload id) ≡ Some id
tfhd_number id small = u32_alone (Full 0 0x020000 ∷ []) [] id small

pub long_time : (decode : ℕ) → tfdt_time_of (tfdt_payload decode) ≡ field 8 4 (tfdt_payload decode)
unfolding fields_bytes field_bytes
long_time decode = refl

pub time_read : (decode : ℕ) → decode < 2 ^ 64 → tfdt_time_of (tfdt_payload decode) ≡ Some decode
time_read decode small =
    long_time decode ∙ ap (field 8 4) (sym (append-nil (tfdt_payload decode))) ∙ u64_written (Full 1 0 ∷ []) [] [] decode small

abbrev pub traf_row : ℕ → TrafOut → List BoxView
traf_row at t =
    record { kind = codes "tfhd"; payload = tfhd_payload t.id } ∷ record { kind = codes "tfdt"; payload = tfdt_payload t.decode }
    ∷ record { kind = codes "trun"; payload = trun_payload at t.samples } ∷ []

abbrev pub traf_payload : ℕ → TrafOut → List ℕ
traf_payload at t = tfhd_bytes t.id ++ (tfdt_bytes t.decode ++ trun_bytes at t.samples)

-- the size of the payload of trun
pub trun_small : (at : ℕ) (samples : List SampleOut) → length samples ≤ 2 ^ 20 → 8 + length (trun_payload at samples) < 2 ^ 32
unfolding trun_bytes
trun_small at samples few =
    let a = trun_size at samples in
    let b = box_size (codes "trun") (trun_payload at samples) refl in
    omega (arith, a, b)

pub row_read : (at : ℕ) (t : TrafOut) → length t.samples ≤ 2 ^ 20 → row_of (traf_payload at t) ≡ Some (traf_row at t)
unfolding tfhd_bytes tfdt_bytes trun_bytes
row_read at t few =
    let tfhd = fields_size (Full 0 0x020000 ∷ U32 t.id ∷ []) in
    let tfdt = fields_size (Full 1 0 ∷ U64 t.decode ∷ []) in
    row_more (codes "tfhd") (tfhd_payload t.id) _ _ refl (omega (arith, tfhd))
    (row_more (codes "tfdt") (tfdt_payload t.decode) _ _ refl (omega (arith, tfdt))
    (row_one (codes "trun") (trun_payload at t.samples) refl (trun_small at t.samples few)))

abbrev pub traf_payloads : ℕ → List TrafOut → List (List ℕ)
traf_payloads at [] = []
traf_payloads at (t ∷ trafs) = traf_payload at t ∷ traf_payloads (at + payload_len t.samples) trafs

-- ---- the movie fragment

abbrev pub traf_boxes : ℕ → List TrafOut → List BoxView
traf_boxes at [] = []
traf_boxes at (t ∷ trafs) = record { kind = codes "traf"; payload = traf_payload at t } ∷ traf_boxes (at + payload_len t.samples) trafs

pub traf_boxes_all : (at : ℕ) (trafs : List TrafOut) → all_of (codes "traf") (traf_boxes at trafs) ≡ traf_payloads at trafs
traf_boxes_all at [] = refl
traf_boxes_all at (t ∷ trafs) = ap (λ (ps : List (List ℕ)). traf_payload at t ∷ ps) (traf_boxes_all (at + payload_len t.samples) trafs)

pub traf_small : (at : ℕ) (t : TrafOut) → length t.samples ≤ 2 ^ 20 → 8 + length (traf_payload at t) < 2 ^ 32
unfolding traf_bytes
traf_small at t few =
    let a = traf_size at t in
    let b = box_size (codes "traf") (traf_payload at t) refl in
    omega (arith, a, b)

pub trafs_row : (at : ℕ) (trafs : List TrafOut) → sum_by (λ t. length t.samples) trafs ≤ 2 ^ 20 → row_of (trafs_bytes at trafs) ≡ Some (traf_boxes at trafs)
unfolding trafs_bytes traf_bytes
trafs_row at [] few = row-nil
trafs_row at (t ∷ trafs) few =
    let a = sum_by-cons (λ (x : TrafOut). length x.samples) t trafs in
    row_more (codes "traf") (traf_payload at t) (trafs_bytes (at + payload_len t.samples) trafs) (traf_boxes (at + payload_len t.samples) trafs) refl (traf_small at t (omega (arith, a)))
    (trafs_row (at + payload_len t.samples) trafs (omega (arith, a)))

abbrev pub mfhd_payload : ℕ → List ℕ
mfhd_payload sequence = fields_bytes (Full 0 0 ∷ U32 sequence ∷ [])

abbrev pub moof_payload : ℕ → List TrafOut → List ℕ
moof_payload sequence trafs = mfhd_bytes sequence ++ trafs_bytes (moof_len trafs + 8) trafs

abbrev pub moof_row : ℕ → List TrafOut → List BoxView
moof_row sequence trafs = record { kind = codes "mfhd"; payload = mfhd_payload sequence } ∷ traf_boxes (moof_len trafs + 8) trafs

pub moof_row_read : (sequence : ℕ) (trafs : List TrafOut) → sum_by (λ t. length t.samples) trafs ≤ 2 ^ 20 → row_of (moof_payload sequence trafs) ≡ Some (moof_row sequence trafs)
unfolding mfhd_bytes
moof_row_read sequence trafs few =
    let size = fields_size (Full 0 0 ∷ U32 sequence ∷ []) in
    row_more (codes "mfhd") (mfhd_payload sequence) (trafs_bytes (moof_len trafs + 8) trafs) (traf_boxes (moof_len trafs + 8) trafs) refl (omega (arith, size))
    (trafs_row (moof_len trafs + 8) trafs few)

-- a moof has fewer than 2 ^ 24 bytes
pub moof_below : (trafs : List TrafOut) → AreTrafsOut trafs → moof_len trafs < 2 ^ 24
moof_below trafs are = let a = trafs_len_is trafs in omega (arith, a, are.few, are.samples)

pub moof_small : (sequence : ℕ) (trafs : List TrafOut) → AreTrafsOut trafs → 8 + length (moof_payload sequence trafs) < 2 ^ 32
unfolding moof_bytes
moof_small sequence trafs are =
    let a = moof_size sequence trafs in
    let b = box_size (codes "moof") (moof_payload sequence trafs) refl in
    let c = moof_below trafs are in
    omega (arith, a, b, c)
