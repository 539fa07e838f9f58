-- What the boxes of media segments that were written give.
use Rattle.std.proofs.Common.{◌≡◌, ◌∙◌, ℕ, zero, suc, ◌+◌, ◌-◌, ◌<◌, ◌≤◌, ◌^◌, leb, ltb, Bool, true, false, List, [], ◌∷◌, ◌++◌, length, take, drop, Option, Some, None, Ok, append_assoc, length-append, ap, refl, sym, arith}
use Rattle.std.proofs.lemmas.Bool.Decides.{nat_tests}
use Rattle.std.proofs.lemmas.List.{drop-drop, length-drop}
use Rattle.std.proofs.lemmas.List.Sums.{sum_by-cons}
use Rattle.std.proofs.Math.Seq.{drop-append_seam, take-append_seam}
use Rattle.std.specs.List.{flat_map, AllByRecursion, sum_by, slice_range}
use Rattle.std.specs.Prelude.{bit_and, ◌==◌, IsSome}
use lib.Chars.{codes}
use Rattle.mse_base.specs.declared.frame.Phase.TheVariants.{Waiting}
use Rattle.mse_base.specs.declared.track.TrackInfo.{TrackInfo}
use Rattle.mse_base.specs.declared.track.Presentation.{Presentation}
use Rattle.bmff_boxes.specs.declared.box_header.Header.{Header}
use Rattle.bmff_boxes.specs.declared.box_header.Header.TheVariants as head
use Rattle.bmff_boxes.specs.Headers.{header_of}
use Rattle.bmff_fragment.specs.declared.slot.Slot.{Slot}
use Rattle.bmff_fragment.specs.Plans.{track_with_id, plan_of}
use Rattle.bmff_fragment.specs.Times.{slot_of}
use Rattle.parser_loop.specs.Items.{FrameItem, SegmentEnd}
use Rattle.parser_loop.specs.Parse.{ParserView, items_of}
use Rattle.segment_walk.specs.Tables.{SegmentItem}
use Rattle.segment_walk.specs.Segments.{OpenFragment, Context, NoFragment, InFragment, SegmentParse, view_at, is_inside, frame_item_at, parse_once_there, parse_of_boxes, parse_of_box, parse_of_header, parse_of_mdat}
use Rattle.segment_walk.proofs.Mdats.{parse_of_slots, parse_of_data_end, mdat-slots}
use Rattle.bmff_write.specs.declared.traf_out.SampleOut.{SampleOut}
use Rattle.bmff_write.specs.declared.traf_out.TrafOut.{TrafOut}
use Rattle.bmff_write.specs.Boxes.{box_bytes}
use Rattle.bmff_write.specs.Tracks.{AreTrafsOut, payload_len}
use Rattle.bmff_write.specs.Fragment.{sample_flags, moof_len, moof_bytes, payloads_of, mdat_bytes, segment_bytes}
use Rattle.bmff_write.proofs.BoxLaws.{box_size}
use Rattle.bmff_write.proofs.FragmentSizes.{moof_size, mdat_size}
use Rattle.written_back.specs.Segments.{SegmentOut, IsSegmentOf, IsTrafOf, frame_read, samples_read, traf_read, trafs_read, segments_read, segments_bytes}
use Rattle.written_back.specs.Slots.{sample_read, slots_read, traf_slots, trafs_slots, AreMedia}
use Rattle.bmff_write.proofs.ReadBoxes.{box_header, payload_stands}
use Rattle.bmff_write.proofs.ReadFragments.{moof_below, moof_payload}
use Rattle.written_back.proofs.Fragment.{plan_written}

-- ---- parts of a string

-- the bytes stand in the string at an offset, with others behind them
abbrev pub HasBytesAt : List ℕ → ℕ → List ℕ → List ℕ → Type 0
HasBytesAt b at bytes rest = drop at b ≡ bytes ++ rest

-- the bytes behind some of these
pub stands_behind : (b : List ℕ) (at : ℕ) (xs ys rest : List ℕ) → drop at b ≡ xs ++ (ys ++ rest) → drop (at + length xs) b ≡ ys ++ rest
stands_behind b at xs ys rest e = sym (drop-drop (length xs) at b) ∙ ap (drop (length xs)) e ∙ drop-append_seam xs (ys ++ rest)

-- a part that stands there is within the string
pub stands_within : (b : List ℕ) (at : ℕ) (xs rest : List ℕ) → drop at b ≡ xs ++ rest → 1 ≤ length xs → at + length xs ≤ length b
stands_within b at xs rest e some =
    let a = ap length e in
    let c = length-append xs rest in
    let d = length-drop at b in
    omega (arith, a, c, d, some)

pub part_is : (b : List ℕ) (at : ℕ) (xs rest : List ℕ) → drop at b ≡ xs ++ rest → slice_range b at (at + length xs) ≡ xs
part_is b at xs rest e =
    let n : at + length xs - at ≡ length xs = omega arith in
    ap (λ (m : ℕ). take m (drop at b)) n ∙ ap (take (length xs)) e ∙ take-append_seam xs rest

-- ---- the frames of samples

sync_read : (sync : Bool) → (bit_and (sample_flags sync) 0x10000 == 0) ≡ sync
sync_read true = refl
sync_read false = refl

-- an open movie fragment whose one mdat has its payload from `start` to `end`
abbrev filled : ℕ → List Slot → ℕ → ℕ → OpenFragment
filled moof slots start end = record { moof = moof; slots = slots; payloads = record { start = start; end = end } ∷ []; end = end }

inside : (moof start end : ℕ) (s : Slot) → start ≤ moof + s.start → moof + s.end ≤ end → is_inside moof (record { start = start; end = end } ∷ []) s ≡ true
inside moof start end s low high =
    let a : leb start (moof + s.start) ≡ true = grind (arith, nat_tests) in
    let b : leb (moof + s.end) end ≡ true = grind (arith, nat_tests) in
    rw (a, b) refl

-- the slot of a sample gives its frame
slot_step : (b : List ℕ) (now : ParserView) (moof start end : ℕ) (all slots : List Slot) (next : List Slot → SegmentParse) (s : Slot) (item : SegmentItem)
    → start ≤ moof + s.start → moof + s.end ≤ end → end ≤ length b → frame_item_at b moof s ≡ item
    → items_of (parse_of_slots b now (filled moof all start end) next (s ∷ slots)) ≡ item ∷ items_of (parse_of_slots b now (filled moof all start end) next slots)
slot_step b now moof start end all slots next s item low high there is =
    let lies = inside moof start end s low high in
    let come : leb (moof + s.end) (length b) ≡ true = grind (arith, nat_tests) in
    rw (lies, come, is) refl

frame_is : (b : List ℕ) (moof place at time : ℕ) (track : TrackInfo) (s : SampleOut) (rest : List ℕ) → at ≡ moof + place → drop at b ≡ s.payload ++ rest
    → frame_item_at b moof (slot_of track time place (sample_read s)) ≡ FrameItem (frame_read track time s) at
unfolding slot_of
frame_is b moof place at time track s rest is stands =
    let bytes : slice_range b (moof + place) (moof + (place + length s.payload)) ≡ s.payload =
    ap (λ (n : ℕ). slice_range b n (moof + (place + length s.payload))) (sym is)
    ∙ ap (slice_range b at) (let e : moof + (place + length s.payload) ≡ at + length s.payload = omega (arith, is) in e)
    ∙ part_is b at s.payload rest stands in
    rw (bytes, sync_read s.sync, is) refl

slot_start : (track : TrackInfo) (time place : ℕ) (s : SampleOut) → (slot_of track time place (sample_read s)).start ≡ place
unfolding slot_of
slot_start track time place s = refl

slot_end : (track : TrackInfo) (time place : ℕ) (s : SampleOut) → (slot_of track time place (sample_read s)).end ≡ place + length s.payload
unfolding slot_of
slot_end track time place s = refl

samples_walked : (b : List ℕ) (now : ParserView) (moof start end : ℕ) (all more : List Slot) (next : List Slot → SegmentParse) (track : TrackInfo) (time place at : ℕ) (samples : List SampleOut) (rest : List ℕ)
    → at ≡ moof + place → start ≤ at → at + payload_len samples ≤ end → end ≤ length b → drop at b ≡ payloads_of samples ++ rest
    → items_of (parse_of_slots b now (filled moof all start end) next (slots_read track time place samples ++ more))
    ≡ samples_read track time at samples ++ items_of (parse_of_slots b now (filled moof all start end) next more)
samples_walked b now moof start end all more next track time place at [] rest is low high there stands = refl
samples_walked b now moof start end all more next track time place at (s ∷ samples) rest is low high there stands =
    let slot : Slot = slot_of track time place (sample_read s) in
    let sum = sum_by-cons (λ (x : SampleOut). length x.payload) s samples in
    let parts : drop at b ≡ s.payload ++ (payloads_of samples ++ rest) = stands ∙ append_assoc s.payload (payloads_of samples) rest in
    let begins = slot_start track time place s in
    let ends = slot_end track time place s in
    let first = slot_step b now moof start end all (slots_read track (time + s.duration) (place + length s.payload) samples ++ more) next slot (FrameItem (frame_read track time s) at)
    (omega (arith, begins, is, low)) (omega (arith, ends, is, high, sum)) there (frame_is b moof place at time track s (payloads_of samples ++ rest) is parts) in
    let others = samples_walked b now moof start end all more next track (time + s.duration) (place + length s.payload) (at + length s.payload) samples rest
    (omega (arith, is)) (omega (arith, low)) (omega (arith, high, sum)) there (stands_behind b at s.payload (payloads_of samples) rest parts) in
    first ∙ ap (λ (xs : List SegmentItem). FrameItem (frame_read track time s) at ∷ xs) others

traf_walked : (b : List ℕ) (now : ParserView) (moof start end : ℕ) (all more : List Slot) (next : List Slot → SegmentParse) (found : Option TrackInfo) (place at : ℕ) (t : TrafOut) (rest : List ℕ)
    → IsSome found → at ≡ moof + place → start ≤ at → at + payload_len t.samples ≤ end → end ≤ length b → drop at b ≡ payloads_of t.samples ++ rest
    → items_of (parse_of_slots b now (filled moof all start end) next (traf_slots found place t ++ more))
    ≡ traf_read found at t ++ items_of (parse_of_slots b now (filled moof all start end) next more)
traf_walked b now moof start end all more next None place at t rest some is low high there stands = absurd cc
traf_walked b now moof start end all more next (Some track) place at t rest some is low high there stands =
    samples_walked b now moof start end all more next track t.decode place at t.samples rest is low high there stands

-- the payloads of track fragments
abbrev all_payloads : List TrafOut → List ℕ
all_payloads trafs = flat_map (λ t. payloads_of t.samples) trafs

payloads_len : (samples : List SampleOut) → length (payloads_of samples) ≡ payload_len samples
payloads_len [] = refl
payloads_len (s ∷ samples) =
    omega (arith, length-append s.payload (payloads_of samples), payloads_len samples, sum_by-cons (λ (x : SampleOut). length x.payload) s samples)

trafs_walked : (b : List ℕ) (now : ParserView) (moof start end : ℕ) (all : List Slot) (next : List Slot → SegmentParse) (tracks : List TrackInfo) (place at : ℕ) (trafs : List TrafOut) (rest : List ℕ)
    → AllByRecursion (IsTrafOf tracks) trafs → at ≡ moof + place → start ≤ at → at + sum_by (λ t. payload_len t.samples) trafs ≤ end → end ≤ length b → drop at b ≡ all_payloads trafs ++ rest
    → items_of (parse_of_slots b now (filled moof all start end) next (trafs_slots tracks place trafs)) ≡ trafs_read tracks at trafs ++ items_of (next [])
trafs_walked b now moof start end all next tracks place at [] rest each is low high there stands = refl
trafs_walked b now moof start end all next tracks place at (t ∷ trafs) rest each is low high there stands =
    let one = each.0 in
    let sum = sum_by-cons (λ (x : TrafOut). payload_len x.samples) t trafs in
    let parts : drop at b ≡ payloads_of t.samples ++ (all_payloads trafs ++ rest) = stands ∙ append_assoc (payloads_of t.samples) (all_payloads trafs) rest in
    let many = payloads_len t.samples in
    let behind : drop (at + payload_len t.samples) b ≡ all_payloads trafs ++ rest =
    ap (λ (n : ℕ). drop (at + n) b) (sym many) ∙ stands_behind b at (payloads_of t.samples) (all_payloads trafs) rest parts in
    let first = traf_walked b now moof start end all (trafs_slots tracks (place + payload_len t.samples) trafs) next (track_with_id tracks t.id) place at t (all_payloads trafs ++ rest)
    one.named is low (omega (arith, high, sum)) there parts in
    let others = trafs_walked b now moof start end all next tracks (place + payload_len t.samples) (at + payload_len t.samples) trafs rest each.1
    (omega (arith, is)) (omega (arith, low)) (omega (arith, high, sum)) there behind in
    first ∙ ap (λ (xs : List SegmentItem). traf_read (track_with_id tracks t.id) at t ++ xs) others
    ∙ sym (append_assoc (traf_read (track_with_id tracks t.id) at t) (trafs_read tracks (at + payload_len t.samples) trafs) (items_of (next [])))

-- ---- a media segment

pub at_header : (n : ℕ) (b : List ℕ) (last : Option Presentation) (before : Context) (at : ℕ) (h : Header) → header_of (drop at b) ≡ h
    → parse_of_boxes (suc n) b last before at ≡ parse_of_header (view_at b last before at) at (parse_of_box (parse_of_boxes n b) b (view_at b last before at) before) h
at_header n b last before at h e = ap (parse_of_header (view_at b last before at) at (parse_of_box (parse_of_boxes n b) b (view_at b last before at) before)) e

pub box_there : (b : List ℕ) (at len : ℕ) (kind payload rest : List ℕ) → drop at b ≡ box_bytes kind payload ++ rest → length kind ≡ 4 → 8 + length payload < 2 ^ 32 → 8 + length payload ≡ len
    → header_of (drop at b) ≡ head.Whole kind 8 len
box_there b at len kind payload rest stands four small is =
    ap header_of stands ∙ box_header kind payload rest four small ∙ ap (head.Whole kind 8) is

moof_step : (n : ℕ) (b : List ℕ) (p : Presentation) (at len : ℕ) (slots : List Slot) → header_of (drop at b) ≡ head.Whole (codes "moof") 8 len → len < 2 ^ 24 → at + len ≤ length b
    → plan_of p.tracks (slice_range b at (at + len)) ≡ Ok slots
    → parse_of_boxes (suc n) b (Some p) (NoFragment Waiting) at ≡ parse_of_boxes n b (Some p) (InFragment (record { moof = at; slots = slots; payloads = []; end = at })) (at + len)
moof_step n b p at len slots header small there plan =
    let few : ltb (at + 2 ^ 24) (at + len) ≡ false = grind (arith, nat_tests) in
    let come : leb (at + len) (length b) ≡ true = grind (arith, nat_tests) in
    at_header n b (Some p) (NoFragment Waiting) at (head.Whole (codes "moof") 8 len) header ∙ rw (few, come, plan) refl

mdat_step : (n : ℕ) (b : List ℕ) (p : Presentation) (moof at len : ℕ) (slots : List Slot) → header_of (drop at b) ≡ head.Whole (codes "mdat") 8 len → at + len ≤ moof + 2 ^ 27
    → parse_of_boxes (suc n) b (Some p) (InFragment (record { moof = moof; slots = slots; payloads = []; end = moof })) at
    ≡ parse_of_mdat (parse_of_boxes n b) b (view_at b (Some p) (InFragment (record { moof = moof; slots = slots; payloads = []; end = moof })) at) (filled moof slots (at + 8) (at + len))
mdat_step n b p moof at len slots header small =
    let few : ltb (moof + 2 ^ 27) (at + len) ≡ false = grind (arith, nat_tests) in
    at_header n b (Some p) (InFragment (record { moof = moof; slots = slots; payloads = []; end = moof })) at (head.Whole (codes "mdat") 8 len) header ∙ rw few refl

end_step : (n : ℕ) (b : List ℕ) (now : ParserView) (moof start end : ℕ) (slots : List Slot) → end ≤ length b
    → items_of (parse_once_there b end now (parse_of_data_end (parse_of_boxes n b) now (filled moof slots start end) []))
    ≡ SegmentEnd ∷ items_of (parse_of_boxes n b now.latest (NoFragment Waiting) end)
end_step n b now moof start end slots there =
    let come : leb end (length b) ≡ true = grind (arith, nat_tests) in rw come refl

abbrev segment_len : List TrafOut → ℕ
segment_len trafs = moof_len trafs + (8 + sum_by (λ t. payload_len t.samples) trafs)

-- the parts of a media segment that stands at an offset
abbrev mdat_payload : List TrafOut → List ℕ
mdat_payload trafs = flat_map (λ t. payloads_of t.samples) trafs

segment_parts : (b : List ℕ) (at sequence : ℕ) (trafs : List TrafOut) (rest : List ℕ) → drop at b ≡ segment_bytes sequence trafs ++ rest
    → drop at b ≡ moof_bytes sequence trafs ++ (mdat_bytes trafs ++ rest)
unfolding segment_bytes
segment_parts b at sequence trafs rest stands = stands ∙ append_assoc (moof_bytes sequence trafs) (mdat_bytes trafs) rest

pub segment_size : (sequence : ℕ) (trafs : List TrafOut) → length (segment_bytes sequence trafs) ≡ segment_len trafs
unfolding segment_bytes
segment_size sequence trafs = omega (arith, length-append (moof_bytes sequence trafs) (mdat_bytes trafs), moof_size sequence trafs, mdat_size trafs)

-- the payload of an mdat stands behind its header
mdat_parts : (b : List ℕ) (at : ℕ) (trafs : List TrafOut) (rest : List ℕ) → drop at b ≡ mdat_bytes trafs ++ rest → drop (at + 8) b ≡ mdat_payload trafs ++ rest
unfolding mdat_bytes
mdat_parts b at trafs rest stands =
    sym (drop-drop 8 at b) ∙ ap (drop 8) stands ∙ payload_stands (codes "mdat") (mdat_payload trafs) rest refl

moof_header : (b : List ℕ) (at sequence : ℕ) (trafs : List TrafOut) (rest : List ℕ) → AreTrafsOut trafs → drop at b ≡ moof_bytes sequence trafs ++ rest
    → header_of (drop at b) ≡ head.Whole (codes "moof") 8 (moof_len trafs)
unfolding moof_bytes
moof_header b at sequence trafs rest are stands =
    let size = moof_size sequence trafs in
    let own = box_size (codes "moof") (moof_payload sequence trafs) refl in
    let below = moof_below trafs are in
    box_there b at (moof_len trafs) (codes "moof") (moof_payload sequence trafs) rest stands refl (omega (arith, size, own, below)) (omega (arith, size, own))

mdat_header : (b : List ℕ) (at : ℕ) (trafs : List TrafOut) (rest : List ℕ) → AreTrafsOut trafs → drop at b ≡ mdat_bytes trafs ++ rest
    → header_of (drop at b) ≡ head.Whole (codes "mdat") 8 (8 + sum_by (λ t. payload_len t.samples) trafs)
unfolding mdat_bytes
mdat_header b at trafs rest are stands =
    let size = mdat_size trafs in
    let own = box_size (codes "mdat") (mdat_payload trafs) refl in
    box_there b at (8 + sum_by (λ t. payload_len t.samples) trafs) (codes "mdat") (mdat_payload trafs) rest stands refl (omega (arith, size, own, are.payload)) (omega (arith, size, own))

segment_step : (n : ℕ) (b : List ℕ) (p : Presentation) (at : ℕ) (g : SegmentOut) (rest : List ℕ) → AreMedia p.tracks → IsSegmentOf p.tracks g → drop at b ≡ segment_bytes g.sequence g.trafs ++ rest
    → items_of (parse_of_boxes (suc (suc n)) b (Some p) (NoFragment Waiting) at)
    ≡ trafs_read p.tracks (at + (moof_len g.trafs + 8)) g.trafs ++ SegmentEnd ∷ items_of (parse_of_boxes n b (Some p) (NoFragment Waiting) (at + length (segment_bytes g.sequence g.trafs)))
segment_step n b p at g rest media fits stands =
    let trafs : List TrafOut = g.trafs in
    let total : ℕ = sum_by (λ t. payload_len t.samples) trafs in
    let place : ℕ = moof_len trafs + 8 in
    let slots : List Slot = trafs_slots p.tracks place trafs in
    let parts = segment_parts b at g.sequence trafs rest stands in
    let moof_long = moof_size g.sequence trafs in
    let mdat_long = mdat_size trafs in
    let below = moof_below trafs fits.trafs in
    let within = stands_within b at (segment_bytes g.sequence trafs) rest stands (omega (arith, segment_size g.sequence trafs)) in
    let long = segment_size g.sequence trafs in
    let behind : drop (at + moof_len trafs) b ≡ mdat_bytes trafs ++ rest =
    ap (λ (m : ℕ). drop (at + m) b) (sym moof_long) ∙ stands_behind b at (moof_bytes g.sequence trafs) (mdat_bytes trafs) rest parts in
    let moof : slice_range b at (at + moof_len trafs) ≡ moof_bytes g.sequence trafs =
    ap (λ (m : ℕ). slice_range b at (at + m)) (sym moof_long) ∙ part_is b at (moof_bytes g.sequence trafs) (mdat_bytes trafs ++ rest) parts in
    let plan = ap (plan_of p.tracks) moof ∙ plan_written p.tracks g.sequence trafs media fits.trafs fits.each in
    let first = moof_step (suc n) b p at (moof_len trafs) slots (moof_header b at g.sequence trafs (mdat_bytes trafs ++ rest) fits.trafs parts) below (omega (arith, within, long)) plan in
    let open_view : ParserView = view_at b (Some p) (InFragment (record { moof = at; slots = slots; payloads = []; end = at })) (at + moof_len trafs) in
    let second = mdat_step n b p at (at + moof_len trafs) (8 + total) slots (mdat_header b (at + moof_len trafs) trafs rest fits.trafs behind) (omega (arith, below, fits.trafs.payload)) in
    let end : ℕ = at + moof_len trafs + (8 + total) in
    let payload : drop (at + (moof_len trafs + 8)) b ≡ mdat_payload trafs ++ rest =
    ap (λ (m : ℕ). drop m b) (let e : at + (moof_len trafs + 8) ≡ at + moof_len trafs + 8 = omega arith in e) ∙ mdat_parts b (at + moof_len trafs) trafs rest behind in
    let frames = trafs_walked b open_view at (at + moof_len trafs + 8) end slots
    (λ slots. parse_once_there b end open_view (parse_of_data_end (parse_of_boxes n b) open_view (filled at slots (at + moof_len trafs + 8) end) slots))
    p.tracks place (at + (moof_len trafs + 8)) trafs rest fits.each refl (omega arith) (omega arith) (omega (arith, within, long)) payload in
    let last = end_step n b open_view at (at + moof_len trafs + 8) end slots (omega (arith, within, long)) in
    let ends : end ≡ at + length (segment_bytes g.sequence trafs) = omega (arith, long) in
    let slot_by_slot = mdat-slots (parse_of_boxes n b) b open_view (filled at slots (at + moof_len trafs + 8) end) in
    ap items_of first ∙ ap items_of second ∙ ap items_of slot_by_slot ∙ frames
    ∙ ap (λ (xs : List SegmentItem). trafs_read p.tracks (at + (moof_len trafs + 8)) trafs ++ xs) last
    ∙ ap (λ (m : ℕ). trafs_read p.tracks (at + (moof_len trafs + 8)) trafs ++ SegmentEnd ∷ items_of (parse_of_boxes n b (Some p) (NoFragment Waiting) m)) ends

-- ---- media segments

-- the boxes of media segments, and m more
abbrev pub boxes_of : List SegmentOut → ℕ → ℕ
boxes_of [] m = m
boxes_of (g ∷ segments) m = suc (suc (boxes_of segments m))

pub boxes_least : (segments : List SegmentOut) (m : ℕ) → m ≤ boxes_of segments m
boxes_least [] m = omega arith
boxes_least (g ∷ segments) m = let ih = boxes_least segments m in omega (arith, ih)

no_header : header_of [] ≡ head.Short
unfolding header_of
no_header = refl

at_end : (m : ℕ) (b : List ℕ) (last : Option Presentation) (at : ℕ) → drop at b ≡ [] → items_of (parse_of_boxes m b last (NoFragment Waiting) at) ≡ []
at_end zero b last at none = refl
at_end (suc m) b last at none = ap items_of (at_header m b last (NoFragment Waiting) at head.Short (ap header_of none ∙ no_header))

pub segments_walked : (m : ℕ) (b : List ℕ) (p : Presentation) (at : ℕ) (segments : List SegmentOut) → AreMedia p.tracks → AllByRecursion (IsSegmentOf p.tracks) segments → drop at b ≡ segments_bytes segments
    → items_of (parse_of_boxes (boxes_of segments m) b (Some p) (NoFragment Waiting) at) ≡ segments_read p.tracks at segments
segments_walked m b p at [] media each stands = at_end m b (Some p) at stands
segments_walked m b p at (g ∷ segments) media each stands =
    let first = segment_step (boxes_of segments m) b p at g (segments_bytes segments) media each.0 stands in
    let behind : drop (at + length (segment_bytes g.sequence g.trafs)) b ≡ segments_bytes segments =
    sym (drop-drop (length (segment_bytes g.sequence g.trafs)) at b) ∙ ap (drop (length (segment_bytes g.sequence g.trafs))) stands ∙ drop-append_seam (segment_bytes g.sequence g.trafs) (segments_bytes segments) in
    first ∙ ap (λ (xs : List SegmentItem). trafs_read p.tracks (at + (moof_len g.trafs + 8)) g.trafs ++ SegmentEnd ∷ xs)
    (segments_walked m b p (at + length (segment_bytes g.sequence g.trafs)) segments media each.1 behind)
