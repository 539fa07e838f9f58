-- A movie fragment that was written reads back: the slots of its samples.
use Rattle.std.proofs.Common.{◌≡◌, ◌∙◌, ℕ, ◌+◌, ◌*◌, ◌<◌, ◌≤◌, ◌^◌, leb, eqb, ℤ, pos, ◌+ℤ◌, Bool, true, false, cond, List, [], ◌∷◌, ◌++◌, length, map, take, Option, Some, None, Ok, append_assoc, append-nil, length-append, ap, refl, sym, arith}
use Rattle.std.proofs.lemmas.Bool.Decides.{nat_tests}
use Rattle.std.proofs.lemmas.Int.{ints}
use Rattle.std.proofs.lemmas.List.{map-append, length-map}
use Rattle.std.proofs.lemmas.List.Sums.{sum_by-cons}
use Rattle.std.proofs.Math.Seq.{take-append_seam}
use Rattle.std.specs.List.{flat_map, AllByRecursion, sum_by, enumerate_from, range_with_len}
use Rattle.std.specs.Option.{option_map}
use Rattle.std.specs.Prelude.{int_le, ◌||◌, IsSome}
use lib.Chars.{codes}
use Rattle.mse_base.specs.declared.track.TrackInfo.{TrackInfo}
use Rattle.bmff_boxes.specs.Fields.{flags_of}
use Rattle.bmff_boxes.specs.FragmentFields.{tfhd_track_of, tfhd_base_of, tfhd_description_of, tfhd_duration_of, tfhd_size_of, tfhd_flags_of, tfdt_time_of, trun_count_of, trun_data_offset_of, trun_first_flags_of}
use Rattle.bmff_boxes.specs.Rows.{BoxView, row_of, first_of, all_of}
use Rattle.bmff_boxes.specs.Children.{payload_of, payload_in}
use Rattle.bmff_fragment.specs.declared.slot.Slot.{Slot}
use Rattle.bmff_fragment.specs.Headers.{track_fragment_header_of, defaults_of, run_header_of}
use Rattle.bmff_fragment.specs.Samples.{run_sample_of, run_samples_of, sample_with_defaults, header_flags, each}
use Rattle.bmff_fragment.specs.Times.{Run, data_len, duration_of, slot_of, slot_at, slots_of_run, slots_behind}
use Rattle.mse_base.specs.Moments.{is_media}
use Rattle.bmff_fragment.specs.Plans.{track_with_id, track_fragment_of, run_of, runs_of, samples_in, data_end, media_slots, trafs_of, plan_of}
use Rattle.bmff_write.specs.declared.traf_out.SampleOut.{SampleOut}
use Rattle.bmff_write.specs.declared.traf_out.TrafOut.{TrafOut}
use Rattle.bmff_write.specs.Boxes.{fields_bytes, box_bytes}
use Rattle.bmff_write.specs.Fits.{IsFittingSample, IsFittingTraf}
use Rattle.bmff_write.specs.Tracks.{AreTrafsOut, payload_len}
use Rattle.bmff_write.specs.Fragment.{sample_bytes, moof_len, moof_bytes}
use Rattle.bmff_write.proofs.ReadBoxes.{box_child}
use Rattle.bmff_write.proofs.ReadRuns.{trun_fields, trun_payload, run_count_written, run_offset_written, run_first_flags_written, sample_told, sample_len_is, told_written}
use Rattle.bmff_write.proofs.ReadFragments.{tfhd_payload, tfdt_payload, tfhd_flags, tfhd_number, time_read, traf_row, traf_payload, traf_payloads, row_read, traf_boxes_all, moof_payload, moof_row, moof_row_read, moof_below, moof_small}
use Rattle.written_back.specs.Segments.{IsTrafOf}
use Rattle.bmff_fragment.specs.declared.sample.FragmentSample.{FragmentSample}
use Rattle.written_back.specs.Slots.{sample_read, slots_read, traf_slots, trafs_slots, AreMedia}

-- ---- the types of the reader of movie fragments, which has no names for them outside

abbrev FirstOf : {A B : Type 0} → (A → B) → Type 0
FirstOf {A = A} {B = B} f = A

abbrev pub RunHeader : Type 0
RunHeader = FirstOf header_flags

abbrev pub Defaults : Type 0
Defaults = FirstOf sample_with_defaults

abbrev pub TrackFragmentHeader : Type 0
TrackFragmentHeader = FirstOf defaults_of

abbrev pub TrackFragment : Type 0
TrackFragment = FirstOf run_of

-- ---- the samples of a run

abbrev run_header : ℕ → ℕ → RunHeader
run_header count at = record { count = count; data_offset = Some (pos at); first_flags = None }

run_header_known : (p : List ℕ) (count at : ℕ) → trun_count_of p ≡ Some count → trun_data_offset_of p ≡ Some (Some (pos at)) → trun_first_flags_of p ≡ Some None
    → run_header_of p ≡ Some (run_header count at)
unfolding run_header_of
run_header_known p count at counted offset first = rw (counted, offset, first) refl

run_header_written : (at : ℕ) (samples : List SampleOut) → at < 2 ^ 31 → length samples < 2 ^ 32 → run_header_of (trun_payload at samples) ≡ Some (run_header (length samples) at)
run_header_written at samples small few =
    let back : List ℕ = flat_map sample_bytes samples in
    run_header_known (trun_payload at samples) (length samples) at (run_count_written at (length samples) back few) (run_offset_written at (length samples) back small) (run_first_flags_written at (length samples) back)

no_flags : (t : Bool) → ◌≡◌ {A = Option ℕ} (cond t None None) None
no_flags true = refl
no_flags false = refl

sample_written : (defaults : Defaults) (at count i : ℕ) (front back : List ℕ) (s : SampleOut) → length front ≡ i * 16 → IsFittingSample s → length s.payload < 2 ^ 32
    → run_sample_of defaults (run_header count at) (fields_bytes (trun_fields at count) ++ (front ++ (sample_bytes s ++ back))) i ≡ Some (sample_read s)
unfolding run_sample_of
sample_written defaults at count i front back s size fits small =
    ap (option_map (sample_with_defaults defaults (header_flags (run_header count at) i))) (told_written at count i front back s size fits small)
    ∙ ap (λ (o : Option ℕ). Some (sample_with_defaults defaults o (sample_told s))) (no_flags (eqb i 0))

-- each sample has a size that fits
abbrev IsSmall : SampleOut → Type 0
IsSmall s = length s.payload < 2 ^ 32

samples_from : (defaults : Defaults) (at count i : ℕ) (samples : List SampleOut) (front : List ℕ) → length front ≡ i * 16
    → AllByRecursion IsFittingSample samples → AllByRecursion IsSmall samples
    → each (map (run_sample_of defaults (run_header count at) (fields_bytes (trun_fields at count) ++ (front ++ flat_map sample_bytes samples))) (range_with_len i (length samples)))
    ≡ Some (map sample_read samples)
samples_from defaults at count i [] front size fits small = refl
samples_from defaults at count i (s ∷ samples) front size fits small =
    let head : List ℕ = fields_bytes (trun_fields at count) in
    let back : List ℕ = flat_map sample_bytes samples in
    let p : List ℕ = head ++ (front ++ (sample_bytes s ++ back)) in
    let first = sample_written defaults at count i front back s size fits.0 small.0 in
    let longer : length (front ++ sample_bytes s) ≡ (i + 1) * 16 = omega (arith, length-append front (sample_bytes s), sample_len_is s, size) in
    let others = samples_from defaults at count (i + 1) samples (front ++ sample_bytes s) longer fits.1 small.1 in
    let same : head ++ ((front ++ sample_bytes s) ++ back) ≡ p = ap (λ (xs : List ℕ). head ++ xs) (append_assoc front (sample_bytes s) back) in
    let rest : each (map (run_sample_of defaults (run_header count at) p) (range_with_len (i + 1) (length samples))) ≡ Some (map sample_read samples) =
    ap (λ (xs : List ℕ). each (map (run_sample_of defaults (run_header count at) xs) (range_with_len (i + 1) (length samples)))) (sym same) ∙ others in
    ap (λ (o : Option FragmentSample). each (o ∷ map (run_sample_of defaults (run_header count at) p) (range_with_len (i + 1) (length samples)))) first
    ∙ ap (option_map (λ xs. sample_read s ∷ xs)) rest

samples_written : (defaults : Defaults) (at : ℕ) (samples : List SampleOut) → AllByRecursion IsFittingSample samples → AllByRecursion IsSmall samples
    → run_samples_of defaults (run_header (length samples) at) (trun_payload at samples) ≡ Some (map sample_read samples)
samples_written defaults at samples fits small = samples_from defaults at (length samples) 0 samples [] refl fits small

-- the sums over the samples before are those that grow sample by sample
pub duration_push : (before : List SampleOut) (s : SampleOut) → duration_of (map sample_read (before ++ s ∷ [])) ≡ duration_of (map sample_read before) + s.duration
duration_push [] s = omega (arith, sum_by-cons (λ (x : FragmentSample). x.duration) (sample_read s) [])
duration_push (b ∷ before) s =
    let ih = duration_push before s in
    omega (arith, ih, sum_by-cons (λ (x : FragmentSample). x.duration) (sample_read b) (map sample_read (before ++ s ∷ [])), sum_by-cons (λ (x : FragmentSample). x.duration) (sample_read b) (map sample_read before))

pub data_push : (before : List SampleOut) (s : SampleOut) → data_len (map sample_read (before ++ s ∷ [])) ≡ data_len (map sample_read before) + length s.payload
data_push [] s = omega (arith, sum_by-cons (λ (x : FragmentSample). x.size) (sample_read s) [])
data_push (b ∷ before) s =
    let ih = data_push before s in
    omega (arith, ih, sum_by-cons (λ (x : FragmentSample). x.size) (sample_read b) (map sample_read (before ++ s ∷ [])), sum_by-cons (λ (x : FragmentSample). x.size) (sample_read b) (map sample_read before))

-- the data of the samples are their payloads
pub data_is : (samples : List SampleOut) → data_len (map sample_read samples) ≡ payload_len samples
data_is [] = refl
data_is (s ∷ samples) =
    let ih = data_is samples in
    omega (arith, ih, sum_by-cons (λ (x : FragmentSample). x.size) (sample_read s) (map sample_read samples), sum_by-cons (λ (x : SampleOut). length x.payload) s samples)

-- ---- the slots of a run

abbrev run_read : ℕ → List SampleOut → Run
run_read at samples = record { start = pos at; samples = map sample_read samples }

slots_from : (track : TrackInfo) (time at : ℕ) (before samples all : List SampleOut) → before ++ samples ≡ all
    → map (slot_at track time (run_read at all)) (enumerate_from (length before) (map sample_read samples))
    ≡ slots_read track (time + duration_of (map sample_read before)) (at + data_len (map sample_read before)) samples
slots_from track time at before [] all e = refl
slots_from track time at before (s ∷ samples) all e =
    let run : Run = run_read at all in
    let front : take (length before) (map sample_read all) ≡ map sample_read before =
    ap (λ (xs : List SampleOut). take (length before) (map sample_read xs)) (sym e)
    ∙ ap (take (length before)) (map-append sample_read before (s ∷ samples))
    ∙ ap (λ (n : ℕ). take n (map sample_read before ++ map sample_read (s ∷ samples))) (sym (length-map before sample_read))
    ∙ take-append_seam (map sample_read before) (map sample_read (s ∷ samples)) in
    let first : slot_at track time run (length before, sample_read s) ≡ slot_of track (time + duration_of (map sample_read before)) (at + data_len (map sample_read before)) (sample_read s) =
    ap (λ (xs : List FragmentSample). slot_of track (time + duration_of xs) (at + data_len xs) (sample_read s)) front in
    let index : length (before ++ s ∷ []) ≡ length before + 1 = length-append before (s ∷ []) in
    let later : time + duration_of (map sample_read (before ++ s ∷ [])) ≡ time + duration_of (map sample_read before) + s.duration = omega (arith, duration_push before s) in
    let farther : at + data_len (map sample_read (before ++ s ∷ [])) ≡ at + data_len (map sample_read before) + length s.payload = omega (arith, data_push before s) in
    let ih = slots_from track time at (before ++ s ∷ []) samples all (append_assoc before (s ∷ []) samples ∙ e) in
    let others : map (slot_at track time run) (enumerate_from (length before + 1) (map sample_read samples))
    ≡ slots_read track (time + duration_of (map sample_read before) + s.duration) (at + data_len (map sample_read before) + length s.payload) samples =
    ap (λ (n : ℕ). map (slot_at track time run) (enumerate_from n (map sample_read samples))) (sym index)
    ∙ ih
    ∙ ap (λ (n : ℕ). slots_read track n (at + data_len (map sample_read (before ++ s ∷ []))) samples) later
    ∙ ap (λ (n : ℕ). slots_read track (time + duration_of (map sample_read before) + s.duration) n samples) farther in
    ap (λ (x : Slot). x ∷ map (slot_at track time run) (enumerate_from (length before + 1) (map sample_read samples))) first
    ∙ ap (λ (xs : List Slot). slot_of track (time + duration_of (map sample_read before)) (at + data_len (map sample_read before)) (sample_read s) ∷ xs) others

plus-zero : (n : ℕ) → n + 0 ≡ n
plus-zero n = omega arith

run_slots : (track : TrackInfo) (time at : ℕ) (samples : List SampleOut) → slots_of_run track time (run_read at samples) ≡ slots_read track time at samples
run_slots track time at samples =
    slots_from track time at [] samples samples refl
    ∙ ap (λ (n : ℕ). slots_read track n (at + 0) samples) (plus-zero time)
    ∙ ap (λ (n : ℕ). slots_read track time n samples) (plus-zero at)

-- the slots of the one run of a track fragment
one_run : (track : TrackInfo) (time at : ℕ) (samples : List SampleOut) → slots_behind track time [] (run_read at samples ∷ []) ≡ slots_read track time at samples
one_run track time at samples =
    append-nil (slots_of_run track (time + 0) (run_read at samples))
    ∙ ap (λ (n : ℕ). slots_of_run track n (run_read at samples)) (plus-zero time)
    ∙ run_slots track time at samples

-- ---- track fragments

abbrev traf_header : ℕ → TrackFragmentHeader
traf_header id = record { track_id = id; base_data_offset = None; base_is_moof = true; duration = None; size = None; flags = None }

header_known : (p : List ℕ) (id : ℕ) → flags_of p ≡ Some 0x020000 → tfhd_track_of p ≡ Some id → track_fragment_header_of p ≡ Some (traf_header id)
unfolding track_fragment_header_of tfhd_base_of tfhd_description_of tfhd_duration_of tfhd_size_of tfhd_flags_of
header_known p id flags named = rw (flags, named) refl

header_read : (id : ℕ) → id < 2 ^ 32 → track_fragment_header_of (tfhd_payload id) ≡ Some (traf_header id)
header_read id small =
    header_known (tfhd_payload id) id (tfhd_flags id) (tfhd_number id small)

abbrev fragment_read : TrackInfo → TrafOut → TrackFragment
fragment_read track t = record { track = track; defaults = defaults_of (traf_header t.id) track; base = pos 0; decode_time = t.decode }

fragment_known : (tracks : List TrackInfo) (end : ℤ) (at : ℕ) (t : TrafOut) (track : TrackInfo) → track_fragment_header_of (tfhd_payload t.id) ≡ Some (traf_header t.id)
    → track_with_id tracks t.id ≡ Some track → tfdt_time_of (tfdt_payload t.decode) ≡ Some t.decode → track_fragment_of tracks end (traf_row at t) ≡ Ok (fragment_read track t)
unfolding track_fragment_of
fragment_known tracks end at t track header found time = rw (header, found, time) refl

or_true : (a b : Bool) → b ≡ true → (a || b) ≡ true
or_true true b e = refl
or_true false b e = e

from_zero : (n : ℕ) → int_le (pos 0) (pos n) ≡ true
from_zero n = grind (arith, ints)

run_known : (fragment : TrackFragment) (count at : ℕ) (end : ℤ) (samples : List SampleOut) → fragment.base ≡ pos 0
    → run_header_of (trun_payload at samples) ≡ Some (run_header (length samples) at) → leb (count + length samples) (2 ^ 20) ≡ true
    → run_samples_of fragment.defaults (run_header (length samples) at) (trun_payload at samples) ≡ Some (map sample_read samples)
    → run_of fragment count end (trun_payload at samples) ≡ Ok (run_read at samples)
unfolding run_of
run_known fragment count at end samples base header few read =
    let start : (fragment.base +ℤ pos at) ≡ pos at = ap (λ (z : ℤ). z +ℤ pos at) base ∙ omega (arith, ints) in
    let inside : (eqb (length samples) 0 || int_le (pos 0) (fragment.base +ℤ pos at)) ≡ true =
    or_true (eqb (length samples) 0) (int_le (pos 0) (fragment.base +ℤ pos at)) (ap (int_le (pos 0)) start ∙ from_zero at) in
    rw (header, few, read, inside, start) refl

runs_known : (fragment : TrackFragment) (count : ℕ) (end : ℤ) (trun : List ℕ) (run : Run) → run_of fragment count end trun ≡ Ok run → runs_of fragment count end (trun ∷ []) ≡ Ok (run ∷ [])
unfolding runs_of
runs_known fragment count end trun run read = rw read refl

trafs_step : (tracks : List TrackInfo) (count : ℕ) (end : ℤ) (traf : List ℕ) (trafs : List (List ℕ)) (row : List BoxView) (fragment : TrackFragment) (runs : List Run) (slots : List Slot)
    → row_of traf ≡ Some row → track_fragment_of tracks end row ≡ Ok fragment → runs_of fragment count fragment.base (all_of (codes "trun") row) ≡ Ok runs
    → trafs_of tracks (count + length (samples_in runs)) (data_end fragment.base runs) trafs ≡ Ok slots
    → trafs_of tracks count end (traf ∷ trafs) ≡ Ok (media_slots fragment.track (slots_behind fragment.track fragment.decode_time [] runs) ++ slots)
unfolding trafs_of
trafs_step tracks count end traf trafs row fragment runs slots a b c d = rw (a, b, c, d) refl

small_samples : (samples : List SampleOut) → payload_len samples < 2 ^ 32 → AllByRecursion IsSmall samples
small_samples [] small = tt
small_samples (s ∷ samples) small =
    let sum = sum_by-cons (λ (x : SampleOut). length x.payload) s samples in
    (omega (arith, sum), small_samples samples (omega (arith, sum)))

if_media : (track : TrackInfo) (slots : List Slot) → is_media track.kind ≡ true → media_slots track slots ≡ slots
if_media track slots e = ap (λ (t : Bool). cond t slots []) e

traf_written : (tracks : List TrackInfo) (count at : ℕ) (end : ℤ) (t : TrafOut) (trafs : List (List ℕ)) (slots : List Slot) (found : Option TrackInfo) → AreMedia tracks → track_with_id tracks t.id ≡ found → IsSome found
    → IsFittingTraf t → count + length t.samples ≤ 2 ^ 20 → at < 2 ^ 31 → payload_len t.samples < 2 ^ 31
    → ((end : ℤ) → trafs_of tracks (count + length t.samples) end trafs ≡ Ok slots)
    → trafs_of tracks count end (traf_payload at t ∷ trafs) ≡ Ok (traf_slots found at t ++ slots)
traf_written tracks count at end t trafs slots None media e some fits few small light more = absurd cc
traf_written tracks count at end t trafs slots (Some track) media e some fits few small light more =
    let fragment : TrackFragment = fragment_read track t in
    let known = media t.id track e in
    let row = row_read at t (omega arith) in
    let read = fragment_known tracks end at t track (header_read t.id known.1) e (time_read t.decode fits.decode) in
    let header = run_header_written at t.samples small (omega arith) in
    let samples = samples_written fragment.defaults at t.samples fits.samples (small_samples t.samples (omega arith)) in
    let run = run_known fragment count at (pos 0) t.samples refl header (grind (arith, nat_tests)) samples in
    let runs = runs_known fragment count (pos 0) (trun_payload at t.samples) (run_read at t.samples) run in
    let many : length (samples_in (run_read at t.samples ∷ [])) ≡ length t.samples =
    ap length (append-nil (map sample_read t.samples)) ∙ length-map t.samples sample_read in
    let others = ap (λ (n : ℕ). trafs_of tracks (count + n) (data_end (pos 0) (run_read at t.samples ∷ [])) trafs) many ∙ more (data_end (pos 0) (run_read at t.samples ∷ [])) in
    let slots_are : media_slots track (slots_behind track t.decode [] (run_read at t.samples ∷ [])) ≡ slots_read track t.decode at t.samples =
    if_media track (slots_behind track t.decode [] (run_read at t.samples ∷ [])) known.0 ∙ one_run track t.decode at t.samples in
    trafs_step tracks count end (traf_payload at t) trafs (traf_row at t) fragment (run_read at t.samples ∷ []) slots row read runs others
    ∙ ap (λ (xs : List Slot). Ok (xs ++ slots)) slots_are

trafs_written : (tracks : List TrackInfo) (count at : ℕ) (end : ℤ) (trafs : List TrafOut) → AreMedia tracks → AllByRecursion (IsTrafOf tracks) trafs
    → count + sum_by (λ t. length t.samples) trafs ≤ 2 ^ 20 → at + sum_by (λ t. payload_len t.samples) trafs < 2 ^ 31
    → trafs_of tracks count end (traf_payloads at trafs) ≡ Ok (trafs_slots tracks at trafs)
unfolding trafs_of
trafs_written tracks count at end [] media each few small = refl
trafs_written tracks count at end (t ∷ trafs) media each few small =
    let a = sum_by-cons (λ (x : TrafOut). length x.samples) t trafs in
    let b = sum_by-cons (λ (x : TrafOut). payload_len x.samples) t trafs in
    let one = each.0 in
    traf_written tracks count at end t (traf_payloads (at + payload_len t.samples) trafs) (trafs_slots tracks (at + payload_len t.samples) trafs) (track_with_id tracks t.id) media refl one.named one.fits
    (omega (arith, a)) (omega (arith, b)) (omega (arith, b))
    (λ end. trafs_written tracks (count + length t.samples) (at + payload_len t.samples) end trafs media each.1 (omega (arith, a)) (omega (arith, b)))

plan_known : (tracks : List TrackInfo) (moof payload first : List ℕ) (row : List BoxView) → payload_of moof ≡ Some payload → row_of payload ≡ Some row → first_of (codes "traf") row ≡ Some first
    → plan_of tracks moof ≡ trafs_of tracks 0 (pos 0) (all_of (codes "traf") row)
unfolding plan_of
plan_known tracks moof payload first row a b c = rw (a, b, c) refl

-- what a movie fragment says of its samples
pub plan_written : (tracks : List TrackInfo) (sequence : ℕ) (trafs : List TrafOut) → AreMedia tracks → AreTrafsOut trafs → AllByRecursion (IsTrafOf tracks) trafs
    → plan_of tracks (moof_bytes sequence trafs) ≡ Ok (trafs_slots tracks (moof_len trafs + 8) trafs)
unfolding moof_bytes
plan_written tracks sequence [] media are each = absurd (omega (arith, are.some))
plan_written tracks sequence (t ∷ trafs) media are each =
    let all : List TrafOut = t ∷ trafs in
    let at : ℕ = moof_len all + 8 in
    let child = box_child (codes "moof") (moof_payload sequence all) [] refl (moof_small sequence all are) in
    let opened : payload_of (box_bytes (codes "moof") (moof_payload sequence all)) ≡ Some (moof_payload sequence all) =
    ap payload_of (sym (append-nil (box_bytes (codes "moof") (moof_payload sequence all)))) ∙ ap payload_in child in
    let row = moof_row_read sequence all (omega (arith, are.samples)) in
    let below = moof_below all are in
    plan_known tracks (box_bytes (codes "moof") (moof_payload sequence all)) (moof_payload sequence all) (traf_payload at t) (moof_row sequence all) opened row refl
    ∙ ap (trafs_of tracks 0 (pos 0)) (traf_boxes_all at all)
    ∙ trafs_written tracks 0 at (pos 0) all media each (omega (arith, are.samples)) (omega (arith, are.payload, below))
