-- No slot of a movie fragment lasts a negative time.
use Rattle.std.proofs.Common.{◌≡◌, ℕ, zero, suc, ◌+◌, ℤ, pos, negsuc, ◌+ℤ◌, ◌-ℤ◌, ◌*ℤ◌, ◌≤ℤ◌, cond, Bool, true, false, List, [], ◌∷◌, ◌++◌, length, map, Result, Ok, Err, refl, sym, ◌∙◌, arith}
use Rattle.std.specs.Prelude.{All}
use Rattle.std.specs.List.{enumerate_from}
use Rattle.std.proofs.lemmas.Int.{ints}
use Rattle.std.proofs.lemmas.List.Elements.{All-nil, All-cons, All-append, All-same}
use Rattle.std.proofs.Math.Nat.{div-zero}
use lib.Chars.{codes}
use Rattle.mse_base.specs.declared.track.TrackInfo.{TrackInfo}
use Rattle.mse_base.specs.Time.{SECOND, floor_div}
use Rattle.bmff_boxes.specs.Children.{payload_of}
use Rattle.bmff_boxes.specs.Reading.{◌>>=◌, need}
use Rattle.bmff_boxes.specs.Rows.{row_of, first_of, all_of}
use Rattle.bmff_fragment.specs.declared.fault.MoofFault.{MoofFault}
use Rattle.bmff_fragment.specs.declared.fault.MoofFault.TheVariants.{Size, NoTraf}
use Rattle.bmff_fragment.specs.declared.sample.FragmentSample.{FragmentSample}
use Rattle.bmff_fragment.specs.declared.slot.Slot.{Slot}
use Rattle.bmff_fragment.specs.Times.{Run, duration_of, tick_at, slot_of, slot_at, slots_of_run, slots_behind}
use Rattle.mse_base.specs.Moments.{is_media}
use Rattle.bmff_fragment.specs.Plans.{track_fragment_of, runs_of, samples_in, data_end, media_slots, trafs_of, plan_of}
use Rattle.bmff_fragment.proofs.Clock.{lasts}
use Rattle.bmff_fragment.proofs.PlanByRuns.{trafs_more, trafs_none}

-- ---- the slot of a sample

-- a number over 0 is 0
floor-none : (a b : ℤ) → a ≤ℤ b → floor_div a 0 ≤ℤ floor_div b 0
floor-none (pos n) (pos m) h = omega (arith, ints, div-zero n, div-zero m)
floor-none (pos n) (negsuc m) h = absurd (omega (arith, ints))
floor-none (negsuc n) (pos m) h = omega (arith, ints)
floor-none (negsuc n) (negsuc m) h = omega (arith, ints, div-zero n, div-zero m)

floor-at : (s : ℕ) (a b : ℤ) → s ≡ 0 → a ≤ℤ b → floor_div a s ≤ℤ floor_div b s
floor-at zero a b e h = floor-none a b h
floor-at (suc s) a b e h = absurd (omega arith)

lasts-none : (t : TrackInfo) (m : ℤ) (d : ℕ) → t.scale ≡ 0 → pos 0 ≤ℤ (tick_at t (m +ℤ pos d) -ℤ tick_at t m)
unfolding tick_at
lasts-none t m d e =
    let k : ((m -ℤ t.media_shift) *ℤ pos SECOND) ≤ℤ (((m +ℤ pos d) -ℤ t.media_shift) *ℤ pos SECOND) = omega (arith, ints) in
    let f = floor-at t.scale ((m -ℤ t.media_shift) *ℤ pos SECOND) (((m +ℤ pos d) -ℤ t.media_shift) *ℤ pos SECOND) e k in
    omega (arith, ints, f)

lasts-at : (t : TrackInfo) (m : ℤ) (d scale : ℕ) → t.scale ≡ scale → pos 0 ≤ℤ (tick_at t (m +ℤ pos d) -ℤ tick_at t m)
lasts-at t m d zero e = lasts-none t m d e
lasts-at t m d (suc scale) e = lasts t m d (omega arith)

abbrev pub IsLastingSlot : Slot → Type 0
IsLastingSlot s = pos 0 ≤ℤ s.dur

slot-lasts : (track : TrackInfo) (time start : ℕ) (s : FragmentSample) → IsLastingSlot (slot_of track time start s)
unfolding slot_of
slot-lasts track time start s = lasts-at track (pos time +ℤ s.offset) s.duration track.scale refl

-- ---- the slots of a movie fragment

run-lasts : (track : TrackInfo) (time : ℕ) (run : Run) (pairs : List (ℕ × FragmentSample)) → All IsLastingSlot (map (slot_at track time run) pairs)
run-lasts track time run [] = All-nil IsLastingSlot
run-lasts track time run ((k, s) ∷ pairs) = All-cons IsLastingSlot (slot_at track time run (k, s)) (map (slot_at track time run) pairs) (slot-lasts track _ _ s) (run-lasts track time run pairs)

runs-last : (track : TrackInfo) (time : ℕ) (before : List FragmentSample) (runs : List Run) → All IsLastingSlot (slots_behind track time before runs)
runs-last track time before [] = All-nil IsLastingSlot
runs-last track time before (run ∷ runs) =
    All-append IsLastingSlot (slots_of_run track (time + duration_of before) run) (slots_behind track time (before ++ run.samples) runs)
    (run-lasts track (time + duration_of before) run (enumerate_from 0 run.samples)) (runs-last track time (before ++ run.samples) runs)

kept-last : (slots : List Slot) (b : Bool) → All IsLastingSlot slots → All IsLastingSlot (cond b slots [])
kept-last slots true h = h
kept-last slots false h = All-nil IsLastingSlot

-- what was read on the way to what came of it
record IsOkThrough {A B : Type 0} (r : Result A MoofFault) (f : A → Result B MoofFault) (y : B) : Type 0 where
  value : A
  was : r ≡ Ok value
  then : f value ≡ Ok y

through : {A B : Type 0} (r : Result A MoofFault) (f : A → Result B MoofFault) (y : B) → (r >>= f) ≡ Ok y → IsOkThrough r f y
through (Ok x) f y e = record { value = x; was = refl; then = e }
through (Err fault) f y e = absurd (cc)

same-slots : (xs ys : List Slot) → ◌≡◌ {A = Result (List Slot) MoofFault} (Ok xs) (Ok ys) → ys ≡ xs
same-slots xs ys e = cc

trafs-last : (tracks : List TrackInfo) (count : ℕ) (end : ℤ) (trafs : List (List ℕ)) (slots : List Slot) → trafs_of tracks count end trafs ≡ Ok slots → All IsLastingSlot slots
trafs-last tracks count end [] slots e =
    let k : slots ≡ [] = same-slots [] slots (sym (trafs_none tracks count end) ∙ e) in
    All-same IsLastingSlot slots [] k (All-nil IsLastingSlot)
trafs-last tracks count end (t ∷ ts) slots e =
    let a = through (need Size (row_of t)) _ slots (sym (trafs_more tracks count end t ts) ∙ e) in
    let b = through (track_fragment_of tracks end a.value) _ slots a.then in
    let f = b.value in
    let c = through (runs_of f count f.base (all_of (codes "trun") a.value)) _ slots b.then in
    let d = through (trafs_of tracks (count + length (samples_in c.value)) (data_end f.base c.value) ts) (λ rest. Ok (media_slots f.track (slots_behind f.track f.decode_time [] c.value) ++ rest)) slots c.then in
    let own = slots_behind f.track f.decode_time [] c.value in
    let k : slots ≡ media_slots f.track own ++ d.value = same-slots (media_slots f.track own ++ d.value) slots d.then in
    All-same IsLastingSlot slots (media_slots f.track own ++ d.value) k
    (All-append IsLastingSlot (media_slots f.track own) d.value
    (kept-last own (is_media f.track.kind) (runs-last f.track f.decode_time [] c.value))
    (trafs-last tracks (count + length (samples_in c.value)) (data_end f.base c.value) ts d.value d.was))

-- no slot of a movie fragment lasts a negative time
pub plan-lasts : (tracks : List TrackInfo) (moof : List ℕ) (slots : List Slot) → plan_of tracks moof ≡ Ok slots → All IsLastingSlot slots
unfolding plan_of
plan-lasts tracks moof slots e =
    let a = through (need Size (payload_of moof)) _ slots e in
    let b = through (need Size (row_of a.value)) _ slots a.then in
    let c = through (need NoTraf (first_of (codes "traf") b.value)) _ slots b.then in
    trafs-last tracks 0 (pos 0) (all_of (codes "traf") b.value) slots c.then
