-- The data of each slot of a plan end behind their start. A sample has no type that can be named here.
use Rattle.std.proofs.Common.{◌≡◌, ℕ, ◌+◌, ◌≤◌, ℤ, pos, Bool, true, false, cond, List, [], ◌∷◌, ◌++◌, length, map, Result, Ok, Err, ap, sym, arith}
use Rattle.std.specs.List.{All, enumerate_from}
use Rattle.std.proofs.lemmas.List.Elements.{All-nil, All-cons, All-append, All-same}
use lib.Chars.{codes}
use Rattle.mse_base.specs.declared.track.TrackInfo.{TrackInfo}
use Rattle.bmff_boxes.specs.Children.{payload_of}
use Rattle.bmff_boxes.specs.Rows.{row_of, first_of, all_of}
use Rattle.bmff_fragment.specs.declared.fault.MoofFault.{MoofFault}
use Rattle.bmff_fragment.specs.declared.fault.MoofFault.TheVariants.{Size, NoTraf}
use Rattle.bmff_fragment.specs.declared.slot.Slot.{Slot}
use Rattle.bmff_fragment.specs.Times.{Run, duration_of, slot_of, slot_at, slots_of_run, slots_behind}
use Rattle.bmff_boxes.specs.Reading.{need}
use Rattle.bmff_boxes.proofs.ReadingLaws.{through}
use Rattle.mse_base.specs.Moments.{is_media}
use Rattle.bmff_fragment.specs.Plans.{track_fragment_of, runs_of, samples_in, data_end, media_slots, trafs_of, plan_of}

abbrev pub IsOrdered : Slot → Type 0
IsOrdered s = s.start ≤ s.end

slot-ordered : (track : TrackInfo) (time start : ℕ) (s : _) → IsOrdered (slot_of track time start s)
unfolding slot_of
slot-ordered track time start s = omega arith

run-ordered : (track : TrackInfo) (time : ℕ) (run : Run) (pairs : List (ℕ × _)) → All IsOrdered (map (slot_at track time run) pairs)
run-ordered track time run [] = All-nil IsOrdered
run-ordered track time run ((k, s) ∷ pairs) = All-cons IsOrdered (slot_at track time run (k, s)) (map (slot_at track time run) pairs) (slot-ordered track _ _ s) (run-ordered track time run pairs)

runs-ordered : (track : TrackInfo) (time : ℕ) (before : List _) (runs : List Run) → All IsOrdered (slots_behind track time before runs)
runs-ordered track time before [] = All-nil IsOrdered
runs-ordered track time before (run ∷ runs) =
    All-append IsOrdered (slots_of_run track (time + duration_of before) run) (slots_behind track time (before ++ run.samples) runs)
    (run-ordered track (time + duration_of before) run (enumerate_from 0 run.samples)) (runs-ordered track time (before ++ run.samples) runs)

kept-ordered : (slots : List Slot) (b : Bool) → All IsOrdered slots → All IsOrdered (cond b slots [])
kept-ordered slots true h = h
kept-ordered slots false h = All-nil IsOrdered

abbrev slots_in : Result (List Slot) MoofFault → List Slot
slots_in (Ok slots) = slots
slots_in (Err fault) = []

trafs-ordered : (tracks : List TrackInfo) (count : ℕ) (end : ℤ) (trafs : List (List ℕ)) (slots : List Slot) → trafs_of tracks count end trafs ≡ Ok slots → All IsOrdered slots
unfolding trafs_of
trafs-ordered tracks count end [] slots e = let k : [] ≡ slots = cc in All-same IsOrdered slots [] (sym k) (All-nil IsOrdered)
trafs-ordered tracks count end (t ∷ ts) slots e =
    let a = through (need Size (row_of t)) _ slots e in
    let b = through (track_fragment_of tracks end a.value) _ slots a.then in
    let f = b.value in
    let c = through (runs_of f count f.base (all_of (codes "trun") a.value)) _ slots b.then in
    let d = through (trafs_of tracks (count + length (samples_in c.value)) (data_end f.base c.value) ts) _ slots c.then in
    let own = slots_behind f.track f.decode_time [] c.value in
    let k : slots ≡ media_slots f.track own ++ d.value = sym (ap slots_in d.then) in
    All-same IsOrdered slots (media_slots f.track own ++ d.value) k
    (All-append IsOrdered (media_slots f.track own) d.value
    (kept-ordered own (is_media f.track.kind) (runs-ordered f.track f.decode_time [] c.value))
    (trafs-ordered tracks (count + length (samples_in c.value)) (data_end f.base c.value) ts d.value d.was))

pub plan-ordered : (tracks : List TrackInfo) (moof : List ℕ) (slots : List Slot) → plan_of tracks moof ≡ Ok slots → All IsOrdered slots
unfolding plan_of
plan-ordered tracks moof slots e =
    let a = through (need Size (payload_of moof)) _ slots e in
    let b = through (need Size (row_of a.value)) _ slots a.then in
    let c = through (need NoTraf (first_of (codes "traf") b.value)) _ slots b.then in
    trafs-ordered tracks 0 (pos 0) (all_of (codes "traf") b.value) slots c.then
