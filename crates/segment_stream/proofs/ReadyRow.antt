-- Frames that are ready in a row: a move that gives all of them.
use Rattle.std.proofs.Common.{◌≡◌, ℕ, zero, suc, ◌+◌, ◌-◌, ◌<◌, leb, Bool, true, false, ◌&&◌, List, length, take, drop, get_or, slice_get, Option, Some, None, refl, ap, sym, ◌∙◌, subst, arith}
use Rattle.std.specs.List.{prefix_len}
use Rattle.std.proofs.lemmas.Bool.Decides.{nat_tests}
use Rattle.std.proofs.lemmas.List.{length-drop, get_or-drop}
use Rattle.std.proofs.lemmas.List.Sums.{prefix_len-le-length, prefix_len_passes}
use Rattle.std.proofs.lemmas.Option.{get_or_from_slice_get, slice_get_within}
use Rattle.mse_base.specs.declared.track.Presentation.{Presentation}
use Rattle.bmff_fragment.specs.declared.slot.Slot.{Slot}
use Rattle.segment_walk.specs.declared.kinds.DataRange.{DataRange}
use Rattle.segment_walk.specs.declared.kinds.Fragment.{Fragment}
use Rattle.segment_walk.specs.declared.kinds.WalkPlace.{WalkPlace}
use Rattle.segment_walk.specs.declared.kinds.ParserMode.{ParserMode}
use Rattle.segment_walk.specs.declared.kinds.ParserMode.TheVariants as codes
use Rattle.segment_walk.specs.declared.kinds.BoxStep.TheVariants as step
use Rattle.segment_walk.specs.Moves.{Between, Within, is_ready, is_in_ranges, slot_step, step_of}
use Rattle.segment_walk.specs.Ranges.{open_at}
use Rattle.segment_stream.specs.declared.progress.Progress.{Progress}
use Rattle.segment_stream.specs.declared.progress.Tables.{Tables}
use Rattle.segment_stream.specs.Kept
use Rattle.segment_stream.specs.Kept.{ParserSnapshot, fragment_in, IsConsistent, IsFragmentCounted, IsCountedIn, IsLaterSnapshot, ready_behind, with_taken}
use Rattle.segment_stream.proofs.Acts.{at_step, fits, moved-frame, since-trans}
use Rattle.segment_stream.proofs.PendingLaws.{some-there}
use Rattle.segment_stream.proofs.Snapshots.{snapshot_of}

-- a frame is given in a movie fragment, one of whose slots it is of
pub gives-within : (last : Option Presentation) (m : ParserMode) (rest : List ℕ) (first ready : ℕ) (tables : Tables) (slot : Slot) → Kept.IsActive m → IsCountedIn m tables first ready → step.GiveFrame slot ≡ at_step last m tables rest → IsFragmentCounted (fragment_in m) tables first ready × ((fragment_in m).taken < length tables.slots.items)
gives-within last (codes.Skipping y z) rest first ready tables slot g h e = absurd g
gives-within last (codes.Between o) rest first ready tables slot g h e = absurd (fits last (Between o) rest (step.GiveFrame slot) e).0
gives-within last (codes.Within i) rest first ready tables slot g h e =
    let q = fits last (Within (open_at tables.slots.items tables.known.items i)) rest (step.GiveFrame slot) e in
    (h, slice_get_within tables.slots.items i.taken slot q.0)

abbrev IsReadyAt : ℕ → List DataRange → Option Slot → Type 0
IsReadyAt n known None = ⊥
IsReadyAt n known (Some slot) = is_ready n known slot ≡ true

both-true : (a b : Bool) → (a && b) ≡ true → (a ≡ true) × (b ≡ true)
both-true true b e = (refl, e)
both-true false b e = cc

gives-ready : (rest : List ℕ) (known : List DataRange) (end : ℕ) (place : WalkPlace) (slot : Slot) → is_ready (length rest) known slot ≡ true → step.GiveFrame slot ≡ slot_step rest known end place (Some slot)
gives-ready rest known end place slot r =
    let h = both-true (is_in_ranges known slot) (leb slot.end (length rest)) r in
    let e : leb (suc (length rest)) slot.end ≡ false = grind (arith, nat_tests, h.1) in
    rw (h.0, e) refl

goes-on-trans : (a b d : ParserSnapshot) → IsLaterSnapshot a b → IsLaterSnapshot b d → IsLaterSnapshot a d
goes-on-trans a b d h g = record {
  same = g.same ∙ h.same;
  consistent = g.consistent;
  since = since-trans a.progress.position.mode b.progress.position.mode d.progress.position.mode a.tables b.tables d.tables h.since g.since;
  same_failed = g.same_failed ∙ h.same_failed;
  total = g.total ∙ h.total;
  size = omega (arith, h.size, g.size);
}

abbrev within : Fragment → ℕ → ℕ → ℕ → ℕ → Progress
within i offset from first ready = record { position = record { mode = codes.Within i; offset = offset; failed = false }; from = from; first = first; ready = ready; want = 0 }

abbrev taking : Fragment → ℕ → Fragment
taking i n = record { taken = n; known = i.known; end = i.end; place = i.place }

one-more : (last : Option Presentation) (i : Fragment) (offset from first ready : ℕ) (tables : Tables) (bytes : List ℕ) (o : Option Slot) → o ≡ slice_get tables.slots.items i.taken → IsConsistent (within i offset from first ready) tables bytes → IsReadyAt (length (drop from bytes)) (take i.known tables.known.items) o → IsLaterSnapshot (snapshot_of last (within i offset from first ready) tables bytes) (snapshot_of last (within (taking i (i.taken + 1)) offset from first (ready + 1)) tables bytes)
unfolding step_of
one-more last i offset from first ready tables bytes None q fine r = absurd r
one-more last i offset from first ready tables bytes (Some slot) q fine r =
    let e : step.GiveFrame slot ≡ at_step last (codes.Within i) tables (drop from bytes) = gives-ready (drop from bytes) (take i.known tables.known.items) i.end i.place slot r ∙ ap (slot_step (drop from bytes) (take i.known tables.known.items) i.end i.place) q in
    moved-frame last (codes.Within i) offset from first ready 0 false tables bytes slot refl tt fine e

-- from a place, n frames more
more-frames : (last : Option Presentation) (before : ParserSnapshot) (i : Fragment) (t offset from first ready : ℕ) (tables : Tables) (bytes : List ℕ) (n : ℕ) → IsLaterSnapshot before (snapshot_of last (within (taking i t) offset from first ready) tables bytes) → ((k : ℕ) → k < n → IsReadyAt (length (drop from bytes)) (take i.known tables.known.items) (slice_get tables.slots.items (t + k))) → IsLaterSnapshot before (snapshot_of last (within (taking i (t + n)) offset from first (ready + n)) tables bytes)
more-frames last before i t offset from first ready tables bytes zero h r =
    let y : t + 0 ≡ t = omega arith in
    let z : ready + 0 ≡ ready = omega arith in
    rw (y, z) h
more-frames last before i t offset from first ready tables bytes (suc n) h r =
    let x : t + 0 ≡ t = omega arith in
    let y : t + suc n ≡ t + 1 + n = omega arith in
    let z : ready + suc n ≡ ready + 1 + n = omega arith in
    let g = one-more last (taking i t) offset from first ready tables bytes (slice_get tables.slots.items t) refl h.consistent (subst (λ j. IsReadyAt (length (drop from bytes)) (take i.known tables.known.items) (slice_get tables.slots.items j)) x (r 0 (omega arith))) in
    let q : (k : ℕ) → k < n → IsReadyAt (length (drop from bytes)) (take i.known tables.known.items) (slice_get tables.slots.items (t + 1 + k)) = λ k l. let w : t + suc k ≡ t + 1 + k = omega arith in subst (λ j. IsReadyAt (length (drop from bytes)) (take i.known tables.known.items) (slice_get tables.slots.items j)) w (r (suc k) (omega arith)) in
    rw (y, z) (more-frames last before i (t + 1) offset from first (ready + 1) tables bytes n (goes-on-trans before _ _ h g) q)

ready-at : (m n : ℕ) (known : List DataRange) (slots : List Slot) (t k : ℕ) → m ≡ n → k < prefix_len (is_ready m known) (drop t slots) → IsReadyAt n known (slice_get slots (t + k))
ready-at m n known slots t k e h =
    let l : k < length (drop t slots) = omega (arith, h, prefix_len-le-length (is_ready m known) (drop t slots)) in
    let s = some-there slots (t + k) (omega (arith, l, length-drop t slots)) in
    let g : is_ready m known (get_or (drop t slots) k s.0) ≡ true = prefix_len_passes (is_ready m known) (drop t slots) k s.0 h in
    let j : get_or (drop t slots) k s.0 ≡ s.0 = get_or-drop t slots k s.0 ∙ get_or_from_slice_get slots (t + k) s.0 s.0 s.1 in
    rw s.1 (subst (λ c. is_ready c known s.0 ≡ true) e (subst (λ (v : Slot). is_ready m known v ≡ true) j g))

pub moved-frames : (last : Option Presentation) (m : ParserMode) (offset from first ready want : ℕ) (failed : Bool) (tables : Tables) (bytes : List ℕ) (slot : Slot) → let r : Progress = record { position = record { mode = m; offset = offset; failed = failed }; from = from; first = first; ready = ready; want = want } in failed ≡ false → Kept.IsActive m → IsConsistent r tables bytes → step.GiveFrame slot ≡ at_step last m tables (drop from bytes) → IsLaterSnapshot (snapshot_of last r tables bytes) (snapshot_of last (with_taken r (fragment_in m) (1 + ready_behind (length bytes - from) (fragment_in m) tables)) tables bytes)
moved-frames last m offset from first ready want failed tables bytes slot f g fine e =
    let r : Progress = record { position = record { mode = m; offset = offset; failed = failed }; from = from; first = first; ready = ready; want = want } in
    let i = fragment_in m in
    let n = ready_behind (length bytes - from) i tables in
    let x : i.taken + 1 + n ≡ i.taken + (1 + n) = omega arith in
    let y : ready + 1 + n ≡ ready + (1 + n) = omega arith in
    rw (sym x, sym y) (more-frames last (snapshot_of last r tables bytes) i (i.taken + 1) offset from first (ready + 1) tables bytes n (moved-frame last m offset from first ready want failed tables bytes slot f g fine e) (λ k l. ready-at (length bytes - from) (length (drop from bytes)) (take i.known tables.known.items) tables.slots.items (i.taken + 1) k (sym (length-drop from bytes)) l))
