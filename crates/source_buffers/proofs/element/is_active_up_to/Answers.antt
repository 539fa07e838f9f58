use Rattle.std.proofs.Common.{◌≡◌, false, ◌∙◌, ℕ, sym, slice_get}
use Rattle.std.specs.Prelude.{Some, None}
use Rattle.std.proofs.lemmas.Option.{slice_get-map}
use Rattle.source_buffers.specs.State.{all_kept_media, in_slot}
use Rattle.source_buffers.specs.Buffered.{slot_ranges}
use Rattle.source_buffers.proofs.element.is_active_up_to.Goals as goal

pub returns-in-Some : goal.returns-in-Some
returns-in-Some g c =
    let ranged = λ (k : ℕ). slot_ranges false (in_slot k (all_kept_media c.args.slots.now.items)) in
    let at : slice_get c.args.active.now c.args.i ≡ Some c.in-Some.k = sym c.number_at.ensures ∙ c.in-Some.is in
    rw (slice_get-map ranged c.args.active.now c.args.i, at) c.is_own_up_to.ensures

pub returns-in-None : goal.returns-in-None
returns-in-None g c =
    let ranged = λ (k : ℕ). slot_ranges false (in_slot k (all_kept_media c.args.slots.now.items)) in
    let at : slice_get c.args.active.now c.args.i ≡ None = sym c.number_at.ensures ∙ c.in-None.is in
    rw (slice_get-map ranged c.args.active.now c.args.i, at) tt
