use Rattle.std.proofs.Common.{◌≡◌, ◌∙◌, sym, ap, slice_get}
use Rattle.std.specs.Prelude.{Option, Some, None}
use Rattle.std.specs.Option.{option_copied}
use Rattle.mse_calls.specs.declared.answers.Name.TheVariants.{NotFound}
use Rattle.buffer_state.specs.State.{KeptBuffer}
use Rattle.source_buffers.specs.Slots.{removal_refusal_in_slot}
use Rattle.source_buffers.proofs.SlotStates.{slot_refuses, none_refuses, empty_removal_refuses, full_removal_refuses}
use Rattle.source_buffers.proofs.buffers.SourceBuffers.removal_refusal.Goals as goal

pub returns-in-Some-Some : goal.returns-in-Some-Some
returns-in-Some-Some g c bs all =
    let ks = c.self.inside.slots.items in
    let own = rw (← c.self.view_is) at all in
    let slot : slice_get ks c.args.k ≡ Some c.in-Some-Some.field-0.now = sym c.slot_at.ensures ∙ ap option_copied c.in-Some-Some.is in
    let there : slice_get ks c.args.k ≡ Some (Some c.in-Some-Some.field-0-0) = slot ∙ ap (λ (s : Option KeptBuffer). Some s) c.in-Some-Some.field-0-is in
    slot_refuses ks c.args.k (Some c.in-Some-Some.field-0-0) None removal_refusal_in_slot there (full_removal_refuses c.in-Some-Some.field-0-0) bs own

pub returns-in-Some-None : goal.returns-in-Some-None
returns-in-Some-None g c bs all =
    let ks = c.self.inside.slots.items in
    let own = rw (← c.self.view_is) at all in
    let slot : slice_get ks c.args.k ≡ Some c.in-Some-None.field-0.now = sym c.slot_at.ensures ∙ ap option_copied c.in-Some-None.is in
    let there : slice_get ks c.args.k ≡ Some None = slot ∙ ap (λ (s : Option KeptBuffer). Some s) c.in-Some-None.field-0-is in
    slot_refuses ks c.args.k None (Some NotFound) removal_refusal_in_slot there empty_removal_refuses bs own

pub returns-in-None : goal.returns-in-None
returns-in-None g c bs all =
    let ks = c.self.inside.slots.items in
    let own = rw (← c.self.view_is) at all in
    let none : slice_get ks c.args.k ≡ None = sym c.slot_at.ensures ∙ ap option_copied c.in-None.is in
    none_refuses ks c.args.k removal_refusal_in_slot none bs own
