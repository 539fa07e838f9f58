use Rattle.std.proofs.Common.{◌≡◌, ◌∙◌, sym, ap, slice_get}
use Rattle.std.specs.Prelude.{Option, Some, None}
use Rattle.std.specs.Option.{option_copied}
use Rattle.buffer_state.specs.AllCalls.{call_at}
use Rattle.buffer_state.specs.State.{KeptBuffer, surroundings}
use Rattle.source_buffers.specs.Slots.{refusal_in_slot}
use Rattle.source_buffers.proofs.SlotStates.{empty_refuses, full_refuses, slot_refuses, none_refuses}
use Rattle.source_buffers.proofs.buffers.SourceBuffers.refusal_of.Goals as goal

pub returns-in-Some-Some : goal.returns-in-Some-Some
returns-in-Some-Some g c bs all =
    let ks = c.self.inside.slots.items in
    let call = call_at c.args.around.now c.args.call.now in
    let a = surroundings c.args.around.now in
    let own = rw (← c.self.view_is) at all in
    let slot : slice_get ks c.args.k ≡ Some c.in-Some-Some.field-0.now = sym c.slot_at.ensures ∙ ap option_copied c.in-Some-Some.is in
    let there : slice_get ks c.args.k ≡ Some (Some c.in-Some-Some.buffer) = slot ∙ ap (λ (s : Option KeptBuffer). Some s) c.in-Some-Some.field-0-is in
    slot_refuses ks c.args.k (Some c.in-Some-Some.buffer) c.refusal_of.result (refusal_in_slot call a) there (full_refuses c.refusal_of.result c.in-Some-Some.buffer call a c.refusal_of.ensures) bs own

pub returns-in-Some-None : goal.returns-in-Some-None
returns-in-Some-None g c bs all =
    let ks = c.self.inside.slots.items in
    let call = call_at c.args.around.now c.args.call.now in
    let a = surroundings c.args.around.now in
    let own = rw (← c.self.view_is) at all in
    let slot : slice_get ks c.args.k ≡ Some c.in-Some-None.field-0.now = sym c.slot_at.ensures ∙ ap option_copied c.in-Some-None.is in
    let there : slice_get ks c.args.k ≡ Some None = slot ∙ ap (λ (s : Option KeptBuffer). Some s) c.in-Some-None.field-0-is in
    slot_refuses ks c.args.k None (Some c.removed_name.result) (refusal_in_slot call a) there (empty_refuses c.removed_name.result call a (c.removed_name.ensures c.args.around.now)) bs own

pub returns-in-None : goal.returns-in-None
returns-in-None g c bs all =
    let ks = c.self.inside.slots.items in
    let own = rw (← c.self.view_is) at all in
    let none : slice_get ks c.args.k ≡ None = sym c.slot_at.ensures ∙ ap option_copied c.in-None.is in
    none_refuses ks c.args.k (refusal_in_slot (call_at c.args.around.now c.args.call.now) (surroundings c.args.around.now)) none bs own
