use Rattle.std.proofs.Common.{◌≡◌, ◌∙◌, sym, ap, slice_get}
use Rattle.std.specs.Prelude.{Option, Some}
use Rattle.std.specs.Option.{option_copied, option_flatten}
use Rattle.buffer_state.specs.State.{KeptBuffer}
use Rattle.source_buffers.proofs.all.buffer_at.Goals as goal

pub returns-in-Some-Some : goal.returns-in-Some-Some
returns-in-Some-Some g c =
    let slot : slice_get c.args.slots.now.items c.args.k ≡ Some c.in-Some-Some.field-0.now = sym c.slot_at.ensures ∙ ap option_copied c.in-Some-Some.is in
    sym (ap option_flatten (slot ∙ ap (λ (s : Option KeptBuffer). Some s) c.in-Some-Some.field-0-is))

pub returns-in-Some-None : goal.returns-in-Some-None
returns-in-Some-None g c =
    let slot : slice_get c.args.slots.now.items c.args.k ≡ Some c.in-Some-None.field-0.now = sym c.slot_at.ensures ∙ ap option_copied c.in-Some-None.is in
    sym (ap option_flatten (slot ∙ ap (λ (s : Option KeptBuffer). Some s) c.in-Some-None.field-0-is))

pub returns-in-None : goal.returns-in-None
returns-in-None g c = sym (ap option_flatten (sym c.slot_at.ensures ∙ ap option_copied c.in-None.is))
