use Rattle.std.proofs.Common.{◌≡◌, false, ◌∙◌, sym, ap}
use Rattle.std.specs.Prelude.{Option, Some, None}
use Rattle.std.specs.Option.{option_copied}
use Rattle.track_buffers.specs.Media.{Media}
use Rattle.track_buffers.specs.Buffered.{is_buffered_up_to}
use Rattle.source_buffers.specs.State.{in_slot}
use Rattle.source_buffers.specs.Buffered.{slot_ranges}
use Rattle.source_buffers.proofs.SlotLookUps.{media_in}
use Rattle.source_buffers.proofs.element.is_own_up_to.Goals as goal

pub returns-in-Some : goal.returns-in-Some
returns-in-Some g c =
    let there : in_slot c.args.k c.args.slots.now.items ≡ Some c.in-Some.buffer.now = sym c.buffer_at.ensures ∙ ap option_copied c.in-Some.is in
    c.is_buffered_up_to.ensures ∙ sym (ap (λ (m : Option Media). is_buffered_up_to c.args.t c.args.until (slot_ranges false m)) (media_in c.args.slots.now.items c.args.k (Some c.in-Some.buffer.now) there))

pub returns-in-None : goal.returns-in-None
returns-in-None g c =
    let none : in_slot c.args.k c.args.slots.now.items ≡ None = sym c.buffer_at.ensures ∙ ap option_copied c.in-None.is in
    sym (ap (λ (m : Option Media). is_buffered_up_to c.args.t c.args.until (slot_ranges false m)) (media_in c.args.slots.now.items c.args.k None none))
