use Rattle.std.proofs.Common.{◌≡◌, ◌∙◌, sym, ap}
use Rattle.std.specs.Prelude.{Option, Some, None}
use Rattle.std.specs.List.{find}
use Rattle.std.specs.Option.{option_copied}
use Rattle.mse_base.specs.Spans.{reaches}
use Rattle.track_buffers.specs.Media.{Media}
use Rattle.track_buffers.specs.Buffered.{with_end}
use Rattle.source_buffers.specs.State.{in_slot}
use Rattle.source_buffers.specs.Buffered.{slot_ranges}
use Rattle.source_buffers.proofs.SlotLookUps.{media_in, none_reached}
use Rattle.source_buffers.proofs.element.span_in.Goals as goal

pub returns-in-Some : goal.returns-in-Some
returns-in-Some g c =
    let there : in_slot c.args.k c.args.slots.now.items ≡ Some c.in-Some.buffer.now = sym c.buffer_at.ensures ∙ ap option_copied c.in-Some.is in
    c.span_holding.ensures ∙ sym (ap (λ (m : Option Media). find (reaches c.args.t) (with_end c.args.end.now (slot_ranges c.args.ended m))) (media_in c.args.slots.now.items c.args.k (Some c.in-Some.buffer.now) there))

pub returns-in-None : goal.returns-in-None
returns-in-None g c =
    let none : in_slot c.args.k c.args.slots.now.items ≡ None = sym c.buffer_at.ensures ∙ ap option_copied c.in-None.is in
    none_reached c.args.t c.args.end.now ∙ sym (ap (λ (m : Option Media). find (reaches c.args.t) (with_end c.args.end.now (slot_ranges c.args.ended m))) (media_in c.args.slots.now.items c.args.k None none))
