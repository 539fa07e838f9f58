use Rattle.std.proofs.Common.{◌≡◌, ◌∙◌, sym, ap}
use Rattle.std.specs.Prelude.{Option, None}
use Rattle.std.specs.Option.{option_copied, option_flatten}
use Rattle.track_buffers.specs.Media.{Media}
use Rattle.source_buffers.specs.State.{in_slot}
use Rattle.source_buffers.specs.Buffered.{slot_track}
use Rattle.source_buffers.proofs.SlotLookUps.{media_in}
use Rattle.source_buffers.proofs.all.track_at.Goals as goal

pub returns-in-Some : goal.returns-in-Some
returns-in-Some g c =
    let there : in_slot c.args.k c.args.slots.now.items ≡ c.in-Some.slot.now = ap option_flatten (sym c.slot_at.ensures ∙ ap option_copied c.in-Some.is) in
    c.slot_track.ensures ∙ sym (ap (λ (m : Option Media). slot_track c.args.i m) (media_in c.args.slots.now.items c.args.k c.in-Some.slot.now there))

pub returns-in-None : goal.returns-in-None
returns-in-None g c =
    let none : in_slot c.args.k c.args.slots.now.items ≡ None = ap option_flatten (sym c.slot_at.ensures ∙ ap option_copied c.in-None.is) in
    sym (ap (λ (m : Option Media). slot_track c.args.i m) (media_in c.args.slots.now.items c.args.k None none))
