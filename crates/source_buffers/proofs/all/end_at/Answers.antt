use Rattle.std.proofs.Common.{◌≡◌, ◌∙◌, sym, ap, slice_get}
use Rattle.std.specs.Prelude.{Some, None}
use Rattle.std.specs.Option.{option_copied}
use Rattle.source_buffers.proofs.SlotLookUps.{media_at, no_media_at}
use Rattle.source_buffers.proofs.all.end_at.Goals as goal

pub returns-in-Some : goal.returns-in-Some
returns-in-Some g c =
    let ks = c.args.slots.now.items in
    let at : slice_get ks c.args.i ≡ Some c.in-Some.slot.now = sym c.slot_at.ensures ∙ ap option_copied c.in-Some.is in
    rw (media_at ks c.args.i c.in-Some.slot.now at) c.slot_end.ensures

pub returns-in-None : goal.returns-in-None
returns-in-None g c =
    let ks = c.args.slots.now.items in
    let at : slice_get ks c.args.i ≡ None = sym c.slot_at.ensures ∙ ap option_copied c.in-None.is in
    rw (no_media_at ks c.args.i at) tt
