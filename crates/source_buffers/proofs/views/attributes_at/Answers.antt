use Rattle.std.proofs.Common.{◌≡◌, ◌∙◌, sym, ap, slice_get}
use Rattle.std.specs.Prelude.{Some, None}
use Rattle.std.specs.Option.{option_copied}
use Rattle.source_buffers.proofs.BufferViews.{attributes_there, no_attributes}
use Rattle.source_buffers.proofs.views.attributes_at.Goals as goal

pub returns-in-Some : goal.returns-in-Some
returns-in-Some g c =
    let ks = c.args.slots.now.items in
    let at : slice_get ks c.args.k ≡ Some c.in-Some.slot.now = sym c.slot_at.ensures ∙ ap option_copied c.in-Some.is in
    attributes_there ks c.args.k c.in-Some.slot.now c.args.ended c.args.active c.slot_attributes.result at c.slot_attributes.ensures

pub returns-in-None : goal.returns-in-None
returns-in-None g c =
    let ks = c.args.slots.now.items in
    let at : slice_get ks c.args.k ≡ None = sym c.slot_at.ensures ∙ ap option_copied c.in-None.is in
    no_attributes ks c.args.k c.args.ended c.args.active at
