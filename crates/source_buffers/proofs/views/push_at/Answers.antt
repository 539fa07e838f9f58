use Rattle.std.proofs.Common.{◌≡◌, ◌∙◌, sym, ap, slice_get}
use Rattle.std.specs.Prelude.{Some, None}
use Rattle.std.specs.Option.{option_copied}
use Rattle.source_buffers.proofs.BufferViews.{view_there_if_ok, view_none}
use Rattle.source_buffers.proofs.views.push_at.Goals as goal

pub returns-in-Some : goal.returns-in-Some
returns-in-Some g c =
    let ks = c.args.slots.now.items in
    let at : slice_get ks c.args.k ≡ Some c.in-Some.slot.now = sym c.slot_at.ensures ∙ ap option_copied c.in-Some.is in
    view_there_if_ok ks c.args.k c.in-Some.slot.now c.args.ended c.args.views.now.items c.push_slot.new.views.items c.push_slot.result at c.push_slot.ensures

pub returns-in-None : goal.returns-in-None
returns-in-None g c =
    let ks = c.args.slots.now.items in
    let at : slice_get ks c.args.k ≡ None = sym c.slot_at.ensures ∙ ap option_copied c.in-None.is in
    view_none ks c.args.k _ at
