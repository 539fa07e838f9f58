use Rattle.std.proofs.Common.{◌∙◌, ap, Some, None}
use Rattle.mse_base.specs.Rows.{row_items}
use Rattle.track_store.specs.Frames.{frame_at, has_serial}
use Rattle.track_index.proofs.Keys.{keyed_of}
use Rattle.track_index.proofs.NamedFrames.{named_ordered}
use Rattle.track_index.proofs.FrameLookUps.{frame_position}
use Rattle.track_index.proofs.index_store.IndexStore.overlapped_counted.Goals as goal

pub last_holding-requires : goal.last_holding-requires
last_holding-requires c = record { keyed = keyed_of (row_items c.self.inside.order.rows) (row_items c.self.inside.items.rows) c.self.invariant.in_order c.self.invariant.kept.ascending }

pub place_of-requires : goal.place_of-requires
place_of-requires c = c.self.invariant.kept.ascending

pub returns-in-Some-clause-frame : goal.returns-in-Some-clause-frame
returns-in-Some-clause-frame c =
    let fs = row_items c.self.inside.items.rows in
    let named = named_ordered c.args.t fs (row_items c.self.inside.order.rows) (Some c.in-Some.entry) c.self.invariant.kept.ascending c.self.invariant.in_order c.in-Some.ensures.last in
    rw (← c.self.view_is) (ap (frame_at fs) c.place_of.ensures.place ∙ frame_position (has_serial c.in-Some.entry.serial) fs ∙ named)

pub returns-in-None-clause-frame : goal.returns-in-None-clause-frame
returns-in-None-clause-frame c =
    let fs = row_items c.self.inside.items.rows in
    rw (← c.self.view_is) (named_ordered c.args.t fs (row_items c.self.inside.order.rows) None c.self.invariant.kept.ascending c.self.invariant.in_order c.in-None.ensures.last)
