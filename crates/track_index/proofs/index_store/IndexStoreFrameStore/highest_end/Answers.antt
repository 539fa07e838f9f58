use Rattle.std.proofs.Common.{◌∙◌}
use Rattle.mse_base.specs.Rows.{row_items}
use Rattle.track_index.proofs.Highest.{highest_is, highest_tick}
use Rattle.track_index.proofs.index_store.IndexStoreFrameStore.highest_end.Goals as goal

pub returns-in-None : goal.returns-in-None
returns-in-None c = rw (← c.self.view_is) (c.in-None.ensures ∙ highest_is (row_items c.self.inside.items.rows) (row_items c.self.inside.order.rows) c.self.invariant.in_order)

pub returns-in-Some : goal.returns-in-Some
returns-in-Some c = rw (← c.self.view_is) (c.time.ensures ∙ highest_tick (row_items c.self.inside.items.rows) (row_items c.self.inside.order.rows) c.in-Some.end c.self.invariant.in_order c.self.invariant.timed c.in-Some.ensures)
