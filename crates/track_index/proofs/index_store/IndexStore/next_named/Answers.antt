use Rattle.std.proofs.Common.{ℤ, ap}
use Rattle.mse_base.specs.Rows.{row_items}
use Rattle.track_index.proofs.Keys.{keyed_of}
use Rattle.track_index.proofs.Nexts.{next_none, next_some}
use Rattle.track_index.proofs.index_store.IndexStore.next_named.Goals as goal

pub first_named-requires : goal.first_named-requires
first_named-requires c = record { keyed = keyed_of (row_items c.self.inside.order.rows) (row_items c.self.inside.items.rows) c.self.invariant.in_order c.self.invariant.kept.ascending }

pub returns-in-Some : goal.returns-in-Some
returns-in-Some c =
    let e = c.in-Some.entry in
    rw (← c.self.view_is) (next_some c.args.key.now c.args.to.now c.args.below (row_items c.self.inside.items.rows) (row_items c.self.inside.order.rows) e _ c.self.invariant.kept.ascending c.self.invariant.in_order c.in-Some.ensures.found (ap (λ (m : ℤ). record { mark = m; serial = e.serial }) c.at.ensures))

pub returns-in-None : goal.returns-in-None
returns-in-None c = rw (← c.self.view_is) (next_none c.args.key.now c.args.to.now c.args.below (row_items c.self.inside.items.rows) (row_items c.self.inside.order.rows) c.self.invariant.in_order c.in-None.ensures.none)
