use Rattle.std.proofs.Common.{◌∙◌, Some, ap, sym}
use Rattle.mse_base.specs.Rows.{row_items}
use Rattle.track_index.specs.declared.entry.OrderEntry.{OrderEntry}
use Rattle.track_index.specs.Order.{last_start}
use Rattle.track_index.proofs.Lookups.{last_at}
use Rattle.track_index.proofs.order.Order.last_start.Goals as goal

pub returns-in-Some : goal.returns-in-Some
returns-in-Some c =
    let h = c.in-Some.ensures.last in
    ap (λ (o : OrderEntry). Some o.pts) h.1 ∙ last_at (row_items c.args.self.now.rows) c.in-Some.entry h.0

pub returns-in-None : goal.returns-in-None
returns-in-None c = ap last_start (sym c.in-None.ensures.none)
