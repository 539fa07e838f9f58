use Rattle.std.proofs.Common.{sym, subst}
use Rattle.mse_base.specs.Rows.{row_items}
use Rattle.track_index.specs.Keyed.{IsKeyed}
use Rattle.track_index.proofs.Keys.{cut_keyed}
use Rattle.track_index.proofs.order.Order.place_at.Goals as goal

pub search-place-requires : goal.search-place-requires
search-place-requires c = cut_keyed c.args.key.now (row_items c.self.inside.list.rows) (subst (λ w. IsKeyed (row_items w.rows)) (sym c.self.view_is) c.requires.keyed)
