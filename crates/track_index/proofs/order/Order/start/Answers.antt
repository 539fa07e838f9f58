use Rattle.std.proofs.Common.{refl, subst}
use Rattle.block_list.specs.BlockPlaces.{IsPlace}
use Rattle.track_index.proofs.Blocks.{start_place}
use Rattle.track_index.proofs.order.Order.start.Goals as goal

pub returns : goal.returns
returns c = record { rank = refl; place = subst (λ w. IsPlace w.rows (record { block = 0; index = 0 })) c.self.view_is (start_place c.self.inside.list.rows c.spare-spare.ensures.none_empty) }
