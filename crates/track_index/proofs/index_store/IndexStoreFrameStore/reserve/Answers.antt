use Rattle.std.proofs.Common.{ap, length, arith}
use Rattle.mse_base.specs.Rows.{row_items}
use Rattle.track_store.proofs.PlainStore.{few_ranges}
use Rattle.track_index.proofs.index_store.IndexStoreFrameStore.reserve.Goals as goal

pub overflow_sub-surplus : goal.overflow_sub-surplus
overflow_sub-surplus c =
    let few = few_ranges c.self.inside.gap (row_items c.self.inside.items.rows) c.self.inside.ranges.spans c.self.invariant.joined in
    omega (arith, few, c.len.ensures, c.len-2.ensures.len, ap (λ rs. length (row_items rs)) c.reserve.ensures.rows)
