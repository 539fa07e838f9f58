use Rattle.std.proofs.Common.{arith}
use Rattle.track_store.proofs.PlainStore.{few_ranges}
use Rattle.track_store.proofs.list_store.ListStoreFrameStore.reserve.Goals as goal

pub overflow_sub-len : goal.overflow_sub-len
overflow_sub-len c =
    let few = few_ranges c.self.inside.gap c.self.inside.items.items c.self.inside.ranges.spans c.self.invariant.joined in
    omega (arith, c.len.ensures, c.len-2.ensures.len, c.reserve.ensures.items)
