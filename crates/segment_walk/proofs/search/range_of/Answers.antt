use Rattle.std.proofs.Common.{rules, of_calls, leb, false, length, arith, sym, subst, ◌<◌, ◌-◌}
use Rattle.std.proofs.lemmas.Fn.{always_returns_same}
use Rattle.std.proofs.lemmas.List.Sorted.{IsPartitionedBy-leb}
use Rattle.segment_walk.specs.declared.kinds.DataRange.{DataRange}
use Rattle.segment_walk.proofs.SlotRanges.{AreStartsBy, among-at, lies-none, lies-in-last, lies-past-last}
use Rattle.segment_walk.proofs.search.range_of.Goals as goal

pub returns-then-begun_count-eq0-clause-found : goal.returns-then-begun_count-eq0-clause-found
returns-then-begun_count-eq0-clause-found c =
    let ks = c.args.known.now in
    let s = c.args.slot.now in
    let p = c.partition_point-begun_count.ensures.partitioned (λ (k : DataRange). leb k.start s.start) (always_returns_same _ _ _ (λ a r f k. search (rules, of_calls))) (IsPartitionedBy-leb (λ (k : DataRange). k.start) ks s.start c.requires.starts) in
    sym (lies-none ks s (subst (λ n. AreStartsBy s ks n (length ks) false) c.if-begun_count-eq0.true p.1))

pub returns-then-slot-range-clause-found : goal.returns-then-slot-range-clause-found
returns-then-slot-range-clause-found c =
    let ks = c.args.known.now in
    let s = c.args.slot.now in
    let p = c.partition_point-begun_count.ensures.partitioned (λ (k : DataRange). leb k.start s.start) (always_returns_same _ _ _ (λ a r f k. search (rules, of_calls))) (IsPartitionedBy-leb (λ (k : DataRange). k.start) ks s.start c.requires.starts) in
    let some : 0 < c.partition_point-begun_count.result = omega (arith, c.if-begun_count-eq0.false) in
    lies-in-last ks s c.partition_point-begun_count.result _ some c.partition_point-begun_count.ensures.bound c.requires p.0 p.1 c.if-slot-range.true

pub returns-then-slot-range-clause-among : goal.returns-then-slot-range-clause-among
returns-then-slot-range-clause-among c = among-at c.args.known.now (c.partition_point-begun_count.result - 1) _ (omega (arith, c.if-begun_count-eq0.false, c.partition_point-begun_count.ensures.bound))

pub returns-else-slot-range-clause-found : goal.returns-else-slot-range-clause-found
returns-else-slot-range-clause-found c =
    let ks = c.args.known.now in
    let s = c.args.slot.now in
    let p = c.partition_point-begun_count.ensures.partitioned (λ (k : DataRange). leb k.start s.start) (always_returns_same _ _ _ (λ a r f k. search (rules, of_calls))) (IsPartitionedBy-leb (λ (k : DataRange). k.start) ks s.start c.requires.starts) in
    let some : 0 < c.partition_point-begun_count.result = omega (arith, c.if-begun_count-eq0.false) in
    lies-past-last ks s c.partition_point-begun_count.result _ some c.partition_point-begun_count.ensures.bound c.requires p.0 p.1 c.if-slot-range.false
