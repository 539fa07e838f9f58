use Rattle.std.proofs.Common.{◌≡◌, ◌+◌, ◌-◌, ◌/◌, arith}
use Rattle.std.proofs.lemmas.List.{drop_all}
use Rattle.block_list.proofs.finding.block_of.Goals as goal

pub search-init : goal.search-init
search-init g c = record {
  in_order = omega arith;
  within = omega arith;
  before = tt;
  after = rw (drop_all c.blocks-high.result c.args.list.now.rows (omega arith)) tt;
}

pub search-preserved-then-is_passed_by_first-2 : goal.search-preserved-then-is_passed_by_first-2
search-preserved-then-is_passed_by_first-2 g c =
    let m = c.search.low + (c.search.high - c.search.low) / 2 in
    let z : m + 1 - 1 ≡ m = omega arith in
    record {
      in_order = omega arith;
      within = c.search.invariant.within;
      before = rw z (c.is_passed_by_first-in-search.ensures.before c.if-is_passed_by_first-2.true);
      after = c.search.invariant.after;
    }
