use Rattle.std.proofs.Common.{◌∙◌, sym, arith}
use Rattle.track_index.specs.Order.{is_in_entry}
use Rattle.track_index.proofs.EntryOrder.{last_none, last_at, none_back, none_from_start}
use Rattle.track_index.proofs.order.last_in.Goals as goal

pub returns-then-is_in_entry-clause-last : goal.returns-then-is_in_entry-clause-last
returns-then-is_in_entry-clause-last c = last_at (is_in_entry c.args.t) c.args.items.now c.loop-i.i c.index-items-i.result c.loop-i-test.true c.loop-i.invariant.within c.index-items-i.is (sym c.is_in_entry.ensures ∙ c.if-is_in_entry.true) c.loop-i.invariant.none

pub loop-i-preserved : goal.loop-i-preserved
loop-i-preserved c = record {
  within = omega (arith, c.loop-i.invariant.within);
  none = none_back (is_in_entry c.args.t) c.args.items.now c.loop-i.i c.index-items-i.result c.loop-i-test.true c.loop-i.invariant.within c.index-items-i.is (sym c.is_in_entry.ensures ∙ c.if-is_in_entry.false) c.loop-i.invariant.none;
  not_less = omega (arith, c.loop-i.invariant.not_less, c.saturating_add.ensures);
  at_most = omega (arith, c.loop-i.invariant.at_most, c.saturating_add.ensures);
}

pub returns-clause-last : goal.returns-clause-last
returns-clause-last c = sym (last_none (is_in_entry c.args.t) c.args.items.now (none_from_start (is_in_entry c.args.t) c.args.items.now c.loop-i.i (omega arith) c.loop-i.invariant.none))
