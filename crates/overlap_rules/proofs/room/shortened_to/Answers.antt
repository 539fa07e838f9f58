use Rattle.std.proofs.Common.{sym, ap}
use Rattle.mse_base.proofs.TickLemmas.{tick_some, tick_none}
use Rattle.overlap_rules.specs.declared.room.OverlapRule.TheVariants.{Shorten}
use Rattle.overlap_rules.proofs.Rules.{part_is_tick}
use Rattle.overlap_rules.proofs.room.shortened_to.Goals as goal

pub returns : goal.returns
returns c = ap Shorten (tick_some _ _ (sym c.in-Some.ensures))

pub unreachable-requires : goal.unreachable-requires
unreachable-requires c = tick_none _ (sym c.in-None.ensures) (part_is_tick c.args.pts c.args.stored.now.frame.pts c.args.stored.now.frame.dur c.requires c.get-longest.ensures.is_tick)
