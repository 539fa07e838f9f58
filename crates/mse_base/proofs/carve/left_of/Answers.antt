use Rattle.std.proofs.Common.{◌∙◌, ap, sym}
use Rattle.std.specs.Int.{int_min}
use Rattle.mse_base.specs.Bridging.{span_between}
use Rattle.mse_base.proofs.Compared.{min_is}
use Rattle.mse_base.proofs.TickLemmas.{tick_some}
use Rattle.mse_base.proofs.Places.{no_left}
use Rattle.mse_base.proofs.carve.left_of.Goals as goal

pub returns-in-Some : goal.returns-in-Some
returns-in-Some c = c.span_between.ensures ∙ ap (span_between c.args.s.now.start) ((c.min.ensures ∙ min_is c.args.s.now.end c.in-Some.cut) ∙ ap (int_min c.args.s.now.end) (tick_some _ _ (sym c.in-Some.ensures)))

pub returns-in-None : goal.returns-in-None
returns-in-None c = sym (no_left c.args.s.now.start c.args.s.now.end c.args.low c.args.gap c.requires c.get-first.ensures.is_tick c.get-low.ensures.is_tick (sym c.in-None.ensures))
