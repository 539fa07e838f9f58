use Rattle.std.proofs.Common.{◌∙◌, ap, sym}
use Rattle.std.specs.Int.{int_max}
use Rattle.mse_base.specs.Bridging.{span_between}
use Rattle.mse_base.proofs.Compared.{max_is}
use Rattle.mse_base.proofs.TickLemmas.{tick_some}
use Rattle.mse_base.proofs.Places.{no_right}
use Rattle.mse_base.proofs.carve.right_of.Goals as goal

pub returns-in-Some : goal.returns-in-Some
returns-in-Some c = c.span_between.ensures ∙ ap (λ x. span_between x c.args.s.now.end) ((c.max.ensures ∙ max_is c.args.s.now.start c.in-Some.cut) ∙ ap (int_max c.args.s.now.start) (tick_some _ _ (sym c.in-Some.ensures)))

pub returns-in-None : goal.returns-in-None
returns-in-None c = sym (no_right c.args.s.now.start c.args.s.now.end c.args.high c.args.gap c.requires c.get-last.ensures.is_tick c.get-high.ensures.is_tick (sym c.in-None.ensures))
