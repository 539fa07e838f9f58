use Rattle.std.proofs.Common.{◌+ℤ◌, ◌∙◌, sym, subst}
use Rattle.mse_base.specs.Time.{IsTick}
use Rattle.mse_base.proofs.TickLemmas.{tick_some}
use Rattle.frame_tests.proofs.tests.frames.frame_at.Goals as goal

pub returns-clause-end_is_tick : goal.returns-clause-end_is_tick
returns-clause-end_is_tick g c = subst IsTick (tick_some (c.args.pts +ℤ c.not_negative-dur.result) c.expect-end.result (sym c.checked_add.ensures ∙ c.expect-end.ensures)) c.get-in_range.ensures.is_tick
