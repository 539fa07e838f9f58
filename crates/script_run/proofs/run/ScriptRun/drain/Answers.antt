use Rattle.std.proofs.Common.{◌∙◌, refl, arith}
use Rattle.script_run.proofs.KeptListeners.{kept_same, kept_then}
use Rattle.script_run.proofs.DrainParts.{drain_of, order_none, order_then_ran, order_then_stop}
use Rattle.script_run.proofs.run.ScriptRun.drain.Goals as goal

pub draining-init : goal.draining-init
draining-init g c = record { count = refl; kept = kept_same _ _ _ _ _; ran = order_none _ _; same_faults = refl; left = omega arith }

pub returns-in-Err-clause-ran : goal.returns-in-Err-clause-ran
returns-in-Err-clause-ran g c = order_then_stop _ c.in-Err.stop _ _ _ c.draining.invariant.ran c.in-Err.ensures.ran

pub returns-in-Ok-true-clause-ran : goal.returns-in-Ok-true-clause-ran
returns-in-Ok-true-clause-ran g c = drain_of _ _ _ (order_then_ran _ _ _ _ c.draining.invariant.ran c.in-Ok-true.ensures.ran) ((rw c.in-Ok-true.field-0-test at c.in-Ok-true.ensures.nothing_left) refl)

pub draining-preserved : goal.draining-preserved
draining-preserved g c =
    let both = order_then_ran _ _ _ _ c.draining.invariant.ran c.in-Ok-false.ensures.ran in
    record {
      count = c.finish_work.ensures.count ∙ c.draining.invariant.count;
      kept = kept_then _ _ _ _ _ _ _ c.draining.invariant.kept c.finish_work.ensures.listeners;
      ran = both;
      same_faults = c.in-Ok-false.ensures.puts.told (λ e. cc) ∙ c.draining.invariant.same_faults;
      left = omega (arith, both.left);
    }
