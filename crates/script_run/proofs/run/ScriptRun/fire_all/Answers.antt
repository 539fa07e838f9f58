use Rattle.std.proofs.Common.{◌≡◌, ◌∙◌, refl, ap, arith}
use Rattle.listeners.specs.Views.{RunView}
use Rattle.script_run.proofs.KeptListeners.{kept_same, kept_then}
use Rattle.script_run.proofs.DrainParts.{calm_then, fire_ran_order, fire_stop_order, order_none, order_then_ran, order_then_stop}
use Rattle.script_run.proofs.run.ScriptRun.fire_all.Goals as goal

pub firing-init : goal.firing-init
firing-init g c = rw (← c.self.view_is) (record { count = refl; kept = kept_same _ _ _ _ _; ran = order_none _ _; same_faults = refl; left = refl; begun = refl; calm = record { buffers = refl; turns = refl } })

pub returns-in-Err-clause-ran : goal.returns-in-Err-clause-ran
returns-in-Err-clause-ran g c = order_then_stop _ c.in-Err.stop _ _ _ c.firing.invariant.ran (fire_stop_order _ _ _ _ c.in-Err.ensures.ran)

pub returns-in-Ok-false-clause-ran : goal.returns-in-Ok-false-clause-ran
returns-in-Ok-false-clause-ran g c = order_then_ran _ _ _ _ c.firing.invariant.ran (fire_ran_order _ _ _ c.in-Ok-false.ensures.ran)

pub returns-in-Ok-false-clause-calm : goal.returns-in-Ok-false-clause-calm
returns-in-Ok-false-clause-calm g c = λ e. rw ((rw c.in-Ok-false.field-0-test at c.in-Ok-false.ensures.none) refl) c.firing.invariant.calm

pub returns-in-Ok-false-clause-nothing_left : goal.returns-in-Ok-false-clause-nothing_left
returns-in-Ok-false-clause-nothing_left g c = λ e st h. ((rw c.in-Ok-false.field-0-test at c.in-Ok-false.ensures.empty) refl) st (rw ((rw c.in-Ok-false.field-0-test at c.in-Ok-false.ensures.none) refl) at h)

pub returns-then-self-before-clause-ran : goal.returns-then-self-before-clause-ran
returns-then-self-before-clause-ran g c = order_then_ran _ _ _ _ c.firing.invariant.ran (fire_ran_order _ _ _ c.in-Ok-true.ensures.ran)

pub firing-preserved : goal.firing-preserved
firing-preserved g c =
    let seen : c.self-in-firing.inside.left ≡ c.fire.new.self.left = ap (λ (r : RunView). r.left) c.self-in-firing.view_is in
    let left : c.fire.new.self.left ≡ c.firing.self.left = omega (arith, seen, c.in-Ok-true.ensures.ran.left, c.firing.invariant.left, c.if-self-before.false) in
    record {
      count = c.fire.ensures.count ∙ c.firing.invariant.count;
      kept = kept_then _ _ _ _ _ _ _ c.firing.invariant.kept c.fire.ensures.listeners;
      ran = order_then_ran _ _ _ _ c.firing.invariant.ran (fire_ran_order _ _ _ c.in-Ok-true.ensures.ran);
      same_faults = c.in-Ok-true.ensures.puts.told (λ e. cc) ∙ c.firing.invariant.same_faults;
      left = left ∙ c.firing.invariant.left;
      begun = c.firing.invariant.begun;
      calm = calm_then _ _ _ c.firing.invariant.calm ((rw c.in-Ok-true.field-0-test at c.in-Ok-true.ensures.fewer) refl left).calm;
    }

pub firing-smaller : goal.firing-smaller
firing-smaller g c =
    let seen : c.self-in-firing.inside.left ≡ c.fire.new.self.left = ap (λ (r : RunView). r.left) c.self-in-firing.view_is in
    let left : c.fire.new.self.left ≡ c.firing.self.left = omega (arith, seen, c.in-Ok-true.ensures.ran.left, c.firing.invariant.left, c.if-self-before.false) in
    ((rw c.in-Ok-true.field-0-test at c.in-Ok-true.ensures.fewer) refl left).fewer
