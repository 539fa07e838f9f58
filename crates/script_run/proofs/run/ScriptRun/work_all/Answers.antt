use Rattle.std.proofs.Common.{◌≡◌, ◌∙◌, [], refl, sym, arith, true}
use Rattle.std.specs.Prelude.{Some}
use Rattle.mse_engine.specs.State.{State}
use Rattle.mse_engine.specs.Standing.{IsStanding, Stands}
use Rattle.mse_engine.specs.Work.{running_in}
use Rattle.script_run.proofs.KeptListeners.{kept_same, kept_then}
use Rattle.script_run.proofs.PartsInRow.{halt_none, memory_wanting}
use Rattle.script_run.proofs.DrainParts.{did_work, order_none, order_then_ran, order_then_stop, working_ran}
use Rattle.script_run.proofs.run.ScriptRun.work_all.Goals as goal

pub working-init : goal.working-init
working-init g c = record { count = refl; kept = kept_same _ _ _ _ _; ran = order_none _ _; same_faults = refl; left = omega arith }

pub returns-in-Err-clause-ran : goal.returns-in-Err-clause-ran
returns-in-Err-clause-ran g c = order_then_stop _ c.in-Err.stop _ _ _ c.working.invariant.ran c.in-Err.ensures.ran

pub returns-in-Ok-false-clause-ran : goal.returns-in-Ok-false-clause-ran
returns-in-Ok-false-clause-ran g c = order_then_ran _ _ _ _ c.working.invariant.ran c.in-Ok-false.ensures.ran

pub returns-in_default-clause-ran : goal.returns-in_default-clause-ran
returns-in_default-clause-ran g c = order_then_ran _ _ _ _ c.working.invariant.ran c.in-Ok-true.ensures.ran

pub returns-in_default-clause-nothing_left : goal.returns-in_default-clause-nothing_left
returns-in_default-clause-nothing_left g c = λ e st h. record { queue = ((rw c.in-Ok-true.field-0-test at c.in-Ok-true.ensures.nothing_left) refl) st h; running = sym (c.in_default.ensures st (rw (← c.self.view_is) at h)) }

pub returns-in_default-work-clause-ran : goal.returns-in_default-work-clause-ran
returns-in_default-work-clause-ran g c =
    rw c.in_default-work.ensures.err (order_then_stop _ _ _ _ _ (order_then_ran _ _ _ _ c.working.invariant.ran c.in-Ok-true.ensures.ran) (halt_none _ _ _ _ memory_wanting (λ st h. tt)))

pub working-preserved : goal.working-preserved
working-preserved g c =
    let both = order_then_ran _ _ _ _ c.working.invariant.ran c.in-Ok-true.ensures.ran in
    let stands : IsStanding c.fire_all.new.self.engine = rw (← c.self.view_is) c.sound.ensures.standing in
    let runs : (st : State) → Stands c.fire_all.new.self.engine st → running_in st ≡ Some c.in-Some.k = λ st h. sym (c.in-Some.ensures st (rw (← c.self.view_is) at h)) in
    let step = working_ran c.args.blobs.now c.in-Some.k c.in-Ok._has_worked c.fire_all.new.self c.work.new.self _ _ stands ((rw c.in-Ok-true.field-0-test at c.in-Ok-true.ensures.nothing_left) refl) runs (c.in-Ok.ensures.ok c.args.blobs.now) in
    record {
      count = c.fire_all.ensures.count ∙ c.working.invariant.count;
      kept = kept_then _ _ _ _ _ _ _ c.working.invariant.kept c.fire_all.ensures.listeners;
      ran = order_then_ran _ _ _ _ both step;
      same_faults = c.in-Ok-true.ensures.puts.told (λ e. cc) ∙ c.working.invariant.same_faults;
      left = omega (arith, both.left, step.left);
    }

pub working-smaller : goal.working-smaller
working-smaller g c =
    let both = order_then_ran _ _ _ _ c.working.invariant.ran c.in-Ok-true.ensures.ran in
    let stands : IsStanding c.fire_all.new.self.engine = rw (← c.self.view_is) c.sound.ensures.standing in
    let runs : (st : State) → Stands c.fire_all.new.self.engine st → running_in st ≡ Some c.in-Some.k = λ st h. sym (c.in-Some.ensures st (rw (← c.self.view_is) at h)) in
    let did : c.in-Ok._has_worked ≡ true = did_work [] c.in-Some.k c.in-Ok._has_worked c.fire_all.new.self c.work.new.self stands runs (c.in-Ok.ensures.ok []) in
    let fewer = (rw did at c.in-Ok.ensures.fewer) refl in
    rw ((rw c.in-Ok-true.field-0-test at c.in-Ok-true.ensures.calm) refl).buffers at fewer
