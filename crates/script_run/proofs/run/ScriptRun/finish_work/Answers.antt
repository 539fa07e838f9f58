use Rattle.std.proofs.Common.{◌≡◌, ◌∙◌, [], refl, sym, arith, true}
use Rattle.mse_engine.specs.State.{State}
use Rattle.mse_engine.specs.Standing.{IsStanding, Stands}
use Rattle.mse_engine.specs.Work.{is_turn_due}
use Rattle.script_run.proofs.KeptListeners.{kept_then}
use Rattle.script_run.proofs.PartsInRow.{halt_none, memory_wanting}
use Rattle.script_run.proofs.DrainParts.{did_turn, order_then_ran, order_then_stop, still_idle, turning_ran}
use Rattle.script_run.proofs.run.ScriptRun.finish_work.Goals as goal

pub turning-init : goal.turning-init
turning-init g c = record {
  count = c.work_all.ensures.count;
  kept = c.work_all.ensures.listeners;
  ran = c.in-Ok-true.ensures.ran;
  same_faults = c.in-Ok-true.ensures.puts.told (λ e. cc);
  left = omega (arith, c.in-Ok-true.ensures.ran.left);
  quiet = (rw c.in-Ok-true.field-0-test at c.in-Ok-true.ensures.nothing_left) refl;
}

pub returns-then-not-due-clause-nothing_left : goal.returns-then-not-due-clause-nothing_left
returns-then-not-due-clause-nothing_left g c = λ e st h. record { quiet = c.turning.invariant.quiet st h; due = sym (c.due.ensures st (rw (← c.self.view_is) at h)) ∙ c.if-not-due.true }

pub returns-in_default-clause-ran : goal.returns-in_default-clause-ran
returns-in_default-clause-ran g c = rw c.in_default.ensures.err (order_then_stop _ _ _ _ _ c.turning.invariant.ran (halt_none _ _ _ _ memory_wanting (λ st h. tt)))

pub returns-in-Err-fire_all-clause-ran : goal.returns-in-Err-fire_all-clause-ran
returns-in-Err-fire_all-clause-ran g c =
    let stands : IsStanding c.turning.self.engine = rw (← c.self.view_is) c.sound.ensures.standing in
    let due : (st : State) → Stands c.turning.self.engine st → is_turn_due st ≡ true = λ st h. sym (c.due.ensures st (rw (← c.self.view_is) at h)) ∙ c.if-not-due.false in
    let turned = turning_ran c.args.blobs.now c.in-Ok._has_turned c.turning.self c.turn.new.self _ _ stands c.turning.invariant.quiet due (c.in-Ok.ensures.ok c.args.blobs.now) in
    let both = order_then_ran _ _ _ _ c.turning.invariant.ran turned in
    order_then_stop _ c.in-Err-fire_all.stop _ _ _ both c.in-Err-fire_all.ensures.ran

pub returns-in-Ok-false-fire_all-clause-ran : goal.returns-in-Ok-false-fire_all-clause-ran
returns-in-Ok-false-fire_all-clause-ran g c =
    let stands : IsStanding c.turning.self.engine = rw (← c.self.view_is) c.sound.ensures.standing in
    let due : (st : State) → Stands c.turning.self.engine st → is_turn_due st ≡ true = λ st h. sym (c.due.ensures st (rw (← c.self.view_is) at h)) ∙ c.if-not-due.false in
    let turned = turning_ran c.args.blobs.now c.in-Ok._has_turned c.turning.self c.turn.new.self _ _ stands c.turning.invariant.quiet due (c.in-Ok.ensures.ok c.args.blobs.now) in
    let both = order_then_ran _ _ _ _ c.turning.invariant.ran turned in
    order_then_ran _ _ _ _ both c.in-Ok-false-fire_all.ensures.ran

pub returns-in-Ok-false-fire_all-clause-called : goal.returns-in-Ok-false-fire_all-clause-called
returns-in-Ok-false-fire_all-clause-called g c = λ e.
    let stands : IsStanding c.turning.self.engine = rw (← c.self.view_is) c.sound.ensures.standing in
    let due : (st : State) → Stands c.turning.self.engine st → is_turn_due st ≡ true = λ st h. sym (c.due.ensures st (rw (← c.self.view_is) at h)) ∙ c.if-not-due.false in
    let turned = turning_ran c.args.blobs.now c.in-Ok._has_turned c.turning.self c.turn.new.self _ _ stands c.turning.invariant.quiet due (c.in-Ok.ensures.ok c.args.blobs.now) in
    let both = order_then_ran _ _ _ _ c.turning.invariant.ran turned in
    omega (arith, both.left, ((rw c.in-Ok-false-fire_all.field-0-test at c.in-Ok-false-fire_all.ensures.called) refl))

pub turning-preserved : goal.turning-preserved
turning-preserved g c =
    let stands : IsStanding c.turning.self.engine = rw (← c.self.view_is) c.sound.ensures.standing in
    let due : (st : State) → Stands c.turning.self.engine st → is_turn_due st ≡ true = λ st h. sym (c.due.ensures st (rw (← c.self.view_is) at h)) ∙ c.if-not-due.false in
    let turned = turning_ran c.args.blobs.now c.in-Ok._has_turned c.turning.self c.turn.new.self _ _ stands c.turning.invariant.quiet due (c.in-Ok.ensures.ok c.args.blobs.now) in
    let both = order_then_ran _ _ _ _ c.turning.invariant.ran turned in
    let did : c.in-Ok._has_turned ≡ true = did_turn [] c.in-Ok._has_turned c.turning.self c.turn.new.self stands due (c.in-Ok.ensures.ok []) in
    let taken = (rw did at c.in-Ok.ensures.fewer) refl in
    let all = order_then_ran _ _ _ _ both c.in-Ok-true-fire_all.ensures.ran in
    let buffers : c.fire_all.new.self.engine.buffers ≡ c.turning.self.engine.buffers = ((rw c.in-Ok-true-fire_all.field-0-test at c.in-Ok-true-fire_all.ensures.calm) refl).buffers ∙ taken.buffers in
    record {
      count = c.fire_all.ensures.count ∙ c.turning.invariant.count;
      kept = kept_then _ _ _ _ _ _ _ c.turning.invariant.kept c.fire_all.ensures.listeners;
      ran = all;
      same_faults = c.in-Ok-true-fire_all.ensures.puts.told (λ e. cc) ∙ c.turning.invariant.same_faults;
      left = omega (arith, all.left);
      quiet = λ st h. record {
        queue = ((rw c.in-Ok-true-fire_all.field-0-test at c.in-Ok-true-fire_all.ensures.nothing_left) refl) st h;
        running = still_idle c.turning.self.engine c.fire_all.new.self.engine stands c.turning.invariant.quiet buffers st h;
      };
    }

pub turning-smaller : goal.turning-smaller
turning-smaller g c =
    let stands : IsStanding c.turning.self.engine = rw (← c.self.view_is) c.sound.ensures.standing in
    let due : (st : State) → Stands c.turning.self.engine st → is_turn_due st ≡ true = λ st h. sym (c.due.ensures st (rw (← c.self.view_is) at h)) ∙ c.if-not-due.false in
    let did : c.in-Ok._has_turned ≡ true = did_turn [] c.in-Ok._has_turned c.turning.self c.turn.new.self stands due (c.in-Ok.ensures.ok []) in
    let taken = (rw did at c.in-Ok.ensures.fewer) refl in
    rw ((rw c.in-Ok-true-fire_all.field-0-test at c.in-Ok-true-fire_all.ensures.calm) refl).turns taken.fewer
