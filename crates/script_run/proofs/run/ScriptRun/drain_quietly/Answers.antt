use Rattle.std.proofs.Common.{◌≡◌, ◌∙◌, [], List, ℕ, refl, sym, true}
use Rattle.mse_engine.specs.State.{State}
use Rattle.mse_engine.specs.Standing.{IsStanding, Stands}
use Rattle.mse_engine.specs.Work.{is_turn_due}
use Rattle.script_run.specs.PlayedParts.{IsSilentDrain}
use Rattle.script_run.proofs.DrainParts.{did_turn, drains_then, drains_turn, still_idle}
use Rattle.script_run.proofs.run.ScriptRun.drain_quietly.Goals as goal

pub returns-then-not-due-clause-nothing_left : goal.returns-then-not-due-clause-nothing_left
returns-then-not-due-clause-nothing_left g c = λ st h. record { quiet = c.turning.invariant.quiet st h; due = sym (c.due.ensures st (rw (← c.self.view_is) at h)) ∙ c.if-not-due.true }

pub turning-smaller : goal.turning-smaller
turning-smaller g c =
    let stands : IsStanding c.turning.self.engine = rw (← c.self.view_is) c.sound.ensures.standing in
    let due : (st : State) → Stands c.turning.self.engine st → is_turn_due st ≡ true = λ st h. sym (c.due.ensures st (rw (← c.self.view_is) at h)) ∙ c.if-not-due.false in
    let both : (blobs : List (List ℕ)) → IsSilentDrain blobs c.args.self.now c.turn.new.self = λ blobs. drains_then blobs _ _ _ (c.turning.invariant.drains blobs)
    (drains_turn blobs c.in-Ok-turn._has_turned c.turning.self c.turn.new.self stands c.turning.invariant.quiet due (c.in-Ok-turn.ensures.ok blobs)) in
    let did : c.in-Ok-turn._has_turned ≡ true = did_turn [] c.in-Ok-turn._has_turned c.turning.self c.turn.new.self stands due (c.in-Ok-turn.ensures.ok []) in
    let taken = (rw did at c.in-Ok-turn.ensures.fewer) refl in
    rw c.in-Ok-fire_quietly.ensures.calm.turns taken.fewer

pub turning-preserved : goal.turning-preserved
turning-preserved g c =
    let stands : IsStanding c.turning.self.engine = rw (← c.self.view_is) c.sound.ensures.standing in
    let due : (st : State) → Stands c.turning.self.engine st → is_turn_due st ≡ true = λ st h. sym (c.due.ensures st (rw (← c.self.view_is) at h)) ∙ c.if-not-due.false in
    let both : (blobs : List (List ℕ)) → IsSilentDrain blobs c.args.self.now c.turn.new.self = λ blobs. drains_then blobs _ _ _ (c.turning.invariant.drains blobs)
    (drains_turn blobs c.in-Ok-turn._has_turned c.turning.self c.turn.new.self stands c.turning.invariant.quiet due (c.in-Ok-turn.ensures.ok blobs)) in
    let did : c.in-Ok-turn._has_turned ≡ true = did_turn [] c.in-Ok-turn._has_turned c.turning.self c.turn.new.self stands due (c.in-Ok-turn.ensures.ok []) in
    let taken = (rw did at c.in-Ok-turn.ensures.fewer) refl in
    let buffers : c.fire_quietly.new.self.engine.buffers ≡ c.turning.self.engine.buffers = c.in-Ok-fire_quietly.ensures.calm.buffers ∙ taken.buffers in
    record {
      drains = λ blobs. drains_then blobs _ _ _ (both blobs) (c.fire_quietly.ensures.drains blobs);
      quiet = λ st h. record {
        queue = c.in-Ok-fire_quietly.ensures.nothing_left st h;
        running = still_idle c.turning.self.engine c.fire_quietly.new.self.engine stands c.turning.invariant.quiet buffers st h;
      };
    }

pub returns-in_default-fire_quietly-clause-drains : goal.returns-in_default-fire_quietly-clause-drains
returns-in_default-fire_quietly-clause-drains g c =
    let stands : IsStanding c.turning.self.engine = rw (← c.self.view_is) c.sound.ensures.standing in
    let due : (st : State) → Stands c.turning.self.engine st → is_turn_due st ≡ true = λ st h. sym (c.due.ensures st (rw (← c.self.view_is) at h)) ∙ c.if-not-due.false in
    let both : (blobs : List (List ℕ)) → IsSilentDrain blobs c.args.self.now c.turn.new.self = λ blobs. drains_then blobs _ _ _ (c.turning.invariant.drains blobs)
    (drains_turn blobs c.in-Ok-turn._has_turned c.turning.self c.turn.new.self stands c.turning.invariant.quiet due (c.in-Ok-turn.ensures.ok blobs)) in
    λ blobs. drains_then blobs _ _ _ (both blobs) (c.fire_quietly.ensures.drains blobs)
