use Rattle.std.proofs.Common.{◌∙◌, ap, refl, subst, sym}
use Rattle.std.specs.Prelude.{vec_len}
use Rattle.listeners.specs.Views.{RunView}
use Rattle.mse_engine.specs.Standing.{Stands}
use Rattle.cut_law.specs.Plays.{after_line}
use Rattle.live_session.specs.Steps.{last_refusal}
use Rattle.live_session.proofs.OneStep.{step_done, step_halted}
use Rattle.live_session.proofs.session.Session.step.Goals as goal

pub returns-in-Ok-clause-ok : goal.returns-in-Ok-clause-ok
returns-in-Ok-clause-ok g c =
    rw (← c.self.view_is) (λ st h.
    let played = rw c.from_ref.ensures.value at c.in-Ok.ensures.played in
    let done = step_done c.self.inside.blobs (vec_len c.new-none.result) c.args.line.now _ _ st played h in
    record {
      stands = subst (λ (run : RunView). Stands run.engine (after_line c.self.inside.blobs st c.args.line.now)) (sym c.forget.ensures) done.stands;
      wrote = done.wrote;
      refusal = c.last_refusal-refused.ensures ∙ ap last_refusal c.journal.ensures ∙ done.refusal;
      rest = refl;
    })

pub returns-clause-err : goal.returns-clause-err
returns-clause-err g c =
    rw (← c.self.view_is) (λ st h.
    let played = rw c.from_ref.ensures.value at c.in-Err.ensures.played in
    step_halted c.self.inside.blobs (vec_len c.new-none.result) c.args.line.now _ c.in-Err.stop _ _ st played h)
