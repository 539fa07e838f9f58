use Rattle.std.specs.Prelude.{Some}
use Rattle.buffer_state.proofs.AppendSteps.{accepted-step, frame-step}
use Rattle.buffer_state.proofs.turns.take_item.Goals as goal

pub returns-in-Init-clause-step : goal.returns-in-Init-clause-step
returns-in-Init-clause-step g c = λ latest.
    rw c.in-Init.is (accepted-step c.step_at.result c.receive.result c.in-Init.presentation c.in-Init.offset c.args.media.now.media c.receive.new.self.media latest c.args.duration (rw c.in-Init.is at c.requires.prepared).0 c.receive.ensures.result (c.step_at.ensures.step c.receive.new.self.media (Some c.in-Init.presentation) (record { media = c.args.media.now.media; latest = latest })))

pub returns-in-Frame-clause-step : goal.returns-in-Frame-clause-step
returns-in-Frame-clause-step g c = λ latest.
    rw c.in-Frame.is (frame-step c.step_at-in-Frame.result c.process.result c.in-Frame.frame c.in-Frame.offset c.args.media.now.media c.process.new.self.media latest c.args.duration c.process.ensures.result (c.step_at-in-Frame.ensures.step c.process.new.self.media latest (record { media = c.args.media.now.media; latest = latest })))
