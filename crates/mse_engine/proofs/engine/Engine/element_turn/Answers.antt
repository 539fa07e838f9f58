use Rattle.mse_engine.specs.Standing.{KeptEngine, kept_engine}
use Rattle.mse_engine.proofs.Wholes.{whole_turn}
use Rattle.mse_engine.proofs.engine.Engine.element_turn.Goals as goal

pub invariant_of-self-2 : goal.invariant_of-self-2
invariant_of-self-2 g c =
    let old : KeptEngine = kept_engine c.self.inside.source c.self.inside.buffers.buffers c.self.inside.element.state in
    let new : KeptEngine = kept_engine c.self.inside.source c.self.inside.buffers.buffers c.turn_by_itself.new.element.state in
    let before = c.self.invariant.inside in
    whole_turn c.in_ok-answer.answer old new c.self.invariant c.in_ok-answer.ensures.steady c.sound.ensures.sound (c.in_ok-answer.ensures.worked before.state before.stands)
