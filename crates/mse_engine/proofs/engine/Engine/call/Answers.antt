use Rattle.mse_engine.specs.Standing.{KeptEngine, kept_engine}
use Rattle.mse_engine.proofs.Wholes.{whole_call}
use Rattle.mse_engine.proofs.engine.Engine.call.Goals as goal

pub invariant_of-self-2 : goal.invariant_of-self-2
invariant_of-self-2 g c =
    let old : KeptEngine = kept_engine c.self.inside.source c.self.inside.buffers.buffers c.self.inside.element.state in
    let new : KeptEngine = kept_engine c.make_call.new.source c.make_call.new.buffers.buffers c.make_call.new.element.state in
    let before = c.self.invariant.inside in
    whole_call c.args.blobs.now c.args.call.now old new c.in_ok-answer.answer c.self.invariant c.in_ok-answer.ensures.steady c.sound.ensures.sound (c.in_ok-answer.ensures.answered before.state before.stands)
