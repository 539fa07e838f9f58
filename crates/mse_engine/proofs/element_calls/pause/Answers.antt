use Rattle.std.proofs.Common.{refl}
use Rattle.element_seek.specs.Playing.{after_pause}
use Rattle.mse_engine.specs.Standing.{kept_engine}
use Rattle.mse_engine.proofs.ElementEffects.{action_step, element_effect_steady}
use Rattle.mse_engine.proofs.Unmade.{unmade}
use Rattle.mse_engine.proofs.element_calls.pause.Goals as goal

pub returns : goal.returns
returns g c = record {
  answered = λ st h. (record {
    answers = refl;
    stands = action_step c.args.source.now c.args.buffers.now.buffers c.args.element.now.state c.reserve.new.self.state c.reserve.ensures.state after_pause c.pause.new.self.state c.settle.new.element.state st c.pause.ensures.state c.settle.ensures.element h;
  });
  steady = element_effect_steady c.args.source.now c.args.buffers.now.buffers c.args.element.now.state c.reserve.new.self.state c.reserve.ensures.state c.settle.new.element.state c.requires.steady c.settle.ensures.settled;
  err = tt;
}

pub returns-in_err-reserve : goal.returns-in_err-reserve
returns-in_err-reserve g c = unmade c.from_residual.result c.from_residual.ensures.0 (λ i. kept_engine c.args.source.now c.args.buffers.now.buffers (c.reserve.ensures.state i)) c.requires.steady
