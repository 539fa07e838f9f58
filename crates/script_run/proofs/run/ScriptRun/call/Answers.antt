use Rattle.std.proofs.Common.{refl}
use Rattle.mse_engine.proofs.Transitions.{goes_script}
use Rattle.script_run.proofs.run.ScriptRun.call.Goals as goal

pub returns-clause-ok : goal.returns-clause-ok
returns-clause-ok g c = (
  c.in-Ok.answer,
  rw (← c.self.view_is) (record {
    grew = rw (c.in_ok-copy.ensures, c.reserve.ensures.entries) at c.push_reserved.ensures.entries;
    goes = goes_script c.args.blobs.now c.self.inside.engine c.call.new.self c.args.call.now c.in-Ok.answer c.in-Ok.ensures.answered c.in-Ok.ensures.sound;
    left = refl;
  }),
)
