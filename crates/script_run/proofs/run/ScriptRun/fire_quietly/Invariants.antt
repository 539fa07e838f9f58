use Rattle.std.proofs.Common.{List, ℕ}
use Rattle.script_run.specs.Progress.{IsCalm, events_left}
use Rattle.script_run.specs.PlayedParts.{IsSilentDrain}
use Rattle.script_run.proofs.run.ScriptRun.fire_quietly.Given as goal

abbrev pub invariant-firing : goal.invariant-firing
invariant-firing g l = record {
  drains : (blobs : List (List ℕ)) → IsSilentDrain blobs l.fn.self l.self;
  calm : IsCalm l.fn.self.engine l.self.engine;
}

abbrev pub decreases-firing : goal.decreases-firing
decreases-firing g l = events_left l.self.engine
