use Rattle.std.proofs.Common.{List, ℕ}
use Rattle.mse_engine.specs.State.{State}
use Rattle.mse_engine.specs.Standing.{Stands}
use Rattle.script_run.specs.DrainSteps.{IsQuiet}
use Rattle.script_run.specs.Progress.{own_turns_left}
use Rattle.script_run.specs.PlayedParts.{IsSilentDrain}
use Rattle.script_run.proofs.run.ScriptRun.drain_quietly.Given as goal

abbrev pub invariant-turning : goal.invariant-turning
invariant-turning g l = record {
  drains : (blobs : List (List ℕ)) → IsSilentDrain blobs l.fn.self l.self;
  quiet : (st : State) → Stands l.self.engine st → IsQuiet st;
}

abbrev pub decreases-turning : goal.decreases-turning
decreases-turning g l = own_turns_left l.self.engine
