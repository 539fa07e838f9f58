use Rattle.std.proofs.Common.{List, ℕ}
use Rattle.source_buffers.specs.All.{all_steps_left}
use Rattle.script_run.specs.PlayedParts.{IsSilentDrain}
use Rattle.script_run.proofs.run.ScriptRun.work_quietly.Given as goal

abbrev pub invariant-working : goal.invariant-working
invariant-working g l = record {
  drains : (blobs : List (List ℕ)) → IsSilentDrain blobs l.fn.self l.self;
}

abbrev pub decreases-working : goal.decreases-working
decreases-working g l = all_steps_left l.self.engine.buffers
