-- How a listener answers.
use Rattle.std.specs.Prelude.{List, Option}
use Rattle.mse_calls.specs.declared.calls.Call.{Call}
use Rattle.mse_calls.specs.declared.rules.Rule.{Rule}
use Rattle.run_steps.specs.declared.note.Note.{Note}

-- the call that is answered by these rules after these notes; none where there is no further one
abbrev pub Way : Type 0
Way = List Rule → List Note → Option Call
