-- What a call leaves.
use Rattle.std.specs.Prelude.{◌≡◌, ◌≢◌, ℕ, List, ◌++◌, length, take, drop}
use Rattle.mse_commands.specs.declared.ending.Status.{Status}
use Rattle.mse_commands.specs.declared.ending.Status.TheVariants as status
use Rattle.mse_commands.specs.Endings.{status_number}
use Rattle.mse_commands.specs.Program.{Output}
use Rattle.rule_run.specs.Texts.{IsTextBy}

-- Of a run that comes to this output a text was printed: the answer is the number of the status, `written` the length
-- of the text. The room begins with the text, as much as goes in; behind it the room is as it was.
pub record IsCall (output : Output) (answer written : ℕ) (old new : List ℕ) : Type 0 where
  pub text : List ℕ
  pub end : Status
  pub printed : IsTextBy output text end
  pub no_failure : (end ≢ status.Read) × (end ≢ status.Write)
  pub number : answer ≡ status_number end
  pub count : written ≡ length text
  pub room : new ≡ take (length old) text ++ drop (length text) old
