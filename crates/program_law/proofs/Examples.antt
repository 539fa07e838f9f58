-- The program on small inputs: it computes.
use Rattle.std.proofs.Common.{◌≡◌, ℕ, [], ◌∷◌, refl, false}
use Rattle.std.specs.Prelude.{codes}
use Rattle.std.specs.Str.{chars}
use Rattle.mse_outside.specs.Memory.{table_of}
use Rattle.mse_calls.specs.declared.calls.Call.TheVariants.{Attach, Pause, SourceState}
use Rattle.mse_calls.specs.declared.events.EventKind.TheVariants.{SourceOpen}
use Rattle.mse_calls.specs.declared.events.Target.TheVariants.{Source}
use Rattle.mse_calls.specs.declared.rules.Rule.{Rule}
use Rattle.call_script.specs.declared.script.Script.{Script as CallScript}
use Rattle.call_script.specs.declared.script.StepLine.TheVariants as step
use Rattle.cut_law.specs.Plays.{drain_entries}
use Rattle.mse_commands.specs.declared.ending.Status.TheVariants as status
use Rattle.mse_commands.specs.Program.{Output, by_rules, output_of_script, script_played, program_of}
use Rattle.program_law.specs.Inputs.{one_file, output_on}
use Rattle.program_law.specs.Lines.{lines_of_empty_file}
use Rattle.program_law.proofs.OnInputs.{walk_on_inputs, play_on_inputs}

-- ---- error lines

no_words : program_of (by_rules 16) (table_of (one_file [])) [] ≡ record { status = status.Words; lines = codes "error: words\n" ∷ [] }
unfolding program_of
no_words = refl

no_file : program_of (by_rules 16) (table_of (one_file [])) (codes "ranges" ∷ codes "b" ∷ []) ≡ record { status = status.NoFile; lines = codes "error: no file b\n" ∷ [] }
unfolding program_of chars
no_file = refl

-- ---- files

-- the empty file
pub empty : output_on (codes "ranges") [] ≡ record { status = status.Ok; lines = lines_of_empty_file }
unfolding program_of lines_of_empty_file walk_on_inputs drain_entries
empty = refl

-- ---- scripts

-- listener 1 asks for the state of the source when it opens, so often, and again and again where it repeats
abbrev rule : ℕ → Rule
rule times = record { listener = 1; on = record { target = Source; kind = SourceOpen }; times = times; repeat = false; calls = SourceState ∷ [] }

abbrev three_lines : ℕ → Rule → CallScript
three_lines drain rule = record {
  quota = 100;
  drain = drain;
  gap = 0;
  blobs = [];
  steps = step.Call Attach ∷ step.Drain ∷ step.Call Pause ∷ [];
  rules = rule ∷ [];
}

-- what is written with two listeners
abbrev output_of : CallScript → Output
output_of script = output_of_script script [] (script_played (by_rules 2) script [])

with_rule : output_of (three_lines 10 (rule 1)) ≡ record {
  status = status.Ok;
  lines = codes "call attach: done\n" ∷ codes "event source sourceopen\n" ∷ codes "listener 1 state: source open duration nan level 0 position 0 paused true seeking false error 0\n" ∷ codes "call pause: done\n" ∷ codes "state source open duration nan level 0 position 0 paused true seeking false error 0\n" ∷ codes "duration nan\n" ∷ [];
}
unfolding play_on_inputs
with_rule = refl

-- no call is left in the line
over : output_of (three_lines 0 (rule 1)) ≡ record {
  status = status.TaskBudget;
  lines = codes "call attach: done\n" ∷ codes "event source sourceopen\n" ∷ codes "error: more than 0 listener calls in one drain\n" ∷ [];
}
unfolding play_on_inputs
over = refl
