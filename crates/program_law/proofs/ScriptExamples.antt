-- The program on scripts that it reads: it computes.
use Rattle.std.proofs.Common.{◌≡◌, [], ◌∷◌, refl}
use Rattle.std.specs.Prelude.{codes}
use Rattle.mse_commands.specs.declared.ending.Status.TheVariants as status
use Rattle.mse_commands.specs.Program.{program_of}
use Rattle.program_law.specs.Inputs.{output_on, script_file}
use Rattle.program_law.specs.Lines.{lines_of_script_file}
use Rattle.program_law.proofs.OnInputs.{walk_on_inputs, reader_on_inputs, play_on_inputs}

pub not_toml : output_on (codes "play") (codes "x") ≡ record { status = status.Script; lines = codes "error: script not toml\n" ∷ [] }
unfolding program_of reader_on_inputs
not_toml = refl

pub bad_step : output_on (codes "play") (codes "steps = ['atach']") ≡ record { status = status.Script; lines = codes "error: script step 0\n" ∷ [] }
unfolding program_of reader_on_inputs
bad_step = refl

pub bad_key : output_on (codes "play") (codes "step = []") ≡ record { status = status.Script; lines = codes "error: script key step\n" ∷ [] }
unfolding program_of reader_on_inputs
bad_key = refl

pub bad_blob : output_on (codes "play") (codes "blobs = ['hex 0']") ≡ record { status = status.Script; lines = codes "error: script blob 0\n" ∷ [] }
unfolding program_of reader_on_inputs
bad_blob = refl

pub bad_rule : output_on (codes "play") (codes "[[rules]]") ≡ record { status = status.Script; lines = codes "error: script rule 0\n" ∷ [] }
unfolding program_of reader_on_inputs
bad_rule = refl

-- a script of ten steps, with a rule
pub ten_lines : output_on (codes "play") script_file ≡ record { status = status.Ok; lines = lines_of_script_file }
unfolding program_of script_file lines_of_script_file walk_on_inputs reader_on_inputs play_on_inputs
ten_lines = refl
