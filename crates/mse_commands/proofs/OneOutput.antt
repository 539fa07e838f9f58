-- A file comes to one output however it is cut.
use Rattle.std.proofs.Common.{◌≡◌, ℕ, ◌<◌, ◌^◌, false, List, length, refl, ap, sym, ◌∙◌}
use Rattle.std.specs.Prelude.{is_some, Result}
use Rattle.mse_outside.specs.Outside.{Table}
use Rattle.event_text.specs.Block.{closing_text}
use Rattle.run_steps.specs.Ways.{Way}
use Rattle.mse_engine.specs.State.{Core, State, core_of}
use Rattle.mse_engine.specs.Views.{view_in}
use Rattle.script_run.specs.Text.{lines_in}
use Rattle.mse_commands.specs.declared.ending.End.{End}
use Rattle.mse_commands.specs.declared.words.Command.{Command}
use Rattle.mse_commands.specs.declared.words.Command.TheVariants.{Ranges, Pieces, Make, Play, Remux, Feed}
use Rattle.mse_commands.specs.Files.{IsAppendCommand, AreNamesOfOneFile}
use Rattle.mse_commands.specs.Requests.{Task, ByFile}
use Rattle.mse_commands.specs.Shown.{closing_lines, pieces_by}
use Rattle.mse_commands.specs.Words.{IsInRange}
use Rattle.mse_commands.proofs.Blocks.{core-text, file-core-by, names, pieces-parts}
use Rattle.mse_commands.specs.Program.{file_appended, output_of_file, output_of_request, program_of, status_by}

block : (command : Command) (bytes : List ℕ) (st : State) → IsAppendCommand command → closing_lines (ByFile command bytes) st ≡ lines_in (closing_text (view_in st) false)
block Ranges bytes st a = refl
block (Pieces count) bytes st a = refl
block (Make count) bytes st a = absurd a
block Play bytes st a = absurd a
block Remux bytes st a = absurd a
block (Feed at) bytes st a = absurd a

one_output : (a b : Command) (bytes : List ℕ) → length bytes < 2 ^ 62 → IsAppendCommand a → IsAppendCommand b → IsInRange a → IsInRange b → output_of_file a bytes (file_appended a bytes) ≡ output_of_file b bytes (file_appended b bytes)
one_output a b bytes short p q i j =
    let s : State = file_appended a bytes in
    let t : State = file_appended b bytes in
    let core : core_of s ≡ core_of t = file-core-by (pieces_by a (length bytes)) bytes short (pieces-parts a bytes p i) ∙ sym (file-core-by (pieces_by b (length bytes)) bytes short (pieces-parts b bytes q j)) in
    let text : closing_lines (ByFile a bytes) s ≡ closing_lines (ByFile b bytes) t = block a bytes s p ∙ ap lines_in (core-text s t core) ∙ sym (block b bytes t q) in
    ap (λ (c : Core). record { status = status_by (is_some c.source.fault); lines = closing_lines (ByFile a bytes) s }) core
    ∙ ap (λ (xs : List (List ℕ)). record { status = status_by (is_some t.source.fault); lines = xs }) text

pub one_file : (ways : List Way) (files : Table) (a b : List (List ℕ)) (bytes : List ℕ) → AreNamesOfOneFile files a b bytes → length bytes < 2 ^ 62 → program_of ways files a ≡ program_of ways files b
unfolding program_of
one_file ways files a b bytes one short =
    let first = names files a bytes one.first one.found in
    let second = names files b bytes one.second (ap files (sym one.same) ∙ one.found) in
    ap (λ (task : Result Task End). output_of_request ways task) first.task
    ∙ one_output first.command second.command bytes short first.appends second.appends first.number second.number
    ∙ sym (ap (λ (task : Result Task End). output_of_request ways task) second.task)
