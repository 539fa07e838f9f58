-- A file that was appended comes to the state of the program.
use Rattle.std.proofs.Common.{◌≡◌, ℕ, List, [], ◌∷◌, length, refl, ap, ◌∙◌}
use Rattle.mse_calls.specs.declared.entry.Entry.{Entry}
use Rattle.mse_engine.specs.State.{State}
use Rattle.mse_engine.specs.Run.{after_entries}
use Rattle.mse_engine.proofs.Transitions.{after_entries-append}
use Rattle.mse_commands.specs.declared.words.Command.{Command}
use Rattle.mse_commands.specs.Requests.{ByFile, opening_of}
use Rattle.mse_commands.specs.Shown.{IsWholeFile, last_state, open_entries, pieces_by}
use Rattle.mse_commands.proofs.Blocks.{appends-are}
use Rattle.mse_commands.specs.Program.{file_appended, file_opened}

pub whole_file : (command : Command) (bytes : List ℕ) (entries : List Entry) → IsWholeFile (bytes ∷ []) (opening_of (ByFile command bytes)) (pieces_by command (length bytes)) entries
    → last_state (ByFile command bytes) entries ≡ file_appended command bytes
whole_file command bytes entries w =
    let blobs : List (List ℕ) = bytes ∷ [] in
    let st : State = opening_of (ByFile command bytes) in
    ap (λ es. after_entries blobs st es) w.entries_are
    ∙ after_entries-append blobs st (open_entries w.attached w.added) w.rest
    ∙ appends-are (pieces_by command (length bytes)) blobs (file_opened blobs st) w.rest refl w.appends
