-- The journal of what is run, and what is printed of it (docs/SCRIPTS.md, commands and the block).
use Rattle.std.specs.Prelude.{◌≡◌, ℕ, ◌+◌, ◌*◌, ◌-◌, ◌/◌, min, List, [], ◌∷◌, ◌++◌, length, map, codes, true, false, Option, Some, None}
use Rattle.std.specs.List.{range_with_len}
use Rattle.mse_calls.specs.declared.answers.Answer.{Answer}
use Rattle.mse_calls.specs.declared.calls.Call.TheVariants.{Attach, AddSourceBuffer, AppendBuffer}
use Rattle.mse_calls.specs.declared.calls.Piece.{Piece}
use Rattle.mse_calls.specs.declared.entry.Entry.{Entry}
use Rattle.mse_calls.specs.declared.entry.Entry.TheVariants.{Script}
use Rattle.mse_calls.specs.declared.views.FaultView.{FaultView}
use Rattle.event_text.specs.Block.{closing_text}
use Rattle.mse_engine.specs.State.{State}
use Rattle.mse_engine.specs.Run.{after_entries}
use Rattle.mse_engine.specs.Views.{view_in}
use Rattle.script_run.specs.DrainSteps.{IsDrain}
use Rattle.script_run.specs.Follows.{AreLinesDone}
use Rattle.script_run.specs.Lines.{limits, play_inputs}
use Rattle.script_run.specs.Text.{lines_in, lines_of}
use Rattle.script_run.specs.Turns.{calls_in}
use Rattle.mse_commands.specs.declared.words.Command.{Command}
use Rattle.mse_commands.specs.declared.words.Command.TheVariants.{Pieces, Make, Feed}
use Rattle.mse_commands.specs.Requests.{Task, ByScript, ByFile, ByRemux, blobs_of, opening_of}
use Rattle.mse_commands.specs.Feeds.{feed_closing}
use Rattle.mse_commands.specs.Heading.{heading_of}
use Rattle.mse_commands.specs.Remuxing.{remux_pieces}

-- ---- a file

-- the whole file
abbrev pub whole_piece : Piece
whole_piece = record { blob = 0; part = None }

-- piece `i` of a file of so many bytes
abbrev pub piece_at : ℕ → ℕ → ℕ → Piece
piece_at size len i = record { blob = 0; part = Some (i * size, min size (len - i * size)) }

-- the pieces of a file, all of so many bytes but the last, which may be shorter
abbrev pub pieces_of : ℕ → ℕ → List Piece
pieces_of size len = map (piece_at size len) (range_with_len 0 ((len + size - 1) / size))

-- what a command appends of a file of so many bytes
abbrev pub pieces_by : Command → ℕ → List Piece
pieces_by (Pieces count) len = pieces_of count len
pieces_by (Make count) len = pieces_of 1000 len
pieces_by other len = whole_piece ∷ []

-- a drain in which no listener calls
pub record IsQuietDrain (blobs : List (List ℕ)) (st : State) (part : List Entry) : Type 0 where
  pub drain : IsDrain blobs st part
  pub calls : calls_in part ≡ 0

-- nothing more comes behind the first fault
abbrev pub IsEndOrGoesOn : Option FaultView → List Entry → Type 0 → Type 0
IsEndOrGoesOn None rest goes_on = goes_on
IsEndOrGoesOn (Some fault) rest goes_on = rest ≡ []

abbrev pub append_entry : Piece → Answer → Entry
append_entry piece answer = Script (AppendBuffer 0 piece) answer

-- Each piece is appended and drained, one after the other, up to the first fault.
abbrev pub IsAppends : List (List ℕ) → State → List Piece → List Entry → Type 0
IsAppends blobs st [] entries = entries ≡ []
IsAppends blobs st (piece ∷ pieces) entries =
    (answer : Answer) × (part : List Entry) × (rest : List Entry)
    × (entries ≡ append_entry piece answer ∷ (part ++ rest))
    × IsQuietDrain blobs (after_entries blobs st (append_entry piece answer ∷ [])) part
    × IsEndOrGoesOn
    (after_entries blobs st (append_entry piece answer ∷ part)).source.fault
    rest
    (IsAppends blobs (after_entries blobs st (append_entry piece answer ∷ part)) pieces rest)

-- the source is opened and gets a source buffer of ISO BMFF
abbrev pub open_entries : Answer → Answer → List Entry
open_entries attached added =
    Script Attach attached ∷ Script (AddSourceBuffer (codes "video/mp4")) added ∷ []

-- and then the pieces are appended
pub record IsWholeFile (blobs : List (List ℕ)) (st : State) (pieces : List Piece)
    (entries : List Entry) : Type 0 where
  pub attached : Answer
  pub added : Answer
  pub rest : List Entry
  pub entries_are : entries ≡ open_entries attached added ++ rest
  pub appends : IsAppends blobs (after_entries blobs st (open_entries attached added)) pieces rest

-- ---- what is run

-- all of it is done; there are `count` listeners
abbrev pub IsAllOf : ℕ → Task → List Entry → Type 0
IsAllOf count (ByScript script blobs) entries =
    AreLinesDone (play_inputs blobs (limits script.drain count)) 0
    (opening_of (ByScript script blobs)) script.steps entries
IsAllOf count (ByFile command bytes) entries =
    IsWholeFile (bytes ∷ []) (opening_of (ByFile command bytes))
    (pieces_by command (length bytes)) entries
IsAllOf count (ByRemux bytes) entries = entries ≡ []

-- a front of all of it is done: with some entries behind these it is all
abbrev pub IsFrontOf : ℕ → Task → List Entry → Type 0
IsFrontOf count task entries = (rest : List Entry) × IsAllOf count task (entries ++ rest)

-- ---- what is printed

abbrev pub last_state : Task → List Entry → State
last_state task entries = after_entries (blobs_of task) (opening_of task) entries

-- the lines that are printed as their entries come: those of a script
abbrev pub shown_lines : Task → List Entry → List (List ℕ)
shown_lines (ByScript script blobs) entries = lines_of entries
shown_lines other entries = []

-- what closes a file of so many bytes: what a decoder is given of it, or its block
abbrev pub file_closing : Command → ℕ → State → List (List ℕ)
file_closing (Feed at) len st = feed_closing at st
file_closing other len st =
    lines_in (heading_of other len) ++ lines_in (closing_text (view_in st) false)

-- the lines that close it
abbrev pub closing_lines : Task → State → List (List ℕ)
closing_lines (ByScript script blobs) st = lines_in (closing_text (view_in st) true)
closing_lines (ByFile command bytes) st = file_closing command (length bytes) st
closing_lines (ByRemux bytes) st = remux_pieces bytes

-- all that is written, put by put
abbrev pub text_of : Task → List Entry → List (List ℕ)
text_of task entries = shown_lines task entries ++ closing_lines task (last_state task entries)
