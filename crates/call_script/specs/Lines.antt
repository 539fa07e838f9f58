-- The lines of a script: a call's word with the kinds of its arguments, and the steps.
use Rattle.std.specs.Prelude.{ℕ, List, [], ◌∷◌, Option, Some, None, option_map, option_and_then, if◌then◌else◌, codes, bytes_eq}
use Rattle.std.specs.List.{list_all}
use Rattle.mse_calls.specs.declared.calls.Call.{Call}
use Rattle.mse_calls.specs.declared.calls.Call.TheVariants as call
use Rattle.mse_calls.specs.declared.calls.Piece.{Piece}
use Rattle.mse_calls.specs.declared.calls.Mode.{Mode as AppendMode}
use Rattle.mse_calls.specs.declared.calls.Mode.TheVariants.{Segments, Sequence}
use Rattle.mse_calls.specs.declared.calls.EndKind.TheVariants as kind
use Rattle.event_text.specs.Words.{is_printable}
use Rattle.call_script.specs.declared.call_word.CallWord.{CallWord}
use Rattle.call_script.specs.declared.call_word.CallWord.TheVariants.{Attach, Add, RemoveBuffer, Duration, EndOfStream, Live, ClearLive, Mode, Offset, WindowStart, WindowEnd, Append, Abort, Remove, ChangeType, Buffered, State, Seek, Play, Pause, Advance, ElementBuffered, Seekable}
use Rattle.call_script.specs.declared.script.StepLine.{StepLine}
use Rattle.call_script.specs.declared.script.StepLine.TheVariants as step
use Rattle.call_script.specs.Words.{first_word, after_word}
use Rattle.call_script.specs.Numbers.{index_of, size_of}
use Rattle.call_script.specs.Times.{time_of}
use Rattle.call_script.specs.CallWords.{call_word_of}

-- both, where both are there
abbrev pub pair_of : {A B : Type 0} → Option A → Option B → Option (A × B)
pair_of None y = None
pair_of (Some x) None = None
pair_of (Some x) (Some y) = Some (x, y)

-- two arguments: the first word, and what stands behind it
abbrev pub pair : {A B : Type 0} → (List ℕ → Option A) → (List ℕ → Option B) → List ℕ
    → Option (A × B)
pair first second text =
    pair_of (first (first_word text)) (option_and_then second (after_word text))

-- The kinds of arguments. A number is `index_of`, a time is `time_of`.
abbrev pub mode_of : List ℕ → Option AppendMode
mode_of text =
    if bytes_eq text (codes "segments") then Some Segments
    else (if bytes_eq text (codes "sequence") then Some Sequence else None)

abbrev pub piece_with : ℕ → Option (List ℕ) → Option Piece
piece_with blob None = Some (record { blob = blob; part = None })
piece_with blob (Some text) =
    option_map (λ part. record { blob = blob; part = Some part }) (pair size_of size_of text)

-- a blob, and where more follows the first byte and the length of the part
unfoldable pub piece_of : List ℕ → Option Piece
piece_of text =
    option_and_then (λ blob. piece_with blob (after_word text)) (index_of (first_word text))

-- the type is all that stands behind the space; no space is the empty type
abbrev pub type_of : Option (List ℕ) → Option (List ℕ)
type_of None = Some []
type_of (Some []) = None
type_of (Some (byte ∷ bytes)) = Some (byte ∷ bytes)

-- What stands behind the word of a call, by the kinds of its arguments.
abbrev pub call_alone : Call → Option (List ℕ) → Option Call
call_alone call None = Some call
call_alone call (Some text) = None

abbrev pub one_argument : {A : Type 0} → (List ℕ → Option A) → (A → Call) → Option (List ℕ)
    → Option Call
one_argument first make rest = option_map make (option_and_then first rest)

abbrev pub two_arguments : {A B : Type 0} → (List ℕ → Option A) → (List ℕ → Option B)
    → (A → B → Call) → Option (List ℕ) → Option Call
two_arguments first second make rest =
    option_map (λ p. make p.0 p.1) (option_and_then (pair first second) rest)

abbrev pub type_call : (List ℕ → Call) → Option (List ℕ) → Option Call
type_call make rest = option_map make (type_of rest)

abbrev pub index_and_type_call : (ℕ → List ℕ → Call) → Option (List ℕ) → Option Call
index_and_type_call make None = None
index_and_type_call make (Some text) =
    option_map (λ p. make p.0 p.1)
    (pair_of (index_of (first_word text)) (type_of (after_word text)))

abbrev pub end_call : Option (List ℕ) → Option Call
end_call None = Some (call.EndOfStream kind.Plain)
end_call (Some text) =
    if bytes_eq text (codes "network") then Some (call.EndOfStream kind.Network)
    else (if bytes_eq text (codes "decode") then Some (call.EndOfStream kind.Decode) else None)

-- the call of a word and of what stands behind it
abbrev pub call_with : CallWord → Option (List ℕ) → Option Call
call_with Attach = call_alone call.Attach
call_with Add = type_call (λ kind. call.AddSourceBuffer kind)
call_with RemoveBuffer = one_argument index_of (λ k. call.RemoveSourceBuffer k)
call_with Duration = one_argument time_of (λ d. call.SetDuration d)
call_with EndOfStream = end_call
call_with Live = two_arguments time_of time_of (λ a b. call.SetLiveSeekableRange a b)
call_with ClearLive = call_alone call.ClearLiveSeekableRange
call_with Mode = two_arguments index_of mode_of (λ k mode. call.SetMode k mode)
call_with Offset = two_arguments index_of time_of (λ k t. call.SetTimestampOffset k t)
call_with WindowStart = two_arguments index_of time_of (λ k t. call.SetAppendWindowStart k t)
call_with WindowEnd = two_arguments index_of time_of (λ k t. call.SetAppendWindowEnd k t)
call_with Append = two_arguments index_of piece_of (λ k piece. call.AppendBuffer k piece)
call_with Abort = one_argument index_of (λ k. call.Abort k)
call_with Remove =
    two_arguments index_of (pair time_of time_of) (λ k span. call.Remove k span.0 span.1)
call_with ChangeType = index_and_type_call (λ k kind. call.ChangeType k kind)
call_with Buffered = one_argument index_of (λ k. call.Buffered k)
call_with State = call_alone call.SourceState
call_with Seek = one_argument time_of (λ t. call.Seek t)
call_with Play = call_alone call.Play
call_with Pause = call_alone call.Pause
call_with Advance = one_argument time_of (λ t. call.Advance t)
call_with ElementBuffered = call_alone call.ElementBuffered
call_with Seekable = call_alone call.Seekable

abbrev pub call_in : List ℕ → Option Call
call_in line =
    option_and_then (λ word. call_with word (after_word line)) (call_word_of (first_word line))

-- the call of a call line
unfoldable pub call_of_line : List ℕ → Option Call
call_of_line line = if list_all is_printable line then call_in line else None

abbrev pub other_step : List ℕ → Option StepLine
other_step line =
    if bytes_eq (first_word line) (codes "work")
    then option_map (λ k. step.Work k) (option_and_then index_of (after_word line))
    else option_map (λ c. step.Call c) (call_of_line line)

-- the step of a step line
unfoldable pub step_of_line : List ℕ → Option StepLine
step_of_line line =
    if bytes_eq line (codes "fire") then Some step.Fire
    else (if bytes_eq line (codes "element") then Some step.Element
    else (if bytes_eq line (codes "drain") then Some step.Drain
    else other_step line))
