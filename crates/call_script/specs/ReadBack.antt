-- Calls whose printed line is a call line of a script.
use Rattle.std.specs.Prelude.{◌≡◌, ℕ, ◌^◌, ◌<◌, ⊤, true, List, Option, Some, None, unsigned_abs}
use Rattle.std.specs.List.{list_all}
use Rattle.mse_base.specs.declared.ticks.Moment.{Moment}
use Rattle.mse_base.specs.declared.ticks.Moment.TheVariants.{Nan, At, Infinite}
use Rattle.mse_calls.specs.declared.calls.Call.{Call}
use Rattle.mse_calls.specs.declared.calls.Call.TheVariants.{Attach, AddSourceBuffer, RemoveSourceBuffer, SetDuration, EndOfStream, SetLiveSeekableRange, ClearLiveSeekableRange, SetMode, SetTimestampOffset, SetAppendWindowStart, SetAppendWindowEnd, AppendBuffer, Abort, Remove, ChangeType, Buffered, SourceState, Seek, Play, Pause, Advance, ElementBuffered, Seekable}
use Rattle.event_text.specs.Words.{is_printable}

-- the number of a buffer or of a blob
abbrev pub IsIndex : ℕ → Type 0
IsIndex k = k < 2 ^ 32

-- the part of a blob that an append takes
abbrev pub IsPart : Option (ℕ × ℕ) → Type 0
IsPart None = ⊤
IsPart (Some part) = (part.0 < 2 ^ 63) × (part.1 < 2 ^ 63)

-- a time of at most 24 digits in ticks
abbrev pub HasFewDigits : Moment → Type 0
HasFewDigits Nan = ⊤
HasFewDigits (At t) = unsigned_abs t < 10 ^ 24
HasFewDigits Infinite = ⊤

-- a type of printable characters
abbrev pub IsPlain : List ℕ → Type 0
IsPlain kind = list_all is_printable kind ≡ true

-- the numbers of the call are in their ranges, its times are short, its type is plain
abbrev pub IsReadableCall : Call → Type 0
IsReadableCall Attach = ⊤
IsReadableCall (AddSourceBuffer kind) = IsPlain kind
IsReadableCall (RemoveSourceBuffer k) = IsIndex k
IsReadableCall (SetDuration d) = HasFewDigits d
IsReadableCall (EndOfStream kind) = ⊤
IsReadableCall (SetLiveSeekableRange a b) = HasFewDigits a × HasFewDigits b
IsReadableCall ClearLiveSeekableRange = ⊤
IsReadableCall (SetMode k mode) = IsIndex k
IsReadableCall (SetTimestampOffset k t) = IsIndex k × HasFewDigits t
IsReadableCall (SetAppendWindowStart k t) = IsIndex k × HasFewDigits t
IsReadableCall (SetAppendWindowEnd k t) = IsIndex k × HasFewDigits t
IsReadableCall (AppendBuffer k piece) = IsIndex k × IsIndex piece.blob × IsPart piece.part
IsReadableCall (Abort k) = IsIndex k
IsReadableCall (Remove k a b) = IsIndex k × HasFewDigits a × HasFewDigits b
IsReadableCall (ChangeType k kind) = IsIndex k × IsPlain kind
IsReadableCall (Buffered k) = IsIndex k
IsReadableCall SourceState = ⊤
IsReadableCall (Seek t) = HasFewDigits t
IsReadableCall Play = ⊤
IsReadableCall Pause = ⊤
IsReadableCall (Advance t) = HasFewDigits t
IsReadableCall ElementBuffered = ⊤
IsReadableCall Seekable = ⊤
