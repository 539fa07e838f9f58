-- The line of a call, as a script writes it, with its times in ticks.
use Rattle.std.specs.Prelude.{ℕ, List, [], ◌∷◌, ◌++◌, codes, Option, Some, None}
use Rattle.std.specs.Fmt.{decimal}
use Rattle.mse_calls.specs.declared.calls.Call.{Call}
use Rattle.mse_calls.specs.declared.calls.Call.TheVariants.{Attach, AddSourceBuffer, RemoveSourceBuffer, SetDuration, EndOfStream, SetLiveSeekableRange, ClearLiveSeekableRange, SetMode, SetTimestampOffset, SetAppendWindowStart, SetAppendWindowEnd, AppendBuffer, Abort, Remove, ChangeType, Buffered, SourceState, Seek, Play, Pause, Advance, ElementBuffered, Seekable}
use Rattle.mse_calls.specs.declared.calls.EndKind.{EndKind}
use Rattle.mse_calls.specs.declared.calls.EndKind.TheVariants.{Plain, Network, Decode}
use Rattle.mse_calls.specs.declared.calls.Mode.{Mode}
use Rattle.mse_calls.specs.declared.calls.Mode.TheVariants.{Segments, Sequence}
use Rattle.event_text.specs.Words.{words, printable_text}
use Rattle.event_text.specs.Times.{moment_text}

abbrev pub mode_text : Mode → List ℕ
mode_text Segments = codes "segments"
mode_text Sequence = codes "sequence"

abbrev pub end_text : EndKind → List ℕ
end_text Plain = codes "endofstream"
end_text Network = codes "endofstream network"
end_text Decode = codes "endofstream decode"

-- a type after a space; nothing for the empty type
abbrev pub type_text : List ℕ → List ℕ
type_text [] = []
type_text (byte ∷ bytes) = 32 ∷ printable_text (byte ∷ bytes)

-- an append of a whole blob, or of a part with its first byte and its length
abbrev pub append_text : ℕ → ℕ → Option (ℕ × ℕ) → List ℕ
append_text k blob None = words (codes "append" ∷ decimal k ∷ decimal blob ∷ [])
append_text k blob (Some part) =
    words (codes "append" ∷ decimal k ∷ decimal blob ∷ decimal part.0 ∷ decimal part.1 ∷ [])

abbrev pub call_text : Call → List ℕ
call_text Attach = codes "attach"
call_text (AddSourceBuffer kind) = codes "add" ++ type_text kind
call_text (RemoveSourceBuffer k) = words (codes "removebuffer" ∷ decimal k ∷ [])
call_text (SetDuration d) = words (codes "duration" ∷ moment_text d ∷ [])
call_text (EndOfStream kind) = end_text kind
call_text (SetLiveSeekableRange a b) = words (codes "live" ∷ moment_text a ∷ moment_text b ∷ [])
call_text ClearLiveSeekableRange = codes "clearlive"
call_text (SetMode k mode) = words (codes "mode" ∷ decimal k ∷ mode_text mode ∷ [])
call_text (SetTimestampOffset k t) = words (codes "offset" ∷ decimal k ∷ moment_text t ∷ [])
call_text (SetAppendWindowStart k t) = words (codes "windowstart" ∷ decimal k ∷ moment_text t ∷ [])
call_text (SetAppendWindowEnd k t) = words (codes "windowend" ∷ decimal k ∷ moment_text t ∷ [])
call_text (AppendBuffer k piece) = append_text k piece.blob piece.part
call_text (Abort k) = words (codes "abort" ∷ decimal k ∷ [])
call_text (Remove k a b) = words (codes "remove" ∷ decimal k ∷ moment_text a ∷ moment_text b ∷ [])
call_text (ChangeType k kind) = codes "changetype " ++ (decimal k ++ type_text kind)
call_text (Buffered k) = words (codes "buffered" ∷ decimal k ∷ [])
call_text SourceState = codes "state"
call_text (Seek t) = words (codes "seek" ∷ moment_text t ∷ [])
call_text Play = codes "play"
call_text Pause = codes "pause"
call_text (Advance t) = words (codes "advance" ∷ moment_text t ∷ [])
call_text ElementBuffered = codes "elementbuffered"
call_text Seekable = codes "seekable"
