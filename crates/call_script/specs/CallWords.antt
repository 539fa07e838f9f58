-- The words that begin a call line.
use Rattle.std.specs.Prelude.{ℕ, List, [], ◌∷◌, Option, codes}
use Rattle.call_script.specs.declared.call_word.CallWord.{CallWord}
use Rattle.call_script.specs.declared.call_word.CallWord.TheVariants.{Attach, Add, RemoveBuffer, Duration, EndOfStream, Live, ClearLive, Mode, Offset, WindowStart, WindowEnd, Append, Abort, Remove, ChangeType, Buffered, State, Seek, Play, Pause, Advance, ElementBuffered, Seekable}
use Rattle.call_script.specs.Names.{first_named}

abbrev pub call_name : CallWord → List ℕ
call_name Attach = codes "attach"
call_name Add = codes "add"
call_name RemoveBuffer = codes "removebuffer"
call_name Duration = codes "duration"
call_name EndOfStream = codes "endofstream"
call_name Live = codes "live"
call_name ClearLive = codes "clearlive"
call_name Mode = codes "mode"
call_name Offset = codes "offset"
call_name WindowStart = codes "windowstart"
call_name WindowEnd = codes "windowend"
call_name Append = codes "append"
call_name Abort = codes "abort"
call_name Remove = codes "remove"
call_name ChangeType = codes "changetype"
call_name Buffered = codes "buffered"
call_name State = codes "state"
call_name Seek = codes "seek"
call_name Play = codes "play"
call_name Pause = codes "pause"
call_name Advance = codes "advance"
call_name ElementBuffered = codes "elementbuffered"
call_name Seekable = codes "seekable"

abbrev pub call_words : List CallWord
call_words =
    Attach ∷ Add ∷ RemoveBuffer ∷ Duration ∷ EndOfStream ∷ Live ∷ ClearLive ∷ Mode ∷ Offset
    ∷ WindowStart ∷ WindowEnd ∷ Append ∷ Abort ∷ Remove ∷ ChangeType ∷ Buffered ∷ State
    ∷ Seek ∷ Play ∷ Pause ∷ Advance ∷ ElementBuffered ∷ Seekable ∷ []

unfoldable pub call_word_of : List ℕ → Option CallWord
call_word_of text = first_named call_name call_words text
