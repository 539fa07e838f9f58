-- The line of an event.
use Rattle.std.specs.Prelude.{ℕ, List, [], ◌∷◌, codes}
use Rattle.std.specs.Fmt.{decimal}
use Rattle.mse_calls.specs.declared.events.Event.{Event}
use Rattle.mse_calls.specs.declared.events.EventKind.{EventKind}
use Rattle.mse_calls.specs.declared.events.EventKind.TheVariants.{SourceOpen, SourceEnded, AddSourceBuffer, RemoveSourceBuffer, UpdateStart, Update, UpdateEnd, Error, Abort, DurationChange, LoadedMetadata, LoadedData, Waiting, TimeUpdate, CanPlay, Playing, CanPlayThrough, Seeking, Seeked, Play, Pause, Ended}
use Rattle.mse_calls.specs.declared.events.Target.{Target}
use Rattle.mse_calls.specs.declared.events.Target.TheVariants.{Source, SourceBuffers, ActiveSourceBuffers, Buffer, Element}
use Rattle.event_text.specs.Words.{words, line}

abbrev pub target_text : Target → List ℕ
target_text Source = codes "source"
target_text SourceBuffers = codes "sourcebuffers"
target_text ActiveSourceBuffers = codes "activesourcebuffers"
target_text (Buffer k) = words (codes "buffer" ∷ decimal k ∷ [])
target_text Element = codes "element"

-- the types of the events (Media Source Extensions, event summaries; HTML, media element events)
abbrev pub kind_text : EventKind → List ℕ
kind_text SourceOpen = codes "sourceopen"
kind_text SourceEnded = codes "sourceended"
kind_text AddSourceBuffer = codes "addsourcebuffer"
kind_text RemoveSourceBuffer = codes "removesourcebuffer"
kind_text UpdateStart = codes "updatestart"
kind_text Update = codes "update"
kind_text UpdateEnd = codes "updateend"
kind_text Error = codes "error"
kind_text Abort = codes "abort"
kind_text DurationChange = codes "durationchange"
kind_text LoadedMetadata = codes "loadedmetadata"
kind_text LoadedData = codes "loadeddata"
kind_text Waiting = codes "waiting"
kind_text TimeUpdate = codes "timeupdate"
kind_text CanPlay = codes "canplay"
kind_text Playing = codes "playing"
kind_text CanPlayThrough = codes "canplaythrough"
kind_text Seeking = codes "seeking"
kind_text Seeked = codes "seeked"
kind_text Play = codes "play"
kind_text Pause = codes "pause"
kind_text Ended = codes "ended"

abbrev pub event_line : Event → List ℕ
event_line e = line (codes "event" ∷ target_text e.target ∷ kind_text e.kind ∷ [])
