-- Events by number.
use Rattle.std.specs.Prelude.{ℕ, ◌+◌, ◌*◌, ◌==◌, Bool}
use Rattle.mse_calls.specs.declared.events.Event.{Event}
use Rattle.mse_calls.specs.declared.events.EventKind.{EventKind}
use Rattle.mse_calls.specs.declared.events.EventKind.TheVariants.{SourceOpen, SourceEnded, AddSourceBuffer, RemoveSourceBuffer, UpdateStart, Update, UpdateEnd, Error, Abort, DurationChange, LoadedMetadata, LoadedData, Waiting, TimeUpdate, CanPlay, Playing, CanPlayThrough, Seeking, Seeked, Play, Pause, Ended}
use Rattle.mse_calls.specs.declared.events.Target.{Target}
use Rattle.mse_calls.specs.declared.events.Target.TheVariants.{Source, SourceBuffers, ActiveSourceBuffers, Buffer, Element}

abbrev pub kind_number : EventKind → ℕ
kind_number SourceOpen = 0
kind_number SourceEnded = 1
kind_number AddSourceBuffer = 2
kind_number RemoveSourceBuffer = 3
kind_number UpdateStart = 4
kind_number Update = 5
kind_number UpdateEnd = 6
kind_number Error = 7
kind_number Abort = 8
kind_number DurationChange = 9
kind_number LoadedMetadata = 10
kind_number LoadedData = 11
kind_number Waiting = 12
kind_number TimeUpdate = 13
kind_number CanPlay = 14
kind_number Playing = 15
kind_number CanPlayThrough = 16
kind_number Seeking = 17
kind_number Seeked = 18
kind_number Play = 19
kind_number Pause = 20
kind_number Ended = 21

abbrev pub target_number : Target → ℕ
target_number Source = 0
target_number SourceBuffers = 1
target_number ActiveSourceBuffers = 2
target_number Element = 3
target_number (Buffer k) = k + 4

-- the number of an event; no two events have one number
unfoldable pub event_number : Event → ℕ
event_number event = target_number event.target * 32 + kind_number event.kind

-- whether two events are one
abbrev pub is_same : Event → Event → Bool
is_same a b = event_number a == event_number b
