-- Events, as they are printed without the word `event`.
use Rattle.std.specs.Prelude.{ℕ, List, [], ◌∷◌, Option, option_map, option_and_then, if◌then◌else◌, codes, bytes_eq}
use Rattle.mse_calls.specs.declared.events.Event.{Event}
use Rattle.mse_calls.specs.declared.events.EventKind.{EventKind}
use Rattle.mse_calls.specs.declared.events.EventKind.TheVariants.{SourceOpen, SourceEnded, AddSourceBuffer, RemoveSourceBuffer, UpdateStart, Update, UpdateEnd, Error, Abort, DurationChange, LoadedMetadata, LoadedData, Waiting, TimeUpdate, CanPlay, Playing, CanPlayThrough, Seeking, Seeked, Play, Pause, Ended}
use Rattle.mse_calls.specs.declared.events.Target.{Target}
use Rattle.mse_calls.specs.declared.events.Target.TheVariants.{Source, SourceBuffers, ActiveSourceBuffers, Buffer, Element}
use Rattle.event_text.specs.Events.{target_text, kind_text}
use Rattle.call_script.specs.Words.{first_word, after_word}
use Rattle.call_script.specs.Numbers.{index_of}
use Rattle.call_script.specs.Names.{first_named}

-- the events that are fired at each target (Media Source Extensions, event summaries; HTML, media
-- element events)
abbrev pub kinds_at : Target → List EventKind
kinds_at Source = SourceOpen ∷ SourceEnded ∷ []
kinds_at SourceBuffers = AddSourceBuffer ∷ RemoveSourceBuffer ∷ []
kinds_at ActiveSourceBuffers = AddSourceBuffer ∷ RemoveSourceBuffer ∷ []
kinds_at (Buffer k) = UpdateStart ∷ Update ∷ UpdateEnd ∷ Error ∷ Abort ∷ []
kinds_at Element =
    DurationChange ∷ LoadedMetadata ∷ LoadedData ∷ Waiting ∷ TimeUpdate ∷ CanPlay ∷ Playing
    ∷ CanPlayThrough ∷ Seeking ∷ Seeked ∷ Play ∷ Pause ∷ Ended ∷ Error ∷ []

-- the targets of which there is one
abbrev pub single_targets : List Target
single_targets = Source ∷ SourceBuffers ∷ ActiveSourceBuffers ∷ Element ∷ []

abbrev pub event_named : Target → List ℕ → Option Event
event_named target text =
    option_map (λ kind. record { target = target; kind = kind })
    (first_named kind_text (kinds_at target) text)

-- a buffer's number, and an event that is fired at a buffer
abbrev pub buffer_event : List ℕ → Option Event
buffer_event text =
    option_and_then (λ k. option_and_then (event_named (Buffer k)) (after_word text))
    (index_of (first_word text))

abbrev pub event_with : List ℕ → List ℕ → Option Event
event_with word text =
    if bytes_eq word (codes "buffer") then buffer_event text
    else option_and_then (λ target. event_named target text)
    (first_named target_text single_targets word)

-- a target, and an event that is fired at it
unfoldable pub event_of : List ℕ → Option Event
event_of text = option_and_then (event_with (first_word text)) (after_word text)
