-- What is fired at an element where its level changes (HTML, media elements, ready states).
use Rattle.std.specs.Prelude.{Bool, true, false, List, [], ◌∷◌, ◌++◌, if◌then◌else◌}
use Rattle.mse_calls.specs.declared.answers.Level.{Level}
use Rattle.mse_calls.specs.declared.answers.Level.TheVariants.{Nothing, Metadata, Current, Future, Enough}
use Rattle.mse_calls.specs.declared.events.EventKind.{EventKind}
use Rattle.mse_calls.specs.declared.events.EventKind.TheVariants.{LoadedMetadata, LoadedData, CanPlay, Playing, CanPlayThrough, TimeUpdate, Waiting}
use Rattle.element_ready.specs.declared.facts.Facts.{Facts}

-- loadeddata, where it was not queued before
abbrev pub data_events : Facts → List EventKind
data_events f = if f.first_loaded then [] else (LoadedData ∷ [])

-- canplay, and playing where the element is not paused
abbrev pub future_events : Facts → List EventKind
future_events f = CanPlay ∷ (if f.paused then [] else (Playing ∷ []))

-- the same, and canplaythrough
abbrev pub enough_events : Facts → List EventKind
enough_events f = future_events f ++ CanPlayThrough ∷ []

-- timeupdate and waiting, where the element was playing
abbrev pub stall_events : Facts → List EventKind
stall_events f = if f.playing then (TimeUpdate ∷ Waiting ∷ []) else []

-- the events of a change from an old level to a new one, in order
abbrev pub change_events : Level → Level → Facts → List EventKind
-- to HAVE_METADATA
change_events Nothing Metadata f = LoadedMetadata ∷ []
-- from HAVE_METADATA: the first data, and then as from HAVE_CURRENT_DATA
change_events Metadata Current f = data_events f
change_events Metadata Future f = data_events f ++ future_events f
change_events Metadata Enough f = data_events f ++ enough_events f
-- down from HAVE_FUTURE_DATA or HAVE_ENOUGH_DATA
change_events Future Current f = stall_events f
change_events Future Metadata f = stall_events f
change_events Enough Current f = stall_events f
change_events Enough Metadata f = stall_events f
-- up to HAVE_FUTURE_DATA
change_events Nothing Future f = future_events f
change_events Current Future f = future_events f
-- up to HAVE_ENOUGH_DATA
change_events Nothing Enough f = enough_events f
change_events Current Enough f = enough_events f
change_events Future Enough f = CanPlayThrough ∷ []
-- no other change fires anything
change_events old new f = []

-- the change is one at which loadeddata is fired, where it was not before
abbrev pub is_first_data : Level → Level → Bool
is_first_data Metadata Current = true
is_first_data Metadata Future = true
is_first_data Metadata Enough = true
is_first_data old new = false
