-- All source buffers of a media source, by number.
use Rattle.std.specs.Prelude.{ℕ, ℤ, List, [], ◌∷◌, map, slice_get, Option, Some, None}
use Rattle.std.specs.Option.{option_flatten}
use Rattle.mse_types.specs.declared.answer.Container.{Container}
use Rattle.byte_stream.specs.Streams.{HasReading}
use Rattle.track_buffers.specs.Media.{Media}
use Rattle.track_buffers.specs.Settings.{new_media}
use Rattle.buffer_state.specs.declared.running.Running.{Running}
use Rattle.buffer_state.specs.State.{Feed, Content, KeptBuffer, Stands, new_feed}
use Rattle.buffer_state.specs.Calls.{has_generated_timestamps}

-- a source buffer
pub record BufferState : Type 0 where
  pub feed : Feed
  pub content : Content

-- A slot for each buffer that was ever made, in order of the numbers. The slot of a removed buffer is empty.
abbrev pub BufferStates : Type 0
BufferStates = List (Option BufferState)

-- what is in the slot of a number, if a buffer was made with it and was not removed
abbrev pub in_slot : {X : Type 0} → ℕ → List (Option X) → Option X
in_slot k xs = option_flatten (slice_get xs k)

-- a buffer that has received nothing
abbrev pub new_buffer : ℤ → Container → BufferState
new_buffer gap container = record {
  feed = new_feed container None;
  content = record { media = new_media gap (has_generated_timestamps container); latest = None };
}

-- ---- what the code keeps

abbrev pub KeptBuffers : Type 0
KeptBuffers = List (Option KeptBuffer)

-- what contracts see: what is kept of the buffers, and for how many more there is room
pub record BuffersView : Type 0 where
  pub buffers : KeptBuffers
  pub spare : ℕ

-- what is kept stands for the buffers, slot for slot
abbrev pub IsSlotStanding : Option KeptBuffer → Option BufferState → Type 0
IsSlotStanding None None = Unit {0}
IsSlotStanding None (Some b) = ⊥
IsSlotStanding (Some k) None = ⊥
IsSlotStanding (Some k) (Some b) = Stands k b.feed b.content

abbrev pub AreSlotsStanding : KeptBuffers → BufferStates → Type 0
AreSlotsStanding [] [] = Unit {0}
AreSlotsStanding [] (b ∷ bs) = ⊥
AreSlotsStanding (k ∷ ks) [] = ⊥
AreSlotsStanding (k ∷ ks) (b ∷ bs) = IsSlotStanding k b × AreSlotsStanding ks bs

-- it stands for some buffers
pub record HasStates (ks : KeptBuffers) : Type 0 where
  pub buffers : BufferStates
  pub stand : AreSlotsStanding ks buffers

-- the buffer in a slot stands for some string
abbrev pub HasSlotReading : Option KeptBuffer → Type 0
HasSlotReading None = Unit {0}
HasSlotReading (Some k) = HasReading k.stream

-- ---- the parts of the buffers that are kept as they are

abbrev pub media_of : Option BufferState → Option Media
media_of None = None
media_of (Some b) = Some b.content.media

abbrev pub media_of_all : BufferStates → List (Option Media)
media_of_all bs = map media_of bs

abbrev pub kept_media : Option KeptBuffer → Option Media
kept_media None = None
kept_media (Some k) = Some k.media

abbrev pub all_kept_media : KeptBuffers → List (Option Media)
all_kept_media ks = map kept_media ks

abbrev pub running_of : Option BufferState → Option Running
running_of None = None
running_of (Some b) = Some b.feed.running

abbrev pub running_of_all : BufferStates → List (Option Running)
running_of_all bs = map running_of bs

abbrev pub kept_running : Option KeptBuffer → Option Running
kept_running None = None
kept_running (Some k) = Some k.running

abbrev pub all_kept_running : KeptBuffers → List (Option Running)
all_kept_running ks = map kept_running ks
