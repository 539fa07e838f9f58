-- What a feeder gives over many calls.
use Rattle.std.specs.Prelude.{◌≡◌, ◌+◌, ℕ, List, [], ◌∷◌, replicate, length, Option, Some, None, slice_get, ⊤}
use Rattle.track_store.specs.declared.store.Stored.{Stored}
use Rattle.track_store.specs.State.{TrackState}
use Rattle.decoder_feed.specs.declared.steps.FeedNext.{FeedNext}
use Rattle.decoder_feed.specs.declared.steps.FeedNext.TheVariants.{Frame, Idle, Wait, Lost, GroupEnd}
use Rattle.decoder_feed.specs.Steps.{FeederState, next_answer, feeder_after}

-- the frame that an answer gives, if it gives one
abbrev pub frame_given : List Stored → FeedNext → Option Stored
frame_given fs (Frame place) = slice_get fs place
frame_given fs Idle = None
frame_given fs Wait = None
frame_given fs Lost = None
frame_given fs GroupEnd = None

abbrev pub with_first : Option Stored → List Stored → List Stored
with_first None fs = fs
with_first (Some f) fs = f ∷ fs

-- the frames that a feeder gives which is asked for the next one at each of some states of a track
abbrev pub frames_given : FeederState → List TrackState → List Stored
frames_given s [] = []
frames_given s (t ∷ ts) =
    with_first (frame_given t.frames (next_answer s t))
    (frames_given (feeder_after (next_answer s t) s) ts)

-- the frame that comes next is the one after the last given
abbrev pub IsAfterGiven : Option ℕ → Option ℕ → Type 0
IsAfterGiven next None = ⊤
IsAfterGiven next (Some given) = next ≡ Some (given + 1)

-- what a feeder keeps from call to call
abbrev pub IsFeeding : FeederState → Type 0
IsFeeding s = IsAfterGiven s.next s.given

-- over a track that does not change, the frames given after a seek are those of a feed, a frame a call
abbrev pub AreGiven : FeederState → TrackState → Option (List Stored) → Type 0
AreGiven s t None = ⊤
AreGiven s t (Some frames) = frames_given s (replicate (length frames) t) ≡ frames
