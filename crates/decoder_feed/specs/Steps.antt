-- Frames given one after another, over a track that may change between two of them.
use Rattle.std.specs.Prelude.{◌+◌, ℕ, ℤ, nat_le, Bool, true, false, List, Option, Some, None, slice_get, option_map, if◌then◌else◌}
use Rattle.std.specs.List.{position}
use Rattle.track_store.specs.declared.store.Stored.{Stored}
use Rattle.track_store.specs.Frames.{has_serial, overlapped}
use Rattle.track_store.specs.State.{TrackState}
use Rattle.decoder_feed.specs.declared.steps.FeedNext.{FeedNext}
use Rattle.decoder_feed.specs.declared.steps.FeedNext.TheVariants.{Frame, Idle, Wait, Lost, GroupEnd}
use Rattle.decoder_feed.specs.Feed.{group_serial}

-- the serial of the frame that comes next, and that of the frame that was given last since the seek
pub record FeederState : Type 0 where
  pub next : Option ℕ
  pub given : Option ℕ

-- what a feeder keeps before its first seek
abbrev pub idle : FeederState
idle = record { next = None; given = None }

-- what a feeder keeps after a seek to a frame: its group comes next, from its random access point on, and no
-- frame was given
abbrev pub feeder_after_seek_to : Option Stored → List Stored → FeederState
feeder_after_seek_to None fs = idle
feeder_after_seek_to (Some wanted) fs = record {
  next = group_serial wanted.serial fs;
  given = None;
}

abbrev pub feeder_after_seek : ℤ → List Stored → FeederState
feeder_after_seek t fs = feeder_after_seek_to (overlapped t fs) fs

-- what the frame at a place is answered with: the first since the seek must be a random access point, and
-- after it the next random access point begins another group
abbrev pub answer_with : Option ℕ → ℕ → Bool → FeedNext
answer_with None place true = Frame place
answer_with None place false = Lost
answer_with (Some before) place true = GroupEnd
answer_with (Some before) place false = Frame place

abbrev pub answer_of : Option ℕ → ℕ → Option Stored → FeedNext
answer_of given place None = Lost
answer_of given place (Some f) = answer_with given place f.frame.sync

-- the same where the frame is looked up: one that is not held is lost
abbrev pub answer_at : Option ℕ → List Stored → Option ℕ → FeedNext
answer_at given fs None = Lost
answer_at given fs (Some place) = answer_of given place (slice_get fs place)

-- the same where the serial is known: a frame that the track has not received yet is waited for
abbrev pub answer_to : TrackState → Option ℕ → Option ℕ → FeedNext
answer_to t given None = Idle
answer_to t given (Some serial) =
    if nat_le t.marks.received serial then Wait
    else answer_at given t.frames (position (has_serial serial) t.frames)

-- what a feeder that is asked for the next frame answers
abbrev pub next_answer : FeederState → TrackState → FeedNext
next_answer s t = answer_to t s.given s.next

-- what a feeder keeps after an answer: only a frame that was given changes it
abbrev pub feeder_after : FeedNext → FeederState → FeederState
feeder_after (Frame place) s = record {
  next = option_map (λ serial. serial + 1) s.next;
  given = s.next;
}
feeder_after Idle s = s
feeder_after Wait s = s
feeder_after Lost s = s
feeder_after GroupEnd s = s
