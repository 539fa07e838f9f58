-- The lines of a track by `feed` (docs/SCRIPTS.md, commands).
use Rattle.std.specs.Prelude.{ℕ, zero, suc, ℤ, List, [], ◌∷◌, ◌++◌, length, map, codes, Option, Some, None}
use Rattle.std.specs.Fmt.{decimal, signed_decimal}
use Rattle.event_text.specs.Words.{bool_text, line, words}
use Rattle.track_store.specs.declared.store.Stored.{Stored}
use Rattle.track_store.specs.Frames.{overlapped}
use Rattle.track_store.specs.State.{TrackState}
use Rattle.decoder_feed.specs.declared.steps.FeedNext.{FeedNext}
use Rattle.decoder_feed.specs.declared.steps.FeedNext.TheVariants.{Frame, Idle, Wait, Lost, GroupEnd}
use Rattle.feed_lines.specs.Groups.{feeding, end_of}

-- no frame of the track is shown at a time
abbrev pub none_line : ℕ → ℤ → List ℕ
none_line id at =
    line (codes "feed" ∷ codes "0" ∷ decimal id ∷ codes "at" ∷ signed_decimal at
    ∷ codes "none" ∷ [])

-- the frame of a serial is
abbrev pub wanted_line : ℕ → ℤ → ℕ → List ℕ
wanted_line id at serial =
    line (codes "feed" ∷ codes "0" ∷ decimal id ∷ codes "at" ∷ signed_decimal at
    ∷ codes "wanted" ∷ decimal serial ∷ [])

-- how many bytes a frame has, and whether it is a random access point
abbrev pub size_text : Stored → List ℕ
size_text f =
    line (codes "bytes" ∷ decimal (length f.frame.payload)
    ∷ codes "sync" ∷ bool_text f.frame.sync ∷ [])

-- a frame that is given
abbrev pub frame_line : Stored → List ℕ
frame_line f =
    words (codes "frame" ∷ decimal f.serial ∷ codes "pts" ∷ signed_decimal f.frame.pts
    ∷ codes "dts" ∷ signed_decimal f.frame.dts
    ∷ codes "dur" ∷ signed_decimal f.frame.dur ∷ size_text f ∷ [])

abbrev pub answer_text : FeedNext → List ℕ
answer_text (Frame place) = codes "Frame"
answer_text Idle = codes "Idle"
answer_text Wait = codes "Wait"
answer_text Lost = codes "Lost"
answer_text GroupEnd = codes "GroupEnd"

-- why no more are given
abbrev pub end_line : FeedNext → List ℕ
end_line answer = line (codes "end" ∷ answer_text answer ∷ [])

-- the frames that are given to show the frame at a time, and why no more are
abbrev pub given_lines : ℤ → TrackState → List (List ℕ)
given_lines at t =
    map frame_line (feeding at t).frames ++ end_line (feeding at t).end ∷ []

-- what is given to show a frame at a time, and then what follows; where no frame is shown, that is all
abbrev pub lines_by : Option Stored → ℤ → TrackState → List (List ℕ) → List (List ℕ)
lines_by None at t rest = none_line t.id at ∷ []
lines_by (Some wanted) at t rest = wanted_line t.id at wanted.serial ∷ (given_lines at t ++ rest)

-- What is given to show a time, and then what is given to show the time at which that ends, in so many groups at most:
-- behind them no frame is shown.
abbrev pub groups_lines : ℕ → ℤ → TrackState → List (List ℕ)
groups_lines zero at t = none_line t.id at ∷ []
groups_lines (suc more) at t =
    lines_by (overlapped at t.frames) at t (groups_lines more (end_of at (feeding at t).frames) t)

-- The lines of a track from a time on. Each group ends later than the one before it, at the end of a frame, so that
-- there are at most as many as frames.
unfoldable pub lines_of_track : ℤ → TrackState → List (List ℕ)
lines_of_track at t = groups_lines (length t.frames) at t
