-- Coded frame removal as one function on lists (Media Source Extensions, 3.5.9).
use Rattle.std.specs.Prelude.{ℤ, Bool, false, not, ◌&&◌, ◌||◌, List, [], ◌∷◌, map, if◌then◌else◌}
use Rattle.mse_base.specs.declared.ticks.Moment.{Moment}
use Rattle.track_store.specs.declared.store.Stored.{Stored}
use Rattle.mse_base.specs.Moments.{least, time_or}
use Rattle.track_store.specs.Frames.{frames_without, is_between, sync_times_from}
use Rattle.track_store.specs.State.{TrackState, unset_marks}

-- steps 3.1 and 3.2: the remove end timestamp is the least presentation timestamp of a random access point
-- that is not before the end, and the duration where there is none
abbrev pub remove_end : Moment → Moment → List Stored → Moment
remove_end end duration fs = time_or (least (sync_times_from end fs)) duration

-- whether the last frame of a list goes where the named frames are removed with their decoding dependencies;
-- `gone` says of the frame before the list whether it goes
abbrev pub is_last_removed_after : Bool → (Stored → Bool) → List Stored → Bool
is_last_removed_after gone named [] = gone
is_last_removed_after gone named (f ∷ fs) =
    is_last_removed_after (named f || (gone && not f.frame.sync)) named fs

abbrev pub is_last_removed : (Stored → Bool) → List Stored → Bool
is_last_removed named fs = is_last_removed_after false named fs

-- steps 3.3 and 3.4: the named frames are removed with their decoding dependencies. Where the frame that was
-- stored last is among them, the marks are unset and a random access point is needed.
abbrev pub track_without : (Stored → Bool) → TrackState → TrackState
track_without named t = record t {
  frames = frames_without named t.frames;
  marks = if is_last_removed named t.frames then unset_marks t.marks else t.marks;
}

-- step 3, of one track: the frames go that begin at or after the start and before the remove end timestamp
abbrev pub track_after_removal : ℤ → Moment → Moment → TrackState → TrackState
track_after_removal start end duration t =
    track_without (is_between start (remove_end end duration t.frames)) t

-- step 3, of all tracks of a source buffer
abbrev pub tracks_after_removal : ℤ → Moment → Moment → List TrackState → List TrackState
tracks_after_removal start end duration ts = map (track_after_removal start end duration) ts
