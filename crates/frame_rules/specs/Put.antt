-- A frame whose times are known is dropped or stored (Media Source Extensions, coded frame processing, steps
-- 1.8 to 1.19).
use Rattle.std.specs.Prelude.{ℕ, ◌+◌, ℤ, int_lt, Bool, true, false, not, ◌&&◌, [], ◌∷◌, ◌++◌, Option, Some, None, unwrap_or, if◌then◌else◌}
use Rattle.mse_base.specs.declared.frame.CodedFrame.{CodedFrame}
use Rattle.mse_base.specs.Moments.{is_after, greater_with}
use Rattle.track_store.specs.declared.store.Stored.{Stored}
use Rattle.track_store.specs.declared.tracks.Marks.{Marks}
use Rattle.track_store.specs.State.{TrackState}
use Rattle.overlap_rules.specs.Overlap.{track_with_room}
use Rattle.frame_rules.specs.declared.timing.Timing.{Timing}
use Rattle.frame_rules.specs.declared.answer.Why.{Why}
use Rattle.frame_rules.specs.declared.answer.Why.TheVariants.{Window, NoSync}
use Rattle.frame_rules.specs.declared.answer.Placed.{Placed}
use Rattle.frame_rules.specs.declared.answer.Placed.TheVariants as placed_as

-- why the frame is dropped, if it is. Step 1.8: its presentation timestamp is less than the append window
-- start. Step 1.9: its frame end timestamp is greater than the append window end. Step 1.10: a random access
-- point is needed, and it is none.
abbrev pub drop_reason : Timing → Bool → Bool → Option Why
drop_reason timing sync need =
    if int_lt timing.pts timing.settings.window_start then Some Window
    else (if is_after timing.end timing.settings.window_end then Some Window
    else (if need && not sync then Some NoSync else None))

-- a dropped frame counts, and a random access point is needed from then on
abbrev pub track_after_drop : TrackState → TrackState
track_after_drop t = record t {
  marks = record t.marks { need_sync = true; received = t.marks.received + 1 };
}

-- steps 1.10.2 and 1.17 to 1.19: the marks after a frame that was stored. Its serial is the count of frames
-- received before it; where the group has no first frame, it is that.
abbrev pub marks_after : Timing → ℤ → Marks → Marks
marks_after timing dur m = record {
  last_decode = Some timing.dts;
  last_duration = Some dur;
  highest_end = Some (greater_with m.highest_end timing.end);
  group_first = Some (unwrap_or m.group_first m.received);
  need_sync = false;
  received = m.received + 1;
}

-- step 1.16: the frame with its timestamps in the track buffer
abbrev pub stored_frame : Timing → ℕ → CodedFrame → Stored
stored_frame timing serial f =
    record { serial = serial; frame = record f { pts = timing.pts; dts = timing.dts } }

-- steps 1.13 to 1.19: room is made, and the frame is added
abbrev pub track_with_frame : Timing → CodedFrame → TrackState → TrackState
track_with_frame timing f t = record t {
  frames =
      (track_with_room timing.pts timing.end t).frames
      ++ stored_frame timing t.marks.received f ∷ [];
  marks = marks_after timing f.dur t.marks;
}

abbrev pub track_by_reason : Option Why → Timing → CodedFrame → TrackState → TrackState
track_by_reason (Some why) timing f t = track_after_drop t
track_by_reason None timing f t = track_with_frame timing f t

-- the track buffer after the frame
abbrev pub track_after_frame : Timing → CodedFrame → TrackState → TrackState
track_after_frame timing f t =
    track_by_reason (drop_reason timing f.sync t.marks.need_sync) timing f t

abbrev pub answer_by_reason : Option Why → Placed
answer_by_reason (Some why) = placed_as.Dropped why
answer_by_reason None = placed_as.Stored
