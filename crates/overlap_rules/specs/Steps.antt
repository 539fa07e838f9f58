-- Making room in two steps, as the code does: first the overlapped frame, then the other frames. A device of the proof.
use Rattle.std.specs.Prelude.{ℕ, ℤ, pos, ◌≤ℤ◌, List, Option, Some, None}
use Rattle.mse_base.specs.declared.track.Kind.{Kind}
use Rattle.track_store.specs.declared.store.Stored.{Stored}
use Rattle.track_store.specs.Frames.{frames_without, frames_with_dur, has_serial}
use Rattle.track_store.specs.State.{TrackState}
use Rattle.overlap_rules.specs.Overlap.{rule_for, overlapped_after, is_removed}
use Rattle.overlap_rules.specs.declared.room.OverlapRule.{OverlapRule}
use Rattle.overlap_rules.specs.declared.room.OverlapRule.TheVariants.{Remove, Shorten, Keep}

-- a frame can only get shorter
abbrev pub IsApplicable : OverlapRule → Stored → Type 0
IsApplicable Remove f = Unit {0}
IsApplicable (Shorten dur) f = (pos 0 ≤ℤ dur) × (dur ≤ℤ f.frame.dur)
IsApplicable Keep f = Unit {0}

-- the frames after a rule was applied to the frame of a serial
abbrev pub frames_after_rule : OverlapRule → ℕ → List Stored → List Stored
frames_after_rule Remove serial fs = frames_without (has_serial serial) fs
frames_after_rule (Shorten dur) serial fs = frames_with_dur serial dur fs
frames_after_rule Keep serial fs = fs

abbrev pub frames_after_overlap : Kind → ℤ → Option Stored → List Stored → List Stored
frames_after_overlap kind p None fs = fs
frames_after_overlap kind p (Some g) fs = frames_after_rule (rule_for kind p g) g.serial fs

-- the track after step 1.13
abbrev pub track_after_overlap : ℤ → TrackState → TrackState
track_after_overlap p t = record t {
  frames = frames_after_overlap t.kind p (overlapped_after t.marks.last_decode p t.frames) t.frames;
}

-- the track after steps 1.14 and 1.15
abbrev pub track_without_older : ℤ → ℤ → TrackState → TrackState
track_without_older p e t = record t { frames = frames_without (is_removed t.marks p e) t.frames }
