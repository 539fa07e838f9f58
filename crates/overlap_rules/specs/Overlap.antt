-- Room for a new frame: which frames of its track buffer it removes (Media Source Extensions, coded frame
-- processing, steps 1.13 to 1.15).
use Rattle.std.specs.Prelude.{ℕ, ℤ, pos, ◌+ℤ◌, ◌-ℤ◌, int_le, int_lt, nat_lt, Bool, true, false, ◌&&◌, ◌||◌, List, Option, Some, None, if◌then◌else◌}
use Rattle.std.specs.Ordering.{int_eq}
use Rattle.mse_base.specs.declared.track.Kind.{Kind}
use Rattle.mse_base.specs.declared.track.Kind.TheVariants.{Video, Audio, Other}
use Rattle.track_store.specs.declared.store.Stored.{Stored}
use Rattle.track_store.specs.declared.tracks.Marks.{Marks}
use Rattle.track_store.specs.Frames.{frames_without, frames_with_dur, has_serial, overlapped}
use Rattle.track_store.specs.State.{TrackState}
use Rattle.overlap_rules.specs.declared.room.OverlapRule.{OverlapRule}
use Rattle.overlap_rules.specs.declared.room.OverlapRule.TheVariants.{Remove, Shorten, Keep}

-- step 1.13: what becomes of the overlapped frame. A video frame is removed where the new one begins before
-- the remove window timestamp, a microsecond (141120 ticks) after it. In place of an audio splice frame, an
-- audio frame that begins at the same time is removed, and another is cut to end where the new one begins.
abbrev pub rule_for : Kind → ℤ → Stored → OverlapRule
rule_for Video p f = if int_lt p (f.frame.pts +ℤ pos 141120) then Remove else Keep
rule_for Audio p f = if int_eq f.frame.pts p then Remove else (Shorten (p -ℤ f.frame.pts))
rule_for Other p f = Keep

-- step 1.13: the overlapped frame, which there is only while the last decode timestamp is unset
abbrev pub overlapped_after : Option ℤ → ℤ → List Stored → Option Stored
overlapped_after (Some last) p fs = None
overlapped_after None p fs = overlapped p fs

-- step 1.14: from where on frames are removed. It is the new frame's presentation timestamp while the highest
-- end timestamp is unset, and that timestamp where it is not above the presentation timestamp.
abbrev pub removal_start : Option ℤ → ℤ → Option ℤ
removal_start None p = Some p
removal_start (Some h) p = if int_le h p then Some h else None

-- the frame is older than the group of frames since the last discontinuity, whose frames never remove each
-- other
abbrev pub is_before_group : Option ℕ → Stored → Bool
is_before_group None f = true
is_before_group (Some first) f = nat_lt f.serial first

-- step 1.14: the frame begins from the one time on and before the other, and is older than the group
abbrev pub is_removed_from : Option ℤ → ℤ → Option ℕ → Stored → Bool
is_removed_from None e first f = false
is_removed_from (Some from) e first f =
    int_le from f.frame.pts && int_lt f.frame.pts e && is_before_group first f

abbrev pub is_removed : Marks → ℤ → ℤ → Stored → Bool
is_removed m p e f = is_removed_from (removal_start m.highest_end p) e m.group_first f

-- step 1.15: the frames that are left where some are removed, and the overlapped frame, which its serial
-- names, has this rule
abbrev pub frames_left_by_rule : OverlapRule → ℕ → (Stored → Bool) → List Stored → List Stored
frames_left_by_rule Remove serial removed fs =
    frames_without (λ f. has_serial serial f || removed f) fs
frames_left_by_rule (Shorten dur) serial removed fs =
    frames_without removed (frames_with_dur serial dur fs)
frames_left_by_rule Keep serial removed fs = frames_without removed fs

abbrev pub frames_left_by_overlap : Kind → ℤ → Option Stored → (Stored → Bool) → List Stored
    → List Stored
frames_left_by_overlap kind p None removed fs = frames_without removed fs
frames_left_by_overlap kind p (Some g) removed fs =
    frames_left_by_rule (rule_for kind p g) g.serial removed fs

-- the track buffer with room for a frame from p to e
abbrev pub track_with_room : ℤ → ℤ → TrackState → TrackState
track_with_room p e t = record t {
  frames =
      frames_left_by_overlap t.kind p (overlapped_after t.marks.last_decode p t.frames)
      (is_removed t.marks p e) t.frames;
}
