-- Lists of the coded frames of one track, in the order in which they were appended.
use Rattle.std.specs.Prelude.{◌<◌, ◌^◌, ℕ, ℤ, pos, ◌≤ℤ◌, ◌+ℤ◌, ◌+◌, take, int_le, int_lt, Bool, true, false, not, ◌&&◌, ◌||◌, List, [], ◌∷◌, if◌then◌else◌, nat_lt, nat_eq, sum_by, length, map, filter, fold, Option, Some, None, slice_get, ⊤}
use Rattle.std.specs.List.{AllByRecursion}
use Rattle.mse_base.specs.Time.{IsTick}
use Rattle.mse_base.specs.Moments.{is_before}
use Rattle.mse_base.specs.Bridging.{bridged_ranges}
use Rattle.mse_base.specs.declared.span.Span.{Span}
use Rattle.mse_base.specs.declared.ticks.Moment.{Moment}
use Rattle.track_store.specs.declared.store.Stored.{Stored}

-- what contracts see of a store: its frames, in order of appending, the gap across which its
-- ranges join, and for how many more frames there is room
pub record StoreState : Type 0 where
  pub frames : List Stored
  pub gap : ℤ
  pub spare : ℕ

-- the bytes of all payloads
abbrev pub bytes_of : List Stored → ℕ
bytes_of fs = sum_by (λ f. length f.frame.payload) fs

-- the frame has this serial
abbrev pub has_serial : ℕ → Stored → Bool
has_serial serial f = nat_eq f.serial serial

-- the frame's presentation timestamp is at or after `from` and before `to`, and its serial is below a number
abbrev pub is_within : ℤ → Moment → ℕ → Stored → Bool
is_within from to below f =
    int_le from f.frame.pts && is_before f.frame.pts to && nat_lt f.serial below

-- the frame's presentation timestamp is at or after `start` and before `to`
abbrev pub is_between : ℤ → Moment → Stored → Bool
is_between start to f = int_le start f.frame.pts && is_before f.frame.pts to

-- the time falls within the frame's presentation interval
abbrev pub is_in_frame : ℤ → Stored → Bool
is_in_frame t f = int_le f.frame.pts t && int_lt t (f.frame.pts +ℤ f.frame.dur)

-- what stays of a list where the named frames are removed with their decoding dependencies: a frame goes
-- where it is named, and where it is no random access point and the frame appended before it goes,
-- which `gone` says of the first (Media Source Extensions, coded frame processing, steps 1.14 and 1.15,
-- and coded frame removal, steps 3.3 and 3.4)
abbrev pub frames_left : Bool → (Stored → Bool) → List Stored → List Stored
frames_left gone named [] = []
frames_left gone named (f ∷ fs) =
    if named f || (gone && not f.frame.sync)
    then frames_left true named fs
    else (f ∷ frames_left false named fs)

-- the list without the named frames, and without each frame that was appended between one of them and the
-- next random access point
abbrev pub frames_without : (Stored → Bool) → List Stored → List Stored
frames_without named fs = frames_left false named fs

-- a list from its first random access point on
abbrev pub from_sync : List Stored → List Stored
from_sync [] = []
from_sync (f ∷ fs) = if f.frame.sync then (f ∷ fs) else from_sync fs

-- the frame with another duration
abbrev pub with_dur : ℤ → Stored → Stored
with_dur dur f = record f { frame = record f.frame { dur = dur } }

-- the frame of this serial gets another duration
abbrev pub frames_with_dur : ℕ → ℤ → List Stored → List Stored
frames_with_dur serial dur fs = map (λ f. if has_serial serial f then with_dur dur f else f) fs

-- of two frames the one that begins later, at a tie the second
abbrev pub later_frame : Option Stored → Stored → Option Stored
later_frame None f = Some f
later_frame (Some g) f = if int_le g.frame.pts f.frame.pts then Some f else Some g

-- the overlapped frame: the one that begins last of those whose presentation interval holds the time, at a
-- tie the later appended (Media Source Extensions, coded frame processing, step 1.13)
abbrev pub overlapped : ℤ → List Stored → Option Stored
overlapped t fs = fold later_frame None (filter (is_in_frame t) fs)

-- the last place of a list whose element passes a test, where the first element passes if `first`, and the
-- last place in the rest is known
abbrev pub last_place_after : Bool → Option ℕ → Option ℕ
last_place_after first (Some i) = Some (i + 1)
last_place_after true None = Some 0
last_place_after false None = None

abbrev pub last_place : {X : Type 0} → (X → Bool) → List X → Option ℕ
last_place p [] = None
last_place p (x ∷ xs) = last_place_after (p x) (last_place p xs)

-- the place of the last random access point among the frames up to a place
abbrev pub group_start_of : ℕ → List Stored → Option ℕ
group_start_of i fs = last_place (λ f. f.frame.sync) (take (i + 1) fs)

-- the frame at a place that was found
abbrev pub frame_at : List Stored → Option ℕ → Option Stored
frame_at fs None = None
frame_at fs (Some i) = slice_get fs i

-- where the frames begin
abbrev pub starts : List Stored → List ℤ
starts fs = map (λ f. f.frame.pts) fs

-- where the frames end
abbrev pub ends : List Stored → List ℤ
ends fs = map (λ f. f.frame.pts +ℤ f.frame.dur) fs

-- where the random access points begin that are not before a moment
abbrev pub sync_times_from : Moment → List Stored → List ℤ
sync_times_from t fs = starts (filter (λ f. f.frame.sync && not (is_before f.frame.pts t)) fs)

-- the ticks of a frame: its presentation interval
abbrev pub interval : Stored → Span
interval f = record { start = f.frame.pts; end = f.frame.pts +ℤ f.frame.dur }

abbrev pub intervals : List Stored → List Span
intervals fs = map interval fs

-- the track buffer ranges of frames, joined across gaps of at most so many ticks
abbrev pub ranges_of : ℤ → List Stored → List Span
ranges_of gap fs = bridged_ranges gap (intervals fs)

-- each serial is less than all later ones
abbrev pub IsAscending : List Stored → Type 0
IsAscending [] = ⊤
IsAscending (f ∷ fs) = AllByRecursion (λ g. f.serial < g.serial) fs × IsAscending fs

-- the frame does not end before it begins, and its end is a time in range
abbrev pub IsTimed : Stored → Type 0
IsTimed f = (pos 0 ≤ℤ f.frame.dur) × IsTick (f.frame.pts +ℤ f.frame.dur)

-- what a store keeps of its frames: serials ascend, and the bytes can be counted
pub record HasFrameInvariants (fs : List Stored) : Type 0 where
  pub ascending : IsAscending fs
  pub small : bytes_of fs < 2 ^ 62
