-- The times of a coded frame (Media Source Extensions, coded frame processing, steps 1.1 to 1.7). Where a time
-- or an offset would be out of range, there are none.
use Rattle.std.specs.Prelude.{◌≡◌, ℤ, pos, ◌+ℤ◌, ◌-ℤ◌, ◌*ℤ◌, int_lt, Bool, true, false, ◌&&◌, ◌||◌, Option, Some, None, is_some, if◌then◌else◌, option_and_then}
use Rattle.mse_base.specs.declared.frame.CodedFrame.{CodedFrame}
use Rattle.mse_base.specs.Time.{IsTick, tick}
use Rattle.track_store.specs.declared.tracks.Marks.{Marks}
use Rattle.track_store.specs.declared.tracks.Settings.{Settings}
use Rattle.frame_rules.specs.declared.timing.Timing.{Timing}

infixl 10 ◌>>=◌
abbrev pub ◌>>=◌ : {A B : Type 0} → Option A → (A → Option B) → Option B
o >>= f = option_and_then f o

-- step 1.1: a timestamp of a frame, which is 0 where timestamps are generated
abbrev pub raw_time : Settings → ℤ → ℤ
raw_time s t = if s.generate then pos 0 else t

-- step 1.3 has something to do: in mode "sequence" a group start timestamp is set
abbrev pub has_group_start : Settings → Bool
has_group_start s = s.sequence && is_some s.group_start

-- step 1.3: the offset becomes the group start timestamp minus the presentation timestamp, the group end
-- timestamp becomes the group start timestamp, and that is unset
abbrev pub offset_to : Settings → Option ℤ → ℤ → Option Settings
offset_to s None p = Some s
offset_to s (Some start) p = do
  offset ← tick (start -ℤ p)
  Some (record s { offset = offset; group_end = start; group_start = None })

abbrev pub settings_at_group_start : Settings → ℤ → Option Settings
settings_at_group_start s p = if s.sequence then offset_to s s.group_start p else Some s

-- steps 1.1 to 1.4, and 1.7: both timestamps with the offset, and the frame end timestamp
abbrev pub timing_in_pass : Settings → CodedFrame → Option Timing
timing_in_pass s f = do
  t ← settings_at_group_start s (raw_time s f.pts)
  p ← tick (raw_time s f.pts +ℤ t.offset)
  d ← tick (raw_time s f.dts +ℤ t.offset)
  e ← tick (p +ℤ f.dur)
  Some
      (record {
        pts = p;
        dts = d;
        end = e;
        settings = t;
        starts_group = has_group_start s;
        discontinuity = false;
      })

-- step 1.6: the decode timestamp is less than the last decode timestamp, or their difference is more than
-- twice the last frame duration
abbrev pub is_leap : Option ℤ → Option ℤ → ℤ → Bool
is_leap (Some last) (Some dur) d = int_lt d last || int_lt (pos 2 *ℤ dur) (d -ℤ last)
is_leap (Some last) None d = false
is_leap None dur d = false

abbrev pub is_discontinuous : Marks → ℤ → Bool
is_discontinuous m d = is_leap m.last_decode m.last_duration d

-- step 1.6.1: in mode "sequence" the group start timestamp becomes the group end timestamp, and in mode
-- "segments" the group end timestamp becomes the presentation timestamp
abbrev pub settings_after_discontinuity : Settings → ℤ → Settings
settings_after_discontinuity s p =
    if s.sequence then record s { group_start = Some s.group_end } else record s { group_end = p }

-- steps 1.1 to 1.7: after a discontinuity they start over with all marks unset, so that there is no second
abbrev pub timing_of : Settings → Marks → CodedFrame → Option Timing
timing_of s m f = do
  timing ← timing_in_pass s f
  if is_discontinuous m timing.dts
      then (do
        v ← timing_in_pass (settings_after_discontinuity timing.settings timing.pts) f
        Some (record v { discontinuity = true }))
      else Some timing

-- step 1.7: the frame end timestamp is the sum of the presentation timestamp and the frame duration
abbrev pub IsTimingOf : CodedFrame → Timing → Type 0
IsTimingOf f timing = (timing.end ≡ timing.pts +ℤ f.dur) × IsTick (timing.pts +ℤ f.dur)
