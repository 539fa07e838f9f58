-- What is asked of frames.
use Rattle.std.specs.Prelude.{nat_lt, Bool}
use Rattle.track_store.specs.declared.store.Stored.{Stored}
use Rattle.track_store.specs.Frames.{with_dur}
use Rattle.track_index.specs.declared.frames.SerialBelow.{SerialBelow}
use Rattle.track_index.specs.declared.frames.NewDuration.{NewDuration}

-- the frame's serial is lower
abbrev pub is_serial_below : SerialBelow → Stored → Bool
is_serial_below s f = nat_lt f.serial s.serial

-- the frame with another duration
abbrev pub with_new_dur : NewDuration → Stored → Stored
with_new_dur n f = with_dur n.dur f
