-- Tracks and samples whose numbers fit the fields that they are written in.
use Rattle.std.specs.Prelude.{◌≡◌, ℕ, ◌<◌, ◌^◌, ℤ, length, FitsSigned}
use Rattle.std.specs.List.{AllByRecursion}
use Rattle.std.specs.Int.{w32}
use Rattle.bmff_write.specs.declared.track_out.TrackOut.{TrackOut}
use Rattle.bmff_write.specs.declared.traf_out.SampleOut.{SampleOut}
use Rattle.bmff_write.specs.declared.traf_out.TrafOut.{TrafOut}

pub record IsFittingEdit (edit : ℕ × ℤ) : Type 0 where
  pub duration : edit.0 < 2 ^ 32
  pub media_time : FitsSigned w32 edit.1

pub record IsFittingTrack (t : TrackOut) : Type 0 where
  pub scale : t.scale < 2 ^ 32
  pub codec : length t.codec ≡ 4
  pub edits : AllByRecursion IsFittingEdit t.edits

pub record IsFittingSample (s : SampleOut) : Type 0 where
  pub duration : s.duration < 2 ^ 32
  pub offset : FitsSigned w32 s.offset

pub record IsFittingTraf (t : TrafOut) : Type 0 where
  pub decode : t.decode < 2 ^ 64
  pub samples : AllByRecursion IsFittingSample t.samples
