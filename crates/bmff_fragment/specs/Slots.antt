-- What holds of the slots of a plan.
use Rattle.std.specs.Prelude.{◌≤◌, ◌<◌, ◌^◌, pos, ◌≤ℤ◌, IsTrue, IsSomeAnd, List}
use Rattle.mse_base.specs.declared.track.TrackInfo.{TrackInfo}
use Rattle.bmff_fragment.specs.declared.slot.Slot.{Slot}
use Rattle.mse_base.specs.Moments.{is_media}
use Rattle.bmff_fragment.specs.Plans.{track_with_id}

-- a slot whose data do not end before their start and are not far away, and which does not last a negative time
pub record IsWellFormed (s : Slot) : Type 0 where
  pub ordered : s.start ≤ s.end
  pub small : s.end < 2 ^ 60
  pub lasting : pos 0 ≤ℤ s.dur

-- and which is of a video or audio track of the presentation
pub record IsSlotOf (tracks : List TrackInfo) (s : Slot) : Type 0 where
  pub well_formed : IsWellFormed s
  pub media : IsSomeAnd (track_with_id tracks s.track_id) (λ t. IsTrue (is_media t.kind))
