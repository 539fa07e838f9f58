-- What a plain store keeps.
use Rattle.std.specs.Prelude.{◌≡◌, ℕ, ℤ, pos, ◌≤ℤ◌, ◌≤◌, List, length}
use Rattle.std.specs.List.{AllByRecursion}
use Rattle.mse_base.specs.declared.span.Span.{Span}
use Rattle.track_store.specs.declared.store.Stored.{Stored}
use Rattle.track_store.specs.Frames.{HasFrameInvariants, IsTimed, ranges_of}

-- the ranges are those of the frames, and have room for one range a frame
pub record IsPlainStore (frames : List Stored) (ranges : List Span) (gap : ℤ) (room : ℕ)
    : Type 0 where
  pub kept : HasFrameInvariants frames
  pub timed : AllByRecursion IsTimed frames
  pub gap_from_zero : pos 0 ≤ℤ gap
  pub joined : ranges ≡ ranges_of gap frames
  pub roomy : length frames ≤ room
