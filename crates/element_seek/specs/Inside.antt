-- Positions inside the media: from 0 to the duration.
use Rattle.std.specs.Prelude.{◌≡◌, ℤ, pos, ◌≤ℤ◌, false, Option, Some, None}
use Rattle.mse_base.specs.Moments.{is_after}
use Rattle.mse_base.specs.declared.span.Span.{Span}
use Rattle.mse_base.specs.declared.ticks.Moment.{Moment}
use Rattle.element_seek.specs.declared.scene.Scene.{Scene}
use Rattle.element_seek.specs.State.{PlayerState}

-- the time is neither negative nor after the duration
abbrev pub IsInside : Moment → ℤ → Type 0
IsInside duration t = (pos 0 ≤ℤ t) × (is_after t duration ≡ false)

-- the span, if there is one, does not end before it starts, and lies inside
abbrev pub IsSpanInside : Moment → Option Span → Type 0
IsSpanInside duration None = Unit {0}
IsSpanInside duration (Some span) =
    (pos 0 ≤ℤ span.start) × (span.start ≤ℤ span.end) × (is_after span.end duration ≡ false)

-- the buffered range at the position and what can be sought lie inside
pub record HasSpansInside (scene : Scene) : Type 0 where
  pub span : IsSpanInside scene.duration scene.span
  pub seekable : IsSpanInside scene.duration scene.seekable

-- a step keeps a position inside that lay there
abbrev pub IsStillInside : Scene → PlayerState → PlayerState → Type 0
IsStillInside scene old new =
    IsInside scene.duration old.position → IsInside scene.duration new.position
