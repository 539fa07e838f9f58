-- What can be sought (Media Source Extensions, 6, HTMLMediaElement extensions, seekable).
use Rattle.std.specs.Prelude.{ℤ, pos, Option, Some, None}
use Rattle.mse_base.specs.Moments.{greater_with, lesser_with}
use Rattle.mse_base.specs.declared.span.Span.{Span}
use Rattle.mse_base.specs.declared.ticks.Moment.{Moment}
use Rattle.mse_base.specs.declared.ticks.Moment.TheVariants.{Nan, At, Infinite}

abbrev pub span_to : ℤ → Span
span_to t = record { start = pos 0; end = t }

-- the least span that has the live seekable range and all that is buffered
abbrev pub live_union : Span → Option ℤ → Option ℤ → Span
live_union live first last = record {
  start = lesser_with first live.start;
  end = greater_with last live.end;
}

-- with the duration, the live seekable range, where the first buffered range of the element starts and where the last
-- one ends
abbrev pub seekable_span : Moment → Option Span → Option ℤ → Option ℤ → Option Span
seekable_span Nan live first last = None
seekable_span (At d) live first last = Some (span_to d)
seekable_span Infinite (Some live) first last = Some (live_union live first last)
seekable_span Infinite None first (Some last) = Some (span_to last)
seekable_span Infinite None first None = None
