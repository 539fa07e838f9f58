-- How much data an element has at its position (HTML, media elements, ready states).
use Rattle.std.specs.Prelude.{◌*◌, ℤ, pos, ◌-ℤ◌, int_le, Bool, ◌||◌, Option, Some, None, if◌then◌else◌}
use Rattle.std.specs.Ordering.{int_eq}
use Rattle.mse_base.specs.Time.{SECOND}
use Rattle.mse_base.specs.Moments.{is_same_moment}
use Rattle.mse_base.specs.declared.span.Span.{Span}
use Rattle.mse_base.specs.declared.ticks.Moment.{Moment}
use Rattle.mse_base.specs.declared.ticks.Moment.TheVariants.{At}
use Rattle.mse_calls.specs.declared.answers.Level.{Level}
use Rattle.mse_calls.specs.declared.answers.Level.TheVariants.{Metadata, Current, Future, Enough}

-- the range goes on for 3 seconds or more from the position, or ends at the duration
abbrev pub has_enough_left : Span → ℤ → Moment → Bool
has_enough_left range position duration =
    int_le (pos (3 * SECOND)) (range.end -ℤ position) || is_same_moment (At range.end) duration

-- the level, by the buffered range that has the position or ends at it, if there is one
abbrev pub level_at : Option Span → ℤ → Moment → Level
level_at None position duration = Metadata
level_at (Some range) position duration =
    if int_eq position range.end then Current
    else (if has_enough_left range position duration then Enough else Future)
