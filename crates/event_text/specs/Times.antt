-- Times and ranges of time, in ticks.
use Rattle.std.specs.Prelude.{ℕ, List, [], ◌∷◌, ◌++◌, map, codes, Option, Some, None}
use Rattle.std.specs.Fmt.{signed_decimal}
use Rattle.mse_base.specs.declared.span.Span.{Span}
use Rattle.mse_base.specs.declared.ticks.Moment.{Moment}
use Rattle.mse_base.specs.declared.ticks.Moment.TheVariants.{Nan, At, Infinite}
use Rattle.event_text.specs.Words.{words}

-- a time as a decimal number of ticks, with a minus sign where it is negative
abbrev pub moment_text : Moment → List ℕ
moment_text Nan = codes "nan"
moment_text (At t) = signed_decimal t
moment_text Infinite = codes "inf"

-- the ticks from the start on and below the end
abbrev pub span_text : Span → List ℕ
span_text s =
    codes "[" ++ (signed_decimal s.start ++ (codes "," ++ (signed_decimal s.end ++ codes ")")))

-- the same with its end
abbrev pub closed_text : Span → List ℕ
closed_text s =
    codes "[" ++ (signed_decimal s.start ++ (codes "," ++ (signed_decimal s.end ++ codes "]")))

-- the spans parted by one space
abbrev pub ranges_text : List Span → List ℕ
ranges_text [] = codes "none"
ranges_text (span ∷ spans) = words (map span_text (span ∷ spans))

abbrev pub range_text : Option Span → List ℕ
range_text None = codes "none"
range_text (Some span) = closed_text span
