-- Look-ups in ranges of which the last one lasts to an end, by look-ups in the ranges themselves. So the buffered
-- ranges of an ended source are looked up without memory.
use Rattle.std.specs.Prelude.{ℤ, ◌≤ℤ◌, int_lt, Bool, true, false, List, Option, Some, None, option_map, if◌then◌else◌}
use Rattle.std.specs.Int.{int_max}
use Rattle.mse_base.specs.declared.span.Span.{Span}
use Rattle.mse_base.specs.Moments.{greatest}
use Rattle.mse_base.specs.Spans.{reaches}
use Rattle.track_buffers.specs.Buffered.{last_ends}

-- a range that lasts to an end, if it ends before
abbrev pub span_up_to : ℤ → Span → Span
span_up_to e s = record { start = s.start; end = int_max s.end e }

-- the last range, where it lasts to an end if there is one
abbrev pub last_up_to_end : Option ℤ → Option Span → Option Span
last_up_to_end None last = last
last_up_to_end (Some e) last = option_map (span_up_to e) last

-- the range, if it has the time or ends at it
abbrev pub if_reaches : ℤ → Span → Option Span
if_reaches t s = if reaches t s then Some s else None

-- the range that holds a time, where the last range lasts to an end: before the last range begins it is the one that
-- held the time, and from there on only the last can
abbrev pub held_up_to : ℤ → ℤ → Option Span → Option Span → Option Span
held_up_to t e None held = None
held_up_to t e (Some last) held =
    if int_lt t last.start then held else if_reaches t (span_up_to e last)

-- the same where there is an end, and else the range that held the time
abbrev pub held_with_end : ℤ → Option ℤ → Option Span → Option Span → Option Span
held_with_end t None last held = held
held_with_end t (Some e) last held = held_up_to t e last held

-- the end that the last range of each list lasts to: where the source is ended, the highest of all, if there is one
abbrev pub common_end : Bool → List (List Span) → Option ℤ
common_end false rs = None
common_end true rs = greatest (last_ends rs)

-- the range begins at or after a time, and ends at or before another
abbrev pub IsSpanWithin : ℤ → ℤ → Span → Type 0
IsSpanWithin a b s = (a ≤ℤ s.start) × (s.end ≤ℤ b)
