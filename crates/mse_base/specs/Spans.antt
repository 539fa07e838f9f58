-- Ranges of time. Lists of spans are told by the sets of ticks that they cover.
use Rattle.std.specs.Prelude.{◌≡◌, ℕ, ℤ, pos, ◌+ℤ◌, ◌-ℤ◌, ◌<ℤ◌, ◌≤ℤ◌, int_lt, int_le, Bool, true, false, not, ◌&&◌, ◌||◌, List, [], ◌∷◌, ◌++◌, Option, Some, None}
use Rattle.std.specs.Int.{int_max}
use Rattle.mse_base.specs.declared.span.Span.{Span}

-- what contracts see of ranges: the spans, and how many more there is room for
pub record RangesView : Type 0 where
  pub spans : List Span
  pub spare : ℕ

-- the span has the tick: its start is in it, and its end is not
abbrev pub has_tick : Span → ℤ → Bool
has_tick s t = int_le s.start t && int_lt t s.end

-- some span has the tick
abbrev pub has_tick_in : List Span → ℤ → Bool
has_tick_in [] t = false
has_tick_in (s ∷ ss) t = has_tick s t || has_tick_in ss t

-- the first span, if any, begins after e
abbrev pub IsFirstStartAfter : ℤ → List Span → Type 0
IsFirstStartAfter e [] = Unit {0}
IsFirstStartAfter e (s ∷ ss) = e <ℤ s.start

-- ascending, none empty, no two overlapping or touching (HTML, "normalized TimeRanges object")
abbrev pub IsNormalized : List Span → Type 0
IsNormalized [] = Unit {0}
IsNormalized (s ∷ ss) = (s.start <ℤ s.end) × IsFirstStartAfter s.end ss × IsNormalized ss

-- the normalized ranges whose ticks are just those of the given spans
pub record IsUnion (given joined : List Span) : Type 0 where
  pub same : (t : ℤ) → has_tick_in joined t ≡ has_tick_in given t
  pub normalized : IsNormalized joined

-- the normalized ranges whose ticks are just those that both lists have
pub record IsIntersection (left right met : List Span) : Type 0 where
  pub same : (t : ℤ) → has_tick_in met t ≡ (has_tick_in left t && has_tick_in right t)
  pub normalized : IsNormalized met

-- the normalized ranges whose ticks are those of the given spans, but for those from `from` on and below `to`
pub record IsDifference (from to : ℤ) (given left : List Span) : Type 0 where
  pub same : (t : ℤ) →
      has_tick_in left t ≡ (has_tick_in given t && not (int_le from t && int_lt t to))
  pub normalized : IsNormalized left

-- the tick is one of the spans, or lies between two of their ticks with at most `gap` ticks between the two; a
-- negative gap is as 0
pub record IsBridged (gap : ℤ) (given : List Span) (t : ℤ) : Type 0 where
  pub from : ℤ
  pub to : ℤ
  pub has_from : has_tick_in given from ≡ true
  pub has_to : has_tick_in given to ≡ true
  pub above : from ≤ℤ t
  pub below : t ≤ℤ to
  pub near : to ≤ℤ (from +ℤ int_max gap (pos 0) +ℤ pos 1)

-- the normalized ranges whose ticks are just the bridged ticks of the given spans
pub record IsBridging (gap : ℤ) (given bridged : List Span) : Type 0 where
  pub no_more : (t : ℤ) → has_tick_in bridged t ≡ true → IsBridged gap given t
  pub no_less : (t : ℤ) → IsBridged gap given t → has_tick_in bridged t ≡ true
  pub normalized : IsNormalized bridged

-- the tick lies between two neighbours of the ranges that are at most `gap` ticks apart
pub record IsInGap (gap : ℤ) (ranges : List Span) (t : ℤ) : Type 0 where
  pub front : List Span
  pub left : Span
  pub right : Span
  pub back : List Span
  pub neighbours : ranges ≡ front ++ left ∷ right ∷ back
  pub short : (right.start -ℤ left.end) ≤ℤ gap
  pub above : left.end ≤ℤ t
  pub below : t <ℤ right.start

-- the time is in the span or at its end
abbrev pub reaches : ℤ → Span → Bool
reaches t s = int_le s.start t && int_le t s.end

-- the last of a span and others
abbrev pub last_from : Span → List Span → Option Span
last_from s [] = Some s
last_from s (r ∷ rs) = last_from r rs

-- the last of some spans
abbrev pub last_of : List Span → Option Span
last_of [] = None
last_of (s ∷ ss) = last_from s ss

-- the first of some spans
abbrev pub first_of : List Span → Option Span
first_of [] = None
first_of (s ∷ ss) = Some s

-- the span ends after the time
abbrev pub has_end_after : ℤ → Span → Bool
has_end_after t s = int_lt t s.end

-- the span begins before the time
abbrev pub has_start_before : ℤ → Span → Bool
has_start_before t s = int_lt s.start t
