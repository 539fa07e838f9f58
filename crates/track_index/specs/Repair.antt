-- Ranges that are repaired.
use Rattle.std.specs.Prelude.{◌≡◌, ◌≤◌, ℕ, ℤ, pos, ◌+ℤ◌, ◌≤ℤ◌, ◌<ℤ◌, ◌||◌, Bool, true, false, List, [], ◌∷◌, length, map, Option, Some, None, ◌⊎◌}
use Rattle.std.specs.List.{AllByRecursion}
use Rattle.mse_base.specs.Time.{IsTick}
use Rattle.mse_base.specs.declared.span.Span.{Span}
use Rattle.mse_base.specs.Bridging.{IsRanges, is_near, is_near_any}
use Rattle.track_index.specs.declared.entry.OrderEntry.{OrderEntry}
use Rattle.track_index.specs.declared.key.Key.{Key}
use Rattle.track_index.specs.Order.{span_of, end_of}
use Rattle.track_index.specs.Keyed.{is_before_key, IsKeyed}

-- the ends of the entries are times in range
abbrev pub AreTimed : List OrderEntry → Type 0
AreTimed os = AllByRecursion (λ e. IsTick (e.pts +ℤ e.dur)) os

-- ranges that can be repaired by the entries, with room for one range an entry
pub record AreRepairable (gap : ℤ) (os : List OrderEntry) (rs : List Span) (most : ℕ) : Type 0 where
  pub gap_from_zero : pos 0 ≤ℤ gap
  pub ranges : IsRanges gap rs
  pub room : length os ≤ most
  pub keyed : IsKeyed os
  pub timed : AreTimed os

-- the ranges have all ticks of the spans, and no others but near some holes
abbrev pub AreBetween : ℤ → List Span → List Span → List Span → Type 0
AreBetween gap spans holes rs =
    (t : ℤ) → (is_near_any gap t spans ≡ true → is_near_any gap t rs ≡ true)
    × (is_near_any gap t rs ≡ true
    → (is_near_any gap t spans || is_near_any gap t holes) ≡ true)

-- an entry that passes the test ends at a time
abbrev pub HasEndAt : (OrderEntry → Bool) → ℤ → List OrderEntry → Type 0
HasEndAt q end [] = ⊥
HasEndAt q end (o ∷ os) = ((q o ≡ true) × (end_of o ≡ end)) ⊎ HasEndAt q end os

-- what the entries that stand before a key have past its time: where it begins at that time, and the
-- greatest of their ends
abbrev pub IsPast : Key → Option Span → List OrderEntry → Type 0
IsPast key None os = AllByRecursion (λ o. is_before_key key o ≡ true → (end_of o) ≤ℤ key.mark) os
IsPast key (Some s) os =
    (s.start ≡ key.mark) × (s.start <ℤ s.end)
    × AllByRecursion (λ o. is_before_key key o ≡ true → (end_of o) ≤ℤ s.end) os
    × HasEndAt (is_before_key key) s.end os

-- ranges that have what was there, and no tick beside it that no entry has
pub record AreGrownBy (gap : ℤ) (os : List OrderEntry) (rs new : List Span) : Type 0 where
  pub kept : (t : ℤ) → is_near_any gap t rs ≡ true → is_near_any gap t new ≡ true
  pub only : (t : ℤ) → is_near_any gap t new ≡ true
      → (is_near_any gap t rs || is_near_any gap t (map span_of os)) ≡ true

-- the ranges have the ticks of the entries that stand at or behind the key and begin before `high`
abbrev pub HasTicksBetween : ℤ → Key → ℤ → List OrderEntry → List Span → Type 0
HasTicksBetween gap key high os rs =
    AllByRecursion (λ o. is_before_key key o ≡ false → o.pts <ℤ high
    → (t : ℤ) → is_near gap t (span_of o) ≡ true → is_near_any gap t rs ≡ true) os

-- the ranges have what the entries that stand before the key have past its time
abbrev pub HasTicksPast : ℤ → Key → List OrderEntry → List Span → Type 0
HasTicksPast gap key os rs =
    (t : ℤ) → key.mark ≤ℤ t
    → AllByRecursion (λ o. is_before_key key o ≡ true → key.mark <ℤ end_of o
    → is_near gap t (span_of o) ≡ true → is_near_any gap t rs ≡ true) os
