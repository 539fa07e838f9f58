-- Ranges as lists: a span is joined in, and a hole is cut out.
use Rattle.std.specs.Prelude.{◌≡◌, ◌⊎◌, ℤ, ◌+ℤ◌, ◌<ℤ◌, int_le, int_lt, Bool, false, not, ◌&&◌, ◌||◌, List, [], ◌∷◌, ◌++◌, fold, if◌then◌else◌}
use Rattle.std.specs.Int.{int_min, int_max}
use Rattle.std.specs.List.{AllByRecursion}
use Rattle.mse_base.specs.declared.span.Span.{Span}

-- the span has no tick
abbrev pub is_empty : Span → Bool
is_empty s = int_le s.end s.start

-- the first span ends more than the gap before the second begins
abbrev pub is_far_before : ℤ → Span → Span → Bool
is_far_before gap s r = int_lt (s.end +ℤ gap) r.start

-- the least span round both
abbrev pub span_round : Span → Span → Span
span_round s r = record { start = int_min s.start r.start; end = int_max s.end r.end }

-- ranges with a span joined in that is not empty: it becomes one with each that is not more than the gap away
abbrev pub ranges_with_lasting : ℤ → Span → List Span → List Span
ranges_with_lasting gap s [] = s ∷ []
ranges_with_lasting gap s (r ∷ rs) =
    if is_far_before gap s r then (s ∷ r ∷ rs)
    else (if is_far_before gap r s then (r ∷ ranges_with_lasting gap s rs)
    else ranges_with_lasting gap (span_round s r) rs)

-- ranges with a span joined in
abbrev pub ranges_with : ℤ → List Span → Span → List Span
ranges_with gap rs s = if is_empty s then rs else ranges_with_lasting gap s rs

-- ranges with some spans joined in, one after another
abbrev pub ranges_with_all : ℤ → List Span → List Span → List Span
ranges_with_all gap rs spans = fold (ranges_with gap) rs spans

-- the bridged ranges of spans
abbrev pub bridged_ranges : ℤ → List Span → List Span
bridged_ranges gap spans = ranges_with_all gap [] spans

-- ascending, none empty, and each more than the gap apart from the next
abbrev pub IsRanges : ℤ → List Span → Type 0
IsRanges gap [] = Unit {0}
IsRanges gap (r ∷ rs) =
    (r.start <ℤ r.end) × AllByRecursion (λ q. (r.end +ℤ gap) <ℤ q.start) rs × IsRanges gap rs

-- the span from a to b, if it has a tick
abbrev pub span_between : ℤ → ℤ → List Span
span_between a b = if int_lt a b then (record { start = a; end = b } ∷ []) else []

-- what is left of spans without the ticks from a on and below b
abbrev pub ranges_without : ℤ → ℤ → List Span → List Span
ranges_without a b [] = []
ranges_without a b (s ∷ ss) =
    span_between s.start (int_min s.end a)
    ++ (span_between (int_max s.start b) s.end ++ ranges_without a b ss)

-- the span is not empty, and has the tick if it lasts longer by the gap
abbrev pub is_near : ℤ → ℤ → Span → Bool
is_near gap t s = not (is_empty s) && (int_le s.start t && int_lt t (s.end +ℤ gap))

-- some span does so
abbrev pub is_near_any : ℤ → ℤ → List Span → Bool
is_near_any gap t [] = false
is_near_any gap t (s ∷ ss) = is_near gap t s || is_near_any gap t ss

-- s is taken off the front of one of two lists
abbrev pub IsHeadOfOne : Span → List Span → List Span → List Span → List Span → Type 0
IsHeadOfOne s xs ys us vs = ((xs ≡ s ∷ us) × (vs ≡ ys)) ⊎ ((ys ≡ s ∷ vs) × (us ≡ xs))
