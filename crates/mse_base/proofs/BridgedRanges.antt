-- Bridged ranges with a span joined in are the bridged ranges of all.
use Rattle.std.proofs.Common.{◌≡◌, ◌∙◌, ℤ, pos, ◌≤ℤ◌, ◌||◌, List, [], ◌∷◌, ◌++◌, sym, ap}
use Rattle.mse_base.specs.declared.span.Span.{Span}
use Rattle.mse_base.specs.Spans.{IsBridging, IsDifference}
use Rattle.mse_base.specs.Bridging.{ranges_with, is_near, is_near_any, ranges_without, IsRanges}
use Rattle.mse_base.proofs.Sets.{or_swap, or_none, covers-carved}
use Rattle.mse_base.proofs.JoinedSpans.{ranges_join_in, times_join_in}
use Rattle.mse_base.proofs.Extended.{bridged_by, normalized_ranges}
use Rattle.mse_base.proofs.CarvedRanges.{nears-append}

nears-push : (gap t : ℤ) (rs : List Span) (s : Span) → is_near_any gap t (rs ++ s ∷ []) ≡ (is_near gap t s || is_near_any gap t rs)
nears-push gap t rs s = nears-append gap t rs (s ∷ []) ∙ ap (λ b. is_near_any gap t rs || b) (or_none (is_near gap t s)) ∙ or_swap (is_near_any gap t rs) (is_near gap t s)

pub bridged_join_in : (gap : ℤ) (rs : List Span) (s : Span) → pos 0 ≤ℤ gap → IsRanges gap rs → IsBridging gap (rs ++ s ∷ []) (ranges_with gap rs s)
bridged_join_in gap rs s g h =
    bridged_by gap (rs ++ s ∷ []) (ranges_with gap rs s) g (ranges_join_in gap rs s g h)
    (λ t. times_join_in gap t rs s h ∙ sym (nears-push gap t rs s))

pub cut_out_carved : (gap a b : ℤ) (rs : List Span) → pos 0 ≤ℤ gap → IsRanges gap (ranges_without a b rs) → IsDifference a b rs (ranges_without a b rs)
cut_out_carved gap a b rs g h = record { same = λ t. covers-carved a b t rs; normalized = normalized_ranges gap (ranges_without a b rs) g h }
