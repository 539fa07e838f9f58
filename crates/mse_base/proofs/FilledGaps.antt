-- What a gap fills: a negative one no more than 0 does.
use Rattle.std.proofs.Common.{◌≡◌, ◌∙◌, ℤ, pos, ◌+ℤ◌, ◌≤ℤ◌, List, refl, ap, subst, arith}
use Rattle.std.specs.Int.{int_max}
use Rattle.std.specs.Ordering.{int_cmp, ord_max}
use Rattle.std.proofs.lemmas.Int.{ints}
use Rattle.mse_base.specs.declared.span.Span.{Span}
use Rattle.mse_base.specs.Spans.{IsNormalized, IsUnion, IsBridged, IsBridging}
use Rattle.mse_base.specs.Bridging.{bridged_ranges}
use Rattle.mse_base.proofs.Compared.{max_is}
use Rattle.mse_base.proofs.Extended.{bridged_law}
use Rattle.mse_base.proofs.Neighbours.{joined_of_bridged, one_joined}

pub from_zero : (gap : ℤ) → pos 0 ≤ℤ int_max gap (pos 0)
from_zero gap = grind (arith, ints)

no_wider : (gap : ℤ) → gap ≤ℤ pos 0 → int_max gap (pos 0) ≡ pos 0
no_wider gap h = grind (arith, ints)

-- normalized ranges are their own joined ranges
own_joined : (rs : List Span) → IsNormalized rs → IsUnion rs rs
own_joined rs n = record { same = λ t. refl; normalized = n }

pub unchanged : (gap : ℤ) (rs : List Span) → IsNormalized rs → gap ≤ℤ pos 0 → bridged_ranges (int_max gap (pos 0)) rs ≡ rs
unchanged gap rs n h =
    let b : IsBridging (pos 0) rs (bridged_ranges (int_max gap (pos 0)) rs) = subst (λ (g : ℤ). IsBridging g rs (bridged_ranges (int_max gap (pos 0)) rs)) (no_wider gap h) (bridged_law (int_max gap (pos 0)) rs (from_zero gap)) in
    one_joined rs _ rs (joined_of_bridged (pos 0) rs _ (omega (arith, ints)) b) (own_joined rs n)

-- a gap below 0 fills what 0 does
of_wide : (gap from to : ℤ) → to ≤ℤ (from +ℤ int_max (int_max gap (pos 0)) (pos 0) +ℤ pos 1) → to ≤ℤ (from +ℤ int_max gap (pos 0) +ℤ pos 1)
of_wide gap from to h = grind (arith, ints)

to_wide : (gap from to : ℤ) → to ≤ℤ (from +ℤ int_max gap (pos 0) +ℤ pos 1) → to ≤ℤ (from +ℤ int_max (int_max gap (pos 0)) (pos 0) +ℤ pos 1)
to_wide gap from to h = grind (arith, ints)

bridged_from : (gap : ℤ) (given : List Span) (t : ℤ) → IsBridged (int_max gap (pos 0)) given t → IsBridged gap given t
bridged_from gap given t b = record { from = b.from; to = b.to; has_from = b.has_from; has_to = b.has_to; above = b.above; below = b.below; near = of_wide gap b.from b.to b.near }

bridged_to : (gap : ℤ) (given : List Span) (t : ℤ) → IsBridged gap given t → IsBridged (int_max gap (pos 0)) given t
bridged_to gap given t b = record { from = b.from; to = b.to; has_from = b.has_from; has_to = b.has_to; above = b.above; below = b.below; near = to_wide gap b.from b.to b.near }

pub filled_law : (gap : ℤ) (rs : List Span) → IsBridging gap rs (bridged_ranges (int_max gap (pos 0)) rs)
filled_law gap rs =
    let b = bridged_law (int_max gap (pos 0)) rs (from_zero gap) in
    record {
      no_more = λ t e. bridged_from gap rs t (b.no_more t e);
      no_less = λ t e. b.no_less t (bridged_to gap rs t e);
      normalized = b.normalized;
    }

pub filled_is : (gap filled zero : ℤ) → filled ≡ ord_max int_cmp gap zero → zero ≡ pos 0 → filled ≡ int_max gap (pos 0)
filled_is gap filled zero e z = e ∙ max_is gap zero ∙ ap (int_max gap) z

pub spans_are : (gap filled zero : ℤ) (given slice spans : List Span) → filled ≡ ord_max int_cmp gap zero → zero ≡ pos 0 → slice ≡ given → spans ≡ bridged_ranges filled slice → spans ≡ bridged_ranges (int_max gap (pos 0)) given
spans_are gap filled zero given slice spans e z s b = b ∙ ap (λ g. bridged_ranges g slice) (filled_is gap filled zero e z) ∙ ap (bridged_ranges (int_max gap (pos 0))) s
