-- The ticks that one of two lists of spans has, taken from the front.
use Rattle.std.proofs.Common.{◌≡◌, ◌∙◌, ℤ, pos, ◌≤ℤ◌, Bool, true, false, ◌||◌, List, [], ◌∷◌, ◌++◌, inl, inr, refl, ap, sym, subst}
use Rattle.mse_base.specs.declared.span.Span.{Span}
use Rattle.mse_base.specs.Spans.{has_tick, has_tick_in, IsUnion}
use Rattle.mse_base.specs.Bridging.{ranges_with, is_near_any, IsRanges, IsHeadOfOne}
use Rattle.mse_base.proofs.Sets.{covers-append, nears_covers, near_within}
use Rattle.mse_base.proofs.JoinedSpans.{ranges_join_in, times_join_in}
use Rattle.mse_base.proofs.Extended.{normalized_ranges}

-- what is joined, and what is left of the two lists
pub record IsUnionSoFar (left right xs ys joined : List Span) : Type 0 where
  pub ranges : IsRanges (pos 0) joined
  pub same : (t : ℤ) → (is_near_any (pos 0) t joined || (has_tick_in xs t || has_tick_in ys t)) ≡ has_tick_in (left ++ right) t

or-left : (j s u y : Bool) → ((s || j) || (u || y)) ≡ (j || ((s || u) || y))
or-left true true u y = refl
or-left true false u y = refl
or-left false true u y = refl
or-left false false u y = refl

or-right : (j s x v : Bool) → ((s || j) || (x || v)) ≡ (j || (x || (s || v)))
or-right true true x v = refl
or-right true false x v = refl
or-right false true true v = refl
or-right false true false v = refl
or-right false false x v = refl

joins : (joined : List Span) (s : Span) (t : ℤ) → IsRanges (pos 0) joined → is_near_any (pos 0) t (ranges_with (pos 0) joined s) ≡ (has_tick s t || is_near_any (pos 0) t joined)
joins joined s t h = times_join_in (pos 0) t joined s h ∙ ap (λ b. b || is_near_any (pos 0) t joined) (near_within t s)

step-left : (left right xs ys us joined : List Span) (s : Span) → pos 0 ≤ℤ pos 0 → xs ≡ s ∷ us → IsUnionSoFar left right xs ys joined → IsUnionSoFar left right us ys (ranges_with (pos 0) joined s)
step-left left right xs ys us joined s g e m = record {
  ranges = ranges_join_in (pos 0) joined s g m.ranges;
  same = λ t. ap (λ b. b || (has_tick_in us t || has_tick_in ys t)) (joins joined s t m.ranges)
      ∙ or-left (is_near_any (pos 0) t joined) (has_tick s t) (has_tick_in us t) (has_tick_in ys t)
      ∙ ap (λ (zs : List Span). is_near_any (pos 0) t joined || (has_tick_in zs t || has_tick_in ys t)) (sym e)
      ∙ m.same t;
}

step-right : (left right xs ys vs joined : List Span) (s : Span) → pos 0 ≤ℤ pos 0 → ys ≡ s ∷ vs → IsUnionSoFar left right xs ys joined → IsUnionSoFar left right xs vs (ranges_with (pos 0) joined s)
step-right left right xs ys vs joined s g e m = record {
  ranges = ranges_join_in (pos 0) joined s g m.ranges;
  same = λ t. ap (λ b. b || (has_tick_in xs t || has_tick_in vs t)) (joins joined s t m.ranges)
      ∙ or-right (is_near_any (pos 0) t joined) (has_tick s t) (has_tick_in xs t) (has_tick_in vs t)
      ∙ ap (λ (zs : List Span). is_near_any (pos 0) t joined || (has_tick_in xs t || has_tick_in zs t)) (sym e)
      ∙ m.same t;
}

pub step : (left right xs ys us vs joined new : List Span) (s : Span) (gap : ℤ) → gap ≡ pos 0 → pos 0 ≤ℤ pos 0 → IsHeadOfOne s xs ys us vs → new ≡ ranges_with gap joined s → IsUnionSoFar left right xs ys joined → IsUnionSoFar left right us vs new
step left right xs ys us vs joined new s gap z g (inl p) e m =
    subst (λ (zs : List Span). IsUnionSoFar left right us zs new) (sym p.1)
    (subst (λ (zs : List Span). IsUnionSoFar left right us ys zs) (sym (e ∙ ap (λ k. ranges_with k joined s) z)) (step-left left right xs ys us joined s g p.0 m))
step left right xs ys us vs joined new s gap z g (inr p) e m =
    subst (λ (zs : List Span). IsUnionSoFar left right zs vs new) (sym p.1)
    (subst (λ (zs : List Span). IsUnionSoFar left right xs vs zs) (sym (e ∙ ap (λ k. ranges_with k joined s) z)) (step-right left right xs ys vs joined s g p.0 m))

pub begin : (left right : List Span) → IsUnionSoFar left right left right []
begin left right = record { ranges = tt; same = λ t. sym (covers-append left right t) }

none : (j : Bool) → (j || (false || false)) ≡ j
none true = refl
none false = refl

pub finish : (left right xs ys joined : List Span) → pos 0 ≤ℤ pos 0 → xs ≡ [] → ys ≡ [] → IsUnionSoFar left right xs ys joined → IsUnion (left ++ right) joined
finish left right xs ys joined g e f m = record {
  same = λ t. sym (nears_covers t joined) ∙ sym (ap (λ (zs : List Span). is_near_any (pos 0) t joined || (has_tick_in zs t || has_tick_in ys t)) e ∙ ap (λ (zs : List Span). is_near_any (pos 0) t joined || (false || has_tick_in zs t)) f ∙ none (is_near_any (pos 0) t joined)) ∙ m.same t;
  normalized = normalized_ranges (pos 0) joined g m.ranges;
}
