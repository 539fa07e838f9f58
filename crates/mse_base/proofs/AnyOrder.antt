-- The ticks that some spans share are the same in any order of these.
use Rattle.std.proofs.Common.{◌≡◌, ◌∙◌, ℕ, ℤ, zero, suc, ◌≤◌, int_lt, Bool, true, false, cond, List, [], ◌∷◌, length, fold, remove, Option, Some, None, slice_get, refl, sym, ap, arith}
use Rattle.std.specs.Int.{int_max, int_min}
use Rattle.std.proofs.lemmas.Int.{ints}
use Rattle.mse_base.specs.declared.span.Span.{Span}
use Rattle.mse_base.specs.Meets.{overlap_of_two, overlap_of_all}

-- the span between two times, where it is not empty
abbrev pub between : ℤ → ℤ → Option Span
between a b = cond (int_lt a b) (Some (record { start = a; end = b })) None

no_right : (o : Option Span) → overlap_of_two o None ≡ None
no_right None = refl
no_right (Some s) = refl

max_swap : (a b c : ℤ) → int_max (int_max a b) c ≡ int_max (int_max a c) b
max_swap a b c = grind (arith, ints)

min_swap : (a b c : ℤ) → int_min (int_min a b) c ≡ int_min (int_min a c) b
min_swap a b c = grind (arith, ints)

max_turn : (a b : ℤ) → int_max a b ≡ int_max b a
max_turn a b = grind (arith, ints)

min_turn : (a b : ℤ) → int_min a b ≡ int_min b a
min_turn a b = grind (arith, ints)

turn : (o p : Option Span) → overlap_of_two o p ≡ overlap_of_two p o
turn None None = refl
turn None (Some y) = refl
turn (Some x) None = refl
turn (Some x) (Some y) = ap (λ (a : ℤ). between a (int_min x.end y.end)) (max_turn x.start y.start) ∙ ap (λ (b : ℤ). between (int_max y.start x.start) b) (min_turn x.end y.end)

still_empty : (a b c d : ℤ) → int_lt a b ≡ false → int_lt (int_max a c) (int_min b d) ≡ false
still_empty a b c d h = grind (arith, ints)

of_three_by : (a b : ℤ) (z : Span) (t : Bool) → int_lt a b ≡ t → overlap_of_two (cond t (Some (record { start = a; end = b })) None) (Some z) ≡ between (int_max a z.start) (int_min b z.end)
of_three_by a b z true e = refl
of_three_by a b z false e = sym (ap (λ (c : Bool). cond c (Some (record { start = int_max a z.start; end = int_min b z.end })) None) (still_empty a b z.start z.end e))

of_three : (x y z : Span) → overlap_of_two (overlap_of_two (Some x) (Some y)) (Some z) ≡ between (int_max (int_max x.start y.start) z.start) (int_min (int_min x.end y.end) z.end)
of_three x y z = of_three_by (int_max x.start y.start) (int_min x.end y.end) z (int_lt (int_max x.start y.start) (int_min x.end y.end)) refl

swap : (o p q : Option Span) → overlap_of_two (overlap_of_two o p) q ≡ overlap_of_two (overlap_of_two o q) p
swap None p q = refl
swap (Some x) None q = sym (no_right (overlap_of_two (Some x) q))
swap (Some x) (Some y) None = no_right (overlap_of_two (Some x) (Some y))
swap (Some x) (Some y) (Some z) =
    of_three x y z
    ∙ ap (λ (a : ℤ). between a (int_min (int_min x.end y.end) z.end)) (max_swap x.start y.start z.start)
    ∙ ap (λ (b : ℤ). between (int_max (int_max x.start z.start) y.start) b) (min_swap x.end y.end z.end)
    ∙ sym (of_three x z y)

fold_swap : (o p : Option Span) (os : List (Option Span)) → fold overlap_of_two (overlap_of_two o p) os ≡ overlap_of_two (fold overlap_of_two o os) p
fold_swap o p [] = refl
fold_swap o p (q ∷ os) = ap (λ (r : Option Span). fold overlap_of_two r os) (swap o p q) ∙ fold_swap (overlap_of_two o q) p os

fold_apart : (o p : Option Span) (os : List (Option Span)) (i : ℕ) → slice_get os i ≡ Some p → fold overlap_of_two o os ≡ overlap_of_two (fold overlap_of_two o (remove os i)) p
fold_apart o p [] i e = absurd cc
fold_apart o p (q ∷ os) zero e =
    let same : q ≡ p = cc in
    fold_swap o q os ∙ ap (λ (r : Option Span). overlap_of_two (fold overlap_of_two o os) r) same
fold_apart o p (q ∷ os) (suc i) e = fold_apart (overlap_of_two o q) p os i e

-- one of them apart from the others
pub apart : (p : Option Span) (os : List (Option Span)) (i : ℕ) → 2 ≤ length os → slice_get os i ≡ Some p → overlap_of_all os ≡ overlap_of_two (overlap_of_all (remove os i)) p
apart p [] i some e = absurd (omega arith)
apart p (o ∷ []) i some e = absurd (omega arith)
apart p (o ∷ q ∷ os) zero some e =
    let same : o ≡ p = cc in
    ap (λ (r : Option Span). fold overlap_of_two r os) (turn o q) ∙ fold_swap q o os ∙ ap (λ (r : Option Span). overlap_of_two (fold overlap_of_two q os) r) same
apart p (o ∷ q ∷ os) (suc i) some e = fold_apart o p (q ∷ os) i e
