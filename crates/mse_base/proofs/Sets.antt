-- Lists of spans as sets of ticks.
use Rattle.std.proofs.Common.{◌≡◌, ◌∙◌, ℤ, pos, ◌≤ℤ◌, cond, Bool, true, false, ◌||◌, ◌&&◌, not, List, [], ◌∷◌, ◌++◌, refl, ap, sym, arith, int_le, int_lt}
use Rattle.std.proofs.lemmas.Int.{ints}
use Rattle.std.specs.Int.{int_min, int_max}
use Rattle.mse_base.specs.declared.span.Span.{Span}
use Rattle.mse_base.specs.Spans.{has_tick, has_tick_in}
use Rattle.mse_base.specs.Bridging.{span_between, ranges_without, is_near, is_near_any, ranges_with, ranges_with_lasting}

pub or_assoc : (a b c : Bool) → ((a || b) || c) ≡ (a || (b || c))
or_assoc true b c = refl
or_assoc false b c = refl

pub or_swap : (a b : Bool) → (a || b) ≡ (b || a)
or_swap true true = refl
or_swap true false = refl
or_swap false true = refl
or_swap false false = refl

pub or_none : (a : Bool) → (a || false) ≡ a
or_none true = refl
or_none false = refl

-- a span that does not end after it starts
pub no_tick_in_empty : (s : Span) (t : ℤ) → s.end ≤ℤ s.start → has_tick s t ≡ false
no_tick_in_empty s t h = grind (arith, ints)

pub empty_adds_nothing : (gap : ℤ) (rs : List Span) (s : Span) → s.end ≤ℤ s.start → ranges_with gap rs s ≡ rs
empty_adds_nothing gap rs s h = ap (λ c. cond c rs (ranges_with_lasting gap s rs)) (is_le s.end s.start h)
  where
    is_le : (a b : ℤ) → a ≤ℤ b → int_le a b ≡ true
    is_le a b h = grind (arith, ints)

pub covers-append : (xs ys : List Span) (t : ℤ) → has_tick_in (xs ++ ys) t ≡ (has_tick_in xs t || has_tick_in ys t)
covers-append [] ys t = refl
covers-append (x ∷ xs) ys t = ap (λ b. has_tick x t || b) (covers-append xs ys t) ∙ sym (or_assoc (has_tick x t) (has_tick_in xs t) (has_tick_in ys t))

-- with no gap, near a span is in it
pub near_within : (t : ℤ) (s : Span) → is_near (pos 0) t s ≡ has_tick s t
near_within t s = grind (arith, ints)

pub nears_covers : (t : ℤ) (ss : List Span) → is_near_any (pos 0) t ss ≡ has_tick_in ss t
nears_covers t [] = refl
nears_covers t (s ∷ ss) = ap (λ b. b || is_near_any (pos 0) t ss) (near_within t s) ∙ ap (λ b. has_tick s t || b) (nears_covers t ss)

covers-part : (x y t : ℤ) → has_tick_in (span_between x y) t ≡ (int_le x t && int_lt t y)
covers-part x y t = grind (arith, ints)

lt_lesser : (t x a : ℤ) → int_lt t (int_min x a) ≡ (int_lt t x && int_lt t a)
lt_lesser t x a = grind (arith, ints)

greater_le : (t x b : ℤ) → int_le (int_max x b) t ≡ (int_le x t && int_le b t)
greater_le t x b = grind (arith, ints)

le_is_not_lt : (a t : ℤ) → int_le a t ≡ not (int_lt t a)
le_is_not_lt a t = grind (arith, ints)

lt_is_not_le : (t b : ℤ) → int_lt t b ≡ not (int_le b t)
lt_is_not_le t b = grind (arith, ints)

-- p: from the start on; q: below the end; u: before the hole; v: after it
cut-one : (p q u v rest : Bool) → ((p && (q && u)) || (((p && v) && q) || rest)) ≡ (((p && q) && not (not u && not v)) || rest)
cut-one false q u v rest = refl
cut-one true false true true rest = refl
cut-one true false true false rest = refl
cut-one true false false true rest = refl
cut-one true false false false rest = refl
cut-one true true true true rest = refl
cut-one true true true false rest = refl
cut-one true true false true rest = refl
cut-one true true false false rest = refl

and_or : (a b c : Bool) → ((a && c) || (b && c)) ≡ ((a || b) && c)
and_or true true true = refl
and_or true true false = refl
and_or true false true = refl
and_or true false false = refl
and_or false b c = refl

-- the ticks that a hole leaves
pub covers-carved : (a b t : ℤ) (ss : List Span) → has_tick_in (ranges_without a b ss) t ≡ (has_tick_in ss t && not (int_le a t && int_lt t b))
covers-carved a b t [] = refl
covers-carved a b t (s ∷ ss) =
    let rest = has_tick_in (ranges_without a b ss) t in
    let hole = not (int_le a t && int_lt t b) in
    let same : not (not (int_lt t a) && not (int_le b t)) ≡ hole =
    ap (λ c. not (c && not (int_le b t))) (sym (le_is_not_lt a t)) ∙ ap (λ c. not (int_le a t && c)) (sym (lt_is_not_le t b))
    in
    covers-append (span_between s.start (int_min s.end a)) (span_between (int_max s.start b) s.end ++ ranges_without a b ss) t
    ∙ ap (λ c. has_tick_in (span_between s.start (int_min s.end a)) t || c) (covers-append (span_between (int_max s.start b) s.end) (ranges_without a b ss) t)
    ∙ ap (λ c. c || (has_tick_in (span_between (int_max s.start b) s.end) t || rest)) (covers-part s.start (int_min s.end a) t ∙ ap (λ c. int_le s.start t && c) (lt_lesser t s.end a))
    ∙ ap (λ c. (int_le s.start t && (int_lt t s.end && int_lt t a)) || (c || rest)) (covers-part (int_max s.start b) s.end t ∙ ap (λ c. c && int_lt t s.end) (greater_le t s.start b))
    ∙ cut-one (int_le s.start t) (int_lt t s.end) (int_lt t a) (int_le b t) rest
    ∙ ap (λ c. (has_tick s t && c) || rest) same
    ∙ ap (λ c. (has_tick s t && hole) || c) (covers-carved a b t ss)
    ∙ and_or (has_tick s t) (has_tick_in ss t) hole
