-- A set of ticks has one list of longest spans.
use Rattle.std.proofs.Common.{◌≡◌, ℤ, ◌≤ℤ◌, ◌<ℤ◌, Bool, true, false, ◌||◌, List, [], ◌∷◌, ◌⊎◌, inl, inr, refl, ap, sym, subst, ◌∙◌, arith}
use Rattle.std.proofs.lemmas.Int.{ints}
use Rattle.mse_base.specs.declared.span.Span.{Span}
use Rattle.mse_base.specs.Spans.{has_tick, has_tick_in, IsFirstStartAfter, IsNormalized}

pub not_yet : (e t : ℤ) (ys : List Span) → IsFirstStartAfter e ys → IsNormalized ys → t ≤ℤ e → has_tick_in ys t ≡ false
not_yet e t [] a p h = refl
not_yet e t (y ∷ ys) a p h =
    let k : t ≤ℤ y.end = omega (arith, ints, p.0) in
    let r : has_tick_in ys t ≡ false = not_yet y.end t ys p.1 p.2 k in
    rw r (grind (arith, ints))

pub starts_in : (x : Span) (b : Bool) → x.start <ℤ x.end → (has_tick x x.start || b) ≡ true
starts_in x b h = grind (arith, ints)

pub before_all : (x : Span) (xs : List Span) (t : ℤ) → IsNormalized (x ∷ xs) → t <ℤ x.start → has_tick_in (x ∷ xs) t ≡ false
before_all x xs t p h =
    let n : x.start <ℤ x.end = p.0 in
    let k : t ≤ℤ x.end = omega (arith, ints) in
    rw (not_yet x.end t xs p.1 p.2 k) (grind (arith, ints))

pub at_end : (x : Span) (xs : List Span) → IsNormalized (x ∷ xs) → has_tick_in (x ∷ xs) x.end ≡ false
at_end x xs p =
    let k : x.end ≤ℤ x.end = omega (arith, ints) in
    rw (not_yet x.end x.end xs p.1 p.2 k) (grind (arith, ints))

pub inner : (y : Span) (t : ℤ) (b : Bool) → y.start ≤ℤ t → t <ℤ y.end → (has_tick y t || b) ≡ true
inner y t b h k = grind (arith, ints)

not_before : (x y : Span) (xs ys : List Span) → IsNormalized (x ∷ xs) → IsNormalized (y ∷ ys) → ((t : ℤ) → has_tick_in (x ∷ xs) t ≡ has_tick_in (y ∷ ys) t) → x.start <ℤ y.start → ⊥
not_before x y xs ys p q same h =
    let a : has_tick_in (x ∷ xs) x.start ≡ true = starts_in x _ p.0 in
    let b : has_tick_in (y ∷ ys) x.start ≡ false = before_all y ys x.start q h in
    let e = same x.start in
    cc

not_shorter : (x y : Span) (xs ys : List Span) → IsNormalized (x ∷ xs) → IsNormalized (y ∷ ys) → ((t : ℤ) → has_tick_in (x ∷ xs) t ≡ has_tick_in (y ∷ ys) t) → x.start ≡ y.start → x.end <ℤ y.end → ⊥
not_shorter x y xs ys p q same s h =
    let a : has_tick_in (x ∷ xs) x.end ≡ false = at_end x xs p in
    let n : x.start <ℤ x.end = p.0 in
    let k : y.start ≤ℤ x.end = omega (arith, ints) in
    let b : has_tick_in (y ∷ ys) x.end ≡ true = inner y x.end _ k h in
    let e = same x.end in
    cc

pub pick : (a b : ℤ) → (a <ℤ b → ⊥) → (b <ℤ a → ⊥) → a ≡ b
pick a b f g = grind (arith, ints)

flip : (xs ys : List Span) → ((t : ℤ) → has_tick_in xs t ≡ has_tick_in ys t) → (t : ℤ) → has_tick_in ys t ≡ has_tick_in xs t
flip xs ys same t = sym (same t)

before_or_out : (x : Span) (t : ℤ) → (t ≤ℤ x.end) ⊎ (has_tick x t ≡ false)
before_or_out x t = grind (arith, ints)

pub same_span : (x y : Span) → x.start ≡ y.start → x.end ≡ y.end → x ≡ y
same_span x y s f =
    let make : ℤ → ℤ → Span = λ a b. record { start = a; end = b } in
    ap (λ a. make a x.end) s ∙ ap (make y.start) f

pub unique : (xs ys : List Span) → IsNormalized xs → IsNormalized ys → ((t : ℤ) → has_tick_in xs t ≡ has_tick_in ys t) → xs ≡ ys
unique [] [] p q same = refl
unique [] (y ∷ ys) p q same = let a : has_tick_in (y ∷ ys) y.start ≡ true = starts_in y _ q.0 in let e = same y.start in cc
unique (x ∷ xs) [] p q same = let a : has_tick_in (x ∷ xs) x.start ≡ true = starts_in x _ p.0 in let e = same x.start in cc
unique (x ∷ xs) (y ∷ ys) p q same =
    let s : x.start ≡ y.start = pick _ _ (not_before x y xs ys p q same) (not_before y x ys xs q p (flip (x ∷ xs) (y ∷ ys) same)) in
    let f : x.end ≡ y.end = pick _ _ (not_shorter x y xs ys p q same s) (not_shorter y x ys xs q p (flip (x ∷ xs) (y ∷ ys) same) (sym s)) in
    let h : x ≡ y = same_span x y s f in
    let rest : (t : ℤ) → has_tick_in xs t ≡ has_tick_in ys t =
    λ t. elim (before_or_out x t) as (λ _. has_tick_in xs t ≡ has_tick_in ys t) [
      | inl k ↦
          let l : t ≤ℤ y.end = omega (arith, ints) in
          not_yet x.end t xs p.1 p.2 k ∙ sym (not_yet y.end t ys q.1 q.2 l)
      | inr w ↦
          let v : has_tick y t ≡ false = subst (λ (z : Span). has_tick z t ≡ false) h w in
          let e : (has_tick x t || has_tick_in xs t) ≡ (has_tick y t || has_tick_in ys t) = same t in
          let a : (has_tick x t || has_tick_in xs t) ≡ has_tick_in xs t = ap (λ b. b || has_tick_in xs t) w in
          let b : (has_tick y t || has_tick_in ys t) ≡ has_tick_in ys t = ap (λ b. b || has_tick_in ys t) v in
          sym a ∙ e ∙ b
    ]
    in
    let r : xs ≡ ys = unique xs ys p.2 q.2 rest in
    cc
