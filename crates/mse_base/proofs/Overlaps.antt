-- The ticks that two lists of spans share, taken from the front.
use Rattle.std.proofs.Common.{◌≡◌, ℤ, ◌≤ℤ◌, ◌<ℤ◌, int_lt, Bool, true, false, cond, ◌&&◌, ◌||◌, List, [], ◌∷◌, ◌++◌, Some, None, option_to_list, length, get_or, take, drop, ◌-◌, ◌≤◌, ◌⊎◌, inl, inr, refl, ap, sym, subst, ◌∙◌, arith}
use Rattle.std.proofs.lemmas.Int.{ints}
use Rattle.std.proofs.lemmas.List.{same_from_push, append-nil, take_all}
use Rattle.std.specs.Int.{int_max, int_min}
use Rattle.mse_base.specs.Meets.{has_shared_tick, overlap}
use Rattle.mse_base.specs.declared.span.Span.{Span}
use Rattle.mse_base.specs.Spans.{has_tick, has_tick_in, IsFirstStartAfter, IsNormalized}
use Rattle.mse_base.proofs.Sets.{covers-append}
use Rattle.mse_base.proofs.Unique.{not_yet}

abbrev both : Span → Span → Span
both x y = record { start = int_max x.start y.start; end = int_min x.end y.end }

abbrev pub AreEndedBefore : List Span → ℤ → Type 0
AreEndedBefore ss t = (front : List Span) (last : Span) → ss ≡ front ++ last ∷ [] → last.end <ℤ t

-- what was found ends before whatever the heads share
abbrev pub AreEndedBeforeHeads : List Span → List Span → List Span → Type 0
AreEndedBeforeHeads met [] ys = Unit {0}
AreEndedBeforeHeads met (x ∷ xs) [] = Unit {0}
AreEndedBeforeHeads met (x ∷ xs) (y ∷ ys) = AreEndedBefore met (int_max x.start y.start)

pub record IsIntersectionSoFar (left right xs ys met : List Span) : Type 0 where
  pub same : (t : ℤ) → (has_tick_in met t || (has_tick_in xs t && has_tick_in ys t)) ≡ (has_tick_in left t && has_tick_in right t)
  pub normalized : IsNormalized met
  pub xs_normalized : IsNormalized xs
  pub ys_normalized : IsNormalized ys
  pub clear : AreEndedBeforeHeads met xs ys

within-both : (x y : Span) (t : ℤ) → has_tick (both x y) t ≡ (has_tick x t && has_tick y t)
within-both x y t = grind (arith, ints)

covers-overlap : (x y : Span) (t : ℤ) → has_tick_in (overlap x y) t ≡ (has_tick x t && has_tick y t)
covers-overlap x y t = grind (arith, ints)

and_false : (a : Bool) → (a && false) ≡ false
and_false true = refl
and_false false = refl

-- t below e or not
below_or_not : (x : Span) (t e : ℤ) → x.end ≤ℤ e → (has_tick x t ≡ false) ⊎ (t ≤ℤ e)
below_or_not x t e h = grind (arith, ints)

x_and_later : (x : Span) (t e : ℤ) (ys : List Span) → x.end ≤ℤ e → IsFirstStartAfter e ys → IsNormalized ys → (has_tick x t && has_tick_in ys t) ≡ false
x_and_later x t e ys h a p =
    elim (below_or_not x t e h) as (λ _. (has_tick x t && has_tick_in ys t) ≡ false) [
      | inl w ↦ rw w refl
      | inr k ↦ let r : has_tick_in ys t ≡ false = not_yet e t ys a p k in rw r (and_false (has_tick x t))
    ]

spread-left : (m w x xs y ys : Bool) → w ≡ (x && y) → (x && ys) ≡ false → ((m || w) || (xs && (y || ys))) ≡ (m || ((x || xs) && (y || ys)))
spread-left true w x xs y ys e f = refl
spread-left false w true xs true ys e f = rw e refl
spread-left false w true true false true e f = cc
spread-left false w true true false false e f = rw e refl
spread-left false w true false false true e f = cc
spread-left false w true false false false e f = rw e refl
spread-left false w false xs y ys e f = rw e refl

spread-right : (m w x xs y ys : Bool) → w ≡ (x && y) → (y && xs) ≡ false → ((m || w) || ((x || xs) && ys)) ≡ (m || ((x || xs) && (y || ys)))
spread-right true w x xs y ys e f = refl
spread-right false w true xs true ys e f = rw e refl
spread-right false w true true false ys e f = rw e refl
spread-right false w true false false ys e f = rw e refl
spread-right false w false true true ys e f = cc
spread-right false w false true false ys e f = rw e refl
spread-right false w false false y ys e f = rw e refl

normalized-push : (xs : List Span) (s : Span) → AreEndedBefore xs s.start → s.start <ℤ s.end → IsNormalized xs → IsNormalized (xs ++ s ∷ [])
normalized-push [] s b n h = (n, tt, tt)
normalized-push (x ∷ []) s b n h = let k : x.end <ℤ s.start = b [] x refl in (h.0, k, (n, tt, tt))
normalized-push (x ∷ y ∷ xs) s b n h =
    let c : AreEndedBefore (y ∷ xs) s.start = λ front last e. b (x ∷ front) last (ap (λ zs. x ∷ zs) e) in
    (h.0, h.1, normalized-push (y ∷ xs) s c n h.2)

-- what stands after the spans found, where their ticks overlap and where they do not
found : (met : List Span) (x y : Span) (b : Bool) → int_lt (int_max x.start y.start) (int_min x.end y.end) ≡ b → AreEndedBefore met (int_max x.start y.start) → IsNormalized met → IsNormalized (met ++ option_to_list (cond b (Some (both x y)) None))
found met x y true q c a =
    let n : int_max x.start y.start <ℤ int_min x.end y.end = grind (arith, ints) in
    normalized-push met (both x y) c n a
found met x y false q c a = rw append-nil a

ends-later : (met : List Span) (t u : ℤ) → t ≤ℤ u → AreEndedBefore met t → AreEndedBefore met u
ends-later met t u h e = λ front last q. let k : last.end <ℤ t = e front last q in omega (arith, ints)

ends-push : (met : List Span) (s : Span) (u : ℤ) → s.end <ℤ u → AreEndedBefore (met ++ s ∷ []) u
ends-push met s u h = λ front last e. let p = same_from_push met front s last e in subst (λ (z : Span). z.end <ℤ u) p.1 h

ends-found : (met : List Span) (x y : Span) (u : ℤ) (b : Bool) → int_min x.end y.end <ℤ u → int_max x.start y.start ≤ℤ u → AreEndedBefore met (int_max x.start y.start) → AreEndedBefore (met ++ option_to_list (cond b (Some (both x y)) None)) u
ends-found met x y u true h g e = ends-push met (both x y) u h
ends-found met x y u false h g e = rw append-nil (ends-later met (int_max x.start y.start) u g e)

clear-left : (met xs ys : List Span) (x y : Span) (b : Bool) → x.end ≤ℤ y.end → x.start <ℤ x.end → IsFirstStartAfter x.end xs → AreEndedBefore met (int_max x.start y.start) → AreEndedBeforeHeads (met ++ option_to_list (cond b (Some (both x y)) None)) xs (y ∷ ys)
clear-left met [] ys x y b h n a e = tt
clear-left met (z ∷ xs) ys x y b h n a e =
    ends-found met x y (int_max z.start y.start) b (grind (arith, ints)) (grind (arith, ints)) e

clear-right : (met xs ys : List Span) (x y : Span) (b : Bool) → y.end <ℤ x.end → y.start <ℤ y.end → IsFirstStartAfter y.end ys → AreEndedBefore met (int_max x.start y.start) → AreEndedBeforeHeads (met ++ option_to_list (cond b (Some (both x y)) None)) (x ∷ xs) ys
clear-right met xs [] x y b h n a e = tt
clear-right met xs (z ∷ ys) x y b h n a e =
    ends-found met x y (int_max x.start z.start) b (grind (arith, ints)) (grind (arith, ints)) e

covers-found : (met : List Span) (x y : Span) (t : ℤ) → has_tick_in (met ++ overlap x y) t ≡ (has_tick_in met t || has_tick_in (overlap x y) t)
covers-found met x y t = covers-append met (overlap x y) t

pub step-left : (left right xs ys met new : List Span) (x y : Span) → x.end ≤ℤ y.end → new ≡ met ++ overlap x y → IsIntersectionSoFar left right (x ∷ xs) (y ∷ ys) met → IsIntersectionSoFar left right xs (y ∷ ys) new
step-left left right xs ys met new x y h e m =
    let same : (t : ℤ) → (has_tick_in (met ++ overlap x y) t || (has_tick_in xs t && has_tick_in (y ∷ ys) t)) ≡ (has_tick_in left t && has_tick_in right t) =
    λ t. ap (λ v. v || (has_tick_in xs t && has_tick_in (y ∷ ys) t)) (covers-found met x y t)
    ∙ spread-left (has_tick_in met t) (has_tick_in (overlap x y) t) (has_tick x t) (has_tick_in xs t) (has_tick y t) (has_tick_in ys t) (covers-overlap x y t) (x_and_later x t y.end ys h m.ys_normalized.1 m.ys_normalized.2)
    ∙ m.same t
    in
    rw e (record {
      same = same;
      normalized = found met x y (has_shared_tick x y) refl m.clear m.normalized;
      xs_normalized = m.xs_normalized.2;
      ys_normalized = m.ys_normalized;
      clear = clear-left met xs ys x y (has_shared_tick x y) h m.xs_normalized.0 m.xs_normalized.1 m.clear;
    })

pub step-right : (left right xs ys met new : List Span) (x y : Span) → y.end <ℤ x.end → new ≡ met ++ overlap x y → IsIntersectionSoFar left right (x ∷ xs) (y ∷ ys) met → IsIntersectionSoFar left right (x ∷ xs) ys new
step-right left right xs ys met new x y h e m =
    let k : y.end ≤ℤ x.end = omega (arith, ints) in
    let same : (t : ℤ) → (has_tick_in (met ++ overlap x y) t || (has_tick_in (x ∷ xs) t && has_tick_in ys t)) ≡ (has_tick_in left t && has_tick_in right t) =
    λ t. ap (λ v. v || (has_tick_in (x ∷ xs) t && has_tick_in ys t)) (covers-found met x y t)
    ∙ spread-right (has_tick_in met t) (has_tick_in (overlap x y) t) (has_tick x t) (has_tick_in xs t) (has_tick y t) (has_tick_in ys t) (covers-overlap x y t) (x_and_later y t x.end xs k m.xs_normalized.1 m.xs_normalized.2)
    ∙ m.same t
    in
    rw e (record {
      same = same;
      normalized = found met x y (has_shared_tick x y) refl m.clear m.normalized;
      xs_normalized = m.xs_normalized;
      ys_normalized = m.ys_normalized.2;
      clear = clear-right met xs ys x y (has_shared_tick x y) h m.ys_normalized.0 m.ys_normalized.1 m.clear;
    })

-- a list by its head, as a slice pattern gives it
pub uncons : {X : Type 0} (xs : List X) (x : X) → 1 ≤ length xs → x ≡ get_or xs 0 x → xs ≡ x ∷ take (length xs - 1) (drop 1 xs)
uncons [] x h e = absurd (omega arith)
uncons (y ∷ xs) x h e =
    let k : length (y ∷ xs) - 1 ≡ length xs = omega arith in
    let f : take (length xs) xs ≡ xs = take_all (length xs) xs (omega arith) in
    rw (k, f) (ap (λ z. z ∷ xs) (sym e))

pub take-left : (left right xs ys met new : List Span) (x y : Span) → x.end ≤ℤ y.end → new ≡ met ++ overlap x y → 1 ≤ length xs → x ≡ get_or xs 0 x → 1 ≤ length ys → y ≡ get_or ys 0 y → IsIntersectionSoFar left right xs ys met → IsIntersectionSoFar left right (take (length xs - 1) (drop 1 xs)) ys new
take-left left right xs ys met new x y h e lx ex ly ey m =
    let p = uncons xs x lx ex in
    let q = uncons ys y ly ey in
    let n : IsIntersectionSoFar left right (x ∷ take (length xs - 1) (drop 1 xs)) (y ∷ take (length ys - 1) (drop 1 ys)) met = subst (λ (zs : List Span). IsIntersectionSoFar left right (x ∷ take (length xs - 1) (drop 1 xs)) zs met) q (subst (λ (zs : List Span). IsIntersectionSoFar left right zs ys met) p m) in
    subst (λ (zs : List Span). IsIntersectionSoFar left right (take (length xs - 1) (drop 1 xs)) zs new) (sym q) (step-left left right _ _ met new x y h e n)

pub take-right : (left right xs ys met new : List Span) (x y : Span) → y.end <ℤ x.end → new ≡ met ++ overlap x y → 1 ≤ length xs → x ≡ get_or xs 0 x → 1 ≤ length ys → y ≡ get_or ys 0 y → IsIntersectionSoFar left right xs ys met → IsIntersectionSoFar left right xs (take (length ys - 1) (drop 1 ys)) new
take-right left right xs ys met new x y h e lx ex ly ey m =
    let p = uncons xs x lx ex in
    let q = uncons ys y ly ey in
    let n : IsIntersectionSoFar left right (x ∷ take (length xs - 1) (drop 1 xs)) (y ∷ take (length ys - 1) (drop 1 ys)) met = subst (λ (zs : List Span). IsIntersectionSoFar left right (x ∷ take (length xs - 1) (drop 1 xs)) zs met) q (subst (λ (zs : List Span). IsIntersectionSoFar left right zs ys met) p m) in
    subst (λ (zs : List Span). IsIntersectionSoFar left right zs (take (length ys - 1) (drop 1 ys)) new) (sym p) (step-right left right _ _ met new x y h e n)
