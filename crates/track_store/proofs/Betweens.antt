-- Removals in a time, whatever the serials.
use Rattle.std.proofs.Common.{◌≡◌, ◌∙◌, ◌<◌, ◌≤◌, ◌-◌, ◌⊎◌, ℕ, suc, ℤ, Bool, true, false, ◌&&◌, ◌||◌, nat_lt, List, [], ◌∷◌, Option, Some, None, length, slice_get, refl, sym, ap, subst, inl, inr, arith}
use Rattle.std.specs.Option.{IfSome}
use Rattle.std.specs.List.{AllByRecursion}
use Rattle.std.proofs.lemmas.Bool.Decides.{nat_tests}
use Rattle.std.proofs.lemmas.Option.{slice_get_cases}
use Rattle.mse_base.specs.declared.ticks.Moment.{Moment}
use Rattle.track_store.specs.declared.store.Stored.{Stored}
use Rattle.track_store.specs.Frames.{frames_without, has_serial, is_between, is_within, IsAscending}
use Rattle.track_store.specs.Named.{AreNamedBelow, AreNamedWith}
use Rattle.track_store.proofs.ClearedLists.{each_at, cleared-cleared, cleared-same}

-- each frame of an ascending list is before its last, or is its last
before_last : (fs : List Stored) (x : Stored) → IsAscending fs → slice_get fs (length fs - 1) ≡ Some x → AllByRecursion (λ f. (f.serial < x.serial) ⊎ (f ≡ x)) fs
before_last [] x up at = tt
before_last (f ∷ []) x up at = (let own : f ≡ x = cc in inr own, tt)
before_last (f ∷ g ∷ fs) x up at =
    let back : length (f ∷ g ∷ fs) - 1 ≡ suc (length (g ∷ fs) - 1) = omega arith in
    let rest : slice_get (g ∷ fs) (length (g ∷ fs) - 1) ≡ Some x = rw back at at in
    (inl (each_at (λ h. f.serial < h.serial) (g ∷ fs) (length (g ∷ fs) - 1) x up.0 rest), before_last (g ∷ fs) x up.1 rest)

and_true : (a : Bool) → (a && true) ≡ a
and_true true = refl
and_true false = refl

and_both : (a b : Bool) → (a && b) ≡ true → (a ≡ true) × (b ≡ true)
and_both true b e = (refl, e)
and_both false b e = cc

below_greatest : (from : ℤ) (to : Moment) (f : Stored) → f.serial < 18446744073709551615 → is_within from to 18446744073709551615 f ≡ is_between from to f
below_greatest from to f less = let low : nat_lt f.serial 18446744073709551615 ≡ true = grind (arith, nat_tests) in ap (λ b. is_between from to f && b) low ∙ and_true (is_between from to f)

both_false : (a b : Bool) → a ≡ false → (a && b) ≡ a
both_false true b e = cc
both_false false b e = refl

not_between : (from : ℤ) (to : Moment) (f : Stored) → is_between from to f ≡ false → is_within from to 18446744073709551615 f ≡ is_between from to f
not_between from to f e = both_false (is_between from to f) (nat_lt f.serial 18446744073709551615) e

last_cases : (from : ℤ) (to : Moment) (x : Stored) → x.serial ≤ 18446744073709551615 → (b : Bool) → has_serial 18446744073709551615 x ≡ b → (b && is_between from to x) ≡ false → is_within from to 18446744073709551615 x ≡ is_between from to x
last_cases from to x fits true e h = not_between from to x h
last_cases from to x fits false e h = below_greatest from to x (grind (arith, nat_tests))

last_below : (from : ℤ) (to : Moment) (x : Stored) → x.serial ≤ 18446744073709551615 → (has_serial 18446744073709551615 x && is_between from to x) ≡ false → is_within from to 18446744073709551615 x ≡ is_between from to x
last_below from to x fits unmet = last_cases from to x fits (has_serial 18446744073709551615 x) refl unmet

below_each : (from : ℤ) (to : Moment) (fs : List Stored) (x : Stored) → x.serial ≤ 18446744073709551615 → (has_serial 18446744073709551615 x && is_between from to x) ≡ false → AllByRecursion (λ f. (f.serial < x.serial) ⊎ (f ≡ x)) fs → AreNamedBelow from to fs
below_each from to [] x fits unmet h = tt
below_each from to (f ∷ fs) x fits unmet h = (
  elim h.0 [
    | inl less ↦ below_greatest from to f (omega arith)
    | inr own ↦ subst (λ y. is_within from to 18446744073709551615 y ≡ is_between from to y) (sym own) (last_below from to x fits unmet)
  ],
  below_each from to fs x fits unmet h.1,
)

pub named_below : (from : ℤ) (to : Moment) (fs : List Stored) (x : Stored) → x.serial ≤ 18446744073709551615 → IsAscending fs → slice_get fs (length fs - 1) ≡ Some x → (has_serial 18446744073709551615 x && is_between from to x) ≡ false → AreNamedBelow from to fs
named_below from to fs x fits up at unmet = below_each from to fs x fits unmet (before_last fs x up at)

or_left : (a b : Bool) → a ≡ true → (a || b) ≡ true
or_left true b e = refl
or_left false b e = cc

with_each : (from : ℤ) (to : Moment) (fs : List Stored) (x : Stored) → (has_serial 18446744073709551615 x ≡ true) × (is_between from to x ≡ true) → AllByRecursion (λ f. (f.serial < x.serial) ⊎ (f ≡ x)) fs → AreNamedWith x from to fs
with_each from to [] x met h = tt
with_each from to (f ∷ fs) x met h =
    let greatest : x.serial ≡ 18446744073709551615 = let own = met.0 in grind (arith, nat_tests) in (
      elim h.0 [
        | inl less ↦ (let other : has_serial x.serial f ≡ false = grind (arith, nat_tests) in ap (λ b. b || is_within from to 18446744073709551615 f) other ∙ below_greatest from to f (omega arith))
        | inr own ↦ subst (λ y. (has_serial x.serial y || is_within from to 18446744073709551615 y) ≡ is_between from to y) (sym own) (or_left (has_serial x.serial x) _ (grind (arith, nat_tests)) ∙ sym met.1)
      ],
      with_each from to fs x met h.1,
    )

pub named_with : (from : ℤ) (to : Moment) (fs : List Stored) (x : Stored) → IsAscending fs → slice_get fs (length fs - 1) ≡ Some x → (has_serial 18446744073709551615 x && is_between from to x) ≡ true → AreNamedWith x from to fs
named_with from to fs x up at met = with_each from to fs x (and_both _ _ met) (before_last fs x up at)

pub left_below : (from : ℤ) (to : Moment) (fs gs : List Stored) → AreNamedBelow from to fs → gs ≡ frames_without (is_within from to 18446744073709551615) fs → gs ≡ frames_without (is_between from to) fs
left_below from to fs gs h e = e ∙ cleared-same false _ _ fs h

pub left_with : (from : ℤ) (to : Moment) (x : Stored) (fs ms gs : List Stored) → AreNamedWith x from to fs → ms ≡ frames_without (has_serial x.serial) fs → gs ≡ frames_without (is_within from to 18446744073709551615) ms → gs ≡ frames_without (is_between from to) fs
left_with from to x fs ms gs h e k = k ∙ ap (frames_without (is_within from to 18446744073709551615)) e ∙ cleared-cleared false false _ _ fs ∙ cleared-same false _ _ fs h

with_cases : (from : ℤ) (to : Moment) (fs ms gs : List Stored) (o : Option Stored) → IfSome o (λ x. AreNamedWith x from to fs) → IfSome o (λ x. ms ≡ frames_without (has_serial x.serial) fs) → (x : Stored) × (o ≡ Some x) → gs ≡ frames_without (is_within from to 18446744073709551615) ms → gs ≡ frames_without (is_between from to) fs
with_cases from to fs ms gs None h e at k = (let none = at.1 in cc)
with_cases from to fs ms gs (Some x) h e at k = left_with from to x fs ms gs h e k

at_frame : (fs : List Stored) (i : ℕ) → i < length fs → (x : Stored) × (slice_get fs i ≡ Some x)
at_frame fs i low = elim (slice_get_cases fs i).1 [ inl found ↦ (found.0, found.2) | inr past ↦ absurd (omega arith) ]

-- the frame of the greatest serial first, and then the others
pub removed_first : (from : ℤ) (to : Moment) (fs ms gs : List Stored) (i : ℕ) → (i < length fs) × IfSome (slice_get fs i) (λ x. AreNamedWith x from to fs) → IfSome (slice_get fs i) (λ x. ms ≡ frames_without (has_serial x.serial) fs) → gs ≡ frames_without (is_within from to 18446744073709551615) ms → gs ≡ frames_without (is_between from to) fs
removed_first from to fs ms gs i h e k = with_cases from to fs ms gs (slice_get fs i) h.1 e (at_frame fs i h.0) k

within_length : (fs : List Stored) (i : ℕ) (x : Stored) → slice_get fs i ≡ Some x → i < length fs
within_length fs i x at = elim (slice_get_cases fs i).1 [ inl found ↦ found.1 | inr past ↦ (let none = sym past.1 ∙ at in cc) ]

pub held_with : (from : ℤ) (to : Moment) (fs : List Stored) (i : ℕ) (x : Stored) → IsAscending fs → i ≡ length fs - 1 → slice_get fs i ≡ Some x → (has_serial 18446744073709551615 x && is_between from to x) ≡ true → (i < length fs) × IfSome (slice_get fs i) (λ y. AreNamedWith y from to fs)
held_with from to fs i x up last at met = (within_length fs i x at, rw at (named_with from to fs x up (ap (slice_get fs) (sym last) ∙ at) met))

pub named_none : (from : ℤ) (to : Moment) (fs : List Stored) → length fs ≡ 0 → AreNamedBelow from to fs
named_none from to [] e = tt
named_none from to (f ∷ fs) e = absurd (omega arith)

pub named_past : (from : ℤ) (to : Moment) (fs : List Stored) → slice_get fs (length fs - 1) ≡ None → AreNamedBelow from to fs
named_past from to fs e = elim (slice_get_cases fs (length fs - 1)).1 [ inl found ↦ (let none = sym found.2 ∙ e in cc) | inr past ↦ named_none from to fs (omega arith) ]
