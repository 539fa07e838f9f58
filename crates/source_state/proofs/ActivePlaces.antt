-- Each listed buffer that is not active has a place in the list of active ones.
use Rattle.std.proofs.Common.{◌≡◌, ◌∙◌, ℕ, ◌+◌, ◌≤◌, Bool, true, false, cond, not, ◌||◌, nat_eq, List, [], ◌∷◌, ◌++◌, length, refl, sym, ap, arith, inl, inr}
use Rattle.std.proofs.lemmas.Bool.{false≢true, eq-eqb}
use Rattle.std.proofs.lemmas.Bool.Decides.{eqb_tells}
use Rattle.std.proofs.lemmas.List.Folds.{list_any-append}
use Rattle.std.proofs.lemmas.List.Sums.{length-filter, count_by-le-length}
use Rattle.source_state.specs.State.{is_listed_in, numbers_without}
use Rattle.source_state.specs.Room.{inactive_count}

or_right : (b c : Bool) → b ≡ false → (b || c) ≡ true → c ≡ true
or_right true c e h = absurd (false≢true (sym e))
or_right false c e h = h

or_second : (b c : Bool) → c ≡ true → (b || (c || false)) ≡ true
or_second true c e = refl
or_second false true e = refl
or_second false false e = e

counted_le : (b c : Bool) (x y : ℕ) → (c ≡ true → b ≡ true) → x ≤ y → cond b x (x + 1) ≤ cond c y (y + 1)
counted_le true true x y h l = l
counted_le true false x y h l = omega (arith, l)
counted_le false true x y h l = absurd (false≢true (h refl))
counted_le false false x y h l = omega (arith, l)

counted_lt : (b c : Bool) (x y : ℕ) → (c ≡ true → b ≡ true) → (x + 1) ≤ y → (cond b x (x + 1) + 1) ≤ cond c y (y + 1)
counted_lt true true x y h l = l
counted_lt true false x y h l = omega (arith, l)
counted_lt false true x y h l = absurd (false≢true (h refl))
counted_lt false false x y h l = omega (arith, l)

counted_once : (b c : Bool) (x y : ℕ) → b ≡ true → c ≡ false → x ≤ y → (cond b x (x + 1) + 1) ≤ cond c y (y + 1)
counted_once true true x y e f l = absurd (false≢true (sym f))
counted_once true false x y e f l = omega (arith, l)
counted_once false c x y e f l = absurd (false≢true e)

counted_few : (b : Bool) (x k : ℕ) → x ≤ k → cond b x (x + 1) ≤ (k + 1)
counted_few true x k l = omega (arith, l)
counted_few false x k l = omega (arith, l)

pub few : (ns active : List ℕ) → inactive_count ns active ≤ length ns
few [] active = omega arith
few (n ∷ ns) active = omega (arith, counted_few (is_listed_in n active) (inactive_count ns active) (length ns) (few ns active))

has_more : (n k : ℕ) (active : List ℕ) → is_listed_in n active ≡ true → is_listed_in n (active ++ k ∷ []) ≡ true
has_more n k active e = list_any-append (λ m. nat_eq m n) active (k ∷ []) ∙ ap (λ b. b || (nat_eq k n || false)) e

has_new : (k : ℕ) (active : List ℕ) → is_listed_in k (active ++ k ∷ []) ≡ true
has_new k active = list_any-append (λ m. nat_eq m k) active (k ∷ []) ∙ or_second (is_listed_in k active) (nat_eq k k) (eq-eqb k k refl)

push_le : (ns active : List ℕ) (k : ℕ) → inactive_count ns (active ++ k ∷ []) ≤ inactive_count ns active
push_le [] active k = omega arith
push_le (n ∷ ns) active k = counted_le (is_listed_in n (active ++ k ∷ [])) (is_listed_in n active) _ _ (has_more n k active) (push_le ns active k)

-- a listed buffer that becomes active is one less that is not
pub push_lt : (ns active : List ℕ) (k : ℕ) → is_listed_in k ns ≡ true → is_listed_in k active ≡ false → (inactive_count ns (active ++ k ∷ []) + 1) ≤ inactive_count ns active
push_lt [] active k e f = absurd (false≢true e)
push_lt (n ∷ ns) active k e f =
    elim (eqb_tells n k) [
      | inl t ↦ counted_once (is_listed_in n (active ++ k ∷ [])) (is_listed_in n active) _ _ (ap (λ m. is_listed_in m (active ++ k ∷ [])) t.1 ∙ has_new k active) (ap (λ m. is_listed_in m active) t.1 ∙ f) (push_le ns active k)
      | inr t ↦ counted_lt (is_listed_in n (active ++ k ∷ [])) (is_listed_in n active) _ _ (has_more n k active) (push_lt ns active k (or_right (nat_eq n k) (is_listed_in k ns) t.0 e) f)
    ]

or_kept : (b c d : Bool) → (c ≡ true → d ≡ true) → (b || c) ≡ true → (b || d) ≡ true
or_kept true c d f e = refl
or_kept false c d f e = f e

-- two numbers of which one is k and the other is not are two
differ : (m n k : ℕ) → m ≡ k → nat_eq n k ≡ false → nat_eq m n ≡ false
differ m n k e d = elim (eqb_tells m n) [
  | inl t ↦ absurd (false≢true (sym d ∙ eq-eqb n k (sym t.1 ∙ e)))
  | inr t ↦ t.0
]

has_without : (n k : ℕ) (active : List ℕ) → nat_eq n k ≡ false → is_listed_in n active ≡ true → is_listed_in n (numbers_without k active) ≡ true
has_without n k [] d e = e
has_without n k (m ∷ ms) d e =
    elim (eqb_tells m k) [
      | inl t ↦ rw t.0 (has_without n k ms d (or_right (nat_eq m n) (is_listed_in n ms) (differ m n k t.1 d) e))
      | inr t ↦ rw t.0 (or_kept (nat_eq m n) (is_listed_in n ms) (is_listed_in n (numbers_without k ms)) (has_without n k ms d) e)
    ]

one_more : (b : Bool) (x : ℕ) → x ≤ cond b x (x + 1)
one_more true x = omega arith
one_more false x = omega arith

-- a buffer that leaves both lists
pub without_le : (ns active : List ℕ) (k : ℕ) → inactive_count (numbers_without k ns) (numbers_without k active) ≤ inactive_count ns active
without_le [] active k = omega arith
without_le (n ∷ ns) active k =
    elim (eqb_tells n k) [
      | inl t ↦ rw t.0 (omega (arith, without_le ns active k, one_more (is_listed_in n active) (inactive_count ns active)))
      | inr t ↦ rw t.0 (counted_le (is_listed_in n (numbers_without k active)) (is_listed_in n active) _ _ (has_without n k active t.0) (without_le ns active k))
    ]

pub without_length : (active : List ℕ) (k : ℕ) → length (numbers_without k active) ≤ length active
without_length active k = omega (arith, length-filter (λ n. not (nat_eq n k)) active, count_by-le-length (λ n. not (nat_eq n k)) active)
