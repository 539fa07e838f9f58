-- A slot among data ranges that come in order.
use Rattle.std.proofs.Common.{◌≡◌, ℕ, zero, suc, ◌-◌, ◌<◌, ◌≤◌, leb, Bool, true, false, ◌&&◌, ◌||◌, List, [], ◌∷◌, length, get_or, slice_get, None, inl, inr, refl, sym, ◌∙◌, arith}
use Rattle.std.specs.List.{prefix_len}
use Rattle.std.proofs.lemmas.Bool.Decides.{nat_tests}
use Rattle.std.proofs.lemmas.Bool.{cases_lt}
use Rattle.bmff_fragment.specs.declared.slot.Slot.{Slot}
use Rattle.segment_walk.specs.declared.kinds.DataRange.{DataRange}
use Rattle.segment_walk.specs.Moves.{is_ready, is_in_ranges}
use Rattle.segment_walk.specs.Ranges.{IsCoveredRange, AreRangesAscending}

or-true : (a b : Bool) → b ≡ true → (a || b) ≡ true
or-true true b e = refl
or-true false b e = e

pub lies-at : (ks : List DataRange) (s : Slot) (i : ℕ) (d : DataRange) → i < length ks → leb (get_or ks i d).start s.start ≡ true → leb s.end (get_or ks i d).end ≡ true → is_in_ranges ks s ≡ true
lies-at [] s i d h e f = absurd (omega arith)
lies-at (k ∷ ks) s zero d h e f = rw (e, f) refl
lies-at (k ∷ ks) s (suc i) d h e f = or-true (leb k.start s.start && leb s.end k.end) (is_in_ranges ks s) (lies-at ks s i d (omega arith) e f)

pub lies-not : (ks : List DataRange) (s : Slot) → ((i : ℕ) (d : DataRange) → i < length ks → (leb (get_or ks i d).start s.start && leb s.end (get_or ks i d).end) ≡ false) → is_in_ranges ks s ≡ false
lies-not [] s f = refl
lies-not (k ∷ ks) s f = rw (f 0 k (omega arith), lies-not ks s (λ i d h. f (suc i) d (omega arith))) refl

and-left : (a b : Bool) → a ≡ false → (a && b) ≡ false
and-left false b e = refl
and-left true b e = cc

and-right : (a b : Bool) → b ≡ false → (a && b) ≡ false
and-right false b e = refl
and-right true b e = e

-- whether a range begins by the start of the slot is b for each from place low up to high
abbrev pub AreStartsBy : Slot → List DataRange → ℕ → ℕ → Bool → Type 0
AreStartsBy s ks low high b = (i : ℕ) (d : DataRange) → low ≤ i → i < high → leb (get_or ks i d).start s.start ≡ b

-- none has begun before the slot
pub lies-none : (ks : List DataRange) (s : Slot) → AreStartsBy s ks 0 (length ks) false → is_in_ranges ks s ≡ false
lies-none ks s f = lies-not ks s (λ i d h. and-left (leb (get_or ks i d).start s.start) (leb s.end (get_or ks i d).end) (f i d (omega arith) h))

get-any : (ks : List DataRange) (i : ℕ) (c d : DataRange) → i < length ks → get_or ks i c ≡ get_or ks i d
get-any [] i c d h = absurd (omega arith)
get-any (k ∷ ks) zero c d h = refl
get-any (k ∷ ks) (suc i) c d h = get-any ks i c d (omega arith)

below : (ks : List DataRange) (s : Slot) (n i : ℕ) (d c : DataRange) → leb s.end (get_or ks (n - 1) d).end ≡ false → 0 < n → n ≤ length ks → i < length ks → i < n → AreRangesAscending ks → leb s.end (get_or ks i c).end ≡ false
below ks s n i d c e z l h q a =
    let x : (get_or ks i d).end ≤ (get_or ks (n - 1) d).end = a.ends i (n - 1) d (omega arith) (omega arith) in
    let y : get_or ks i c ≡ get_or ks i d = get-any ks i c d h in
    rw y (grind (arith, nat_tests))

-- the last of those that have begun decides
last-true : (ks : List DataRange) (s : Slot) (n : ℕ) (d : DataRange) (b : Bool) → leb s.end (get_or ks (n - 1) d).end ≡ b → 0 < n → n ≤ length ks → AreRangesAscending ks → AreStartsBy s ks 0 n true → AreStartsBy s ks n (length ks) false → b ≡ is_in_ranges ks s
last-true ks s n d true e z l a f g = sym (lies-at ks s (n - 1) d (omega arith) (f (n - 1) d (omega arith) (omega arith)) e)
last-true ks s n d false e z l a f g =
    let past : (i : ℕ) (c : DataRange) → i < length ks → (leb (get_or ks i c).start s.start && leb s.end (get_or ks i c).end) ≡ false =
    λ i c h. elim (cases_lt i n) as (λ _. (leb (get_or ks i c).start s.start && leb s.end (get_or ks i c).end) ≡ false) [
      | inl q ↦ and-right (leb (get_or ks i c).start s.start) (leb s.end (get_or ks i c).end) (below ks s n i d c e z l h q a)
      | inr q ↦ and-left (leb (get_or ks i c).start s.start) (leb s.end (get_or ks i c).end) (g i c q h)
    ]
    in
    sym (lies-not ks s past)

pub lies-last : (ks : List DataRange) (s : Slot) (n : ℕ) (d : DataRange) → 0 < n → n ≤ length ks → AreRangesAscending ks → AreStartsBy s ks 0 n true → AreStartsBy s ks n (length ks) false → leb s.end (get_or ks (n - 1) d).end ≡ is_in_ranges ks s
lies-last ks s n d z l a f g = last-true ks s n d (leb s.end (get_or ks (n - 1) d).end) refl z l a f g

pub lies-in-last : (ks : List DataRange) (s : Slot) (n : ℕ) (d : DataRange) → 0 < n → n ≤ length ks → AreRangesAscending ks → AreStartsBy s ks 0 n true → AreStartsBy s ks n (length ks) false → s.end ≤ (get_or ks (n - 1) d).end → true ≡ is_in_ranges ks s
lies-in-last ks s n d z l a f g h =
    let e : leb s.end (get_or ks (n - 1) d).end ≡ true = grind (arith, nat_tests) in
    sym e ∙ lies-last ks s n d z l a f g

pub lies-past-last : (ks : List DataRange) (s : Slot) (n : ℕ) (d : DataRange) → 0 < n → n ≤ length ks → AreRangesAscending ks → AreStartsBy s ks 0 n true → AreStartsBy s ks n (length ks) false → (get_or ks (n - 1) d).end < s.end → false ≡ is_in_ranges ks s
lies-past-last ks s n d z l a f g h =
    let e : leb s.end (get_or ks (n - 1) d).end ≡ false = grind (arith, nat_tests) in
    sym e ∙ lies-last ks s n d z l a f g

pub among-at : (ks : List DataRange) (i : ℕ) (d : DataRange) → i < length ks → IsCoveredRange ks (get_or ks i d)
among-at ks i d h = λ s a b.
    let e : leb (get_or ks i d).start s.start ≡ true = grind (arith, nat_tests) in
    let f : leb s.end (get_or ks i d).end ≡ true = grind (arith, nat_tests) in
    lies-at ks s i d h e f

-- among no data ranges no slot is ready
pub none-ready : (n : ℕ) (ks : List DataRange) (slots : List Slot) → slice_get ks 0 ≡ None → 0 ≡ prefix_len (is_ready n ks) slots
none-ready n [] [] e = refl
none-ready n [] (s ∷ slots) e = refl
none-ready n (k ∷ ks) slots e = cc
