-- Elements that are told in the room, one after the other.
use Rattle.std.proofs.Common.{◌≡◌, ◌≢◌, ◌⊎◌, inl, inr, ℕ, zero, suc, ◌+◌, ◌-◌, ◌^◌, ◌<◌, ◌≤◌, min, List, [], ◌∷◌, ◌++◌, take, append-nil, append_assoc, arith, refl, sym, ap, ◌∙◌, subst, length, set, Bool, true, false}
use Rattle.std.specs.Prelude.{Option, Some, None, IfSome, slice_get}
use Rattle.std.specs.List.{flat_map}
use Rattle.std.specs.Option.{unwrap_or}
use Rattle.std.proofs.lemmas.Option.{slice_get_past}
use Rattle.mseplay_c.specs.Looks.{ArePut}

-- the first `n` elements are told
pub record ArePutUpTo {A B : Type 0} (IsTold : A → B → Type 0) (from n : ℕ) (items : List A)
    (old new : List B) : Type 0 where
  pub same_room : length new ≡ length old
  pub put : (i : ℕ) → i < n → from + i < length old
      → IfSome (slice_get items i) (λ item. IfSome (slice_get new (from + i)) (IsTold item))
  pub before : (i : ℕ) → i < from → slice_get new i ≡ slice_get old i
  pub behind : (i : ℕ) → from + n ≤ i → slice_get new i ≡ slice_get old i

-- ---- a list in which an element is set

same_or_not : (i j : ℕ) → (j ≡ i) ⊎ (j ≢ i)
same_or_not zero zero = inl refl
same_or_not zero (suc j) = inr (λ e. omega (arith, e))
same_or_not (suc i) zero = inr (λ e. omega (arith, e))
same_or_not (suc i) (suc j) = next (same_or_not i j) where
  next : (j ≡ i) ⊎ (j ≢ i) → (suc j ≡ suc i) ⊎ (suc j ≢ suc i)
  next (inl e) = inl (ap suc e)
  next (inr n) = inr (λ e. n (omega (arith, e)))

get_set : {B : Type 0} (xs : List B) (i : ℕ) (y : B) → i < length xs → slice_get (set xs i y) i ≡ Some y
get_set [] i y less = absurd (omega (arith, less))
get_set (x ∷ xs) zero y less = refl
get_set (x ∷ xs) (suc i) y less = get_set xs i y (omega (arith, less))

get_other : {B : Type 0} (xs : List B) (i j : ℕ) (y : B) → j ≢ i → slice_get (set xs i y) j ≡ slice_get xs j
get_other [] i j y n = refl
get_other (x ∷ xs) zero zero y n = absurd (n refl)
get_other (x ∷ xs) zero (suc j) y n = refl
get_other (x ∷ xs) (suc i) zero y n = refl
get_other (x ∷ xs) (suc i) (suc j) y n = get_other xs i j y (λ e. n (ap suc e))

set_length : {B : Type 0} (xs : List B) (i : ℕ) (y : B) → length (set xs i y) ≡ length xs
set_length [] i y = refl
set_length (x ∷ xs) zero y = refl
set_length (x ∷ xs) (suc i) y = ap suc (set_length xs i y)

pub not_both : false ≡ true → ⊥
not_both e = subst IsFalse e tt where
  IsFalse : Bool → Type 0
  IsFalse false = Unit {0}
  IsFalse true = ⊥

less_or_not : (m i : ℕ) → (i < m) ⊎ (m ≤ i)
less_or_not zero i = inr (omega (arith))
less_or_not (suc m) zero = inl (omega (arith))
less_or_not (suc m) (suc i) = next (less_or_not m i) where
  next : (i < m) ⊎ (m ≤ i) → (suc i < suc m) ⊎ (suc m ≤ suc i)
  next (inl l) = inl (omega (arith, l))
  next (inr l) = inr (omega (arith, l))

-- ---- none, one more, all

module _ {A B : Type 0} (IsTold : A → B → Type 0) (from : ℕ) (items : List A) (old : List B) where
  pub none_put : ArePutUpTo IsTold from 0 items old old
  none_put = record { same_room = refl; put = λ i less inside. absurd (omega (arith, less)); before = λ i less. refl; behind = λ i more. refl }

  abbrev Told : List B → ℕ → Type 0
  Told new i = IfSome (slice_get items i) (λ item. IfSome (slice_get new (from + i)) (IsTold item))

  module _ (new : List B) (n : ℕ) (p : ArePutUpTo IsTold from n items old new) where
    -- where there is no room for it
    pub one_left_out : length old ≤ from + n → ArePutUpTo IsTold from (n + 1) items old new
    one_left_out full = record { same_room = p.same_room; put = λ i less inside. p.put i (omega (arith, less, inside, full)) inside; before = p.before; behind = λ i more. p.behind i (omega (arith, more)) }

    pub one_put : (x : A) (y : B) → slice_get items n ≡ Some x → IsTold x y → from + n < length old → ArePutUpTo IsTold from (n + 1) items old (set new (from + n) y)
    one_put x y e told inside = record {
      same_room = set_length new (from + n) y ∙ p.same_room;
      put = λ i less in_room. at i less in_room (same_or_not n i);
      before = λ i less. get_other new (from + n) i y (λ same. omega (arith, less, same)) ∙ p.before i less;
      behind = λ i more. get_other new (from + n) i y (λ same. omega (arith, more, same)) ∙ p.behind i (omega (arith, more));
    } where
      here : Told (set new (from + n) y) n
      here = subst (λ (o : Option A). IfSome o (λ item. IfSome (slice_get (set new (from + n) y) (from + n)) (IsTold item))) (sym e)
          (subst (λ (o : Option B). IfSome o (IsTold x)) (sym (get_set new (from + n) y (omega (arith, inside, p.same_room)))) told)

      at : (i : ℕ) → i < n + 1 → from + i < length old → (i ≡ n) ⊎ (i ≢ n) → Told (set new (from + n) y) i
      at i less in_room (inl same) = subst (Told (set new (from + n) y)) (sym same) here
      at i less in_room (inr other) = subst (λ (o : Option B). IfSome (slice_get items i) (λ item. IfSome o (IsTold item)))
          (sym (get_other new (from + n) (from + i) y (λ same. other (omega (arith, same))))) (p.put i (omega (arith, less, other)) in_room)

  pub all_put : (new : List B) (n : ℕ) → n ≡ length items → ArePutUpTo IsTold from n items old new → ArePut IsTold from items old new
  all_put new n all p = record { same_room = p.same_room; put = λ i in_room. at i in_room (less_or_not n i); before = p.before; behind = λ i more. p.behind i (omega (arith, more, all)) } where
    at : (i : ℕ) → from + i < length old → (i < n) ⊎ (n ≤ i) → Told new i
    at i in_room (inl less) = p.put i less in_room
    at i in_room (inr more) = subst (λ (o : Option A). IfSome o (λ item. IfSome (slice_get new (from + i)) (IsTold item))) (sym (slice_get_past items i (omega (arith, more, all)))) tt

-- ---- one list behind another

nth_left : {A : Type 0} (xs ys : List A) (i : ℕ) → i < length xs → slice_get (xs ++ ys) i ≡ slice_get xs i
nth_left [] ys i less = absurd (omega (arith, less))
nth_left (x ∷ xs) ys zero less = refl
nth_left (x ∷ xs) ys (suc i) less = nth_left xs ys i (omega (arith, less))

nth_right : {A : Type 0} (xs ys : List A) (i : ℕ) → slice_get (xs ++ ys) (length xs + i) ≡ slice_get ys i
nth_right [] ys i = let e : 0 + i ≡ i = omega (arith) in ap (slice_get ys) e
nth_right (x ∷ xs) ys i = let e : suc (length xs) + i ≡ suc (length xs + i) = omega (arith) in ap (slice_get (x ∷ xs ++ ys)) e ∙ nth_right xs ys i

pub both_long : {A : Type 0} (xs ys : List A) → length (xs ++ ys) ≡ length xs + length ys
both_long [] ys = omega (arith)
both_long (x ∷ xs) ys = let e : suc (length xs + length ys) ≡ suc (length xs) + length ys = omega (arith) in ap suc (both_long xs ys) ∙ e

-- the place behind a list, or one that lies behind the room, as the list's end does
abbrev pub IsBehind : {A B : Type 0} → ℕ → List A → List B → Type 0
IsBehind from xs room = (from ≡ length xs) ⊎ ((length room ≤ from) × (length room ≤ length xs))

module _ {A B : Type 0} (IsTold : A → B → Type 0) (from : ℕ) (xs ys : List A) (old mid new : List B) (p : ArePut IsTold 0 xs old mid) (q : ArePut IsTold from ys mid new) where
  abbrev Here : Option A → Option B → Type 0
  Here o r = IfSome o (λ item. IfSome r (IsTold item))

  early : IsBehind from xs old → (i : ℕ) → i < length xs → 0 + i < length old → 0 + i < from
  early (inl e) i less inside = omega (arith, e, less)
  early (inr s) i less inside = omega (arith, s.0, inside)

  right : IsBehind from xs old → (k : ℕ) → 0 + (length xs + k) < length old → Here (slice_get (xs ++ ys) (length xs + k)) (slice_get new (0 + (length xs + k)))
  right (inl e) k inside = let same : from + k ≡ 0 + (length xs + k) = omega (arith, e) in subst (λ (o : Option A). Here o (slice_get new (0 + (length xs + k)))) (sym (nth_right xs ys k))
      (subst (λ (n : ℕ). Here (slice_get ys k) (slice_get new n)) same (q.put k (omega (arith, e, inside, p.same_room))))
  right (inr s) k inside = absurd (omega (arith, s.1, inside))

  after : IsBehind from xs old → (i : ℕ) → 0 + length (xs ++ ys) ≤ i → slice_get new i ≡ slice_get old i
  after (inl e) i more = q.behind i (omega (arith, e, more, both_long xs ys)) ∙ p.behind i (omega (arith, more, both_long xs ys))
  after (inr s) i more = slice_get_past new i (omega (arith, s.1, more, both_long xs ys, p.same_room, q.same_room)) ∙ sym (slice_get_past old i (omega (arith, s.1, more, both_long xs ys)))

  pub put_behind : IsBehind from xs old → ArePut IsTold 0 (xs ++ ys) old new
  put_behind which = record { same_room = q.same_room ∙ p.same_room; put = λ i inside. at i inside (less_or_not (length xs) i); before = λ i less. absurd (omega (arith, less)); behind = after which } where
    at : (i : ℕ) → 0 + i < length old → (i < length xs) ⊎ (length xs ≤ i) → Here (slice_get (xs ++ ys) i) (slice_get new (0 + i))
    at i inside (inl less) = subst (λ (o : Option A). Here o (slice_get new (0 + i))) (sym (nth_left xs ys i less))
        (subst (λ (o : Option B). Here (slice_get xs i) o) (sym (q.before (0 + i) (early which i less inside))) (p.put i inside))
    at i inside (inr more) = let e : length xs + (i - length xs) ≡ i = omega (arith, more) in
        subst (λ (n : ℕ). Here (slice_get (xs ++ ys) n) (slice_get new (0 + n))) e (right which (i - length xs) (omega (arith, e, inside)))

-- ---- a list, and behind it those of the first elements of another

abbrev pub behind_first : {A C : Type 0} → (C → List A) → List A → List C → ℕ → List A
behind_first f xs cs n = xs ++ flat_map f (take n cs)

no_some : {C : Type 0} (c : C) → None ≡ Some c → ⊥
no_some {C} c e = subst IsNothing e tt where
  IsNothing : Option C → Type 0
  IsNothing None = Unit {0}
  IsNothing (Some x) = ⊥

take_all : {C : Type 0} (cs : List C) → take (length cs) cs ≡ cs
take_all [] = refl
take_all (c ∷ cs) = ap (λ ys. c ∷ ys) (take_all cs)

module _ {A C : Type 0} (f : C → List A) where
  one_more : (cs : List C) (n : ℕ) (c : C) → slice_get cs n ≡ Some c → flat_map f (take (suc n) cs) ≡ flat_map f (take n cs) ++ f c
  one_more [] n c e = absurd (no_some c e)
  one_more (x ∷ cs) zero c e = append-nil (f x) ∙ ap (λ (o : Option C). f (unwrap_or o x)) e
  one_more (x ∷ cs) (suc n) c e = ap (λ (ys : List A). f x ++ ys) (one_more cs n c e) ∙ sym (append_assoc (f x) (flat_map f (take n cs)) (f c))

  pub next_behind : (xs : List A) (cs : List C) (n : ℕ) (c : C) → slice_get cs n ≡ Some c → behind_first f xs cs (n + 1) ≡ behind_first f xs cs n ++ f c
  next_behind xs cs n c e = let next : n + 1 ≡ suc n = omega (arith) in
      ap (λ (m : ℕ). behind_first f xs cs m) next ∙ (ap (λ (ys : List A). xs ++ ys) (one_more cs n c e) ∙ sym (append_assoc xs (flat_map f (take n cs)) (f c)))

  pub all_behind : (xs : List A) (cs : List C) (n : ℕ) → n ≡ length cs → behind_first f xs cs n ≡ xs ++ flat_map f cs
  all_behind xs cs n e = ap (λ (m : ℕ). behind_first f xs cs m) e ∙ ap (λ (ds : List C). xs ++ flat_map f ds) (take_all cs)

module _ {A B C : Type 0} (IsTold : A → B → Type 0) (f : C → List A) (xs : List A) (cs : List C) (old : List B) where
  -- the list itself is told, and then those of the first `n` elements; `from` is the place behind them
  abbrev pub IsTellingBehind : ℕ → ℕ → List B → Type 0
  IsTellingBehind from n new = ArePut IsTold 0 (behind_first f xs cs n) old new × IsBehind from (behind_first f xs cs n) old

  pub none_behind : (from : ℕ) (new : List B) → ArePut IsTold 0 xs old new → from ≡ length xs → IsTellingBehind from 0 new
  none_behind from new p e = subst (λ (ys : List A). ArePut IsTold 0 ys old new × IsBehind from ys old) (sym (append-nil xs)) (p, inl e)

  further : (told ys : List A) (from next : ℕ) → IsBehind from told old → next ≤ from + length ys → (next ≡ from + length ys) ⊎ (length old ≤ next) → IsBehind next (told ++ ys) old
  further told ys from next (inl e) most (inl is) = inl (omega (arith, e, is, both_long told ys))
  further told ys from next (inl e) most (inr far) = inr (far, omega (arith, e, most, far, both_long told ys))
  further told ys from next (inr s) most (inl is) = inr (omega (arith, s.0, is), omega (arith, s.1, both_long told ys))
  further told ys from next (inr s) most (inr far) = inr (far, omega (arith, s.1, both_long told ys))

  pub one_behind : (from next n : ℕ) (mid new : List B) (c : C) → IsTellingBehind from n mid → slice_get cs n ≡ Some c → ArePut IsTold from (f c) mid new
      → next ≤ from + length (f c) → (next ≡ from + length (f c)) ⊎ (length old ≤ next) → IsTellingBehind next (n + 1) new
  one_behind from next n mid new c p e q most which = let told = behind_first f xs cs n in
      subst (λ (ys : List A). ArePut IsTold 0 ys old new × IsBehind next ys old) (sym (next_behind f xs cs n c e))
      (put_behind IsTold from told (f c) old mid new p.0 q p.1, further told (f c) from next p.1 most which)

  pub all_told : (from n : ℕ) (new : List B) → IsTellingBehind from n new → n ≡ length cs → ArePut IsTold 0 (xs ++ flat_map f cs) old new
  all_told from n new p e = subst (λ (ys : List A). ArePut IsTold 0 ys old new) (all_behind f xs cs n e) p.0

-- a place that stops at the end of the room
pub stopped_sum : (a k next room : ℕ) → next ≡ min (a + k) room → (next ≤ a + k) × ((next ≡ a + k) ⊎ (room ≤ next))
stopped_sum a k next room e = by_size (less_or_not room (a + k)) where
  by_size : (a + k < room) ⊎ (room ≤ a + k) → (next ≤ a + k) × ((next ≡ a + k) ⊎ (room ≤ next))
  by_size (inl less) = let is : next ≡ a + k = omega (arith, e, less) in (omega (arith, is), inl is)
  by_size (inr more) = let is : next ≡ room = omega (arith, e, more) in (omega (arith, is, more), inr (omega (arith, is)))
