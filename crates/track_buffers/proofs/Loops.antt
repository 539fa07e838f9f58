-- Steps of loops over lists, by the place.
use Rattle.std.proofs.Common.{◌≡◌, ℕ, ℤ, zero, suc, ◌+◌, ◌<◌, ◌≤◌, Bool, true, false, not, cond, ◌&&◌, ◌||◌, List, [], ◌∷◌, ◌++◌, length, map, take, set, filter, fold, slice_get, Option, Some, None, refl, sym, ap, ◌∙◌, subst, arith, add-one, add-zero}
use Rattle.std.specs.List.{list_all, find, flat_map, position, position_or_len, count_by}
use Rattle.std.specs.Option.{IfSome, option_cmp}
use Rattle.std.specs.Ordering.{int_cmp, ord_max}
use Rattle.std.specs.Int.{int_max}
use Rattle.std.proofs.lemmas.Bool.Decides.{nat_tests}
use Rattle.std.proofs.lemmas.Int.{ints}
use Rattle.std.proofs.lemmas.List.{append-nil, map-append}
use Rattle.std.proofs.lemmas.List.Folds.{list_all-append}
use Rattle.std.proofs.lemmas.Grind.{flat_map-append}
use Rattle.std.proofs.lemmas.List.Sums.{fold-append, sum_by-cons, sum_by_push}
use Rattle.mse_base.proofs.Compared.{max_of_two}
use Rattle.mse_base.specs.Moments.{greatest, greater_of, greatest_of_two}

-- the element at a place, and what is known of it
pub record HasItemAt {X : Type 0} (P : X → Type 0) (xs : List X) (i : ℕ) : Type 0 where
  pub x : X
  pub here : slice_get xs i ≡ Some x
  pub more : take (i + 1) xs ≡ take i xs ++ x ∷ []
  pub holds : P x

take_at : {X : Type 0} (xs : List X) (i : ℕ) (x : X) → slice_get xs i ≡ Some x → take (suc i) xs ≡ take i xs ++ x ∷ []
take_at [] i x e = absurd cc
take_at (y ∷ xs) zero x e = let same : y ≡ x = cc in ap (λ z. z ∷ []) same
take_at (y ∷ xs) (suc i) x e = ap (λ zs. y ∷ zs) (take_at xs i x e)

found_by : {X : Type 0} (P : X → Type 0) (xs : List X) (i : ℕ) (o : Option X) → slice_get xs i ≡ o → i < length xs → IfSome o P → HasItemAt P xs i
found_by P xs i (Some x) e low h = record { x = x; here = e; more = rw (add-one) (take_at xs i x e); holds = h }
found_by P xs i None e low h = absurd (none_within xs i low e)
  where
    none_within : {X : Type 0} (xs : List X) (i : ℕ) → i < length xs → slice_get xs i ≡ None → ⊥
    none_within [] i low e = omega arith
    none_within (x ∷ xs) zero low e = cc
    none_within (x ∷ xs) (suc i) low e = none_within xs i (omega arith) e

pub found_at : {X : Type 0} (P : X → Type 0) (xs : List X) (i : ℕ) → i < length xs → IfSome (slice_get xs i) P → HasItemAt P xs i
found_at P xs i low h = found_by P xs i (slice_get xs i) refl low h

-- ---- a list made step by step

pub mapped_more : {X Y : Type 0} (f : X → Y) (xs : List X) (i : ℕ) (ys zs : List Y) → i < length xs → ys ≡ map f (take i xs) → IfSome (slice_get xs i) (λ x. zs ≡ ys ++ f x ∷ []) → zs ≡ map f (take (i + 1) xs)
mapped_more f xs i ys zs low so_far h =
    let at = found_at (λ x. zs ≡ ys ++ f x ∷ []) xs i low h in
    at.holds ∙ ap (λ us. us ++ f at.x ∷ []) so_far ∙ sym (ap (map f) at.more ∙ map-append f (take i xs) (at.x ∷ []))

-- ---- tests

pub all_more : {X : Type 0} (p : X → Bool) (xs : List X) (i : ℕ) (b : Bool) → i < length xs → list_all p (take i xs) ≡ true → IfSome (slice_get xs i) (λ x. b ≡ p x) → b ≡ true → list_all p (take (i + 1) xs) ≡ true
all_more p xs i b low so_far h pass =
    let at = found_at (λ x. b ≡ p x) xs i low h in
    ap (list_all p) at.more ∙ list_all-append p (take i xs) (at.x ∷ []) ∙ ap (λ c. c && (p at.x && true)) so_far ∙ ap (λ c. c && true) (sym at.holds ∙ pass)

pub all_stops : {X : Type 0} (p : X → Bool) (xs : List X) (i : ℕ) (b : Bool) → IfSome (slice_get xs i) (λ x. b ≡ p x) → i < length xs → b ≡ false → list_all p xs ≡ false
all_stops p [] i b h low fail = absurd (omega arith)
all_stops p (x ∷ xs) zero b h low fail = ap (λ c. c && list_all p xs) (sym h ∙ fail)
all_stops p (x ∷ xs) (suc i) b h low fail = ap (λ c. p x && c) (all_stops p xs i b h (omega arith) fail) ∙ and_false (p x)
  where
    and_false : (c : Bool) → (c && false) ≡ false
    and_false true = refl
    and_false false = refl

-- of the elements that pass a test
or_pick : (q p r : Bool) → cond q (p && r) r ≡ ((not q || p) && r)
or_pick true p r = refl
or_pick false p r = refl

all-pick : {X : Type 0} (p : X → Bool) (x : X) (xs : List X) (q : Bool) → list_all p (cond q (x ∷ xs) xs) ≡ cond q (p x && list_all p xs) (list_all p xs)
all-pick p x xs true = refl
all-pick p x xs false = refl

pub all-filter : {X : Type 0} (p q : X → Bool) (xs : List X) → list_all p (filter q xs) ≡ list_all (λ x. not (q x) || p x) xs
all-filter p q [] = refl
all-filter p q (x ∷ xs) = all-pick p x (filter q xs) (q x) ∙ or_pick (q x) (p x) (list_all p (filter q xs)) ∙ ap (λ r. (not (q x) || p x) && r) (all-filter p q xs)

find-pick : {X : Type 0} (p : X → Bool) (x : X) (xs : List X) (q : Bool) → find p (cond q (x ∷ xs) xs) ≡ cond (q && p x) (Some x) (find p xs)
find-pick p x xs true = refl
find-pick p x xs false = refl

pub find-filter : {X : Type 0} (p q : X → Bool) (xs : List X) → find p (filter q xs) ≡ find (λ x. q x && p x) xs
find-filter p q [] = refl
find-filter p q (x ∷ xs) = find-pick p x (filter q xs) (q x) ∙ ap (cond (q x && p x) (Some x)) (find-filter p q xs)

count-pick : {X : Type 0} (p : X → Bool) (x : X) (xs : List X) (q : Bool) → count_by p (cond q (x ∷ xs) xs) ≡ cond (q && p x) 1 0 + count_by p xs
count-pick p x xs true = sum_by-cons (λ y. cond (p y) 1 0) x xs
count-pick p x xs false = omega arith

pub count-filter : {X : Type 0} (p q : X → Bool) (xs : List X) → count_by p (filter q xs) ≡ count_by (λ x. q x && p x) xs
count-filter p q [] = refl
count-filter p q (x ∷ xs) = count-pick p x (filter q xs) (q x) ∙ ap (λ n. cond (q x && p x) 1 0 + n) (count-filter p q xs) ∙ sym (sum_by-cons (λ y. cond (q y && p y) 1 0) x xs)

pub count-map : {X Y : Type 0} (p : Y → Bool) (f : X → Y) (xs : List X) → count_by p (map f xs) ≡ count_by (λ x. p (f x)) xs
count-map p f [] = refl
count-map p f (x ∷ xs) = sum_by-cons (λ y. cond (p y) 1 0) (f x) (map f xs) ∙ ap (λ n. cond (p (f x)) 1 0 + n) (count-map p f xs) ∙ sym (sum_by-cons (λ z. cond (p (f z)) 1 0) x xs)

-- one more was counted
count_step : {X : Type 0} (p : X → Bool) (xs : List X) (i n : ℕ) (b : Bool) → i < length xs → n ≡ count_by p (take i xs) → IfSome (slice_get xs i) (λ x. b ≡ p x) → n + cond b 1 0 ≡ count_by p (take (i + 1) xs)
count_step p xs i n b low so_far h =
    let at = found_at (λ x. b ≡ p x) xs i low h in
    ap (λ m. m + cond b 1 0) so_far ∙ ap (λ c. count_by p (take i xs) + cond c 1 0) at.holds ∙ sym (ap (count_by p) at.more ∙ sum_by_push (λ x. cond (p x) 1 0) (take i xs) at.x)

pub count_more : {X : Type 0} (p : X → Bool) (xs : List X) (i n : ℕ) (b : Bool) → i < length xs → n ≡ count_by p (take i xs) → IfSome (slice_get xs i) (λ x. b ≡ p x) → b ≡ true → n + 1 ≡ count_by p (take (i + 1) xs)
count_more p xs i n b low so_far h pass = ap (λ c. n + cond c 1 0) (sym pass) ∙ count_step p xs i n b low so_far h

pub count_same : {X : Type 0} (p : X → Bool) (xs : List X) (i n : ℕ) (b : Bool) → i < length xs → n ≡ count_by p (take i xs) → IfSome (slice_get xs i) (λ x. b ≡ p x) → b ≡ false → n ≡ count_by p (take (i + 1) xs)
count_same p xs i n b low so_far h fail = sym (add-zero n) ∙ ap (λ c. n + cond c 1 0) (sym fail) ∙ count_step p xs i n b low so_far h

-- ---- the first that passes

none_step : {X : Type 0} (y : X) (b : Bool) (o : Option X) → cond b (Some y) o ≡ None → (b ≡ false) × (o ≡ None)
none_step y true o e = absurd cc
none_step y false o e = (refl, e)

none_push : {X : Type 0} (p : X → Bool) (ys : List X) (y : X) → find p ys ≡ None → p y ≡ false → find p (ys ++ y ∷ []) ≡ None
none_push p [] y e f = ap (λ c. cond c (Some y) None) f
none_push p (z ∷ ys) y e f = let both = none_step z (p z) (find p ys) e in ap (λ c. cond c (Some z) (find p (ys ++ y ∷ []))) both.0 ∙ none_push p ys y both.1 f

pub find_none : {X : Type 0} (p : X → Bool) (xs : List X) (i : ℕ) (b : Bool) → i < length xs → find p (take i xs) ≡ None → IfSome (slice_get xs i) (λ x. b ≡ p x) → b ≡ false → find p (take (i + 1) xs) ≡ None
find_none p xs i b low so_far h fail =
    let at = found_at (λ x. b ≡ p x) xs i low h in
    ap (find p) at.more ∙ none_push p (take i xs) at.x so_far (sym at.holds ∙ fail)

pub find_here : {X : Type 0} (p : X → Bool) (xs : List X) (i : ℕ) (x : X) → find p (take i xs) ≡ None → slice_get xs i ≡ Some x → p x ≡ true → find p xs ≡ Some x
find_here p [] i x e h pass = absurd cc
find_here p (y ∷ xs) zero x e h pass = let same : y ≡ x = cc in ap (λ c. cond c (Some y) (find p xs)) (ap p same ∙ pass) ∙ ap Some same
find_here p (y ∷ xs) (suc i) x e h pass =
    let both = none_step y (p y) (find p (take i xs)) e in
    ap (λ c. cond c (Some y) (find p xs)) both.0 ∙ find_here p xs i x both.1 h pass

-- ---- its place

passes_past : {X : Type 0} (p : X → Bool) (x : X) (n i : ℕ) (b : Bool) → p x ≡ b → suc i ≤ cond (not b) (1 + n) 0 → b ≡ false
passes_past p x n i true e h = absurd (omega arith)
passes_past p x n i false e h = refl

passes_under : (b : Bool) (n i : ℕ) → b ≡ false → suc i ≤ cond (not b) (1 + n) 0 → i ≤ n
passes_under true n i e le = absurd cc
passes_under false n i e le = omega arith

pub position_more : {X : Type 0} (p : X → Bool) (xs : List X) (i : ℕ) (b : Bool) → i < length xs → i ≤ position_or_len p xs → IfSome (slice_get xs i) (λ x. b ≡ p x) → b ≡ false → i + 1 ≤ position_or_len p xs
position_more p [] i b low le h fail = absurd (omega arith)
position_more p (x ∷ xs) zero b low le h fail = subst (λ c. 0 + 1 ≤ cond (not c) (1 + position_or_len p xs) 0) (sym fail ∙ h) (omega arith)
position_more p (x ∷ xs) (suc i) b low le h fail =
    let off = passes_past p x (position_or_len p xs) i (p x) refl le in
    let rest = position_more p xs i b (omega arith) (passes_under (p x) (position_or_len p xs) i off le) h fail in
    subst (λ c. suc i + 1 ≤ cond (not c) (1 + position_or_len p xs) 0) (sym off) (omega arith)

at_place : {X : Type 0} (p : X → Bool) (xs : List X) (i : ℕ) (b : Bool) → i < length xs → i ≤ position_or_len p xs → IfSome (slice_get xs i) (λ x. b ≡ p x) → b ≡ true → position_or_len p xs ≡ i
at_place p [] i b low le h pass = absurd (omega arith)
at_place p (x ∷ xs) zero b low le h pass = ap (λ c. cond (not c) (1 + position_or_len p xs) 0) (sym h ∙ pass)
at_place p (x ∷ xs) (suc i) b low le h pass =
    let off = passes_past p x (position_or_len p xs) i (p x) refl le in
    let rest = at_place p xs i b (omega arith) (passes_under (p x) (position_or_len p xs) i off le) h pass in
    ap (λ c. cond (not c) (1 + position_or_len p xs) 0) off ∙ omega arith

pub position_here : {X : Type 0} (p : X → Bool) (xs : List X) (i : ℕ) (b : Bool) → i < length xs → i ≤ position_or_len p xs → IfSome (slice_get xs i) (λ x. b ≡ p x) → b ≡ true → Some i ≡ position p xs
position_here p xs i b low le h pass = rw (at_place p xs i b low le h pass) (grind (arith, nat_tests))

pub position_none : {X : Type 0} (p : X → Bool) (xs : List X) (i : ℕ) → length xs ≤ i → i ≤ position_or_len p xs → None ≡ position p xs
position_none p xs i past le = grind (arith, nat_tests)

-- ---- the greatest of all

later_max : (a b c : ℤ) → int_max (int_max a b) c ≡ int_max a (int_max b c)
later_max a b c = grind (arith, ints)

later-greater : (o : Option ℤ) (t : Option ℤ) (u : ℤ) → greatest_of_two o (greater_of t u) ≡ greater_of (greatest_of_two o t) u
later-greater None t u = refl
later-greater (Some s) None u = refl
later-greater (Some s) (Some t) u = ap Some (sym (later_max s t u))

pub later-fold : (o t : Option ℤ) (us : List ℤ) → greatest_of_two o (fold greater_of t us) ≡ fold greater_of (greatest_of_two o t) us
later-fold o t [] = refl
later-fold o t (u ∷ us) = later-fold o (greater_of t u) us ∙ ap (λ s. fold greater_of s us) (later-greater o t u)

later_none : (o : Option ℤ) → greatest_of_two o None ≡ o
later_none None = refl
later_none (Some s) = refl

pub highest_more : {X : Type 0} (f : X → List ℤ) (xs : List X) (i : ℕ) (best o : Option ℤ) → i < length xs → best ≡ greatest (flat_map f (take i xs)) → IfSome (slice_get xs i) (λ x. o ≡ greatest (f x)) → ord_max (option_cmp int_cmp) best o ≡ greatest (flat_map f (take (i + 1) xs))
highest_more f xs i best o low so_far h =
    let at = found_at (λ x. o ≡ greatest (f x)) xs i low h in
    max_of_two best o ∙ ap (greatest_of_two best) at.holds ∙ later-fold best None (f at.x) ∙ ap (λ s. fold greater_of s (f at.x)) (later_none best ∙ so_far)
    ∙ sym (ap greatest (ap (flat_map f) at.more ∙ flat_map-append f (take i xs) (at.x ∷ []) ∙ ap (λ ys. flat_map f (take i xs) ++ ys) (append-nil (f at.x))) ∙ fold-append greater_of None (flat_map f (take i xs)) (f at.x))

-- ---- one element is written over

pub set_itself : {X : Type 0} (xs : List X) (i : ℕ) (x : X) → slice_get xs i ≡ Some x → set xs i x ≡ xs
set_itself [] i x e = refl
set_itself (y ∷ xs) zero x e = let same : y ≡ x = cc in ap (λ z. z ∷ xs) (sym same)
set_itself (y ∷ xs) (suc i) x e = ap (λ zs. y ∷ zs) (set_itself xs i x e)
