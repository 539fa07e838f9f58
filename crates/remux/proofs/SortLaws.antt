-- A stable sort has one result.
use Rattle.std.proofs.Common.{◌≡◌, ℕ, suc, ◌<◌, ◌≤◌, Bool, true, false, not, cond, ◌&&◌, List, [], ◌∷◌, length, get_or, refl, ap, sym, ◌∙◌, arith}
use Rattle.std.specs.Cmp.{IsStrictWeakOrder}
use Rattle.std.specs.List.{filter, AllByRecursion}
use Rattle.std.specs.List.Sorted.{ties, IsSortedBy, IsStableBy}
use Rattle.std.proofs.lemmas.List.Sorted.{sorted_far}

-- no element is less than one before it
abbrev pub IsUp : {X : Type 0} → (X → X → Bool) → List X → Type 0
IsUp lt [] = Unit {0}
IsUp lt (x ∷ xs) = AllByRecursion (λ y. lt y x ≡ false) xs × IsUp lt xs

-- an element before the first that is not less
abbrev pub put : {X : Type 0} → (X → X → Bool) → X → List X → List X
put lt x [] = x ∷ []
put lt x (y ∷ ys) = cond (lt y x) (y ∷ put lt x ys) (x ∷ y ∷ ys)

abbrev pub sorted : {X : Type 0} → (X → X → Bool) → List X → List X
sorted lt [] = []
sorted lt (x ∷ xs) = put lt x (sorted lt xs)

-- ---- what ties

self_ties : {X : Type 0} (lt : X → X → Bool) (o : IsStrictWeakOrder lt) (x : X) → ties lt x x ≡ true
self_ties lt o x = by (lt x x) refl
  where
    by : (t : Bool) → lt x x ≡ t → (not (lt x x) && not (lt x x)) ≡ true
    by true e = let f = o.one_way x x e in absurd (cc)
    by false e = ap (λ t. not t && not t) e

less_first : {X : Type 0} (lt : X → X → Bool) (x y : X) → lt x y ≡ true → ties lt x y ≡ false
less_first lt x y e = ap (λ t. not t && not (lt y x)) e

less_second : {X : Type 0} (lt : X → X → Bool) (x y : X) → lt y x ≡ true → ties lt x y ≡ false
less_second lt x y e = by (lt x y)
  where
    by : (t : Bool) → (not t && not (lt y x)) ≡ false
    by true = refl
    by false = ap not e

-- elements that are not less than one that is greater than y do not tie with y
none_tie : {X : Type 0} (lt : X → X → Bool) (o : IsStrictWeakOrder lt) (y z : X) (ws : List X) → lt y z ≡ true → AllByRecursion (λ w. lt w z ≡ false) ws → filter (ties lt y) ws ≡ []
none_tie lt o y z [] e h = refl
none_tie {X} lt o y z (w ∷ ws) e h =
    let above : lt y w ≡ true = by (lt y w) refl in
    ap (λ t. cond t (w ∷ filter (ties lt y) ws) (filter (ties lt y) ws)) (less_first lt y w above) ∙ none_tie lt o y z ws e h.1
  where
    by : (t : Bool) → lt y w ≡ t → lt y w ≡ true
    by true f = f
    by false f = let g = o.chain y w z f h.0 in absurd (cc)

-- so the first of one list is not less than the first of another that has the same ties
not_less : {X : Type 0} (lt : X → X → Bool) (o : IsStrictWeakOrder lt) (y z : X) (ys zs : List X) → IsUp lt (z ∷ zs) → filter (ties lt y) (y ∷ ys) ≡ filter (ties lt y) (z ∷ zs) → lt y z ≡ false
not_less lt o y z ys zs up e = by (lt y z) refl
  where
    by : (t : Bool) → lt y z ≡ t → lt y z ≡ false
    by false f = f
    by true f =
        let some : filter (ties lt y) (y ∷ ys) ≡ y ∷ filter (ties lt y) ys = ap (λ t. cond t (y ∷ filter (ties lt y) ys) (filter (ties lt y) ys)) (self_ties lt o y) in
        let none : filter (ties lt y) (z ∷ zs) ≡ [] = ap (λ t. cond t (z ∷ filter (ties lt y) zs) (filter (ties lt y) zs)) (less_first lt y z f) ∙ none_tie lt o y z zs f up.0 in
        absurd (cc)

head_same : {X : Type 0} (x y : X) (xs ys : List X) → x ∷ xs ≡ y ∷ ys → x ≡ y
head_same x y xs ys e = cc

tail_same : {X : Type 0} (t : Bool) (x : X) (xs ys : List X) → cond t (x ∷ xs) xs ≡ cond t (x ∷ ys) ys → xs ≡ ys
tail_same true x xs ys e = cc
tail_same false x xs ys e = e

both_not : (a b : Bool) → a ≡ false → b ≡ false → (not a && not b) ≡ true
both_not a b e f = ap (λ t. not t && not b) e ∙ ap not f

-- two lists in order in which the same elements tie, in the same order, are one
pub one_result : {X : Type 0} (lt : X → X → Bool) (o : IsStrictWeakOrder lt) (ys zs : List X) → IsUp lt ys → IsUp lt zs → ((x : X) → filter (ties lt x) ys ≡ filter (ties lt x) zs) → ys ≡ zs
one_result lt o [] [] u v e = refl
one_result lt o [] (z ∷ zs) u v e =
    let some : filter (ties lt z) (z ∷ zs) ≡ z ∷ filter (ties lt z) zs = ap (λ t. cond t (z ∷ filter (ties lt z) zs) (filter (ties lt z) zs)) (self_ties lt o z) in
    let same = e z in
    absurd (cc)
one_result lt o (y ∷ ys) [] u v e =
    let some : filter (ties lt y) (y ∷ ys) ≡ y ∷ filter (ties lt y) ys = ap (λ t. cond t (y ∷ filter (ties lt y) ys) (filter (ties lt y) ys)) (self_ties lt o y) in
    let same = e y in
    absurd (cc)
one_result {X} lt o (y ∷ ys) (z ∷ zs) u v e =
    let a = not_less lt o y z ys zs v (e y) in
    let b = not_less lt o z y zs ys u (sym (e z)) in
    let some : filter (ties lt y) (y ∷ ys) ≡ y ∷ filter (ties lt y) ys = ap (λ t. cond t (y ∷ filter (ties lt y) ys) (filter (ties lt y) ys)) (self_ties lt o y) in
    let tied : filter (ties lt y) (z ∷ zs) ≡ z ∷ filter (ties lt y) zs = ap (λ t. cond t (z ∷ filter (ties lt y) zs) (filter (ties lt y) zs)) (both_not (lt y z) (lt z y) a b) in
    let first : y ≡ z = head_same y z _ _ (sym some ∙ (e y ∙ tied)) in
    let rest : ys ≡ zs = one_result lt o ys zs u.1 v.1 (λ x. tail_same (ties lt x y) y _ _ (e x ∙ sym (ap (λ (w : X). filter (ties lt x) (w ∷ zs)) first))) in
    ap (λ w. w ∷ ys) first ∙ ap (λ ws. z ∷ ws) rest

-- ---- the sorted list

both_parts : (a b : Bool) → (not a && not b) ≡ true → (a ≡ false) × (b ≡ false)
both_parts true b h = absurd (cc)
both_parts false true h = absurd (cc)
both_parts false false h = (refl, refl)

-- what is less than another does not tie with the same
not_both : {X : Type 0} (lt : X → X → Bool) (o : IsStrictWeakOrder lt) (x n r : X) → lt n r ≡ true → ties lt x n ≡ true → ties lt x r ≡ true → ⊥
not_both lt o x n r l e f =
    let p = both_parts (lt x n) (lt n x) e in
    let q = both_parts (lt x r) (lt r x) f in
    let c = o.chain n x r p.1 q.0 in
    cc

swapped : {X : Type 0} (a b : Bool) (n r : X) (ws : List X) → (a ≡ true → b ≡ true → ⊥) → cond a (n ∷ cond b (r ∷ ws) ws) (cond b (r ∷ ws) ws) ≡ cond b (r ∷ cond a (n ∷ ws) ws) (cond a (n ∷ ws) ws)
swapped true true n r ws h = absurd (h refl refl)
swapped true false n r ws h = refl
swapped false true n r ws h = refl
swapped false false n r ws h = refl

filter_put : {X : Type 0} (lt : X → X → Bool) (o : IsStrictWeakOrder lt) (x r : X) (rs : List X) → filter (ties lt x) (put lt r rs) ≡ filter (ties lt x) (r ∷ rs)
filter_put lt o x r [] = refl
filter_put {X} lt o x r (n ∷ ns) = by (lt n r) refl (filter_put lt o x r ns)
  where
    by : (t : Bool) → lt n r ≡ t → filter (ties lt x) (put lt r ns) ≡ filter (ties lt x) (r ∷ ns) → filter (ties lt x) (cond t (n ∷ put lt r ns) (r ∷ n ∷ ns)) ≡ filter (ties lt x) (r ∷ n ∷ ns)
    by true l h = ap (λ ws. cond (ties lt x n) (n ∷ ws) ws) h ∙ swapped (ties lt x n) (ties lt x r) n r (filter (ties lt x) ns) (not_both lt o x n r l)
    by false l h = refl

pub sorted_stable : {X : Type 0} (lt : X → X → Bool) (o : IsStrictWeakOrder lt) (x : X) (xs : List X) → filter (ties lt x) (sorted lt xs) ≡ filter (ties lt x) xs
sorted_stable lt o x [] = refl
sorted_stable lt o x (y ∷ ys) = filter_put lt o x y (sorted lt ys) ∙ ap (λ ws. cond (ties lt x y) (y ∷ ws) ws) (sorted_stable lt o x ys)

-- all elements of a list with one put in
all_put : {X : Type 0} (lt : X → X → Bool) (P : X → Type 0) (r : X) (rs : List X) → P r → AllByRecursion P rs → AllByRecursion P (put lt r rs)
all_put lt P r [] h k = (h, tt)
all_put {X} lt P r (n ∷ ns) h k = by (lt n r) (all_put lt P r ns h k.1)
  where
    by : (t : Bool) → AllByRecursion P (put lt r ns) → AllByRecursion P (cond t (n ∷ put lt r ns) (r ∷ n ∷ ns))
    by true q = (k.0, q)
    by false q = (h, k)

pub all_sorted : {X : Type 0} (lt : X → X → Bool) (P : X → Type 0) (rs : List X) → AllByRecursion P rs → AllByRecursion P (sorted lt rs)
all_sorted lt P [] k = tt
all_sorted lt P (r ∷ rs) k = all_put lt P r (sorted lt rs) k.0 (all_sorted lt P rs k.1)

all_above : {X : Type 0} (lt : X → X → Bool) (o : IsStrictWeakOrder lt) (r n : X) (ns : List X) → lt n r ≡ false → AllByRecursion (λ y. lt y n ≡ false) ns → AllByRecursion (λ y. lt y r ≡ false) ns
all_above lt o r n [] e k = tt
all_above lt o r n (m ∷ ns) e k = (o.chain m n r k.0 e, all_above lt o r n ns e k.1)

up_put : {X : Type 0} (lt : X → X → Bool) (o : IsStrictWeakOrder lt) (r : X) (rs : List X) → IsUp lt rs → IsUp lt (put lt r rs)
up_put lt o r [] u = (tt, tt)
up_put {X} lt o r (n ∷ ns) u = by (lt n r) refl (up_put lt o r ns u.1)
  where
    by : (t : Bool) → lt n r ≡ t → IsUp lt (put lt r ns) → IsUp lt (cond t (n ∷ put lt r ns) (r ∷ n ∷ ns))
    by true e q = (all_put lt (λ (y : X). lt y n ≡ false) r ns (o.one_way n r e) u.0, q)
    by false e q = ((e, all_above lt o r n ns e u.0), u)

pub up_sorted : {X : Type 0} (lt : X → X → Bool) (o : IsStrictWeakOrder lt) (rs : List X) → IsUp lt (sorted lt rs)
up_sorted lt o [] = tt
up_sorted lt o (r ∷ rs) = up_put lt o r (sorted lt rs) (up_sorted lt o rs)

-- ---- what a sort ensures

all_from : {X : Type 0} (P : X → Type 0) (xs : List X) → ((k : ℕ) (d : X) → k < length xs → P (get_or xs k d)) → AllByRecursion P xs
all_from P [] h = tt
all_from P (x ∷ xs) h = (h 0 x (omega arith), all_from P xs (λ k d l. h (suc k) d (omega arith)))

up_from : {X : Type 0} (lt : X → X → Bool) (xs : List X) → ((i j : ℕ) (d : X) → i ≤ j → j < length xs → lt (get_or xs j d) (get_or xs i d) ≡ false) → IsUp lt xs
up_from lt [] h = tt
up_from {X} lt (x ∷ xs) h = (
  all_from (λ (y : X). lt y x ≡ false) xs (λ k d l. h 0 (suc k) d (omega arith) (omega arith)),
  up_from lt xs (λ i j d l m. h (suc i) (suc j) d (omega arith) (omega arith)),
)

-- a list that is in order and in which ties keep their order is the sorted list
pub sorted_is : {X : Type 0} (lt : X → X → Bool) (o : IsStrictWeakOrder lt) (xs ys : List X) → IsSortedBy lt ys → IsStableBy lt xs ys → ys ≡ sorted lt xs
sorted_is lt o xs ys s t =
    one_result lt o ys (sorted lt xs) (up_from lt ys (sorted_far lt o ys s)) (up_sorted lt o xs) (λ x. t x ∙ sym (sorted_stable lt o x xs))
