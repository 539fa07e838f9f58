-- What holds of each state and each item of a walk.
use Rattle.std.proofs.Common.{◌≡◌, ℕ, zero, suc, ◌<◌, List, [], ◌∷◌, length, drop, slice_get, Some, refl, ap, sym, ◌∙◌, arith}
use Rattle.parser_loop.specs.Walk.{Move, Stop, Pass, Give, StreamKind, items_by, items_from, settle_by, settled_state, after_item, item_of, state_at, IsMoveBelow, IsWalk}
use Rattle.parser_loop.specs.Parse.{IfMoved, IsHaltBehind}
use Rattle.parser_loop.proofs.Walks.{IsSettled, items-at, items-step, settle-step, settled-at-state}

abbrev IsTrueOfItems : {S I : Type 0} → StreamKind S I → (I → Type 0) → S → Type 0
IsTrueOfItems k Q s = (i : ℕ) (item : _) → slice_get (items_from k s) i ≡ Some item → Q item

first : {I : Type 0} (Q : I → Type 0) (x y : I) → x ≡ y → Q x → Q y
first Q x y e q = rw (← e) q

each-at : {S I : Type 0} (k : StreamKind S I) (P : S → Type 0) (Q : I → Type 0) (n : ℕ) (m : Move S I) → IsMoveBelow k n m → IfMoved P Q m → ((t : S) → k.size t < n → P t → IsTrueOfItems k Q t) → (i : ℕ) (item : I) → slice_get (items_by (items_from k) m) i ≡ Some item → Q item
each-at k P Q n Stop h q f i item e = cc
each-at k P Q n (Pass t) h q f i item e = f t h q i item e
each-at k P Q n (Give x t) h q f zero item e = let p : x ≡ item = cc in first Q x item p q.0
each-at k P Q n (Give x t) h q f (suc i) item e = f t h q.1 i item e

each-in : {S I : Type 0} (k : StreamKind S I) (w : IsWalk k) (P : S → Type 0) (Q : I → Type 0) (g : (s : S) → P s → IfMoved P Q (k.move s)) (n : ℕ) (s : S) → k.size s < n → P s → IsTrueOfItems k Q s
each-in k w P Q g zero s h p = absurd (omega arith)
each-in k w P Q g (suc n) s h p = λ i item e. each-at k P Q (k.size s) (k.move s) (w.shrinks s) (g s p) (λ t l q. each-in k w P Q g n t (omega arith) q) i item (ap (λ items. slice_get items i) (sym (items-step k w s)) ∙ e)

-- each item
pub each-item : {S I : Type 0} (k : StreamKind S I) (w : IsWalk k) (P : S → Type 0) (Q : I → Type 0) → ((s : S) → P s → IfMoved P Q (k.move s)) → (s : S) → P s → (i : ℕ) (item : I) → slice_get (items_from k s) i ≡ Some item → Q item
each-item k w P Q g s p = each-in k w P Q g (suc (k.size s)) s (omega arith) p

settle-at : {S I : Type 0} (k : StreamKind S I) (P : S → Type 0) (Q : I → Type 0) (s : S) (m : Move S I) → P s → IsMoveBelow k (k.size s) m → IfMoved P Q m → ((t : S) → k.size t < k.size s → P t → P (settled_state k t)) → P (settle_by s (settled_state k) m)
settle-at k P Q s Stop p h q f = p
settle-at k P Q s (Pass t) p h q f = f t h q
settle-at k P Q s (Give x t) p h q f = p

settle-in : {S I : Type 0} (k : StreamKind S I) (w : IsWalk k) (P : S → Type 0) (Q : I → Type 0) (g : (s : S) → P s → IfMoved P Q (k.move s)) (n : ℕ) (s : S) → k.size s < n → P s → P (settled_state k s)
settle-in k w P Q g zero s h p = absurd (omega arith)
settle-in k w P Q g (suc n) s h p = rw (settle-step k w s) (settle-at k P Q s (k.move s) p (w.shrinks s) (g s p) (λ t l q. settle-in k w P Q g n t (omega arith) q))

behind : {S I : Type 0} (P : S → Type 0) (Q : I → Type 0) (s : S) (m : Move S I) → P s → IfMoved P Q m → P (after_item s m)
behind P Q s Stop p q = p
behind P Q s (Pass t) p q = p
behind P Q s (Give x t) p q = q.1

-- the state before each item
pub each-state : {S I : Type 0} (k : StreamKind S I) (w : IsWalk k) (P : S → Type 0) (Q : I → Type 0) → ((s : S) → P s → IfMoved P Q (k.move s)) → (n : ℕ) (s : S) → P s → P (state_at k n s)
each-state k w P Q g zero s p = settle-in k w P Q g (suc (k.size s)) s (omega arith) p
each-state k w P Q g (suc n) s p =
    let u = settled_state k s in
    let r : P (settled_state k s) = settle-in k w P Q g (suc (k.size s)) s (omega arith) p in
    each-state k w P Q g n (after_item (settled_state k s) (k.move (settled_state k s))) (behind P Q (settled_state k s) (k.move (settled_state k s)) r (g (settled_state k s) r))

-- ---- an item behind which the walk stops is the last one

last-at : {S I : Type 0} (k : StreamKind S I) (w : IsWalk k) (Q : I → Type 0) (n : ℕ) (m : Move S I) → IsMoveBelow k n m → IsHaltBehind k Q m → ((t : S) → k.size t < n → (i : ℕ) (item : I) → slice_get (items_from k t) i ≡ Some item → Q item → suc i ≡ length (items_from k t)) → (i : ℕ) (item : I) → slice_get (items_by (items_from k) m) i ≡ Some item → Q item → suc i ≡ length (items_by (items_from k) m)
last-at k w Q n Stop h q f i item e r = cc
last-at k w Q n (Pass t) h q f i item e r = f t h i item e r
last-at k w Q n (Give x t) h q f zero item e r =
    let p : item ≡ x = cc in
    let stop : k.move t ≡ Stop = q (first Q item x p r) in
    let nil : items_from k t ≡ [] = items-step k w t ∙ ap (items_by (items_from k)) stop in
    ap (λ items. suc (length items)) (sym nil)
last-at k w Q n (Give x t) h q f (suc i) item e r = ap suc (f t h i item e r)

last-in : {S I : Type 0} (k : StreamKind S I) (w : IsWalk k) (Q : I → Type 0) (g : (s : S) → IsHaltBehind k Q (k.move s)) (n : ℕ) (s : S) → k.size s < n → (i : ℕ) (item : I) → slice_get (items_from k s) i ≡ Some item → Q item → suc i ≡ length (items_from k s)
last-in k w Q g zero s h i item e r = absurd (omega arith)
last-in k w Q g (suc n) s h i item e r =
    last-at k w Q (k.size s) (k.move s) (w.shrinks s) (g s) (λ t l. last-in k w Q g n t (omega arith)) i item (ap (λ items. slice_get items i) (sym (items-step k w s)) ∙ e) r ∙ ap length (sym (items-step k w s))

pub last-item : {S I : Type 0} (k : StreamKind S I) (w : IsWalk k) (Q : I → Type 0) → ((s : S) → IsHaltBehind k Q (k.move s)) → (s : S) (i : ℕ) (item : I) → slice_get (items_from k s) i ≡ Some item → Q item → suc i ≡ length (items_from k s)
last-item k w Q g s = last-in k w Q g (suc (k.size s)) s (omega arith)

-- ---- an item is that of the move from the state before it

item-settled : {S I : Type 0} (k : StreamKind S I) (m : Move S I) → IsSettled m → slice_get (items_by (items_from k) m) 0 ≡ item_of m
item-settled k Stop h = refl
item-settled k (Pass t) h = absurd h
item-settled k (Give item t) h = refl

front-of-rest : {X : Type 0} (xs : List X) (n : ℕ) → slice_get xs n ≡ slice_get (drop n xs) 0
front-of-rest xs zero = refl
front-of-rest [] (suc n) = refl
front-of-rest (x ∷ xs) (suc n) = front-of-rest xs n

pub item-of-state : {S I : Type 0} (k : StreamKind S I) (w : IsWalk k) (n : ℕ) (s : S) → slice_get (items_from k s) n ≡ item_of (k.move (state_at k n s))
item-of-state k w n s =
    front-of-rest (items_from k s) n
    ∙ ap (λ items. slice_get items 0) (sym (items-at k w n s) ∙ items-step k w (state_at k n s))
    ∙ item-settled k (k.move (state_at k n s)) (settled-at-state k w n s)
