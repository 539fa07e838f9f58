-- Laws of every walk.
use Rattle.std.proofs.Common.{◌≡◌, ℕ, zero, suc, ◌<◌, ◌≤◌, Bool, true, false, ◌||◌, List, [], ◌∷◌, length, drop, ◌⊎◌, inl, inr, refl, ap, sym, ◌∙◌, arith}
use Rattle.parser_loop.specs.Walk.{Move, Stop, Pass, Give, StreamKind, items_by, items_in, items_from, settle_by, settle_in, settled_state, after_item, state_at, IsMoveBelow, IsSameWithMore, IsWalk, has_end_item, AreFrontItems}

-- ---- the number of steps does not matter, where there are enough

agree : {S I : Type 0} (k : StreamKind S I) (m : Move S I) (f g : S → List I) (n : ℕ) → IsMoveBelow k n m → ((t : S) → k.size t < n → f t ≡ g t) → items_by f m ≡ items_by g m
agree k Stop f g n h e = refl
agree k (Pass t) f g n h e = e t h
agree k (Give item t) f g n h e = ap (λ items. item ∷ items) (e t h)

enough : {S I : Type 0} (k : StreamKind S I) (w : IsWalk k) (n m : ℕ) (s : S) → k.size s < n → k.size s < m → items_in k n s ≡ items_in k m s
enough k w zero m s h l = absurd (omega arith)
enough k w (suc n) zero s h l = absurd (omega arith)
enough k w (suc n) (suc m) s h l = agree k (k.move s) (items_in k n) (items_in k m) (k.size s) (w.shrinks s) (λ t q. enough k w n m t (omega arith) (omega arith))

-- the items are that of the next move, if it gives one, and those behind it
pub items-step : {S I : Type 0} (k : StreamKind S I) (w : IsWalk k) (s : S) → items_from k s ≡ items_by (items_from k) (k.move s)
unfolding items_from
items-step k w s = agree k (k.move s) (items_in k (k.size s)) (items_from k) (k.size s) (w.shrinks s) (λ t l. enough k w (k.size s) (suc (k.size t)) t l (omega arith))

agree-settle : {S I : Type 0} (k : StreamKind S I) (s : S) (m : Move S I) (f g : S → S) (n : ℕ) → IsMoveBelow k n m → ((t : S) → k.size t < n → f t ≡ g t) → settle_by s f m ≡ settle_by s g m
agree-settle k s Stop f g n h e = refl
agree-settle k s (Pass t) f g n h e = e t h
agree-settle k s (Give item t) f g n h e = refl

enough-settle : {S I : Type 0} (k : StreamKind S I) (w : IsWalk k) (n m : ℕ) (s : S) → k.size s < n → k.size s < m → settle_in k n s ≡ settle_in k m s
enough-settle k w zero m s h l = absurd (omega arith)
enough-settle k w (suc n) zero s h l = absurd (omega arith)
enough-settle k w (suc n) (suc m) s h l = agree-settle k s (k.move s) (settle_in k n) (settle_in k m) (k.size s) (w.shrinks s) (λ t q. enough-settle k w n m t (omega arith) (omega arith))

-- the state before the next item, by the next move
pub settle-step : {S I : Type 0} (k : StreamKind S I) (w : IsWalk k) (s : S) → settled_state k s ≡ settle_by s (settled_state k) (k.move s)
unfolding settled_state
settle-step k w s = agree-settle k s (k.move s) (settle_in k (k.size s)) (settled_state k) (k.size s) (w.shrinks s) (λ t l. enough-settle k w (k.size s) (suc (k.size t)) t l (omega arith))

-- ---- settled states

-- a move that gives an item, or none at all
abbrev pub IsSettled : {S I : Type 0} → Move S I → Type 0
IsSettled Stop = Unit {0}
IsSettled (Pass t) = ⊥
IsSettled (Give item t) = Unit {0}

settled-at : {S I : Type 0} (k : StreamKind S I) (s : S) (m : Move S I) → k.move s ≡ m → IsMoveBelow k (k.size s) m → ((t : S) → k.size t < k.size s → IsSettled (k.move (settled_state k t))) → IsSettled (k.move (settle_by s (settled_state k) m))
settled-at k s Stop e h f = rw e tt
settled-at k s (Pass t) e h f = f t h
settled-at k s (Give item t) e h f = rw e tt

settled-in : {S I : Type 0} (k : StreamKind S I) (w : IsWalk k) (n : ℕ) (s : S) → k.size s < n → IsSettled (k.move (settled_state k s))
settled-in k w zero s h = absurd (omega arith)
settled-in k w (suc n) s h = rw (settle-step k w s) (settled-at k s (k.move s) refl (w.shrinks s) (λ t l. settled-in k w n t (omega arith)))

-- a settled state does not only pass on
pub settled : {S I : Type 0} (k : StreamKind S I) (w : IsWalk k) (s : S) → IsSettled (k.move (settled_state k s))
settled k w s = settled-in k w (suc (k.size s)) s (omega arith)

settle-same-at : {S I : Type 0} (k : StreamKind S I) (w : IsWalk k) (s : S) (m : Move S I) → k.move s ≡ m → IsSettled m → settled_state k s ≡ s
settle-same-at k w s Stop e h = settle-step k w s ∙ ap (settle_by s (settled_state k)) e
settle-same-at k w s (Pass t) e h = absurd h
settle-same-at k w s (Give item t) e h = settle-step k w s ∙ ap (settle_by s (settled_state k)) e

-- a state that does not only pass on is settled
pub settle-same : {S I : Type 0} (k : StreamKind S I) (w : IsWalk k) (s : S) → IsSettled (k.move s) → settled_state k s ≡ s
settle-same k w s h = settle-same-at k w s (k.move s) refl h

-- ---- the items from a settled state, and with more bytes

items-settle-at : {S I : Type 0} (k : StreamKind S I) (w : IsWalk k) (s : S) (m : Move S I) → k.move s ≡ m → IsMoveBelow k (k.size s) m → ((t : S) → k.size t < k.size s → items_from k (settled_state k t) ≡ items_from k t) → items_from k (settle_by s (settled_state k) m) ≡ items_from k s
items-settle-at k w s Stop e h f = refl
items-settle-at k w s (Pass t) e h f = f t h ∙ sym (items-step k w s ∙ ap (items_by (items_from k)) e)
items-settle-at k w s (Give item t) e h f = refl

items-settle-in : {S I : Type 0} (k : StreamKind S I) (w : IsWalk k) (n : ℕ) (s : S) → k.size s < n → items_from k (settled_state k s) ≡ items_from k s
items-settle-in k w zero s h = absurd (omega arith)
items-settle-in k w (suc n) s h = ap (items_from k) (settle-step k w s) ∙ items-settle-at k w s (k.move s) refl (w.shrinks s) (λ t l. items-settle-in k w n t (omega arith))

-- a state on its way to the next item has the items of that state
pub items-settle : {S I : Type 0} (k : StreamKind S I) (w : IsWalk k) (s : S) → items_from k (settled_state k s) ≡ items_from k s
items-settle k w s = items-settle-in k w (suc (k.size s)) s (omega arith)

settle-more-at : {S I : Type 0} (k : StreamKind S I) (w : IsWalk k) (s : S) (c : List ℕ) (m : Move S I) → k.move s ≡ m → IsMoveBelow k (k.size s) m → IsSameWithMore k c m (k.move (k.more s c)) → ((t : S) → k.size t < k.size s → settled_state k (k.more t c) ≡ settled_state k (k.more (settled_state k t) c)) → settled_state k (k.more s c) ≡ settled_state k (k.more (settle_by s (settled_state k) m) c)
settle-more-at k w s c Stop e h q f = refl
settle-more-at k w s c (Pass t) e h q f = settle-step k w (k.more s c) ∙ ap (settle_by (k.more s c) (settled_state k)) q ∙ f t h
settle-more-at k w s c (Give item t) e h q f = refl

settle-more-in : {S I : Type 0} (k : StreamKind S I) (w : IsWalk k) (n : ℕ) (s : S) (c : List ℕ) → k.size s < n → settled_state k (k.more s c) ≡ settled_state k (k.more (settled_state k s) c)
settle-more-in k w zero s c h = absurd (omega arith)
settle-more-in k w (suc n) s c h = settle-more-at k w s c (k.move s) refl (w.shrinks s) (w.follows s c) (λ t l. settle-more-in k w n t c (omega arith)) ∙ ap (λ t. settled_state k (k.more t c)) (sym (settle-step k w s))

-- to go to the next item before more bytes come or after is the same
pub settle-more : {S I : Type 0} (k : StreamKind S I) (w : IsWalk k) (s : S) (c : List ℕ) → settled_state k (k.more s c) ≡ settled_state k (k.more (settled_state k s) c)
settle-more k w s c = settle-more-in k w (suc (k.size s)) s c (omega arith)

-- ---- item n

drop-nil : {X : Type 0} (n : ℕ) → drop {A = X} n [] ≡ []
drop-nil zero = refl
drop-nil (suc n) = refl

items-at-by : {S I : Type 0} (k : StreamKind S I) (w : IsWalk k) (n : ℕ) (t : S) (m : Move S I) (items : List I) → k.move t ≡ m → IsSettled m → items_from k t ≡ items → ((u : S) → items_from k (state_at k n u) ≡ drop n (items_from k u)) → items_from k (state_at k n (after_item t m)) ≡ drop (suc n) items
items-at-by k w n t Stop items e h q f =
    let nil : items_from k t ≡ [] = items-step k w t ∙ ap (items_by (items_from k)) e in
    f t ∙ ap (drop n) nil ∙ drop-nil n ∙ sym (ap (drop (suc n)) (sym q ∙ nil))
items-at-by k w n t (Pass u) items e h q f = absurd h
items-at-by k w n t (Give item u) items e h q f = f u ∙ sym (ap (drop (suc n)) (sym q ∙ items-step k w t ∙ ap (items_by (items_from k)) e))

-- from the state before item n on the items are those from n on
pub items-at : {S I : Type 0} (k : StreamKind S I) (w : IsWalk k) (n : ℕ) (s : S) → items_from k (state_at k n s) ≡ drop n (items_from k s)
items-at k w zero s = items-settle k w s
items-at k w (suc n) s = items-at-by k w n (settled_state k s) (k.move (settled_state k s)) (items_from k s) refl (settled k w s) (items-settle k w s) (λ u. items-at k w n u)

-- the state before item n + 1 is behind item n, on its way
pub state-next : {S I : Type 0} (k : StreamKind S I) (n : ℕ) (s : S) → state_at k (suc n) s ≡ settled_state k (after_item (state_at k n s) (k.move (state_at k n s)))
state-next k zero s = refl
state-next k (suc n) s = state-next k n (after_item (settled_state k s) (k.move (settled_state k s)))

-- the state before item n is settled
pub settled-at-state : {S I : Type 0} (k : StreamKind S I) (w : IsWalk k) (n : ℕ) (s : S) → IsSettled (k.move (state_at k n s))
settled-at-state k w zero s = settled k w s
settled-at-state k w (suc n) s = settled-at-state k w n (after_item (settled_state k s) (k.move (settled_state k s)))

state-more-by : {S I : Type 0} (k : StreamKind S I) (w : IsWalk k) (n : ℕ) (t : S) (c : List ℕ) (m : Move S I) → k.move t ≡ m → IsSettled m → IsSameWithMore k c m (k.move (k.more t c)) → suc n ≤ length (items_from k t) → ((u : S) → n ≤ length (items_from k u) → state_at k n (k.more u c) ≡ settled_state k (k.more (state_at k n u) c)) → state_at k n (after_item (settled_state k (k.more t c)) (k.move (settled_state k (k.more t c)))) ≡ settled_state k (k.more (state_at k n (after_item t m)) c)
state-more-by k w n t c Stop e d q l f = absurd (omega (arith, ap length (items-step k w t ∙ ap (items_by (items_from k)) e)))
state-more-by k w n t c (Pass u) e d q l f = absurd d
state-more-by k w n t c (Give item u) e d q l f =
    let g : IsSettled (k.move (k.more t c)) = rw q.0 tt in
    let same : settled_state k (k.more t c) ≡ k.more t c = settle-same k w (k.more t c) g in
    let j : n ≤ length (items_from k u) = omega (arith, ap length (items-step k w t ∙ ap (items_by (items_from k)) e)) in
    ap (λ v. state_at k n (after_item v (k.move v))) same ∙ ap (λ v. state_at k n (after_item (k.more t c) v)) q.0 ∙ f u j

-- with more bytes the state before an item that is there is the one before, with these bytes, on its way
pub state-more : {S I : Type 0} (k : StreamKind S I) (w : IsWalk k) (n : ℕ) (s : S) (c : List ℕ) → n ≤ length (items_from k s) → state_at k n (k.more s c) ≡ settled_state k (k.more (state_at k n s) c)
state-more k w zero s c h = settle-more k w s c
state-more k w (suc n) s c h =
    let l : suc n ≤ length (items_from k (settled_state k s)) = omega (arith, ap length (items-settle k w s)) in
    ap (λ v. state_at k n (after_item v (k.move v))) (settle-more k w s c) ∙ state-more-by k w n (settled_state k s) c (k.move (settled_state k s)) refl (settled k w s) (w.follows (settled_state k s) c) l (λ u q. state-more k w n u c q)

-- ---- more bytes give more items, and none after the end

or-cases : (a b : Bool) → (a || b) ≡ true → (a ≡ true) ⊎ (b ≡ true)
or-cases true b e = inl refl
or-cases false b e = inr e

prefix-at : {S I : Type 0} (k : StreamKind S I) (w : IsWalk k) (s : S) (c : List ℕ) (m : Move S I) → k.move s ≡ m → IsMoveBelow k (k.size s) m → IsSameWithMore k c m (k.move (k.more s c)) → ((t : S) → k.size t < k.size s → AreFrontItems k (items_from k t) (items_from k (k.more t c))) → AreFrontItems k (items_from k s) (items_from k (k.more s c))
prefix-at k w s c Stop e h q f =
    let nil : items_from k s ≡ [] = items-step k w s ∙ ap (items_by (items_from k)) e in
    rw nil (record { tail = items_from k (k.more s c); is = refl; ended = λ a. cc })
prefix-at k w s c (Pass t) e h q f =
    let a : items_from k s ≡ items_from k t = items-step k w s ∙ ap (items_by (items_from k)) e in
    let b : items_from k (k.more s c) ≡ items_from k (k.more t c) = items-step k w (k.more s c) ∙ ap (items_by (items_from k)) q in
    rw (a, b) (f t h)
prefix-at k w s c (Give item t) e h q f =
    let a : items_from k s ≡ item ∷ items_from k t = items-step k w s ∙ ap (items_by (items_from k)) e in
    let b : items_from k (k.more s c) ≡ item ∷ items_from k (k.more t c) = items-step k w (k.more s c) ∙ ap (items_by (items_from k)) q.0 in
    let r = f t h in
    let d : has_end_item k (item ∷ items_from k t) ≡ true → item ∷ items_from k (k.more t c) ≡ item ∷ items_from k t =
    λ v. elim (or-cases (k.ends item) (has_end_item k (items_from k t)) v) as (λ _. item ∷ items_from k (k.more t c) ≡ item ∷ items_from k t) [
      | inl p ↦ ap (λ u. item ∷ items_from k u) (q.1 p)
      | inr p ↦ ap (λ us. item ∷ us) (r.ended p)
    ]
    in
    rw (a, b) (record { tail = r.tail; is = ap (λ us. item ∷ us) r.is; ended = d })

prefix-in : {S I : Type 0} (k : StreamKind S I) (w : IsWalk k) (n : ℕ) (s : S) (c : List ℕ) → k.size s < n → AreFrontItems k (items_from k s) (items_from k (k.more s c))
prefix-in k w zero s c h = absurd (omega arith)
prefix-in k w (suc n) s c h = prefix-at k w s c (k.move s) refl (w.shrinks s) (w.follows s c) (λ t l. prefix-in k w n t c (omega arith))

-- more bytes give more items, and none behind one that ends the walk
pub prefix : {S I : Type 0} (k : StreamKind S I) (w : IsWalk k) (s : S) (c : List ℕ) → AreFrontItems k (items_from k s) (items_from k (k.more s c))
prefix k w s c = prefix-in k w (suc (k.size s)) s c (omega arith)
