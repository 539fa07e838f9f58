-- Laws of what is taken ahead.
use Rattle.std.proofs.Common.{◌≡◌, ℕ, zero, suc, ◌+◌, ◌<◌, ◌≤◌, Bool, true, false, List, [], ◌∷◌, ◌++◌, length, drop, slice_get, Option, Some, None, refl, ap, sym, ◌∙◌, arith}
use Rattle.std.proofs.lemmas.List.{append_assoc}
use Rattle.parser_loop.specs.Walk.{Move, Stop, Pass, Give, StreamKind, items_by, items_from, settle_by, settled_state, after_item, state_at, IsMoveBelow, IsSameWithMore, IsWalk, Lookahead, stay_at, with_items, lookahead_give, lookahead_by, lookahead_in, lookahead_from, Stands, kept_with, item_of, first_by, first_item, lookahead_after, after_by, after_first, count_after, leading_by, leading_count}
use Rattle.parser_loop.proofs.Walks.{items-step, settle-step, settle-same, settled, IsSettled, items-at, state-next, settled-at-state, state-more}

agree-lookahead : {S I : Type 0} (k : StreamKind S I) (s : S) (m : Move S I) (f g : S → Lookahead S I) (n : ℕ) → IsMoveBelow k n m → ((t : S) → k.size t < n → f t ≡ g t) → lookahead_by k s f m ≡ lookahead_by k s g m
agree-lookahead k s Stop f g n h e = refl
agree-lookahead k s (Pass t) f g n h e = e t h
agree-lookahead k s (Give item t) f g n h e = ap (λ r. lookahead_give s item r (k.runs item)) (e t h)

enough-lookahead : {S I : Type 0} (k : StreamKind S I) (w : IsWalk k) (n m : ℕ) (s : S) → k.size s < n → k.size s < m → lookahead_in k n s ≡ lookahead_in k m s
enough-lookahead k w zero m s h l = absurd (omega arith)
enough-lookahead k w (suc n) zero s h l = absurd (omega arith)
enough-lookahead k w (suc n) (suc m) s h l = agree-lookahead k s (k.move s) (lookahead_in k n) (lookahead_in k m) (k.size s) (w.shrinks s) (λ t q. enough-lookahead k w n m t (omega arith) (omega arith))

-- a lookahead, by the next move
pub lookahead-step : {S I : Type 0} (k : StreamKind S I) (w : IsWalk k) (s : S) → lookahead_from k s ≡ lookahead_by k s (lookahead_from k) (k.move s)
unfolding lookahead_from
lookahead-step k w s = agree-lookahead k s (k.move s) (lookahead_in k (k.size s)) (lookahead_from k) (k.size s) (w.shrinks s) (λ t l. enough-lookahead k w (k.size s) (suc (k.size t)) t l (omega arith))

-- ---- the lookahead from the settled state is that from the state

lookahead-settle-at : {S I : Type 0} (k : StreamKind S I) (w : IsWalk k) (s : S) (m : Move S I) → k.move s ≡ m → IsMoveBelow k (k.size s) m → ((t : S) → k.size t < k.size s → lookahead_from k (settled_state k t) ≡ lookahead_from k t) → lookahead_from k (settle_by s (settled_state k) m) ≡ lookahead_from k s
lookahead-settle-at k w s Stop e h f = refl
lookahead-settle-at k w s (Pass t) e h f = f t h ∙ sym (lookahead-step k w s ∙ ap (lookahead_by k s (lookahead_from k)) e)
lookahead-settle-at k w s (Give item t) e h f = refl

lookahead-settle-in : {S I : Type 0} (k : StreamKind S I) (w : IsWalk k) (n : ℕ) (s : S) → k.size s < n → lookahead_from k (settled_state k s) ≡ lookahead_from k s
lookahead-settle-in k w zero s h = absurd (omega arith)
lookahead-settle-in k w (suc n) s h = ap (lookahead_from k) (settle-step k w s) ∙ lookahead-settle-at k w s (k.move s) refl (w.shrinks s) (λ t l. lookahead-settle-in k w n t (omega arith))

-- the lookahead from a state on its way to the next item is that from the state before that item
pub lookahead-settle : {S I : Type 0} (k : StreamKind S I) (w : IsWalk k) (s : S) → lookahead_from k (settled_state k s) ≡ lookahead_from k s
lookahead-settle k w s = lookahead-settle-in k w (suc (k.size s)) s (omega arith)

-- ---- a lookahead goes on when bytes come

joined-joined : {S I : Type 0} (xs ys : List I) (r : Lookahead S I) → with_items xs (with_items ys r) ≡ with_items (xs ++ ys) r
joined-joined xs ys r = ap (λ (zs : List _). record { items = zs; state = r.state }) (sym (append_assoc xs ys r.items))

abbrev IsPiecewise : {S I : Type 0} → StreamKind S I → S → List ℕ → Type 0
IsPiecewise k s c = lookahead_from k (k.more s c) ≡ with_items (lookahead_from k s).items (lookahead_from k (k.more (lookahead_from k s).state c))

over-lookahead : {S I : Type 0} (k : StreamKind S I) (s : S) (c : List ℕ) (r : Lookahead S I) → lookahead_from k s ≡ r → lookahead_from k (k.more s c) ≡ with_items r.items (lookahead_from k (k.more r.state c)) → IsPiecewise k s c
over-lookahead k s c r e h = rw e h

lookahead-give-more : {S I : Type 0} (k : StreamKind S I) (s t : S) (item : I) (c : List ℕ) (b : Bool) → lookahead_from k s ≡ lookahead_give s item (lookahead_from k t) b → lookahead_from k (k.more s c) ≡ lookahead_give (k.more s c) item (lookahead_from k (k.more t c)) b → IsPiecewise k t c → IsPiecewise k s c
lookahead-give-more k s t item c true e q f =
    over-lookahead k s c (with_items (item ∷ []) (lookahead_from k t)) e (q ∙ ap (with_items (item ∷ [])) f ∙ joined-joined (item ∷ []) (lookahead_from k t).items (lookahead_from k (k.more (lookahead_from k t).state c)))
lookahead-give-more k s t item c false e q f = over-lookahead k s c (stay_at s) e refl

lookahead-more-at : {S I : Type 0} (k : StreamKind S I) (w : IsWalk k) (s : S) (c : List ℕ) (m : Move S I) → k.move s ≡ m → IsMoveBelow k (k.size s) m → IsSameWithMore k c m (k.move (k.more s c)) → ((t : S) → k.size t < k.size s → IsPiecewise k t c) → IsPiecewise k s c
lookahead-more-at k w s c Stop e h q f = over-lookahead k s c (stay_at s) (lookahead-step k w s ∙ ap (lookahead_by k s (lookahead_from k)) e) refl
lookahead-more-at k w s c (Pass t) e h q f =
    over-lookahead k s c (lookahead_from k t) (lookahead-step k w s ∙ ap (lookahead_by k s (lookahead_from k)) e) (lookahead-step k w (k.more s c) ∙ ap (lookahead_by k (k.more s c) (lookahead_from k)) q ∙ f t h)
lookahead-more-at k w s c (Give item t) e h q f =
    lookahead-give-more k s t item c (k.runs item) (lookahead-step k w s ∙ ap (lookahead_by k s (lookahead_from k)) e) (lookahead-step k w (k.more s c) ∙ ap (lookahead_by k (k.more s c) (lookahead_from k)) q.0) (f t h)

lookahead-more-in : {S I : Type 0} (k : StreamKind S I) (w : IsWalk k) (n : ℕ) (s : S) (c : List ℕ) → k.size s < n → IsPiecewise k s c
lookahead-more-in k w zero s c h = absurd (omega arith)
lookahead-more-in k w (suc n) s c h = lookahead-more-at k w s c (k.move s) refl (w.shrinks s) (w.follows s c) (λ t l. lookahead-more-in k w n t c (omega arith))

-- to take items ahead before more bytes come or after is the same
pub lookahead-more : {S I : Type 0} (k : StreamKind S I) (w : IsWalk k) (s : S) (c : List ℕ) → IsPiecewise k s c
lookahead-more k w s c = lookahead-more-in k w (suc (k.size s)) s c (omega arith)

-- ---- the items of a lookahead are the next items

abbrev AreNext : {S I : Type 0} → StreamKind S I → S → Type 0
AreNext k s = items_from k s ≡ (lookahead_from k s).items ++ items_from k (lookahead_from k s).state

over-front : {S I : Type 0} (k : StreamKind S I) (s : S) (r : Lookahead S I) → lookahead_from k s ≡ r → items_from k s ≡ r.items ++ items_from k r.state → AreNext k s
over-front k s r e h = rw e h

front-give : {S I : Type 0} (k : StreamKind S I) (s t : S) (item : I) (b : Bool) → lookahead_from k s ≡ lookahead_give s item (lookahead_from k t) b → items_from k s ≡ item ∷ items_from k t → AreNext k t → AreNext k s
front-give k s t item true e q f = over-front k s (with_items (item ∷ []) (lookahead_from k t)) e (q ∙ ap (λ items. item ∷ items) f)
front-give k s t item false e q f = over-front k s (stay_at s) e refl

front-at : {S I : Type 0} (k : StreamKind S I) (w : IsWalk k) (s : S) (m : Move S I) → k.move s ≡ m → IsMoveBelow k (k.size s) m → ((t : S) → k.size t < k.size s → AreNext k t) → AreNext k s
front-at k w s Stop e h f = over-front k s (stay_at s) (lookahead-step k w s ∙ ap (lookahead_by k s (lookahead_from k)) e) refl
front-at k w s (Pass t) e h f = over-front k s (lookahead_from k t) (lookahead-step k w s ∙ ap (lookahead_by k s (lookahead_from k)) e) (items-step k w s ∙ ap (items_by (items_from k)) e ∙ f t h)
front-at k w s (Give item t) e h f = front-give k s t item (k.runs item) (lookahead-step k w s ∙ ap (lookahead_by k s (lookahead_from k)) e) (items-step k w s ∙ ap (items_by (items_from k)) e) (f t h)

front-in : {S I : Type 0} (k : StreamKind S I) (w : IsWalk k) (n : ℕ) (s : S) → k.size s < n → AreNext k s
front-in k w zero s h = absurd (omega arith)
front-in k w (suc n) s h = front-at k w s (k.move s) refl (w.shrinks s) (λ t l. front-in k w n t (omega arith))

-- the items of a lookahead are the next ones
pub lookahead-items : {S I : Type 0} (k : StreamKind S I) (w : IsWalk k) (s : S) → AreNext k s
lookahead-items k w s = front-in k w (suc (k.size s)) s (omega arith)

-- ---- the state behind a lookahead, and a fact that its moves keep

-- what can come next behind a lookahead
abbrev pub IsRested : {S I : Type 0} → StreamKind S I → Move S I → Type 0
IsRested k Stop = Unit {0}
IsRested k (Pass t) = ⊥
IsRested k (Give item t) = k.runs item ≡ false

-- a fact that a lookahead keeps
abbrev pub IsKeptByLookahead : {S I : Type 0} → StreamKind S I → (S → Type 0) → Move S I → Type 0
IsKeptByLookahead k P Stop = Unit {0}
IsKeptByLookahead k P (Pass t) = P t
IsKeptByLookahead k P (Give item t) = k.runs item ≡ true → P t

abbrev AreTakenAhead : {S I : Type 0} → StreamKind S I → List I → Type 0
AreTakenAhead k [] = Unit {0}
AreTakenAhead k (item ∷ items) = (k.runs item ≡ true) × AreTakenAhead k items

-- a lookahead stops only before what may not be taken ahead, and holds only what may
pub record IsLookahead {S I : Type 0} (k : StreamKind S I) (r : Lookahead S I) : Type 0 where
  pub rested : IsRested k (k.move r.state)
  pub all : AreTakenAhead k r.items

is_lookahead-give : {S I : Type 0} (k : StreamKind S I) (s t : S) (item : I) (b : Bool) → k.runs item ≡ b → k.move s ≡ Give item t → IsLookahead k (lookahead_from k t) → IsLookahead k (lookahead_give s item (lookahead_from k t) b)
is_lookahead-give k s t item true q e f = record { rested = f.rested; all = (q, f.all) }
is_lookahead-give k s t item false q e f = record { rested = rw e q; all = tt }

is_lookahead-at : {S I : Type 0} (k : StreamKind S I) (w : IsWalk k) (s : S) (m : Move S I) → k.move s ≡ m → IsMoveBelow k (k.size s) m → ((t : S) → k.size t < k.size s → IsLookahead k (lookahead_from k t)) → IsLookahead k (lookahead_by k s (lookahead_from k) m)
is_lookahead-at k w s Stop e h f = record { rested = rw e tt; all = tt }
is_lookahead-at k w s (Pass t) e h f = f t h
is_lookahead-at k w s (Give item t) e h f = is_lookahead-give k s t item (k.runs item) refl e (f t h)

is_lookahead-in : {S I : Type 0} (k : StreamKind S I) (w : IsWalk k) (n : ℕ) (s : S) → k.size s < n → IsLookahead k (lookahead_from k s)
is_lookahead-in k w zero s h = absurd (omega arith)
is_lookahead-in k w (suc n) s h = rw (lookahead-step k w s) (is_lookahead-at k w s (k.move s) refl (w.shrinks s) (λ t l. is_lookahead-in k w n t (omega arith)))

-- what `lookahead_from` gives is a lookahead
pub is_lookahead : {S I : Type 0} (k : StreamKind S I) (w : IsWalk k) (s : S) → IsLookahead k (lookahead_from k s)
is_lookahead k w s = is_lookahead-in k w (suc (k.size s)) s (omega arith)

-- from a state that rests nothing is taken ahead
pub lookahead-rested-at : {S I : Type 0} (k : StreamKind S I) (w : IsWalk k) (s : S) (m : Move S I) → k.move s ≡ m → IsRested k m → lookahead_from k s ≡ stay_at s
lookahead-rested-at k w s Stop e h = lookahead-step k w s ∙ ap (lookahead_by k s (lookahead_from k)) e
lookahead-rested-at k w s (Pass t) e h = absurd h
lookahead-rested-at k w s (Give item t) e h = lookahead-step k w s ∙ ap (lookahead_by k s (lookahead_from k)) e ∙ ap (lookahead_give s item (lookahead_from k t)) h

pub lookahead-rested : {S I : Type 0} (k : StreamKind S I) (w : IsWalk k) (s : S) → IsRested k (k.move s) → lookahead_from k s ≡ stay_at s
lookahead-rested k w s h = lookahead-rested-at k w s (k.move s) refl h

keeps-give : {S I : Type 0} (k : StreamKind S I) (P : S → Type 0) (s t : S) (item : I) (b : Bool) → k.runs item ≡ b → P s → (b ≡ true → P (lookahead_from k t).state) → P (lookahead_give s item (lookahead_from k t) b).state
keeps-give k P s t item true q p f = f refl
keeps-give k P s t item false q p f = p

keeps-at : {S I : Type 0} (k : StreamKind S I) (w : IsWalk k) (P : S → Type 0) (s : S) (m : Move S I) → IsKeptByLookahead k P m → P s → IsMoveBelow k (k.size s) m → ((t : S) → k.size t < k.size s → P t → P (lookahead_from k t).state) → P (lookahead_by k s (lookahead_from k) m).state
keeps-at k w P s Stop q p h f = p
keeps-at k w P s (Pass t) q p h f = f t h q
keeps-at k w P s (Give item t) q p h f = keeps-give k P s t item (k.runs item) refl p (λ e. f t h (q e))

keeps-in : {S I : Type 0} (k : StreamKind S I) (w : IsWalk k) (P : S → Type 0) (g : (s : S) → P s → IsKeptByLookahead k P (k.move s)) (n : ℕ) (s : S) → k.size s < n → P s → P (lookahead_from k s).state
keeps-in k w P g zero s h p = absurd (omega arith)
keeps-in k w P g (suc n) s h p = rw (lookahead-step k w s) (keeps-at k w P s (k.move s) (g s p) p (w.shrinks s) (λ t l q. keeps-in k w P g n t (omega arith) q))

-- a fact that each pass and each item taken ahead keeps holds of the state behind a lookahead
pub keeps : {S I : Type 0} (k : StreamKind S I) (w : IsWalk k) (P : S → Type 0) → ((s : S) → P s → IsKeptByLookahead k P (k.move s)) → (s : S) → P s → P (lookahead_from k s).state
keeps k w P g s p = keeps-in k w P g (suc (k.size s)) s (omega arith) p

-- ---- what is kept is all that can be taken ahead from a state

-- all that can be taken ahead from the state at item n on
record IsAheadAt {S I : Type 0} (k : StreamKind S I) (kept : Lookahead S I) (s : S) (n : ℕ) : Type 0 where
  taken : n ≤ length (items_from k s)
  is : kept ≡ lookahead_from k (state_at k n s)

-- this is so too where more bytes have come
ahead-with : {S I : Type 0} (k : StreamKind S I) (w : IsWalk k) (kept : Lookahead S I) (s : S) (c : List ℕ) (n : ℕ) → n ≤ length (items_from k (k.more s c)) → IsAheadAt k kept s n → IsAheadAt k (kept_with k kept c) (k.more s c) n
ahead-with {S = S} k w kept s c n l h =
    let t : S = state_at k n s in
    let e : kept_with k kept c ≡ lookahead_from k (k.more t c) = ap (λ r. kept_with k r c) h.is ∙ sym (lookahead-more k w t c) in
    let g : lookahead_from k (k.more t c) ≡ lookahead_from k (state_at k n (k.more s c)) = sym (ap (lookahead_from k) (state-more k w n s c h.taken) ∙ lookahead-settle k w (k.more t c)) in
    record { taken = l; is = e ∙ g }

at-drop : {X : Type 0} (xs : List X) (n i : ℕ) → slice_get (drop n xs) i ≡ slice_get xs (n + i)
at-drop xs zero i = ap (slice_get xs) (omega arith)
at-drop [] (suc n) i = refl
at-drop (x ∷ xs) (suc n) i = let e : suc n + i ≡ suc (n + i) = omega arith in at-drop xs n i ∙ ap (slice_get (x ∷ xs)) (sym e)

-- the items that are left
ahead-items : {S I : Type 0} (k : StreamKind S I) (w : IsWalk k) (kept : Lookahead S I) (s : S) (n : ℕ) → IsAheadAt k kept s n → drop n (items_from k s) ≡ kept.items ++ items_from k kept.state
ahead-items {S = S} {I = I} k w kept s n h =
    let t : S = state_at k n s in
    sym (items-at k w n s) ∙ lookahead-items k w t ∙ ap (λ (r : Lookahead S I). r.items ++ items_from k r.state) (sym h.is)

first-is : {S I : Type 0} (k : StreamKind S I) (w : IsWalk k) (items : List I) (s : S) (m : Move S I) → k.move s ≡ m → IsRested k m → slice_get (items ++ items_from k s) 0 ≡ first_by items m
first-is k w [] s Stop e h = ap (λ xs. slice_get xs 0) (items-step k w s ∙ ap (items_by (items_from k)) e)
first-is k w [] s (Pass t) e h = absurd h
first-is k w [] s (Give item t) e h = ap (λ xs. slice_get xs 0) (items-step k w s ∙ ap (items_by (items_from k)) e)
first-is k w (x ∷ items) s m e h = refl

kept-rested : {S I : Type 0} (k : StreamKind S I) (w : IsWalk k) (kept : Lookahead S I) (t : S) → kept ≡ lookahead_from k t → IsLookahead k kept
kept-rested k w kept t e = rw e (is_lookahead k w t)

-- what is kept tells the next item
ahead-first : {S I : Type 0} (k : StreamKind S I) (w : IsWalk k) (kept : Lookahead S I) (s : S) (n : ℕ) → IsAheadAt k kept s n → first_item k kept ≡ slice_get (items_from k s) n
ahead-first k w kept s n h =
    let z : n + 0 ≡ n = omega arith in
    let r = kept-rested k w kept (state_at k n s) h.is in
    sym (ap (slice_get (items_from k s)) (sym z) ∙ sym (at-drop (items_from k s) n 0) ∙ ap (λ xs. slice_get xs 0) (ahead-items k w kept s n h) ∙ first-is k w kept.items kept.state (k.move kept.state) refl r.rested)

-- an item that was taken ahead
get-front : {X : Type 0} (xs ys : List X) (i : ℕ) → i < length xs → slice_get (xs ++ ys) i ≡ slice_get xs i
get-front [] ys i h = absurd (omega arith)
get-front (x ∷ xs) ys zero h = refl
get-front (x ∷ xs) ys (suc i) h = get-front xs ys i (omega arith)

-- the items that were taken ahead are the next ones
ahead-look : {S I : Type 0} (k : StreamKind S I) (w : IsWalk k) (kept : Lookahead S I) (s : S) (n i : ℕ) → i < length kept.items → IsAheadAt k kept s n → slice_get kept.items i ≡ slice_get (items_from k s) (n + i)
ahead-look k w kept s n i l h =
    sym (sym (at-drop (items_from k s) n i) ∙ ap (λ xs. slice_get xs i) (ahead-items k w kept s n h) ∙ get-front kept.items (items_from k kept.state) i l)

lead-rested : {S I : Type 0} (k : StreamKind S I) (w : IsWalk k) (s : S) (m : Move S I) → k.move s ≡ m → IsRested k m → leading_count k (items_from k s) ≡ 0
lead-rested k w s Stop e h = ap (leading_count k) (items-step k w s ∙ ap (items_by (items_from k)) e)
lead-rested k w s (Pass t) e h = absurd h
lead-rested k w s (Give item t) e h = ap (leading_count k) (items-step k w s ∙ ap (items_by (items_from k)) e) ∙ ap (leading_by (leading_count k (items_from k t))) h

lead-all : {S I : Type 0} (k : StreamKind S I) (items others : List I) → AreTakenAhead k items → leading_count k others ≡ 0 → leading_count k (items ++ others) ≡ length items
lead-all k [] others a e = e
lead-all k (x ∷ items) others a e = ap (leading_by (leading_count k (items ++ others))) a.0 ∙ ap suc (lead-all k items others a.1 e)

-- as many items were taken ahead as stand before the first that may not be
ahead-ready : {S I : Type 0} (k : StreamKind S I) (w : IsWalk k) (kept : Lookahead S I) (s : S) (n : ℕ) → IsAheadAt k kept s n → length kept.items ≡ leading_count k (drop n (items_from k s))
ahead-ready k w kept s n h =
    let r = kept-rested k w kept (state_at k n s) h.is in
    sym (ap (leading_count k) (ahead-items k w kept s n h) ∙ lead-all k kept.items (items_from k kept.state) r.all (lead-rested k w kept.state (k.move kept.state) refl r.rested))

-- the next item is taken
abbrev IsNextTaken : {S I : Type 0} → StreamKind S I → S → S → ℕ → Type 0
IsNextTaken k t s n = lookahead_from k (after_item t (k.move t)) ≡ lookahead_from k (state_at k (suc n) s)

next-state : {S I : Type 0} (k : StreamKind S I) (w : IsWalk k) (n : ℕ) (s : S) → IsNextTaken k (state_at k n s) s n
next-state k w n s = sym (ap (lookahead_from k) (state-next k n s) ∙ lookahead-settle k w (after_item (state_at k n s) (k.move (state_at k n s))))

-- what is kept after an item, from a settled state
taken-give : {S I : Type 0} (k : StreamKind S I) (t u : S) (item : I) (b : Bool) → k.move t ≡ Give item u → after_first k (lookahead_give t item (lookahead_from k u) b) ≡ lookahead_from k u
taken-give k t u item true e = refl
taken-give k t u item false e = ap (lookahead_after k t) e

taken-at : {S I : Type 0} (k : StreamKind S I) (w : IsWalk k) (t : S) (m : Move S I) → k.move t ≡ m → IsSettled m → (first_item k (lookahead_from k t) ≡ None → ⊥) → after_first k (lookahead_from k t) ≡ lookahead_from k (after_item t m)
taken-at k w t Stop e d f =
    let r : lookahead_from k t ≡ stay_at t = lookahead-step k w t ∙ ap (lookahead_by k t (lookahead_from k)) e in
    absurd (f (ap (first_item k) r ∙ ap item_of e))
taken-at k w t (Pass u) e d f = absurd d
taken-at k w t (Give item u) e d f =
    let r : lookahead_from k t ≡ lookahead_give t item (lookahead_from k u) (k.runs item) = lookahead-step k w t ∙ ap (lookahead_by k t (lookahead_from k)) e in
    ap (after_first k) r ∙ taken-give k t u item (k.runs item) e

none-after : {S I : Type 0} (k : StreamKind S I) (w : IsWalk k) (items : List I) (s : S) (m : Move S I) → k.move s ≡ m → IsRested k m → first_by items m ≡ None → after_by k s items ≡ record { items = items; state = s }
none-after k w [] s Stop e h q = ap (lookahead_after k s) e
none-after k w [] s (Pass t) e h q = absurd h
none-after k w [] s (Give item t) e h q = cc
none-after k w (x ∷ items) s m e h q = cc

abbrev IsFirstTaken : {S I : Type 0} → StreamKind S I → Lookahead S I → S → ℕ → Option I → Type 0
IsFirstTaken k kept s n o = IsAheadAt k (after_first k kept) s (count_after n o)

some-not : {X : Type 0} (x : X) (o : Option X) → o ≡ Some x → o ≡ None → ⊥
some-not x o e f = cc

get-length : {X : Type 0} (xs : List X) (n : ℕ) (x : X) → slice_get xs n ≡ Some x → n + 1 ≤ length xs
get-length [] n x e = absurd (cc)
get-length (y ∷ xs) zero x e = omega arith
get-length (y ∷ xs) (suc n) x e = let h = get-length xs n x e in omega arith

after-by-option : {S I : Type 0} (k : StreamKind S I) (w : IsWalk k) (kept : Lookahead S I) (s : S) (n : ℕ) (o : Option I) → first_item k kept ≡ o → IsAheadAt k kept s n → IsFirstTaken k kept s n o
after-by-option {S = S} k w kept s n None e h =
    let r = kept-rested k w kept (state_at k n s) h.is in
    rw (none-after k w kept.items kept.state (k.move kept.state) refl r.rested e) h
after-by-option {S = S} k w kept s n (Some item) e h =
    let t : S = state_at k n s in
    let z : n + 1 ≡ suc n = omega arith in
    let q : first_item k (lookahead_from k t) ≡ Some item = sym (ap (first_item k) h.is) ∙ e in
    let g : after_first k kept ≡ lookahead_from k (state_at k (suc n) s) = ap (after_first k) h.is ∙ taken-at k w t (k.move t) refl (settled-at-state k w n s) (some-not item (first_item k (lookahead_from k t)) q) ∙ next-state k w n s in
    record {
      taken = get-length (items_from k s) n item (sym (ahead-first k w kept s n h) ∙ e);
      is = g ∙ ap (λ v. lookahead_from k (state_at k v s)) (sym z);
    }

-- what is kept behind the next item stands for the walk, with one item more asked for
ahead-after : {S I : Type 0} (k : StreamKind S I) (w : IsWalk k) (kept : Lookahead S I) (s : S) (n : ℕ) → IsAheadAt k kept s n → IsAheadAt k (after_first k kept) s (count_after n (first_item k kept))
ahead-after k w kept s n h = after-by-option k w kept s n (first_item k kept) refl h

-- ---- the state behind a lookahead is that before the first item which is not kept

-- the state before an item is told by the state before the next one
state-settled : {S I : Type 0} (k : StreamKind S I) (n : ℕ) (s t : S) → settled_state k s ≡ settled_state k t → state_at k n s ≡ state_at k n t
state-settled k zero s t e = e
state-settled k (suc n) s t e = ap (λ u. state_at k n (after_item u (k.move u))) e

-- the state before item m of those from item n on
state-plus : {S I : Type 0} (k : StreamKind S I) (w : IsWalk k) (n m : ℕ) (s : S) → state_at k m (state_at k n s) ≡ state_at k (n + m) s
state-plus k w zero m s = let e : m ≡ 0 + m = omega arith in state-settled k m (settled_state k s) s (settle-same k w (settled_state k s) (settled k w s)) ∙ ap (λ i. state_at k i s) e
state-plus k w (suc n) m s = let e : suc (n + m) ≡ suc n + m = omega arith in state-plus k w n m (after_item (settled_state k s) (k.move (settled_state k s))) ∙ ap (λ i. state_at k i s) e

abbrev IsBehindItems : {S I : Type 0} → StreamKind S I → S → Type 0
IsBehindItems k s = (lookahead_from k s).state ≡ state_at k (length (lookahead_from k s).items) s

over-behind : {S I : Type 0} (k : StreamKind S I) (s : S) (r : Lookahead S I) → lookahead_from k s ≡ r → r.state ≡ state_at k (length r.items) s → IsBehindItems k s
over-behind k s r e h = rw e h

behind-give : {S I : Type 0} (k : StreamKind S I) (w : IsWalk k) (s t : S) (item : I) (b : Bool) → k.move s ≡ Give item t → lookahead_from k s ≡ lookahead_give s item (lookahead_from k t) b → IsBehindItems k t → IsBehindItems k s
behind-give k w s t item true q e f =
    let same : settled_state k s ≡ s = settle-same k w s (rw q tt) in
    let next : after_item (settled_state k s) (k.move (settled_state k s)) ≡ t = ap (λ u. after_item u (k.move u)) same ∙ ap (after_item s) q in
    over-behind k s (with_items (item ∷ []) (lookahead_from k t)) e (f ∙ ap (state_at k (length (lookahead_from k t).items)) (sym next))
behind-give k w s t item false q e f = over-behind k s (stay_at s) e (sym (settle-same k w s (rw q tt)))

behind-at : {S I : Type 0} (k : StreamKind S I) (w : IsWalk k) (s : S) (m : Move S I) → k.move s ≡ m → IsMoveBelow k (k.size s) m → ((t : S) → k.size t < k.size s → IsBehindItems k t) → IsBehindItems k s
behind-at k w s Stop e h f = over-behind k s (stay_at s) (lookahead-step k w s ∙ ap (lookahead_by k s (lookahead_from k)) e) (sym (settle-same k w s (rw e tt)))
behind-at k w s (Pass t) e h f =
    let same : settled_state k s ≡ settled_state k t = settle-step k w s ∙ ap (settle_by s (settled_state k)) e in
    over-behind k s (lookahead_from k t) (lookahead-step k w s ∙ ap (lookahead_by k s (lookahead_from k)) e) (f t h ∙ sym (state-settled k (length (lookahead_from k t).items) s t same))
behind-at k w s (Give item t) e h f = behind-give k w s t item (k.runs item) e (lookahead-step k w s ∙ ap (lookahead_by k s (lookahead_from k)) e) (f t h)

behind-in : {S I : Type 0} (k : StreamKind S I) (w : IsWalk k) (n : ℕ) (s : S) → k.size s < n → IsBehindItems k s
behind-in k w zero s h = absurd (omega arith)
behind-in k w (suc n) s h = behind-at k w s (k.move s) refl (w.shrinks s) (λ t l. behind-in k w n t (omega arith))

behind : {S I : Type 0} (k : StreamKind S I) (w : IsWalk k) (s : S) → IsBehindItems k s
behind k w s = behind-in k w (suc (k.size s)) s (omega arith)

-- ---- what is kept stands for a string: that is to be all that can be taken ahead

same-front : {X : Type 0} (xs ys us vs : List X) → length xs ≡ length ys → xs ++ us ≡ ys ++ vs → xs ≡ ys
same-front [] [] us vs l e = refl
same-front [] (y ∷ ys) us vs l e = absurd (omega arith)
same-front (x ∷ xs) [] us vs l e = absurd (omega arith)
same-front (x ∷ xs) (y ∷ ys) us vs l e =
    let h : x ≡ y = cc in
    let t : xs ++ us ≡ ys ++ vs = cc in
    ap (λ z. z ∷ xs) h ∙ ap (λ zs. y ∷ zs) (same-front xs ys us vs (omega arith) t)

-- what is kept is all that can be taken ahead from the state at item n on
pub stands-lookahead : {S I : Type 0} (k : StreamKind S I) (w : IsWalk k) (kept : Lookahead S I) (s : S) (n : ℕ) → Stands k kept s n → kept ≡ lookahead_from k (state_at k n s)
stands-lookahead {S = S} {I = I} k w kept s n h =
    let t : S = state_at k n s in
    let r : Lookahead S I = lookahead_from k t in
    let own : IsAheadAt k r s n = record { taken = h.taken; is = refl } in
    let l : length kept.items ≡ length r.items = h.ahead ∙ sym (ahead-ready k w r s n own) in
    let items : kept.items ≡ r.items = same-front kept.items r.items (items_from k kept.state) (items_from k r.state) l (h.items ∙ ahead-items k w r s n own) in
    let state : kept.state ≡ r.state = h.state ∙ ap (λ i. state_at k (n + i) s) l ∙ sym (behind k w t ∙ state-plus k w n (length r.items) s) in
    ap (λ (xs : List I). record { items = xs; state = kept.state }) items ∙ ap (λ (u : S). record { items = r.items; state = u }) state

to-ahead : {S I : Type 0} (k : StreamKind S I) (w : IsWalk k) (kept : Lookahead S I) (s : S) (n : ℕ) → Stands k kept s n → IsAheadAt k kept s n
to-ahead k w kept s n h = record { taken = h.taken; is = stands-lookahead k w kept s n h }

-- and all that can be taken ahead stands for the string
pub lookahead-stands : {S I : Type 0} (k : StreamKind S I) (w : IsWalk k) (kept : Lookahead S I) (s : S) (n : ℕ) → n ≤ length (items_from k s) → kept ≡ lookahead_from k (state_at k n s) → Stands k kept s n
lookahead-stands {S = S} {I = I} k w kept s n l e =
    let t : S = state_at k n s in
    let own : IsAheadAt k kept s n = record { taken = l; is = e } in
    record {
      taken = l;
      items = sym (ahead-items k w kept s n own);
      state = ap (λ (r : Lookahead S I). r.state) e ∙ behind k w t ∙ ap (λ (r : Lookahead S I). state_at k (length r.items) t) (sym e) ∙ state-plus k w n (length kept.items) s;
      ahead = ahead-ready k w kept s n own;
    }

from-ahead : {S I : Type 0} (k : StreamKind S I) (w : IsWalk k) (kept : Lookahead S I) (s : S) (n : ℕ) → IsAheadAt k kept s n → Stands k kept s n
from-ahead k w kept s n h = lookahead-stands k w kept s n h.taken h.is

-- what is kept stands for the walk where more bytes have come
pub stands-with : {S I : Type 0} (k : StreamKind S I) (w : IsWalk k) (kept : Lookahead S I) (s : S) (c : List ℕ) (n : ℕ) → n ≤ length (items_from k (k.more s c)) → Stands k kept s n → Stands k (kept_with k kept c) (k.more s c) n
stands-with k w kept s c n l h = from-ahead k w (kept_with k kept c) (k.more s c) n (ahead-with k w kept s c n l (to-ahead k w kept s n h))

-- the items that are left
pub stands-items : {S I : Type 0} (k : StreamKind S I) (w : IsWalk k) (kept : Lookahead S I) (s : S) (n : ℕ) → Stands k kept s n → drop n (items_from k s) ≡ kept.items ++ items_from k kept.state
stands-items k w kept s n h = sym h.items

-- what is kept tells the next item
pub stands-first : {S I : Type 0} (k : StreamKind S I) (w : IsWalk k) (kept : Lookahead S I) (s : S) (n : ℕ) → Stands k kept s n → first_item k kept ≡ slice_get (items_from k s) n
stands-first k w kept s n h = ahead-first k w kept s n (to-ahead k w kept s n h)

-- the items that were taken ahead are the next ones
pub stands-look : {S I : Type 0} (k : StreamKind S I) (w : IsWalk k) (kept : Lookahead S I) (s : S) (n i : ℕ) → i < length kept.items → Stands k kept s n → slice_get kept.items i ≡ slice_get (items_from k s) (n + i)
stands-look k w kept s n i l h = ahead-look k w kept s n i l (to-ahead k w kept s n h)

-- as many items were taken ahead as stand before the first that may not be
pub stands-ready : {S I : Type 0} (k : StreamKind S I) (w : IsWalk k) (kept : Lookahead S I) (s : S) (n : ℕ) → Stands k kept s n → length kept.items ≡ leading_count k (drop n (items_from k s))
stands-ready k w kept s n h = h.ahead

-- what is kept behind the next item stands for the walk, with one item more asked for
pub stands-after : {S I : Type 0} (k : StreamKind S I) (w : IsWalk k) (kept : Lookahead S I) (s : S) (n : ℕ) → Stands k kept s n → Stands k (after_first k kept) s (count_after n (first_item k kept))
stands-after k w kept s n h = from-ahead k w (after_first k kept) s (count_after n (first_item k kept)) (ahead-after k w kept s n (to-ahead k w kept s n h))
