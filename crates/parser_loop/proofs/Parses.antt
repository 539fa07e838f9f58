-- The parse of a walk has its items, and what is seen of its states.
use Rattle.std.proofs.Common.{◌≡◌, ℕ, zero, suc, ◌<◌, ◌∷◌, refl, ap, sym, ◌∙◌, arith}
use Rattle.parser_loop.specs.Walk.{Move, Stop, Pass, Give, StreamKind, items_by, items_from, settle_by, settled_state, after_item, state_at, IsMoveBelow, IsWalk}
use Rattle.parser_loop.proofs.Walks.{items-step, settle-step}
use Rattle.parser_loop.specs.Parse.{Parse, ItemThen, items_of, seen_before, parse_by, parse_in, parse_from}

agree : {S V I : Type 0} (k : StreamKind S I) (see : S → V) (s : S) (m : Move S I) (f g : S → Parse V I) (n : ℕ) → IsMoveBelow k n m → ((t : S) → k.size t < n → f t ≡ g t) → parse_by see s f m ≡ parse_by see s g m
agree k see s Stop f g n h e = refl
agree k see s (Pass t) f g n h e = e t h
agree k see s (Give item t) f g n h e = ap (ItemThen (see s) item) (e t h)

enough : {S V I : Type 0} (k : StreamKind S I) (see : S → V) (w : IsWalk k) (n m : ℕ) (s : S) → k.size s < n → k.size s < m → parse_in k see n s ≡ parse_in k see m s
enough k see w zero m s h l = absurd (omega arith)
enough k see w (suc n) zero s h l = absurd (omega arith)
enough k see w (suc n) (suc m) s h l = agree k see s (k.move s) (parse_in k see n) (parse_in k see m) (k.size s) (w.shrinks s) (λ t q. enough k see w n m t (omega arith) (omega arith))

-- the parse, by the next move
pub parse-step : {S V I : Type 0} (k : StreamKind S I) (see : S → V) (w : IsWalk k) (s : S) → parse_from k see s ≡ parse_by see s (parse_from k see) (k.move s)
unfolding parse_from
parse-step k see w s = agree k see s (k.move s) (parse_in k see (k.size s)) (parse_from k see) (k.size s) (w.shrinks s) (λ t l. enough k see w (k.size s) (suc (k.size t)) t l (omega arith))

items-at : {S V I : Type 0} (k : StreamKind S I) (see : S → V) (s : S) (n : ℕ) (m : Move S I) → IsMoveBelow k n m → ((t : S) → k.size t < n → items_of (parse_from k see t) ≡ items_from k t) → items_of (parse_by see s (parse_from k see) m) ≡ items_by (items_from k) m
items-at k see s n Stop h f = refl
items-at k see s n (Pass t) h f = f t h
items-at k see s n (Give item t) h f = ap (λ items. item ∷ items) (f t h)

items-in : {S V I : Type 0} (k : StreamKind S I) (see : S → V) (w : IsWalk k) (n : ℕ) (s : S) → k.size s < n → items_of (parse_from k see s) ≡ items_from k s
items-in k see w zero s h = absurd (omega arith)
items-in k see w (suc n) s h = ap items_of (parse-step k see w s) ∙ items-at k see s (k.size s) (k.move s) (w.shrinks s) (λ t l. items-in k see w n t (omega arith)) ∙ sym (items-step k w s)

pub items-parse : {S V I : Type 0} (k : StreamKind S I) (see : S → V) (w : IsWalk k) (s : S) → items_of (parse_from k see s) ≡ items_from k s
items-parse k see w s = items-in k see w (suc (k.size s)) s (omega arith)

-- ---- states

settle-by : {S I : Type 0} (k : StreamKind S I) (w : IsWalk k) (s : S) (m : Move S I) → k.move s ≡ m → settled_state k s ≡ settle_by s (settled_state k) m
settle-by k w s m e = settle-step k w s ∙ ap (settle_by s (settled_state k)) e

state-stop : {S I : Type 0} (k : StreamKind S I) (w : IsWalk k) (n : ℕ) (s : S) → k.move s ≡ Stop → state_at k n s ≡ s
state-stop k w zero s e = settle-by k w s Stop e
state-stop k w (suc n) s e = ap (λ u. state_at k n (after_item u (k.move u))) (settle-by k w s Stop e) ∙ ap (λ m. state_at k n (after_item s m)) e ∙ state-stop k w n s e

state-pass : {S I : Type 0} (k : StreamKind S I) (w : IsWalk k) (n : ℕ) (s t : S) → k.move s ≡ Pass t → state_at k n s ≡ state_at k n t
state-pass k w zero s t e = settle-by k w s (Pass t) e
state-pass k w (suc n) s t e = ap (λ u. state_at k n (after_item u (k.move u))) (settle-by k w s (Pass t) e)

state-give : {S I : Type 0} (k : StreamKind S I) (w : IsWalk k) (n : ℕ) (s t : S) (item : I) → k.move s ≡ Give item t → state_at k (suc n) s ≡ state_at k n t
state-give k w n s t item e = ap (λ u. state_at k n (after_item u (k.move u))) (settle-by k w s (Give item t) e) ∙ ap (λ m. state_at k n (after_item s m)) e

seen-by : {S V I : Type 0} (k : StreamKind S I) (see : S → V) (w : IsWalk k) (s : S) (m : Move S I) → k.move s ≡ m → IsMoveBelow k (k.size s) m → ((t : S) → k.size t < k.size s → (n : ℕ) → seen_before n (parse_from k see t) ≡ see (state_at k n t)) → (n : ℕ) → seen_before n (parse_by see s (parse_from k see) m) ≡ see (state_at k n s)
seen-by k see w s Stop e h f n = ap see (sym (state-stop k w n s e))
seen-by k see w s (Pass t) e h f n = f t h n ∙ ap see (sym (state-pass k w n s t e))
seen-by k see w s (Give item t) e h f zero = ap see (sym (settle-by k w s (Give item t) e))
seen-by k see w s (Give item t) e h f (suc n) = f t h n ∙ ap see (sym (state-give k w n s t item e))

seen-in : {S V I : Type 0} (k : StreamKind S I) (see : S → V) (w : IsWalk k) (l : ℕ) (s : S) → k.size s < l → (n : ℕ) → seen_before n (parse_from k see s) ≡ see (state_at k n s)
seen-in k see w zero s h n = absurd (omega arith)
seen-in k see w (suc l) s h n = ap (seen_before n) (parse-step k see w s) ∙ seen-by k see w s (k.move s) refl (w.shrinks s) (λ t q i. seen-in k see w l t (omega arith) i) n

pub seen-parse : {S V I : Type 0} (k : StreamKind S I) (see : S → V) (w : IsWalk k) (s : S) (n : ℕ) → seen_before n (parse_from k see s) ≡ see (state_at k n s)
seen-parse k see w s n = seen-in k see w (suc (k.size s)) s (omega arith) n
