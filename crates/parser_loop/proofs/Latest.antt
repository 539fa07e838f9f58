-- The latest presentation before an item.
use Rattle.std.proofs.Common.{◌≡◌, ℕ, zero, suc, ◌<◌, [], ◌∷◌, take, Option, refl, ap, sym, ◌∙◌, arith}
use Rattle.mse_base.specs.declared.track.Presentation.{Presentation}
use Rattle.parser_loop.specs.Walk.{Move, Stop, Pass, Give, StreamKind, items_by, items_from, settle_by, settled_state, after_item, state_at, IsMoveBelow, IsWalk}
use Rattle.parser_loop.specs.Items.{Item, latest_after, latest_after_all}
use Rattle.parser_loop.specs.Parse.{IsLatestAfterMove}
use Rattle.parser_loop.proofs.Walks.{items-step, settle-step, settled, items-settle, IsSettled}

settle-at : {S F : Type 0} (k : StreamKind S (Item F)) (latest : S → Option Presentation) (s : S) (m : Move S (Item F)) → IsLatestAfterMove latest (latest s) m → IsMoveBelow k (k.size s) m → ((t : S) → k.size t < k.size s → latest (settled_state k t) ≡ latest t) → latest (settle_by s (settled_state k) m) ≡ latest s
settle-at k latest s Stop e h f = refl
settle-at k latest s (Pass t) e h f = f t h ∙ e
settle-at k latest s (Give item t) e h f = refl

settle-in : {S F : Type 0} (k : StreamKind S (Item F)) (w : IsWalk k) (latest : S → Option Presentation) (g : (s : S) → IsLatestAfterMove latest (latest s) (k.move s)) (n : ℕ) (s : S) → k.size s < n → latest (settled_state k s) ≡ latest s
settle-in k w latest g zero s h = absurd (omega arith)
settle-in k w latest g (suc n) s h = ap latest (settle-step k w s) ∙ settle-at k latest s (k.move s) (g s) (w.shrinks s) (λ t l. settle-in k w latest g n t (omega arith))

settle-latest : {S F : Type 0} (k : StreamKind S (Item F)) (w : IsWalk k) (latest : S → Option Presentation) (g : (s : S) → IsLatestAfterMove latest (latest s) (k.move s)) (s : S) → latest (settled_state k s) ≡ latest s
settle-latest k w latest g s = settle-in k w latest g (suc (k.size s)) s (omega arith)

take-nil : {X : Type 0} (n : ℕ) → take {A = X} n [] ≡ []
take-nil zero = refl
take-nil (suc n) = refl

next : {S F : Type 0} (k : StreamKind S (Item F)) (w : IsWalk k) (latest : S → Option Presentation) (n : ℕ) (s u : S) (m : Move S (Item F)) → k.move u ≡ m → IsSettled m → IsLatestAfterMove latest (latest u) m → items_from k u ≡ items_from k s → latest u ≡ latest s → ((t : S) → latest (state_at k n t) ≡ latest_after_all (latest t) (take n (items_from k t))) → latest (state_at k n (after_item u m)) ≡ latest_after_all (latest s) (take (suc n) (items_from k s))
next k w latest n s u Stop e d q i l f =
    let nil : items_from k u ≡ [] = items-step k w u ∙ ap (items_by (items_from k)) e in
    let none : items_from k s ≡ [] = sym i ∙ nil in
    f u ∙ ap (λ items. latest_after_all (latest u) (take n items)) nil ∙ ap (latest_after_all (latest u)) (take-nil n) ∙ l ∙ sym (ap (λ items. latest_after_all (latest s) (take (suc n) items)) none)
next k w latest n s u (Pass t) e d q i l f = absurd d
next k w latest n s u (Give item t) e d q i l f =
    let some : items_from k s ≡ item ∷ items_from k t = sym i ∙ items-step k w u ∙ ap (items_by (items_from k)) e in
    f t ∙ ap (λ last. latest_after_all last (take n (items_from k t))) (q ∙ ap (λ last. latest_after last item) l) ∙ sym (ap (λ items. latest_after_all (latest s) (take (suc n) items)) some)

-- it is that of the last initialization segment among the items before, or that of the start
pub state-latest : {S F : Type 0} (k : StreamKind S (Item F)) (w : IsWalk k) (latest : S → Option Presentation) (g : (s : S) → IsLatestAfterMove latest (latest s) (k.move s)) (n : ℕ) (s : S) → latest (state_at k n s) ≡ latest_after_all (latest s) (take n (items_from k s))
state-latest k w latest g zero s = settle-latest k w latest g s
state-latest k w latest g (suc n) s =
    let u = settled_state k s in
    next k w latest n s u (k.move u) refl (settled k w s) (g u) (items-settle k w s) (settle-latest k w latest g s) (λ t. state-latest k w latest g n t)
