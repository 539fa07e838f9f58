-- What an action told was queued at the element, in the room that there was.
use Rattle.std.proofs.Common.{◌≡◌, ◌∙◌, ℕ, ◌+◌, ◌≤◌, List, [], ◌∷◌, ◌++◌, length, sym, subst, ap, arith, append_assoc}
use Rattle.std.proofs.lemmas.List.{append-nil}
use Rattle.mse_calls.specs.declared.events.Event.{Event}
use Rattle.mse_calls.specs.declared.events.EventKind.{EventKind}
use Rattle.element_seek.specs.declared.scene.Scene.{Scene}
use Rattle.element_seek.specs.State.{PlayerState, PlayerChange, player_change, then_after}
use Rattle.element_seek.specs.Inside.{IsInside, IsStillInside}
use Rattle.media_element.specs.State.{ElementState, ElementView}
use Rattle.media_element.specs.Queueing.{element_events, with_events, after_told, after_action}

abbrev pub view_of : PlayerState → List Event → ℕ → ElementView
view_of p queue spare = record { state = record { player = p; queue = queue }; spare = spare }

pub heard : (action : PlayerState → PlayerChange) (old new : ElementView) (p q : PlayerState) (queue : List Event) (spare : ℕ) (kinds : List EventKind)
    → view_of p queue spare ≡ old → kinds ≡ (action p).answer → q ≡ (action p).state → new.state ≡ with_events (element_events kinds) (record { player = q; queue = queue })
    → new.state ≡ after_action action old.state
heard action old new p q queue spare kinds v k s h =
    let told : new.state ≡ after_action action (record { player = p; queue = queue }) = h ∙ (λ i. record { player = s i; queue = queue ++ element_events (k i) }) in
    told ∙ (λ i. after_action action (v i).state)

pub has_room : (n : ℕ) (action : PlayerState → PlayerChange) (old : ElementView) (p : PlayerState) (queue : List Event) (spare : ℕ) (kinds : List EventKind)
    → view_of p queue spare ≡ old → kinds ≡ (action p).answer → length (action p).answer ≤ n → n ≤ old.spare
    → length kinds ≤ spare
has_room n action old p queue spare kinds v k few room = rw k (omega (arith, few, room, ap (λ (e : ElementView). e.spare) v))

pub room_left : (n : ℕ) (action : PlayerState → PlayerChange) (old new : ElementView) (p : PlayerState) (queue : List Event) (spare : ℕ) (kinds : List EventKind)
    → view_of p queue spare ≡ old → kinds ≡ (action p).answer → length (action p).answer ≤ n → new.spare + length kinds ≡ spare
    → old.spare ≤ new.spare + n
room_left n action old new p queue spare kinds v k few h =
    let same : length kinds ≡ length (action p).answer = ap length k in
    omega (arith, few, same, h, ap (λ (e : ElementView). e.spare) v)

pub inside : (action : PlayerState → PlayerChange) (scene : Scene) (old new : ElementView) → new.state ≡ after_action action old.state → IsStillInside scene old.state.player (action old.state.player).state → IsStillInside scene old.state.player new.state.player
inside action scene old new e h k = subst (λ (s : ElementState). IsInside scene.duration s.player.position) (sym e) (h k)

-- nothing was told
pub silent : (action : PlayerState → PlayerChange) (old : ElementState) → action old.player ≡ player_change [] old.player → after_action action old ≡ old
silent action old e = ap (λ (t : PlayerChange). after_told t old) e ∙ (λ i. record { player = old.player; queue = append-nil old.queue i })

-- what one thing told, and then another
pub in_turn : (kind : EventKind) (action : PlayerState → PlayerChange) (old : ElementState) → after_action action (with_events (element_events (kind ∷ [])) old) ≡ after_action (λ p. then_after (player_change (kind ∷ []) p) action) old
in_turn kind action old = λ i. record { player = (action old.player).state; queue = append_assoc old.queue (element_events (kind ∷ [])) (element_events (action old.player).answer) i }
