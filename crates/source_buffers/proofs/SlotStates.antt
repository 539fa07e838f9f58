-- A call on one slot keeps what all slots stand for.
use Rattle.std.proofs.Common.{◌≡◌, ℕ, zero, suc, false, [], ◌∷◌, refl, sym, ap, subst}
use Rattle.std.specs.Prelude.{Option, Some, None, slice_get, slice_set}
use Rattle.mse_base.specs.declared.ticks.Moment.{Moment}
use Rattle.mse_calls.specs.declared.answers.Name.{Name}
use Rattle.mse_calls.specs.declared.answers.Name.TheVariants.{NotFound, NoSuchBuffer}
use Rattle.buffer_state.specs.declared.reply.Reply.{Reply}
use Rattle.buffer_state.specs.State.{Feed, Content, KeptBuffer, Surroundings, Stands}
use Rattle.buffer_state.specs.Replies.{CallResult, IsResult, IsTurnResult, refused_reply}
use Rattle.buffer_state.specs.Calls.{end_work_result}
use Rattle.buffer_state.specs.AllCalls.{CallView, IsCallDone, IsRefusal, removed_name}
use Rattle.buffer_state.specs.Turns.{turn_result}
use Rattle.source_buffers.specs.State.{BufferState, BufferStates, KeptBuffers, IsSlotStanding, AreSlotsStanding}
use Rattle.source_buffers.specs.Slots.{call_in_slot, refusal_in_slot, removal_in_slot, removal_refusal_in_slot, SlotResult, IsSlotResult, IsBuffersResult, IsSlotAnswer, IsBuffersAnswer, IsSlotTurn, IsBuffersTurn, slot_turn_of, turn_in_slot, refusal_by_slot, refusal_on_slot, result_by_slot, result_on_slot, buffers_turn_of, turn_by_slot, buffers_turn}

-- what stands at a place
pub record HasStandingSlot (k : Option KeptBuffer) (bs : BufferStates) (i : ℕ) : Type 0 where
  pub slot : Option BufferState
  pub there : slice_get bs i ≡ Some slot
  pub stands : IsSlotStanding k slot

pub found : (ks : KeptBuffers) (bs : BufferStates) (i : ℕ) (k : Option KeptBuffer) → AreSlotsStanding ks bs → slice_get ks i ≡ Some k → HasStandingSlot k bs i
found [] bs i k all e = absurd cc
found (x ∷ ks) [] i k all e = absurd all
found (x ∷ ks) (b ∷ bs) zero k all e = let same : x ≡ k = cc in record { slot = b; there = refl; stands = subst (λ (z : Option KeptBuffer). IsSlotStanding z b) same all.0 }
found (x ∷ ks) (b ∷ bs) (suc i) k all e =
    let r = found ks bs i k all.1 e in
    record { slot = r.slot; there = r.there; stands = r.stands }

pub none_found : (ks : KeptBuffers) (bs : BufferStates) (i : ℕ) → AreSlotsStanding ks bs → slice_get ks i ≡ None → slice_get bs i ≡ None
none_found [] [] i all e = refl
none_found [] (b ∷ bs) i all e = absurd all
none_found (k ∷ ks) [] i all e = absurd all
none_found (k ∷ ks) (b ∷ bs) zero all e = absurd cc
none_found (k ∷ ks) (b ∷ bs) (suc i) all e = none_found ks bs i all.1 e

set_all : (ks : KeptBuffers) (bs : BufferStates) (i : ℕ) (k : Option KeptBuffer) (b : Option BufferState) → AreSlotsStanding ks bs → IsSlotStanding k b → AreSlotsStanding (slice_set ks i k) (slice_set bs i b)
set_all [] [] i k b all h = tt
set_all [] (x ∷ bs) i k b all h = absurd all
set_all (k' ∷ ks) [] i k b all h = absurd all
set_all (k' ∷ ks) (x ∷ bs) zero k b all h = (h, all.1)
set_all (k' ∷ ks) (x ∷ bs) (suc i) k b all h = (all.0, set_all ks bs i k b all.1 h)

-- ---- a call

pub slot_answers : (ks : KeptBuffers) (i : ℕ) (d : Moment) (old new : Option KeptBuffer) (reply : Reply) (call : Option BufferState → SlotResult) → slice_get ks i ≡ Some old → IsSlotAnswer old reply new call → IsBuffersAnswer ks reply (slice_set ks i new) (result_on_slot i d call)
slot_answers ks i d old new reply call e go bs all =
    let p = found ks bs i old all e in
    let a : IsSlotResult reply new (call p.slot) = go p.slot p.stands in
    let here : IsBuffersResult reply (slice_set ks i new) (result_by_slot (Some p.slot) call d i bs) = record { replies = a.replies; stand = set_all ks bs i new (call p.slot).slot all a.stands } in
    subst (λ (o : Option (Option BufferState)). IsBuffersResult reply (slice_set ks i new) (result_by_slot o call d i bs)) (sym p.there) here

-- where none was made
pub none_answers : (ks : KeptBuffers) (i : ℕ) (d : Moment) (reply : Reply) (call : Option BufferState → SlotResult) → slice_get ks i ≡ None → reply ≡ refused_reply NoSuchBuffer false d → IsBuffersAnswer ks reply ks (result_on_slot i d call)
none_answers ks i d reply call e is bs all =
    let here : IsBuffersResult reply ks (result_by_slot None call d i bs) = record { replies = is; stand = all } in
    subst (λ (o : Option (Option BufferState)). IsBuffersResult reply ks (result_by_slot o call d i bs)) (sym (none_found ks bs i all e)) here

-- ---- a step of work

did_turn : (t : Option Reply) (new : KeptBuffer) (o : Option CallResult) → IsTurnResult t new o → IsSlotTurn t (Some new) (slot_turn_of o)
did_turn (Some reply) new None h = absurd h
did_turn (Some reply) new (Some x) h = record { replies = h.replies; stands = h.stands }
did_turn None new None h = tt
did_turn None new (Some x) h = absurd h

pub full_turn : (t : Option Reply) (old new : KeptBuffer) (a : Surroundings) → ((f : Feed) (c : Content) → Stands old f c → IsTurnResult t new (turn_result a f c)) → (s : Option BufferState) → IsSlotStanding (Some old) s → IsSlotTurn t (Some new) (turn_in_slot a s)
full_turn t old new a go None h = absurd h
full_turn t old new a go (Some b) h = did_turn t new (turn_result a b.feed b.content) (go b.feed b.content h)

pub empty_turn : (a : Surroundings) (s : Option BufferState) → IsSlotStanding None s → IsSlotTurn None None (turn_in_slot a s)
empty_turn a None h = tt
empty_turn a (Some b) h = absurd h

put_turn : (t : Option Reply) (ks : KeptBuffers) (bs : BufferStates) (i : ℕ) (new : Option KeptBuffer) (o : Option SlotResult) → AreSlotsStanding ks bs → IsSlotTurn t new o → IsBuffersTurn t (slice_set ks i new) (buffers_turn_of i bs o)
put_turn (Some reply) ks bs i new None all h = absurd h
put_turn (Some reply) ks bs i new (Some a) all h = record { replies = h.replies; stand = set_all ks bs i new a.slot all h.stands }
put_turn None ks bs i new None all h = tt
put_turn None ks bs i new (Some a) all h = absurd h

pub slot_turn : (t : Option Reply) (ks : KeptBuffers) (i : ℕ) (a : Surroundings) (old new : Option KeptBuffer) → slice_get ks i ≡ Some old → ((s : Option BufferState) → IsSlotStanding old s → IsSlotTurn t new (turn_in_slot a s))
    → (bs : BufferStates) → AreSlotsStanding ks bs → IsBuffersTurn t (slice_set ks i new) (buffers_turn i a bs)
slot_turn t ks i a old new e go bs all =
    let p = found ks bs i old all e in
    subst (λ (o : Option (Option BufferState)). IsBuffersTurn t (slice_set ks i new) (turn_by_slot o i a bs)) (sym p.there) (put_turn t ks bs i new (turn_in_slot a p.slot) all (go p.slot p.stands))

pub none_turn : (ks : KeptBuffers) (i : ℕ) (a : Surroundings) → slice_get ks i ≡ None → (bs : BufferStates) → AreSlotsStanding ks bs → IsBuffersTurn None ks (buffers_turn i a bs)
none_turn ks i a e bs all = subst (λ (o : Option (Option BufferState)). IsBuffersTurn None ks (turn_by_slot o i a bs)) (sym (none_found ks bs i all e)) tt

-- ---- refusals

pub slot_refuses : (ks : KeptBuffers) (i : ℕ) (old : Option KeptBuffer) (r : Option Name) (refusal : Option BufferState → Option Name) → slice_get ks i ≡ Some old → ((s : Option BufferState) → IsSlotStanding old s → r ≡ refusal s) → (bs : BufferStates) → AreSlotsStanding ks bs → r ≡ refusal_on_slot i refusal bs
slot_refuses ks i old r refusal e go bs all =
    let p = found ks bs i old all e in
    subst (λ (o : Option (Option BufferState)). r ≡ refusal_by_slot o refusal) (sym p.there) (go p.slot p.stands)

pub none_refuses : (ks : KeptBuffers) (i : ℕ) (refusal : Option BufferState → Option Name) → slice_get ks i ≡ None → (bs : BufferStates) → AreSlotsStanding ks bs → Some NoSuchBuffer ≡ refusal_on_slot i refusal bs
none_refuses ks i refusal e bs all = subst (λ (o : Option (Option BufferState)). Some NoSuchBuffer ≡ refusal_by_slot o refusal) (sym (none_found ks bs i all e)) refl

-- ---- a call on the buffer in a slot

pub full_answers : (reply : Reply) (old new : KeptBuffer) (call : CallView) (a : Surroundings) → IsCallDone call a old reply new → IsSlotAnswer (Some old) reply (Some new) (call_in_slot call a)
full_answers reply old new call a done None h = absurd h
full_answers reply old new call a done (Some b) h =
    let answer = done.answered b.feed b.content h in
    record { replies = answer.replies; stands = answer.stands }

pub empty_answers : (reply : Reply) (meant : Option BufferState → SlotResult) → reply ≡ (meant None).reply → (meant None).slot ≡ None → IsSlotAnswer None reply None meant
empty_answers reply meant is none None h = record { replies = is; stands = subst (λ (s : Option BufferState). IsSlotStanding None s) (sym none) tt }
empty_answers reply meant is none (Some b) h = absurd h

pub full_removal : (reply : Reply) (old new : KeptBuffer) (a : Surroundings) → ((f : Feed) (c : Content) → Stands old f c → IsResult reply new (end_work_result a f c)) → (s : Option BufferState) → IsSlotStanding (Some old) s → IsSlotResult reply None (removal_in_slot a s)
full_removal reply old new a go None h = absurd h
full_removal reply old new a go (Some b) h =
    let done = go b.feed b.content h in
    record { replies = done.replies; stands = tt }

pub full_refuses : (r : Option Name) (old : KeptBuffer) (call : CallView) (a : Surroundings) → IsRefusal call a old r → (s : Option BufferState) → IsSlotStanding (Some old) s → r ≡ refusal_in_slot call a s
full_refuses r old call a go None h = absurd h
full_refuses r old call a go (Some b) h = go b.feed b.content h

pub empty_refuses : (name : Name) (call : CallView) (a : Surroundings) → name ≡ removed_name call → (s : Option BufferState) → IsSlotStanding None s → Some name ≡ refusal_in_slot call a s
empty_refuses name call a is None h = ap (λ (n : Name). Some n) is
empty_refuses name call a is (Some b) h = absurd h

pub full_removal_refuses : (old : KeptBuffer) (s : Option BufferState) → IsSlotStanding (Some old) s → None ≡ removal_refusal_in_slot s
full_removal_refuses old None h = absurd h
full_removal_refuses old (Some b) h = refl

pub empty_removal_refuses : (s : Option BufferState) → IsSlotStanding None s → Some NotFound ≡ removal_refusal_in_slot s
empty_removal_refuses None h = refl
empty_removal_refuses (Some b) h = absurd h
