-- The views of the buffers, one after the other.
use Rattle.std.proofs.Common.{◌≡◌, ◌∙◌, ℕ, zero, suc, ◌+◌, ◌<◌, ◌≤◌, Bool, List, [], ◌∷◌, ◌++◌, drop, length, slice_get, refl, sym, ap, subst, arith}
use Rattle.std.specs.Prelude.{Option, Some, None, Result, Ok, Err, IfOk, OnOk}
use Rattle.std.specs.Option.{IfSome, option_flatten}
use Rattle.std.proofs.lemmas.List.{append-nil, append_assoc}
use Rattle.mse_calls.specs.declared.views.BufferAttributes.{BufferAttributes}
use Rattle.mse_calls.specs.declared.views.BufferView.{BufferView}
use Rattle.buffer_state.specs.State.{KeptBuffer}
use Rattle.source_buffers.specs.State.{BufferState, BufferStates, KeptBuffers, IsSlotStanding, AreSlotsStanding}
use Rattle.source_buffers.specs.Views.{attributes_at, buffer_views, slot_attributes, views_from}
use Rattle.source_buffers.proofs.SlotStates.{found, none_found}
use Rattle.source_buffers.proofs.KeptParts.{same_length}

-- the view of one slot
pub view_there : (ks : KeptBuffers) (i : ℕ) (k : Option KeptBuffer) (ended : Bool) (old new : List BufferView) → slice_get ks i ≡ Some k → ((s : Option BufferState) → IsSlotStanding k s → new ≡ old ++ views_from i ended (s ∷ [])) → (bs : BufferStates) → AreSlotsStanding ks bs → IfSome (slice_get bs i) (λ s. new ≡ old ++ views_from i ended (s ∷ []))
view_there ks i k ended old new e go bs all =
    let p = found ks bs i k all e in
    subst (λ (o : Option (Option BufferState)). IfSome o (λ s. new ≡ old ++ views_from i ended (s ∷ []))) (sym p.there) (go p.slot p.stands)

pub view_none : (ks : KeptBuffers) (i : ℕ) (P : Option BufferState → Type 0) → slice_get ks i ≡ None → (bs : BufferStates) → AreSlotsStanding ks bs → IfSome (slice_get bs i) P
view_none ks i P e bs all = subst (λ (o : Option (Option BufferState)). IfSome o P) (sym (none_found ks bs i all e)) tt

one_view : (n : ℕ) (ended : Bool) (s : Option BufferState) (bs : BufferStates) → views_from n ended (s ∷ bs) ≡ views_from n ended (s ∷ []) ++ views_from (suc n) ended bs
one_view n ended None bs = refl
one_view n ended (Some b) bs = refl

-- what is left behind one place more
views_more : (bs : BufferStates) (i n : ℕ) (ended : Bool) (old new : List BufferView) → i < length bs → IfSome (slice_get bs i) (λ s. new ≡ old ++ views_from n ended (s ∷ [])) → new ++ views_from (suc n) ended (drop (suc i) bs) ≡ old ++ views_from n ended (drop i bs)
views_more [] i n ended old new low h = absurd (omega arith)
views_more (b ∷ bs) zero n ended old new low h =
    ap (λ (vs : List BufferView). vs ++ views_from (suc n) ended bs) h ∙ append_assoc old (views_from n ended (b ∷ [])) (views_from (suc n) ended bs) ∙ ap (λ (vs : List BufferView). old ++ vs) (sym (one_view n ended b bs))
views_more (b ∷ bs) (suc i) n ended old new low h = views_more bs i n ended old new (omega arith) h

pub views_end : (bs : BufferStates) (i n : ℕ) (ended : Bool) (views : List BufferView) → length bs ≤ i → views ++ views_from n ended (drop i bs) ≡ views
views_end [] zero n ended views past = append-nil views
views_end [] (suc i) n ended views past = append-nil views
views_end (b ∷ bs) zero n ended views past = absurd (omega arith)
views_end (b ∷ bs) (suc i) n ended views past = views_end bs i n ended views (omega arith)

-- in a loop over what is kept
pub loop_more : (ks : KeptBuffers) (i : ℕ) (ended : Bool) (old new : List BufferView) → i < length ks → ((bs : BufferStates) → AreSlotsStanding ks bs → IfSome (slice_get bs i) (λ s. new ≡ old ++ views_from i ended (s ∷ []))) → ((bs : BufferStates) → AreSlotsStanding ks bs → old ++ views_from i ended (drop i bs) ≡ buffer_views ended bs) → (bs : BufferStates) → AreSlotsStanding ks bs → new ++ views_from (i + 1) ended (drop (i + 1) bs) ≡ buffer_views ended bs
loop_more ks i ended old new low here so_far bs all =
    let count = same_length ks bs all in
    let inside : i < length bs = omega (arith, low, count) in
    let next : suc i ≡ i + 1 = omega arith in
    subst (λ (j : ℕ). new ++ views_from j ended (drop j bs) ≡ buffer_views ended bs) next (views_more bs i i ended old new inside (here bs all) ∙ so_far bs all)

pub loop_end : (ks : KeptBuffers) (i : ℕ) (ended : Bool) (views : List BufferView) → length ks ≤ i → ((bs : BufferStates) → AreSlotsStanding ks bs → views ++ views_from i ended (drop i bs) ≡ buffer_views ended bs) → (bs : BufferStates) → AreSlotsStanding ks bs → views ≡ buffer_views ended bs
loop_end ks i ended views past so_far bs all =
    let count = same_length ks bs all in
    let over : length bs ≤ i = omega (arith, past, count) in
    sym (views_end bs i i ended views over) ∙ so_far bs all

pub view_there_if_ok : {T E : Type 0} (ks : KeptBuffers) (i : ℕ) (k : Option KeptBuffer) (ended : Bool) (old new : List BufferView) (r : Result T E) → slice_get ks i ≡ Some k → ((s : Option BufferState) → IsSlotStanding k s → OnOk r (new ≡ old ++ views_from i ended (s ∷ []))) → (bs : BufferStates) → AreSlotsStanding ks bs → OnOk r (IfSome (slice_get bs i) (λ s. new ≡ old ++ views_from i ended (s ∷ [])))
view_there_if_ok ks i k ended old new (Ok x) e go = view_there ks i k ended old new e go
view_there_if_ok ks i k ended old new (Err x) e go = λ bs all. tt

-- what a page reads of one buffer
pub attributes_there : {E : Type 0} (ks : KeptBuffers) (i : ℕ) (k : Option KeptBuffer) (ended active : Bool) (r : Result (Option BufferAttributes) E) → slice_get ks i ≡ Some k → ((s : Option BufferState) → IsSlotStanding k s → IfOk r (λ found. found ≡ slot_attributes i ended active s)) → (bs : BufferStates) → AreSlotsStanding ks bs → IfOk r (λ found. found ≡ attributes_at i ended active bs)
attributes_there ks i k ended active r e go bs all =
    let p = found ks bs i k all e in
    subst (λ (o : Option (Option BufferState)). IfOk r (λ found. found ≡ slot_attributes i ended active (option_flatten o))) (sym p.there) (go p.slot p.stands)

pub no_attributes : (ks : KeptBuffers) (i : ℕ) (ended active : Bool) → slice_get ks i ≡ None → (bs : BufferStates) → AreSlotsStanding ks bs → None ≡ attributes_at i ended active bs
no_attributes ks i ended active e bs all =
    sym (ap (λ (o : Option (Option BufferState)). slot_attributes i ended active (option_flatten o)) (none_found ks bs i all e))
