-- A call on the buffer of a number is refused before anything comes of it exactly by the name that can be asked for.
use Rattle.std.proofs.Common.{◌≡◌, ◌∙◌, ℕ, zero, suc, false, [], ◌∷◌, refl, sym, ap}
use Rattle.std.specs.Prelude.{Option, Some, None, slice_get, slice_set}
use Rattle.mse_calls.specs.declared.answers.Name.{Name}
use Rattle.mse_calls.specs.declared.answers.Name.TheVariants.{NoSuchBuffer}
use Rattle.buffer_state.specs.declared.reply.Reply.{Reply}
use Rattle.buffer_state.specs.State.{Surroundings}
use Rattle.buffer_state.specs.AllCalls.{CallView, IsForQuota, removed_name, result_of_call}
use Rattle.buffer_state.proofs.Refusals.{all_refused, all_told}
use Rattle.buffer_state.specs.Replies.{CallResult, refused_reply, refused_result}
use Rattle.source_buffers.specs.State.{BufferState, BufferStates}
use Rattle.source_buffers.specs.Slots.{BuffersResult, call_in_slot, refusal_in_slot, refusal_by_slot, refusal_on_buffer, refused_buffers, result_by_slot, result_on_buffer, slot_with, buffers_with}

set_same : (bs : BufferStates) (k : ℕ) (s : Option BufferState) → slice_get bs k ≡ Some s → slice_set bs k s ≡ bs
set_same [] k s e = refl
set_same (b ∷ bs) zero s e = let same : b ≡ s = cc in ap (λ (z : Option BufferState). z ∷ bs) (sym same)
set_same (b ∷ bs) (suc k) s e = ap (λ (zs : BufferStates). b ∷ zs) (set_same bs k s e)

set_there : (bs : BufferStates) (k : ℕ) (s t : Option BufferState) → slice_get bs k ≡ Some s → slice_get (slice_set bs k t) k ≡ Some t
set_there [] k s t e = absurd cc
set_there (b ∷ bs) zero s t e = refl
set_there (b ∷ bs) (suc k) s t e = set_there bs k s t e

-- ---- where there is a name, the call is refused by it

refused_by : (call : CallView) (k : ℕ) (n : Name) (a : Surroundings) (bs : BufferStates) (o : Option (Option BufferState)) → slice_get bs k ≡ o → refusal_by_slot o (refusal_in_slot call a) ≡ Some n → result_by_slot o (call_in_slot call a) a.duration k bs ≡ refused_buffers n a.duration bs
refused_by call k n a bs None e h =
    let same : NoSuchBuffer ≡ n = cc in
    ap (λ (m : Name). refused_buffers m a.duration bs) same
refused_by call k n a bs (Some None) e h =
    let same : removed_name call ≡ n = cc in
    ap (λ (m : Name). refused_buffers m a.duration (slice_set bs k None)) same ∙ ap (λ (xs : BufferStates). refused_buffers n a.duration xs) (set_same bs k None e)
refused_by call k n a bs (Some (Some b)) e h =
    ap (λ (r : CallResult). buffers_with k bs (slot_with r)) (all_refused call a b.feed b.content n h) ∙ ap (λ (xs : BufferStates). refused_buffers n a.duration xs) (set_same bs k (Some b) e)

pub refused : (call : CallView) (k : ℕ) (n : Name) (a : Surroundings) (bs : BufferStates) → refusal_on_buffer k call a bs ≡ Some n → result_on_buffer k call a bs ≡ refused_buffers n a.duration bs
refused call k n a bs h = refused_by call k n a bs (slice_get bs k) refl h

-- ---- where there is none, and the call is refused all the same, it is for the quota

some_same : (x y : BufferState) → Some (Some x) ≡ Some (Some y) → x ≡ y
some_same x y h = cc

refused_whole : (r : CallResult) (n : Name) (a : Surroundings) (b : BufferState) → r.reply ≡ refused_reply n false a.duration → record { feed = r.feed; content = r.content } ≡ b → r ≡ refused_result n false a b.feed b.content
refused_whole r n a b replies same =
    ap (λ (x : Reply). record { reply = x; feed = r.feed; content = r.content }) replies
    ∙ ap (λ (x : BufferState). record { reply = refused_reply n false a.duration; feed = x.feed; content = x.content }) same

told_by : (call : CallView) (k : ℕ) (n : Name) (a : Surroundings) (bs : BufferStates) (o : Option (Option BufferState)) → slice_get bs k ≡ o → refusal_by_slot o (refusal_in_slot call a) ≡ None → result_by_slot o (call_in_slot call a) a.duration k bs ≡ refused_buffers n a.duration bs → IsForQuota call n
told_by call k n a bs None e none h = absurd cc
told_by call k n a bs (Some None) e none h = absurd cc
told_by call k n a bs (Some (Some b)) e none h =
    let r = result_of_call call a b.feed b.content in
    let left : BufferState = record { feed = r.feed; content = r.content } in
    let there : slice_get bs k ≡ Some (Some left) = ap (λ (x : BuffersResult). slice_get x.buffers k) (sym h) ∙ set_there bs k (Some b) (Some left) e in
    all_told call a b.feed b.content n none (refused_whole r n a b (ap (λ (x : BuffersResult). x.reply) h) (some_same left b (sym there ∙ e)))

pub told : (call : CallView) (k : ℕ) (n : Name) (a : Surroundings) (bs : BufferStates) → refusal_on_buffer k call a bs ≡ None → result_on_buffer k call a bs ≡ refused_buffers n a.duration bs → IsForQuota call n
told call k n a bs none h = told_by call k n a bs (slice_get bs k) refl none h
