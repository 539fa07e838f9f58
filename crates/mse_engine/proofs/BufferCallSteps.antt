-- A call on a source buffer, put together of its parts.
use Rattle.std.proofs.Common.{◌≡◌, ◌∙◌, ℕ, zero, suc, ℤ, Bool, true, false, cond, nat_lt, List, [], ◌∷◌, length, refl, sym, ap, subst}
use Rattle.std.specs.Prelude.{Option, Some, None, option_map, unwrap_or}
use Rattle.mse_base.specs.declared.span.Span.{Span}
use Rattle.mse_base.specs.declared.ticks.Moment.{Moment}
use Rattle.mse_calls.specs.declared.answers.Answer.{Answer}
use Rattle.mse_calls.specs.declared.answers.Answer.TheVariants as answer
use Rattle.mse_calls.specs.declared.answers.Name.{Name}
use Rattle.mse_calls.specs.declared.calls.Call.TheVariants as call
use Rattle.mse_calls.specs.Ready.{is_ended}
use Rattle.mse_calls.specs.declared.answers.Name.TheVariants.{InvalidState, NoSuchBuffer}
use Rattle.buffer_state.specs.declared.reply.Reply.{Reply}
use Rattle.buffer_state.specs.State.{Surroundings}
use Rattle.buffer_state.specs.declared.call.BufferCall.{BufferCall}
use Rattle.buffer_state.specs.AllCalls.{CallView, call_view}
use Rattle.track_buffers.specs.Buffered.{buffered_of}
use Rattle.source_buffers.specs.State.{BufferState, BufferStates, KeptBuffers, AreSlotsStanding, in_slot, media_of, media_of_all, all_kept_media}
use Rattle.source_buffers.specs.All.{AreSlotsWithin, AreStillWithin}
use Rattle.source_buffers.specs.Slots.{BuffersResult, IsBuffersAnswer, IsBuffersResult, result_on_buffer}
use Rattle.source_buffers.specs.Buffered.{buffered_at}
use Rattle.source_buffers.proofs.KeptParts.{same_length, same_media}
use Rattle.media_element.specs.State.{ElementState}
use Rattle.media_element.specs.Queueing.{with_events}
use Rattle.media_element.specs.Settled.{IsSettled}
use Rattle.mse_engine.specs.State.{MediaSource, Core, State, core_of, core_source}
use Rattle.mse_engine.specs.Signals.{Tell}
use Rattle.mse_engine.specs.Replies.{call_events, media_source_after, surroundings_in}
use Rattle.mse_engine.specs.CoreEffects.{CoreEffect, refused_effect, no_core_effect, if_made}
use Rattle.mse_engine.specs.BufferCalls.{call_effect}
use Rattle.mse_engine.specs.Calls.{after_buffer_call, after_call, after_call_by, no_element_effect, read_slot_effect, refused_or}
use Rattle.mse_engine.specs.Standing.{KeptEngine, Stands, IsStep, IsSteady, kept_engine, kept_scene}
use Rattle.mse_engine.proofs.StepEnds.{IsEnd, state_at, stood, step_stands, still}

-- ---- a call that reaches the buffers

pub call_steps : (k : ℕ) (call : BufferCall) (position : ℤ) (quota : ℕ) (around : Surroundings) (r : Reply) (a : Answer) (source source2 : MediaSource) (e e1 told e2 : ElementState) (old new : KeptBuffers)
    → e1 ≡ e → around ≡ surroundings_in k (core_source source e1) → position ≡ e1.player.position → quota ≡ source.quota
    → IsBuffersAnswer old r new (result_on_buffer k (call_view position quota call) around)
    → source2 ≡ media_source_after k r source
    → ((position : ℤ) (quota : ℕ) → told ≡ with_events (call_events k (call_view position quota call) r) e1) → IsEnd source2 new told e2 → a ≡ refused_or r.refused answer.Done
    → (st : State) → Stands (kept_engine source old e) st → IsStep a (kept_engine source2 new e2) (after_buffer_call k call st)
call_steps k call position quota around r a source source2 e e1 told e2 old new same there at most answers is tells end replies st h =
    let kept : KeptEngine = kept_engine source old e in
    let x : CallView = call_view e.player.position source.quota call in
    let meant : BuffersResult = result_on_buffer k x (surroundings_in k (core_source source e)) st.buffers in
    let asked : result_on_buffer k (call_view position quota call) around st.buffers ≡ meant
    = (λ i. result_on_buffer k (call_view ((at ∙ ap (λ (y : ElementState). y.player.position) same) i) (most i) call) ((there ∙ ap (λ (y : ElementState). surroundings_in k (core_source source y)) same) i) st.buffers) in
    let next : IsBuffersResult r new meant = subst (IsBuffersResult r new) asked (answers st.buffers h.buffers) in
    let heard : told ≡ with_events (call_events k x meant.reply) e = tells e.player.position source.quota ∙ (λ i. with_events (call_events k x (next.replies i)) (same i)) in
    let behind : source2 ≡ media_source_after k meant.reply source = is ∙ ap (λ (y : Reply). media_source_after k y source) next.replies in
    stood (λ (y : State). IsStep a (kept_engine source2 new e2) (after_buffer_call k call y)) kept st h
    (record {
      answers = replies ∙ ap (λ (y : Reply). refused_or y.refused answer.Done) next.replies;
      stands = step_stands source2 new told e2 (call_effect k x meant (core_of (state_at kept st.buffers))).core (Tell (call_events k x meant.reply) ∷ []) e behind next.stand heard end;
    })

-- the engine is steady behind it
pub call_steady : (k : ℕ) (r : Reply) (d : Moment) (source source2 : MediaSource) (old new : KeptBuffers) (e e2 : ElementState)
    → IsSteady (kept_engine source old e) → d ≡ source.state.duration → AreStillWithin d old r new → length new ≡ length old → source2 ≡ media_source_after k r source → IsSettled (kept_scene (kept_engine source2 new e2)) e2
    → IsSteady (kept_engine source2 new e2)
call_steady k r d source source2 old new e e2 steady long stays len is settled = record {
  made = len ∙ (steady.made ∙ sym (ap (λ (s : MediaSource). s.state.made) is));
  within = subst (λ (x : Moment). AreSlotsWithin x (all_kept_media new)) (sym (ap (λ (s : MediaSource). s.state.duration) is)) (stays (subst (λ (x : Moment). AreSlotsWithin x (all_kept_media old)) (sym long) steady.within));
  settled = settled;
}

-- ---- calls that do not reach the buffers

made : (k : ℕ) (ks : KeptBuffers) (bs : BufferStates) → AreSlotsStanding ks bs → nat_lt k (length ks) ≡ nat_lt k (length bs)
made k ks bs all = ap (nat_lt k) (same_length ks bs all)

-- a refusal, whatever else would have been answered
pub refused_stays : (name : Name) (other : Answer) (x : KeptEngine) (st : State) → IsSettled (kept_scene x) x.element → Stands x st → IsStep (answer.Refused name) x (after_call_by (refused_effect name (core_of st)) (no_element_effect st.element) other)
refused_stays name other x st settled h = record { answers = refl; stands = still x.source x.buffers x.element st h settled }

-- a call on a buffer that was never made
pub unmade_steps : (k : ℕ) (m : CoreEffect) (other : Answer) (x : KeptEngine) (st : State) → nat_lt k (length x.buffers) ≡ false
    → IsSettled (kept_scene x) x.element → Stands x st
    → IsStep (answer.Refused NoSuchBuffer) x (after_call_by (if_made k m (core_of st)) (no_element_effect st.element) other)
unmade_steps k m other x st past settled h =
    let there : nat_lt k (length st.buffers) ≡ false = sym (made k x.buffers st.buffers h.buffers) ∙ past in
    subst (λ (b : Bool). IsStep (answer.Refused NoSuchBuffer) x (after_call_by (cond b m (refused_effect NoSuchBuffer (core_of st))) (no_element_effect st.element) other)) (sym there) (refused_stays NoSuchBuffer other x st settled h)

-- where the buffer was made, the test whether it was changes nothing
pub made_effect : (k : ℕ) (m : CoreEffect) (x : KeptEngine) (st : State) → nat_lt k (length x.buffers) ≡ true → Stands x st → if_made k m (core_of st) ≡ m
made_effect k m x st is h =
    let there : nat_lt k (length st.buffers) ≡ true = sym (made k x.buffers st.buffers h.buffers) ∙ is in
    ap (λ (b : Bool). cond b m (refused_effect NoSuchBuffer (core_of st))) there

-- a call that only reads
pub read_steps : (m : CoreEffect) (a other : Answer) (x : KeptEngine) (st : State) → m ≡ no_core_effect (core_of st) → a ≡ other → IsSettled (kept_scene x) x.element → Stands x st
    → IsStep a x (after_call_by m (no_element_effect st.element) other)
read_steps m a other x st effect is settled h =
    let first : IsStep a x (after_call_by (no_core_effect (core_of st)) (no_element_effect st.element) other) = record { answers = is; stands = still x.source x.buffers x.element st h settled } in
    subst (λ (y : CoreEffect). IsStep a x (after_call_by y (no_element_effect st.element) other)) (sym effect) first

-- ---- what is buffered at a buffer

slot_media : (bs : BufferStates) (k : ℕ) → in_slot k (media_of_all bs) ≡ media_of (in_slot k bs)
slot_media [] k = refl
slot_media (b ∷ bs) zero = refl
slot_media (b ∷ bs) (suc k) = slot_media bs k

read_by : (o : Option BufferState) (ended : Bool) (c : Core) (spans : List Span) → option_map (buffered_of ended) (media_of o) ≡ Some spans → read_slot_effect o c ≡ no_core_effect c
read_by None ended c spans e = absurd (cc)
read_by (Some b) ended c spans e = refl

unread_by : (o : Option BufferState) (ended : Bool) (c : Core) → option_map (buffered_of ended) (media_of o) ≡ None → read_slot_effect o c ≡ refused_effect InvalidState c
unread_by None ended c e = refl
unread_by (Some b) ended c e = absurd (cc)

-- what is buffered at the state that is stood for
buffered_there : (k : ℕ) (x : KeptEngine) (st : State) (o : Option (List Span)) → o ≡ buffered_at (is_ended x.source.state.ready) k (all_kept_media x.buffers) → Stands x st → o ≡ buffered_at (is_ended st.source.state.ready) k (media_of_all st.buffers)
buffered_there k x st o is h = is ∙ (λ i. buffered_at (is_ended (h.source i).state.ready) k (same_media x.buffers st.buffers h.buffers i))

pub buffered_steps : (k : ℕ) (spans : List Span) (x : KeptEngine) (st : State) → nat_lt k (length x.buffers) ≡ true → Some spans ≡ buffered_at (is_ended x.source.state.ready) k (all_kept_media x.buffers)
    → IsSettled (kept_scene x) x.element → Stands x st
    → IsStep (answer.Ranges spans) x (after_call [] (call.Buffered k) st)
buffered_steps k spans x st is there settled h =
    let ended : Bool = is_ended st.source.state.ready in
    let at : Some spans ≡ buffered_at ended k (media_of_all st.buffers) = buffered_there k x st (Some spans) there h in
    let slot : option_map (buffered_of ended) (media_of (in_slot k st.buffers)) ≡ Some spans = sym (at ∙ ap (option_map (buffered_of ended)) (slot_media st.buffers k)) in
    let effect : if_made k (read_slot_effect (in_slot k st.buffers) (core_of st)) (core_of st) ≡ no_core_effect (core_of st) = made_effect k (read_slot_effect (in_slot k st.buffers) (core_of st)) x st is h ∙ read_by (in_slot k st.buffers) ended (core_of st) spans slot in
    read_steps (if_made k (read_slot_effect (in_slot k st.buffers) (core_of st)) (core_of st)) (answer.Ranges spans) (answer.Ranges (unwrap_or (buffered_at ended k (media_of_all st.buffers)) [])) x st effect (ap (λ (o : Option (List Span)). answer.Ranges (unwrap_or o [])) at) settled h

pub unbuffered_steps : (k : ℕ) (x : KeptEngine) (st : State) → nat_lt k (length x.buffers) ≡ true → None ≡ buffered_at (is_ended x.source.state.ready) k (all_kept_media x.buffers)
    → IsSettled (kept_scene x) x.element → Stands x st
    → IsStep (answer.Refused InvalidState) x (after_call [] (call.Buffered k) st)
unbuffered_steps k x st is there settled h =
    let ended : Bool = is_ended st.source.state.ready in
    let at : None ≡ buffered_at ended k (media_of_all st.buffers) = buffered_there k x st None there h in
    let slot : option_map (buffered_of ended) (media_of (in_slot k st.buffers)) ≡ None = sym (at ∙ ap (option_map (buffered_of ended)) (slot_media st.buffers k)) in
    let effect : if_made k (read_slot_effect (in_slot k st.buffers) (core_of st)) (core_of st) ≡ refused_effect InvalidState (core_of st) = made_effect k (read_slot_effect (in_slot k st.buffers) (core_of st)) x st is h ∙ unread_by (in_slot k st.buffers) ended (core_of st) slot in
    subst (λ (y : CoreEffect). IsStep (answer.Refused InvalidState) x (after_call_by y (no_element_effect st.element) (answer.Ranges (unwrap_or (buffered_at ended k (media_of_all st.buffers)) [])))) (sym effect) (refused_stays InvalidState (answer.Ranges (unwrap_or (buffered_at ended k (media_of_all st.buffers)) [])) x st settled h)

pub unread_steps : (k : ℕ) (x : KeptEngine) (st : State) → nat_lt k (length x.buffers) ≡ false → IsSettled (kept_scene x) x.element → Stands x st → IsStep (answer.Refused NoSuchBuffer) x (after_call [] (call.Buffered k) st)
unread_steps k x st past settled h = unmade_steps k (read_slot_effect (in_slot k st.buffers) (core_of st)) (answer.Ranges (unwrap_or (buffered_at (is_ended st.source.state.ready) k (media_of_all st.buffers)) [])) x st past settled h
