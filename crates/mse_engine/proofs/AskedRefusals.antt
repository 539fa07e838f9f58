-- The name that is asked for, call by call, is the name of the machine's call.
use Rattle.std.proofs.Common.{◌≡◌, ◌∙◌, ◌==◌, ℕ, ℤ, Bool, true, false, cond, nat_lt, List, [], ◌∷◌, length, refl, sym, ap}
use Rattle.std.specs.Prelude.{Option, Some, None, slice_get, is_some, unwrap_or, pos}
use Rattle.std.specs.Option.{option_flatten}
use Rattle.mse_base.specs.declared.ticks.Moment.{Moment}
use Rattle.mse_base.specs.declared.ticks.Moment.TheVariants.{Nan, At, Infinite}
use Rattle.mse_base.specs.Moments.{is_same_moment}
use Rattle.mse_types.specs.declared.answer.Container.{Container}
use Rattle.mse_types.specs.declared.answer.TypeAnswer.{TypeAnswer}
use Rattle.mse_types.specs.declared.answer.TypeAnswer.TheVariants.{Supported, Empty, Unsupported}
use Rattle.mse_types.specs.Texts.{type_of}
use Rattle.mse_calls.specs.AnswerAndState.{AnswerAndState}
use Rattle.mse_calls.specs.declared.answers.Answer.{Answer}
use Rattle.mse_calls.specs.declared.answers.Answer.TheVariants as answer
use Rattle.mse_calls.specs.declared.answers.Name.{Name}
use Rattle.mse_calls.specs.declared.answers.Name.TheVariants.{InvalidState, NotSupported, TypeError, NoSuchBuffer}
use Rattle.mse_calls.specs.declared.answers.Ready.TheVariants.{Ended}
use Rattle.mse_calls.specs.declared.calls.EndKind.{EndKind}
use Rattle.mse_calls.specs.declared.calls.EndKind.TheVariants.{Plain, Network, Decode}
use Rattle.mse_calls.specs.declared.events.EventKind.TheVariants.{UpdateStart}
use Rattle.mse_calls.specs.declared.events.EventKind.TheVariants as kind
use Rattle.mse_calls.specs.declared.events.Target.TheVariants as target
use Rattle.source_state.specs.State.{SourceState}
use Rattle.source_state.specs.Calls.{add_name, after_add_buffer, after_end, after_remove_buffer, after_set_duration, after_set_live, answer_and_state, duration_name, end_refusal, in_ready, remove_name}
use Rattle.source_state.specs.declared.answers.Added.{Added}
use Rattle.source_state.specs.declared.answers.Added.TheVariants as added
use Rattle.source_state.specs.declared.answers.Removed.{Removed}
use Rattle.source_state.specs.declared.answers.Removed.TheVariants as removed
use Rattle.source_state.specs.declared.answers.Changed.{Changed}
use Rattle.source_state.specs.declared.answers.Changed.TheVariants as changed
use Rattle.element_seek.specs.declared.player_answer.PlayerAnswer.{PlayerAnswer}
use Rattle.element_seek.specs.declared.player_answer.PlayerAnswer.TheVariants as acted
use Rattle.element_seek.specs.State.{PlayerState, then_after}
use Rattle.element_seek.specs.Playing.{after_rewind, after_unpause, done_answer}
use Rattle.media_element.specs.Queueing as queueing
use Rattle.track_buffers.specs.Settings.{with_window_start, with_window_end}
use Rattle.track_buffers.specs.Frames.{flush_result}
use Rattle.buffer_state.specs.declared.running.Running.TheVariants.{Removal}
use Rattle.buffer_state.specs.State.{Feed, Content, Surroundings, AppendInput, is_updating, feed_running, ready_in}
use Rattle.mse_calls.specs.Ready.{is_ended}
use Rattle.buffer_state.specs.Replies.{CallResult, event_reply, refused_result, result_with}
use Rattle.buffer_state.specs.declared.call.BufferCall.{BufferCall}
use Rattle.buffer_state.specs.AllCalls.{Append, call_view, input_at}
use Rattle.buffer_state.specs.Calls.{abort_refusal, abort_result, abort_result_after_flush, change_type_refusal_by_answer, change_type_result_after_flush, change_type_result_by_answer, remove_refusal, remove_result, settings_result, unless_refused, window_end_refusal, window_end_result, window_start_refusal, window_start_result}
use Rattle.source_buffers.specs.State.{BufferState, BufferStates, KeptBuffers, AreSlotsStanding, in_slot, all_kept_media, all_kept_running}
use Rattle.source_buffers.specs.All.{all_buffers}
use Rattle.source_buffers.specs.Slots.{BuffersResult, refusal_by_slot, refusal_in_slot, refusal_on_buffer, refusal_on_slot, removal_refusal_in_slot, removal_result}
use Rattle.source_buffers.proofs.KeptParts.{same_length, same_media, same_running}
use Rattle.media_element.specs.State.{ElementState}
use Rattle.mse_engine.specs.State.{MediaSource, Core, State, core_of, core_source}
use Rattle.mse_engine.specs.Scenes.{core_view, scene_in}
use Rattle.mse_engine.specs.Signals.{Signal, Tell}
use Rattle.mse_engine.specs.Replies.{surroundings_in}
use Rattle.mse_engine.specs.CoreEffects.{CoreEffect, refused_effect, if_finite}
use Rattle.mse_engine.specs.SourceCalls.{add_effect, add_effect_of, added_effect, all_in, answered_by, changed_effect, end_effect, end_effect_by, from_source, remove_effect, remove_effect_by, removed_effect, set_duration_effect, set_live_effect}
use Rattle.mse_engine.specs.Calls.{play_effect, read_effect, read_slot_effect, refused_or}
use Rattle.mse_engine.specs.Refusals.{buffer_refusal, refused_name}
use Rattle.mse_engine.specs.Standing.{KeptEngine, Stands}

-- ---- the name of an answer

-- what is refused by a name, or else answers what is no refusal
pub named : (o : Option Name) (a : Answer) → refused_name a ≡ None → refused_name (refused_or o a) ≡ o
named None a none = none
named (Some name) a none = refl

pub by_effect : (o p : Option Name) → o ≡ p → o ≡ refused_name (refused_or p answer.Done)
by_effect o p is = is ∙ sym (named p answer.Done refl)

pub made_or : (b : Bool) (m n : CoreEffect) (o p : Option Name) → m.refused ≡ o → n.refused ≡ p → (cond b m n).refused ≡ cond b o p
made_or true m n o p e f = e
made_or false m n o p e f = f

-- ---- what is stood for

pub same_state : (x : KeptEngine) (st : State) → Stands x st → st.source.state ≡ x.source.state
same_state x st h = sym (ap (λ (s : MediaSource). s.state) h.source)

pub same_all : (x : KeptEngine) (st : State) → Stands x st → all_buffers (all_kept_running x.buffers) (all_kept_media x.buffers) ≡ all_in (core_of st)
same_all x st h =
    let running = same_running x.buffers st.buffers h.buffers in
    let media = same_media x.buffers st.buffers h.buffers in
    λ i. all_buffers (running i) (media i)

pub same_made : (k : ℕ) (ks : KeptBuffers) (bs : BufferStates) → AreSlotsStanding ks bs → nat_lt k (length ks) ≡ nat_lt k (length bs)
same_made k ks bs all = ap (nat_lt k) (same_length ks bs all)

pub same_surroundings : (k : ℕ) (x : KeptEngine) (st : State) (a : Surroundings) → a ≡ surroundings_in k (core_source x.source x.element) → Stands x st → a ≡ surroundings_in k (core_source st.source st.element)
same_surroundings k x st a is h = is ∙ (λ i. surroundings_in k (core_source (h.source i) (h.element i)))

-- ---- calls on the source

answered_name : (o : Option Name) (s : SourceState) (signals : List Signal) (c : Core) → (answered_by o s signals c).refused ≡ o
answered_name None s signals c = refl
answered_name (Some name) s signals c = refl

pub plain_name : (call : SourceState → AnswerAndState (Option Name) SourceState) (s : SourceState) (signals : List Signal) (c : Core) → c.source.state ≡ s → (call s).answer ≡ (from_source (call c.source.state) signals c).refused
plain_name call s signals c same = ap (λ (x : SourceState). (call x).answer) (sym same) ∙ sym (answered_name (call c.source.state).answer (call c.source.state).state signals c)

added_name : (container : Container) (a : Added) (s : SourceState) (c : Core) → (added_effect container a s c).refused ≡ add_name a
added_name container (added.Number k) s c = refl
added_name container (added.Refused name) s c = refl

pub type_name : (text : List ℕ) (t : TypeAnswer) (c : Core) (o : Option Name) → type_of text ≡ t → o ≡ (add_effect_of t c).refused → o ≡ (add_effect text c).refused
type_name text t c o is told = told ∙ ap (λ (x : TypeAnswer). (add_effect_of x c).refused) (sym is)

pub supported_name : (container : Container) (s : SourceState) (c : Core) (o : Option Name) → c.source.state ≡ s → o ≡ add_name (after_add_buffer s).answer → o ≡ (add_effect_of (Supported container) c).refused
supported_name container s c o same told = told ∙ ap (λ (x : SourceState). add_name (after_add_buffer x).answer) (sym same) ∙ sym (added_name container (after_add_buffer c.source.state).answer (after_add_buffer c.source.state).state c)

removed_name : (k : ℕ) (result : BuffersResult) (a : Removed) (s : SourceState) (c : Core) → (removed_effect k result a s c).refused ≡ remove_name a
removed_name k result (removed.Gone active) s c = refl
removed_name k result (removed.Refused name) s c = refl

pub removal_name : (k : ℕ) (x : KeptEngine) (st : State) → Stands x st → cond (nat_lt k (length x.buffers)) (remove_name (after_remove_buffer k x.source.state).answer) (Some NoSuchBuffer) ≡ (remove_effect k (core_of st)).refused
removal_name k x st h =
    let made = same_made k x.buffers st.buffers h.buffers in
    let state = sym (same_state x st h) in
    let a = after_remove_buffer k st.source.state in
    let there : cond (nat_lt k (length x.buffers)) (remove_name (after_remove_buffer k x.source.state).answer) (Some NoSuchBuffer) ≡ cond (nat_lt k (length st.buffers)) (remove_name a.answer) (Some NoSuchBuffer) = (λ i. cond (made i) (remove_name (after_remove_buffer k (state i)).answer) (Some NoSuchBuffer)) in
    there ∙ sym (made_or (nat_lt k (length st.buffers)) (remove_effect_by k a (core_of st)) (refused_effect NoSuchBuffer (core_of st)) (remove_name a.answer) (Some NoSuchBuffer) (removed_name k (removal_result k (surroundings_in k (core_of st).source) st.buffers) a.answer a.state (core_of st)) refl)

changed_name : (first : List Signal) (a : Changed) (s : SourceState) (c : Core) → (changed_effect first a s c).refused ≡ duration_name a
changed_name first changed.Same s c = refl
changed_name first (changed.To d) s c = refl
changed_name first (changed.Refused name) s c = refl

pub set_duration_name : (d : Moment) (x : KeptEngine) (st : State) → Stands x st → duration_name (after_set_duration d (all_buffers (all_kept_running x.buffers) (all_kept_media x.buffers)) x.source.state).answer ≡ (set_duration_effect d (core_of st)).refused
set_duration_name d x st h =
    let all = same_all x st h in
    let state = sym (same_state x st h) in
    let a = after_set_duration d (all_in (core_of st)) st.source.state in
    let there : duration_name (after_set_duration d (all_buffers (all_kept_running x.buffers) (all_kept_media x.buffers)) x.source.state).answer ≡ duration_name a.answer = (λ i. duration_name (after_set_duration d (all i) (state i)).answer) in
    there ∙ sym (changed_name [] a.answer a.state (core_of st))

change_by : (b : Bool) (x y : AnswerAndState Changed SourceState) → duration_name x.answer ≡ None → duration_name y.answer ≡ None → duration_name (cond b x y).answer ≡ None
change_by true x y e f = e
change_by false x y e f = f

-- an end that is not refused before is not refused at all
never_refused : (end : EndKind) (highest : Option ℤ) (s : SourceState) → duration_name (after_end end highest s).answer ≡ None
never_refused Plain highest s =
    let d = At (unwrap_or highest (pos 0)) in
    let t = in_ready Ended s in
    change_by (is_same_moment d t.duration) (answer_and_state changed.Same t) (answer_and_state (changed.To d) (record t { duration = d })) refl refl
never_refused Network highest s = refl
never_refused Decode highest s = refl

pub end_name_by : (o : Option Name) (end : EndKind) (c : Core) → (end_effect_by o end c).refused ≡ o
end_name_by None end c =
    let a = after_end end (all_in c).highest_end c.source.state in
    changed_name (Tell (queueing.event_at target.Source kind.SourceEnded ∷ []) ∷ []) a.answer a.state c ∙ never_refused end (all_in c).highest_end c.source.state
end_name_by (Some name) end c = refl

pub end_name : (end : EndKind) (x : KeptEngine) (st : State) → Stands x st → end_refusal (all_buffers (all_kept_running x.buffers) (all_kept_media x.buffers)).updating x.source.state ≡ (end_effect end (core_of st)).refused
end_name end x st h =
    let all = same_all x st h in
    let state = sym (same_state x st h) in
    let there : end_refusal (all_buffers (all_kept_running x.buffers) (all_kept_media x.buffers)).updating x.source.state ≡ end_refusal (all_in (core_of st)).updating st.source.state = (λ i. end_refusal (all i).updating (state i)) in
    there ∙ sym (end_name_by (end_refusal (all_in (core_of st)).updating st.source.state) end (core_of st))

pub live_name : (start end : Moment) (a b : ℤ) (s : SourceState) (c : Core) (o : Option Name) → start ≡ At a → end ≡ At b → c.source.state ≡ s → o ≡ (after_set_live a b s).answer → o ≡ (set_live_effect start end c).refused
live_name start end a b s c o starts ends same told = told ∙ plain_name (after_set_live a b) s [] c same ∙ (λ i. (set_live_effect (sym starts i) (sym ends i) c).refused)

effect_unless : (t : Moment) (call : ℤ → CoreEffect) (c : Core) → ((u : ℤ) → t ≡ At u → ⊥) → (if_finite t call c).refused ≡ Some TypeError
effect_unless Nan call c never = refl
effect_unless (At u) call c never = absurd (never u refl)
effect_unless Infinite call c never = refl

-- a start that is no time
pub live_unless : (start end : Moment) (c : Core) → ((u : ℤ) → start ≡ At u → ⊥) → Some TypeError ≡ (set_live_effect start end c).refused
live_unless start end c never = sym (effect_unless start (λ a. if_finite end (λ b. from_source (after_set_live a b c.source.state) [] c) c) c never)

-- an end that is no time
pub live_endless : (start end : Moment) (a : ℤ) (c : Core) → start ≡ At a → ((u : ℤ) → end ≡ At u → ⊥) → Some TypeError ≡ (set_live_effect start end c).refused
live_endless start end a c starts never = sym (effect_unless end (λ b. from_source (after_set_live a b c.source.state) [] c) c never) ∙ ap (λ (t : Moment). (set_live_effect t end c).refused) (sym starts)

-- ---- what each call on a buffer tells

unless_name : (o : Option Name) (done_answer : CallResult) (a : Surroundings) (f : Feed) (c : Content) → done_answer.reply.refused ≡ None → (unless_refused o done_answer a f c).reply.refused ≡ o
unless_name None done_answer a f c none = none
unless_name (Some name) done_answer a f c none = refl

pub window_start_tells : (t : ℤ) (a : Surroundings) (f : Feed) (c : Content) → (window_start_result t a f c).reply.refused ≡ window_start_refusal t f c
window_start_tells t a f c = unless_name (window_start_refusal t f c) (settings_result false (with_window_start t c.media) a f c) a f c refl

pub window_end_tells : (t : Moment) (a : Surroundings) (f : Feed) (c : Content) → (window_end_result t a f c).reply.refused ≡ window_end_refusal t f c
window_end_tells t a f c = unless_name (window_end_refusal t f c) (settings_result false (with_window_end t c.media) a f c) a f c refl

pub remove_tells : (start : ℤ) (end : Moment) (a : Surroundings) (f : Feed) (c : Content) → (remove_result start end a f c).reply.refused ≡ remove_refusal start end a f
remove_tells start end a f c = unless_name (remove_refusal start end a f) (result_with (event_reply (is_ended a.ready) a.duration (UpdateStart ∷ [])) (feed_running (Removal start end) f) c) a f c refl

pub abort_tells : (a : Surroundings) (f : Feed) (c : Content) → (abort_result a f c).reply.refused ≡ abort_refusal a f
abort_tells a f c = unless_name (abort_refusal a f) (abort_result_after_flush (flush_result (ready_in f) c.media a.duration) a f c) a f c refl

either_name : (b : Bool) (r s : CallResult) (o p : Option Name) → r.reply.refused ≡ o → s.reply.refused ≡ p → (cond b r s).reply.refused ≡ cond b o p
either_name true r s o p e f = e
either_name false r s o p e f = f

pub type_tells : (t : TypeAnswer) (a : Surroundings) (f : Feed) (c : Content) → (change_type_result_by_answer t a f c).reply.refused ≡ change_type_refusal_by_answer t f
type_tells Empty a f c = refl
type_tells Unsupported a f c = either_name (is_updating f.running) (refused_result InvalidState false a f c) (refused_result NotSupported false a f c) (Some InvalidState) (Some NotSupported) refl refl
type_tells (Supported container) a f c = either_name (is_updating f.running) (refused_result InvalidState false a f c) (change_type_result_after_flush container (flush_result (ready_in f) c.media a.duration) a) (Some InvalidState) None refl refl

-- ---- a call on a buffer, where it is told at what is stood for

pub buffer_name : (k : ℕ) (call : BufferCall) (position : ℤ) (quota : ℕ) (a : Surroundings) (x : KeptEngine) (st : State) (o : Option Name)
    → a ≡ surroundings_in k (core_source x.source x.element) → position ≡ x.element.player.position → quota ≡ x.source.quota
    → o ≡ refusal_on_buffer k (call_view position quota call) a st.buffers → Stands x st
    → o ≡ buffer_refusal k (call_view st.element.player.position st.source.quota call) (core_of st)
buffer_name k call position quota a x st o is at most told h =
    let here : position ≡ st.element.player.position = at ∙ ap (λ (e : ElementState). e.player.position) h.element in
    let room : quota ≡ st.source.quota = most ∙ ap (λ (s : MediaSource). s.quota) h.source in
    let around = same_surroundings k x st a is h in
    told ∙ (λ i. refusal_on_buffer k (call_view (here i) (room i) call) (around i) st.buffers)

-- the refusal of an append is the same of all bytes
append_at : (o : Option (Option BufferState)) (i j : AppendInput) (a : Surroundings) → refusal_by_slot o (refusal_in_slot (Append (Some i)) a) ≡ refusal_by_slot o (refusal_in_slot (Append (Some j)) a)
append_at None i j a = refl
append_at (Some None) i j a = refl
append_at (Some (Some b)) i j a = refl

pub append_same : (k : ℕ) (position : ℤ) (quota : ℕ) (x y : List ℕ) (c : Core) → buffer_refusal k (Append (input_at position quota (Some x))) c ≡ buffer_refusal k (Append (input_at position quota (Some y))) c
append_same k position quota x y c = append_at (slice_get c.buffers k) (record { bytes = x; position = position; quota = quota }) (record { bytes = y; position = position; quota = quota }) (surroundings_in k c.source)

-- ---- reads

read_slot_name : (o : Option (Option BufferState)) (b : Bool) (c : Core) → is_some (refusal_by_slot o removal_refusal_in_slot) ≡ b → cond b (Some InvalidState) None ≡ (read_slot_effect (option_flatten o) c).refused
read_slot_name None b c e = ap (λ (x : Bool). cond x (Some InvalidState) None) (sym e)
read_slot_name (Some None) b c e = ap (λ (x : Bool). cond x (Some InvalidState) None) (sym e)
read_slot_name (Some (Some s)) b c e = ap (λ (x : Bool). cond x (Some InvalidState) None) (sym e)

pub read_name : (k : ℕ) (b : Bool) (ks : KeptBuffers) (c : Core) → AreSlotsStanding ks c.buffers → nat_lt k (length ks) ≡ true → is_some (refusal_on_slot k removal_refusal_in_slot c.buffers) ≡ b → cond b (Some InvalidState) None ≡ (read_effect k c).refused
read_name k b ks c all is gone =
    let made : nat_lt k (length c.buffers) ≡ true = sym (same_made k ks c.buffers all) ∙ is in
    read_slot_name (slice_get c.buffers k) b c gone ∙ ap (λ (x : Bool). (cond x (read_slot_effect (in_slot k c.buffers) c) (refused_effect NoSuchBuffer c)).refused) (sym made)

pub read_unmade : (k : ℕ) (ks : KeptBuffers) (c : Core) → AreSlotsStanding ks c.buffers → nat_lt k (length ks) ≡ false → Some NoSuchBuffer ≡ (read_effect k c).refused
read_unmade k ks c all past =
    let none : nat_lt k (length c.buffers) ≡ false = sym (same_made k ks c.buffers all) ∙ past in
    ap (λ (x : Bool). (cond x (read_slot_effect (in_slot k c.buffers) c) (refused_effect NoSuchBuffer c)).refused) (sym none)

-- ---- calls on the element

acted_name : (b : Bool) (x y : AnswerAndState PlayerAnswer PlayerState) (o p : Option Name) → queueing.refusal x.answer ≡ o → queueing.refusal y.answer ≡ p → queueing.refusal (cond b x y).answer ≡ cond b o p
acted_name true x y o p e f = e
acted_name false x y o p e f = f

pub play_name : (x : KeptEngine) (st : State) → Stands x st → cond (x.element.player.error == 4) (Some NotSupported) None ≡ (play_effect (core_view (core_of st)) st.element).answer
play_name x st h =
    let p = st.element.player in
    ap (λ (e : ElementState). cond (e.player.error == 4) (Some NotSupported) None) h.element
    ∙ sym (acted_name (p.error == 4) (record { answer = acted.Refused NotSupported; state = p }) (done_answer (then_after (after_rewind (scene_in st) p) after_unpause)) (Some NotSupported) None refl refl)
