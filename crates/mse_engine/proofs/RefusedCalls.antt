-- A call whose refusal is a name is refused by it, and there is the end of the step alone.
use Rattle.std.proofs.Common.{◌≡◌, ◌∙◌, ◌==◌, ℕ, ℤ, pos, int_lt, Bool, true, false, cond, nat_lt, List, [], ◌∷◌, ◌++◌, length, refl, sym, ap, subst}
use Rattle.std.specs.Prelude.{Option, Some, None}
use Rattle.std.proofs.lemmas.List.{append-nil}
use Rattle.mse_base.specs.declared.ticks.Moment.{Moment}
use Rattle.mse_base.specs.declared.ticks.Moment.TheVariants.{Nan, At, Infinite}
use Rattle.mse_types.specs.declared.answer.Container.{Container}
use Rattle.mse_types.specs.declared.answer.TypeAnswer.{TypeAnswer}
use Rattle.mse_types.specs.declared.answer.TypeAnswer.TheVariants.{Supported, Empty, Unsupported}
use Rattle.mse_types.specs.Texts.{type_of}
use Rattle.mse_calls.specs.AnswerAndState.{AnswerAndState}
use Rattle.mse_calls.specs.Pieces.{bytes_of}
use Rattle.mse_calls.specs.declared.answers.Answer.{Answer}
use Rattle.mse_calls.specs.declared.answers.Answer.TheVariants as answer
use Rattle.mse_calls.specs.declared.answers.Name.{Name}
use Rattle.mse_calls.specs.declared.answers.Name.TheVariants.{InvalidState, NotSupported, TypeError, NoSuchBuffer}
use Rattle.mse_calls.specs.declared.calls.Call.{Call}
use Rattle.mse_calls.specs.declared.calls.Call.TheVariants as call
use Rattle.mse_calls.specs.declared.calls.EndKind.{EndKind}
use Rattle.mse_calls.specs.declared.events.Event.{Event}
use Rattle.mse_calls.specs.declared.events.EventKind.TheVariants as kind
use Rattle.mse_calls.specs.declared.events.Target.TheVariants as target
use Rattle.source_state.specs.State.{SourceState}
use Rattle.source_state.specs.Calls.{after_add_buffer, after_attach, after_clear_live, after_remove_buffer, after_set_duration, after_set_live, end_refusal}
use Rattle.source_state.specs.declared.answers.Added.{Added}
use Rattle.source_state.specs.declared.answers.Added.TheVariants as added
use Rattle.source_state.specs.declared.answers.Removed.{Removed}
use Rattle.source_state.specs.declared.answers.Removed.TheVariants as removed
use Rattle.source_state.specs.declared.answers.Changed.{Changed}
use Rattle.source_state.specs.declared.answers.Changed.TheVariants as changed
use Rattle.element_seek.specs.declared.player_answer.PlayerAnswer.{PlayerAnswer}
use Rattle.element_seek.specs.declared.player_answer.PlayerAnswer.TheVariants as acted
use Rattle.element_seek.specs.State.{PlayerState, PlayerChange, then_after}
use Rattle.element_seek.specs.Playing.{after_advance, after_play, after_rewind, after_time, after_unpause}
use Rattle.media_element.specs.State.{ElementState}
use Rattle.media_element.specs.Queueing as queueing
use Rattle.media_element.specs.Queueing.{event_at}
use Rattle.buffer_state.specs.Replies.{refused_reply}
use Rattle.buffer_state.specs.State.{Surroundings}
use Rattle.buffer_state.specs.AllCalls.{CallView, SetMode, SetOffset, SetWindowStart, SetWindowEnd, Remove, Abort, ChangeType, input_at}
use Rattle.buffer_state.specs.AllCalls as calls
use Rattle.source_buffers.proofs.Refusals.{refused}
use Rattle.source_buffers.specs.State.{BufferState, in_slot}
use Rattle.source_buffers.specs.Slots.{BuffersResult, refused_buffers, removal_result}
use Rattle.mse_engine.specs.State.{Core, State, core_of}
use Rattle.mse_engine.specs.Scenes.{core_view, scene_in}
use Rattle.mse_engine.specs.Signals.{Signal, Tell, step}
use Rattle.mse_engine.specs.Replies.{call_events, surroundings_in}
use Rattle.mse_engine.specs.CoreEffects.{CoreEffect, refused_effect, no_core_effect, if_finite, if_made}
use Rattle.mse_engine.specs.SourceCalls.{add_effect, add_effect_of, added_effect, all_in, answered_by, attach_effect, changed_effect, clear_live_effect, end_effect, end_effect_by, from_source, remove_effect, remove_effect_by, removed_effect, set_duration_effect, set_live_effect}
use Rattle.mse_engine.specs.BufferCalls.{buffer_effect, call_effect}
use Rattle.mse_engine.specs.Calls.{ElementEffect, element_effect_by, element_refused, advance_effect, after_call, after_call_by, play_effect, read_answer, read_effect, read_slot_effect, refused_or, seek_effect, no_element_effect}
use Rattle.mse_engine.specs.Refusals.{IsRefused, IsRefusedAsNamed, buffer_refusal, refused_name}
use Rattle.mse_engine.proofs.AskedRefusals.{end_name_by, named}

-- ---- a call that the element does not act on

-- where there is the name, the call is refused by it, and there is the end of the step alone
abbrev IsRefusedIf : Option Name → CoreEffect → Answer → State → Type 0
IsRefusedIf o m a st = (name : Name) → o ≡ Some name → IsRefused name st (after_call_by m (no_element_effect st.element) a)

some_same : (n name : Name) → Some n ≡ Some name → n ≡ name
some_same n name e = cc

-- a refusal that has no effect
plain_refuses : (n : Name) (a : Answer) (st : State) → IsRefusedIf (Some n) (refused_effect n (core_of st)) a st
plain_refuses n a st name e = subst (λ (x : Name). IsRefused x st (after_call_by (refused_effect n (core_of st)) (no_element_effect st.element) a)) (some_same n name e) (record { answers = refl; stays = refl })

-- where there is no name
none_refuses : (m : CoreEffect) (a : Answer) (st : State) → IsRefusedIf None m a st
none_refuses m a st name e = absurd (cc)

-- the same of the name that the call has
abbrev IsRefusedIfNamed : CoreEffect → Answer → State → Type 0
IsRefusedIfNamed m a st = IsRefusedIf m.refused m a st

names_case : (b : Bool) (m n : CoreEffect) (a : Answer) (st : State) → IsRefusedIfNamed m a st → IsRefusedIfNamed n a st → IsRefusedIfNamed (cond b m n) a st
names_case true m n a st h k = h
names_case false m n a st h k = k

names_made : (k : ℕ) (m : CoreEffect) (a : Answer) (st : State) → IsRefusedIfNamed m a st → IsRefusedIfNamed (if_made k m (core_of st)) a st
names_made k m a st h = names_case (nat_lt k (length st.buffers)) m (refused_effect NoSuchBuffer (core_of st)) a st h (plain_refuses NoSuchBuffer a st)

names_finite : (t : Moment) (m : ℤ → CoreEffect) (a : Answer) (st : State) → ((u : ℤ) → IsRefusedIfNamed (m u) a st) → IsRefusedIfNamed (if_finite t m (core_of st)) a st
names_finite Nan m a st h = plain_refuses TypeError a st
names_finite (At u) m a st h = h u
names_finite Infinite m a st h = plain_refuses TypeError a st

-- what is told of a call that answers no refusal else
pub told : (m : CoreEffect) (a : Answer) (st : State) → refused_name a ≡ None → IsRefusedIfNamed m a st → (name : Name) → refused_name (refused_or m.refused a) ≡ Some name → IsRefused name st (after_call_by m (no_element_effect st.element) a)
told m a st none h name e = h name (sym (named m.refused a none) ∙ e)

-- ---- calls on the source

answered_names : (o : Option Name) (s : SourceState) (signals : List Signal) (st : State) → IsRefusedIfNamed (answered_by o s signals (core_of st)) answer.Done st
answered_names None s signals st = none_refuses (answered_by None s signals (core_of st)) answer.Done st
answered_names (Some name) s signals st = plain_refuses name answer.Done st

pub source_names : (a : AnswerAndState (Option Name) SourceState) (signals : List Signal) (st : State) → IsRefusedIfNamed (from_source a signals (core_of st)) answer.Done st
source_names a signals st = answered_names a.answer a.state signals st

added_names : (container : Container) (a : Added) (s : SourceState) (st : State) → IsRefusedIfNamed (added_effect container a s (core_of st)) answer.Done st
added_names container (added.Number k) s st = none_refuses (added_effect container (added.Number k) s (core_of st)) answer.Done st
added_names container (added.Refused name) s st = plain_refuses name answer.Done st

pub type_names : (t : TypeAnswer) (st : State) → IsRefusedIfNamed (add_effect_of t (core_of st)) answer.Done st
type_names Empty st = plain_refuses TypeError answer.Done st
type_names Unsupported st = plain_refuses NotSupported answer.Done st
type_names (Supported container) st = added_names container (after_add_buffer st.source.state).answer (after_add_buffer st.source.state).state st

removed_names : (k : ℕ) (result : BuffersResult) (a : Removed) (s : SourceState) (st : State) → IsRefusedIfNamed (removed_effect k result a s (core_of st)) answer.Done st
removed_names k result (removed.Gone active) s st = none_refuses (removed_effect k result (removed.Gone active) s (core_of st)) answer.Done st
removed_names k result (removed.Refused name) s st = plain_refuses name answer.Done st

changed_names : (a : Changed) (s : SourceState) (st : State) → IsRefusedIfNamed (changed_effect [] a s (core_of st)) answer.Done st
changed_names changed.Same s st = none_refuses (changed_effect [] changed.Same s (core_of st)) answer.Done st
changed_names (changed.To d) s st = none_refuses (changed_effect [] (changed.To d) s (core_of st)) answer.Done st
changed_names (changed.Refused name) s st = plain_refuses name answer.Done st

end_refuses : (o : Option Name) (end : EndKind) (st : State) → IsRefusedIf o (end_effect_by o end (core_of st)) answer.Done st
end_refuses None end st = none_refuses (end_effect_by None end (core_of st)) answer.Done st
end_refuses (Some name) end st = plain_refuses name answer.Done st

pub end_names : (o : Option Name) (end : EndKind) (st : State) → IsRefusedIfNamed (end_effect_by o end (core_of st)) answer.Done st
end_names o end st name e = end_refuses o end st name (sym (end_name_by o end (core_of st)) ∙ e)

-- ---- calls on a source buffer

pub no_events : (k : ℕ) (call : CallView) (name : Name) (d : Moment) → call_events k call (refused_reply name false d) ≡ []
no_events k (SetMode mode) name d = refl
no_events k (SetOffset t) name d = refl
no_events k (SetWindowStart t) name d = refl
no_events k (SetWindowEnd t) name d = refl
no_events k (Remove start end) name d = refl
no_events k (calls.Append input) name d = refl
no_events k Abort name d = refl
no_events k (ChangeType answer) name d = refl

-- a refusal of which nothing comes tells nothing
silent : (k : ℕ) (call : CallView) (name : Name) (c : Core) (e : ElementState) → after_call_by (call_effect k call (refused_buffers name c.source.state.duration c.buffers) c) (no_element_effect e) answer.Done ≡ after_call_by (refused_effect name c) (no_element_effect e) answer.Done
silent k call name c e =
    let queue : e.queue ++ call_events k call (refused_reply name false c.source.state.duration) ≡ e.queue = ap (λ (xs : List Event). e.queue ++ xs) (no_events k call name c.source.state.duration) ∙ append-nil e.queue in
    ap (λ (q : List Event). record { answer = answer.Refused name; state = step c [] (record { player = e.player; queue = q }) }) queue

pub buffer_refuses : (k : ℕ) (call : CallView) (st : State) → IsRefusedIf (buffer_refusal k call (core_of st)) (buffer_effect k call (core_of st)) answer.Done st
buffer_refuses k call st n e =
    let a : Surroundings = surroundings_in k (core_of st).source in
    let same : after_call_by (buffer_effect k call (core_of st)) (no_element_effect st.element) answer.Done ≡ after_call_by (refused_effect n (core_of st)) (no_element_effect st.element) answer.Done
    = ap (λ (r : BuffersResult). after_call_by (call_effect k call r (core_of st)) (no_element_effect st.element) answer.Done) (refused call k n a st.buffers e) ∙ silent k call n (core_of st) st.element in
    subst (λ (x : AnswerAndState Answer State). IsRefused n st x) (sym same) (record { answers = refl; stays = refl })

-- ---- reads

read_names : (s : Option BufferState) (a : Answer) (st : State) → IsRefusedIfNamed (read_slot_effect s (core_of st)) a st
read_names None a st = plain_refuses InvalidState a st
read_names (Some b) a st = none_refuses (no_core_effect (core_of st)) a st

-- ---- calls on the element

abbrev IsElementSameIfRefused : ElementEffect → State → Type 0
IsElementSameIfRefused acts st = (name : Name) → acts.answer ≡ Some name → acts ≡ element_refused name st.element

acts_refused : (acts : ElementEffect) (st : State) → IsElementSameIfRefused acts st → (name : Name) → refused_name (refused_or acts.answer answer.Done) ≡ Some name → IsRefused name st (after_call_by (no_core_effect (core_of st)) acts answer.Done)
acts_refused acts st h name e = subst (λ (x : ElementEffect). IsRefused name st (after_call_by (no_core_effect (core_of st)) x answer.Done)) (sym (h name (sym (named acts.answer answer.Done refl) ∙ e))) (record { answers = refl; stays = refl })

no_time : (st : State) → IsElementSameIfRefused (element_refused TypeError st.element) st
no_time st name e = ap (λ (n : Option Name). record { answer = n; state = st.element }) e

seek_acts : (t : Moment) (st : State) → IsElementSameIfRefused (seek_effect t (core_view (core_of st)) st.element) st
seek_acts Nan st = no_time st
seek_acts (At t) st = λ name e. absurd (cc)
seek_acts Infinite st = no_time st

-- what is told where it is refused
refused_action : (call : PlayerState → AnswerAndState PlayerAnswer PlayerState) (n : Name) (e : ElementState) → call e.player ≡ record { answer = acted.Refused n; state = e.player } → element_effect_by call e ≡ element_refused n e
refused_action call n e is =
    ap (λ (x : AnswerAndState PlayerAnswer PlayerState). record { answer = queueing.refusal x.answer; state = record { player = x.state; queue = e.queue ++ queueing.element_events (queueing.told_kinds x.answer) } }) is
    ∙ ap (λ (q : List Event). record { answer = Some n; state = record { player = e.player; queue = q } }) (append-nil e.queue)

refused_acts : (b : Bool) (call : PlayerState → AnswerAndState PlayerAnswer PlayerState) (n : Name) (told : PlayerChange) (st : State)
    → call st.element.player ≡ cond b (record { answer = acted.Refused n; state = st.element.player }) (record { answer = acted.Done told.answer; state = told.state })
    → IsElementSameIfRefused (element_effect_by call st.element) st
refused_acts true call n told st is name e =
    let here = refused_action call n st.element is in
    here ∙ ap (λ (x : Option Name). record { answer = x; state = st.element }) (sym (ap (λ (x : ElementEffect). x.answer) here) ∙ e)
refused_acts false call n told st is name e =
    let none : None ≡ Some name = sym (ap (λ (x : AnswerAndState PlayerAnswer PlayerState). queueing.refusal x.answer) is) ∙ e in
    absurd (cc)

play_acts : (st : State) → IsElementSameIfRefused (play_effect (core_view (core_of st)) st.element) st
play_acts st = refused_acts (st.element.player.error == 4) (after_play (scene_in st)) NotSupported (then_after (after_rewind (scene_in st) st.element.player) after_unpause) st refl

advance_acts : (t : Moment) (st : State) → IsElementSameIfRefused (advance_effect t (core_view (core_of st)) st.element) st
advance_acts Nan st = no_time st
advance_acts (At t) st = refused_acts (int_lt t (pos 0)) (after_advance t (scene_in st)) TypeError (after_time t (scene_in st) st.element.player) st refl
advance_acts Infinite st = no_time st

-- ---- all calls

-- a call that is never refused
never_refused : (name : Name) (st : State) (meant : AnswerAndState Answer State) → None ≡ Some name → IsRefused name st meant
never_refused name st meant e = absurd (cc)

pub tells_refusal : (blobs : List (List ℕ)) (c : Call) (st : State) → IsRefusedAsNamed blobs c st
tells_refusal blobs call.Attach st = told (attach_effect (core_of st)) answer.Done st refl (source_names (after_attach st.source.state) (Tell (event_at target.Source kind.SourceOpen ∷ []) ∷ []) st)
tells_refusal blobs (call.AddSourceBuffer text) st = told (add_effect text (core_of st)) answer.Done st refl (type_names (type_of text) st)
tells_refusal blobs (call.RemoveSourceBuffer k) st =
    let a = after_remove_buffer k st.source.state in
    told (remove_effect k (core_of st)) answer.Done st refl (names_made k (remove_effect_by k a (core_of st)) answer.Done st (removed_names k (removal_result k (surroundings_in k (core_of st).source) st.buffers) a.answer a.state st))
tells_refusal blobs (call.SetDuration d) st =
    let a = after_set_duration d (all_in (core_of st)) st.source.state in
    told (set_duration_effect d (core_of st)) answer.Done st refl (changed_names a.answer a.state st)
tells_refusal blobs (call.EndOfStream end) st = told (end_effect end (core_of st)) answer.Done st refl (end_names (end_refusal (all_in (core_of st)).updating st.source.state) end st)
tells_refusal blobs (call.SetLiveSeekableRange start end) st =
    told (set_live_effect start end (core_of st)) answer.Done st refl
    (names_finite start (λ a. if_finite end (λ b. from_source (after_set_live a b st.source.state) [] (core_of st)) (core_of st)) answer.Done st
    (λ a. names_finite end (λ b. from_source (after_set_live a b st.source.state) [] (core_of st)) answer.Done st (λ b. source_names (after_set_live a b st.source.state) [] st)))
tells_refusal blobs call.ClearLiveSeekableRange st = told (clear_live_effect (core_of st)) answer.Done st refl (source_names (after_clear_live st.source.state) [] st)
tells_refusal blobs (call.SetMode k mode) st = buffer_refuses k (SetMode mode) st
tells_refusal blobs (call.SetTimestampOffset k t) st = buffer_refuses k (SetOffset t) st
tells_refusal blobs (call.SetAppendWindowStart k t) st = buffer_refuses k (SetWindowStart t) st
tells_refusal blobs (call.SetAppendWindowEnd k t) st = buffer_refuses k (SetWindowEnd t) st
tells_refusal blobs (call.AppendBuffer k piece) st = buffer_refuses k (calls.Append (input_at st.element.player.position st.source.quota (bytes_of blobs piece))) st
tells_refusal blobs (call.Abort k) st = buffer_refuses k (Abort) st
tells_refusal blobs (call.Remove k start end) st = buffer_refuses k (Remove start end) st
tells_refusal blobs (call.ChangeType k text) st = buffer_refuses k (ChangeType (type_of text)) st
tells_refusal blobs (call.Buffered k) st =
    let a : Answer = read_answer st (call.Buffered k) in
    told (read_effect k (core_of st)) a st refl (names_made k (read_slot_effect (in_slot k st.buffers) (core_of st)) a st (read_names (in_slot k st.buffers) a st))
tells_refusal blobs call.SourceState st = λ name e. never_refused name st (after_call blobs call.SourceState st) e
tells_refusal blobs (call.Seek t) st = acts_refused (seek_effect t (core_view (core_of st)) st.element) st (seek_acts t st)
tells_refusal blobs call.Play st = acts_refused (play_effect (core_view (core_of st)) st.element) st (play_acts st)
tells_refusal blobs call.Pause st = λ name e. never_refused name st (after_call blobs call.Pause st) e
tells_refusal blobs (call.Advance t) st = acts_refused (advance_effect t (core_view (core_of st)) st.element) st (advance_acts t st)
tells_refusal blobs call.ElementBuffered st = λ name e. never_refused name st (after_call blobs call.ElementBuffered st) e
tells_refusal blobs call.Seekable st = λ name e. never_refused name st (after_call blobs call.Seekable st) e
