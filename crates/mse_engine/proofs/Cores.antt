-- The core behind a step is the one that its effect gives: what the core tells of the element comes with the signals.
use Rattle.std.proofs.Common.{◌≡◌, ◌∙◌, ℕ, ℤ, ◌==◌, nat_lt, Bool, true, false, not, cond, ◌&&◌, List, [], ◌∷◌, ◌++◌, length, refl, sym, ap}
use Rattle.std.specs.Prelude.{Option, Some, None}
use Rattle.mse_base.specs.declared.ticks.Moment.{Moment}
use Rattle.mse_base.specs.declared.ticks.Moment.TheVariants.{Nan, At, Infinite}
use Rattle.mse_calls.specs.Level.{has_metadata}
use Rattle.mse_calls.specs.Pieces.{bytes_of}
use Rattle.mse_calls.specs.declared.answers.Name.{Name}
use Rattle.mse_calls.specs.declared.answers.Name.TheVariants.{NoSuchBuffer}
use Rattle.mse_calls.specs.declared.calls.Call.{Call}
use Rattle.mse_calls.specs.declared.calls.Call.TheVariants as call
use Rattle.mse_calls.specs.declared.calls.EndKind.{EndKind}
use Rattle.mse_calls.specs.declared.calls.EndKind.TheVariants.{Plain, Network, Decode}
use Rattle.mse_calls.specs.declared.events.Event.{Event}
use Rattle.mse_calls.specs.declared.events.EventKind.TheVariants as kind
use Rattle.mse_calls.specs.declared.events.Target.TheVariants as target
use Rattle.mse_calls.specs.declared.views.FaultView.{FaultView}
use Rattle.mse_types.specs.Texts.{type_of}
use Rattle.mse_types.specs.declared.answer.TypeAnswer.{TypeAnswer}
use Rattle.mse_types.specs.declared.answer.TypeAnswer.TheVariants.{Supported, Empty, Unsupported}
use Rattle.buffer_state.specs.AllCalls.{CallView, SetMode, SetOffset, SetWindowStart, SetWindowEnd, Remove, Append, Abort, ChangeType, input_at}
use Rattle.buffer_state.specs.declared.reply.Reply.{Reply}
use Rattle.element_seek.specs.State.{player_change}
use Rattle.source_state.specs.State.{SourceState, are_in}
use Rattle.source_state.specs.Calls.{after_attach, after_set_live, after_clear_live, after_add_buffer, after_remove_buffer, after_set_duration, end_refusal, after_end}
use Rattle.source_state.specs.declared.answers.Added.{Added}
use Rattle.source_state.specs.declared.answers.Added.TheVariants as added
use Rattle.source_state.specs.declared.answers.Removed.{Removed}
use Rattle.source_state.specs.declared.answers.Removed.TheVariants as removed
use Rattle.source_state.specs.declared.answers.Changed.{Changed}
use Rattle.source_state.specs.declared.answers.Changed.TheVariants as changed
use Rattle.source_buffers.specs.State.{BufferState, in_slot}
use Rattle.source_buffers.specs.Slots.{BuffersResult, result_on_buffer, removal_result}
use Rattle.media_element.specs.State.{ElementState}
use Rattle.media_element.specs.Queueing.{after_own_turn, after_told, event_at}
use Rattle.mse_engine.specs.State.{CoreSource, Core, State, core_of}
use Rattle.mse_engine.specs.Scenes.{SourceView, core_view, scene_at, scene_in}
use Rattle.mse_engine.specs.Signals.{Signal, Tell, DurationChanged, Loaded, StreamEnded, after_signal, after_signals, after_settling, step}
use Rattle.mse_engine.specs.Replies.{surroundings_in, active_after, is_loading, is_blank_after, error_after, duration_events, active_events, buffer_events, fault_signals}
use Rattle.mse_engine.specs.CoreEffects.{CoreEffect, refused_effect, no_core_effect}
use Rattle.mse_engine.specs.SourceCalls.{answered_by, added_effect, add_effect_of, removed_effect, remove_effect_by, changed_effect, all_in, end_error, with_end_error, end_effect_by, set_live_effect}
use Rattle.mse_engine.specs.BufferCalls.{buffer_effect}
use Rattle.mse_engine.specs.Calls.{core_effect, element_effect, seek_effect, advance_effect, read_slot_effect, after_call}
use Rattle.mse_engine.specs.Work.{turn_effect}
use Rattle.mse_engine.proofs.Unchanged.{IsUnchanged, in_seek, in_play, in_pause, in_advance, in_turn, in_fall}
use Rattle.mse_engine.proofs.Metadata.{load_level, load_error, settled_metadata}
use Rattle.mse_engine.proofs.CallReplies.{call-reply}

-- what the core tells of the element
pub record ElementFacts : Type 0 where
  pub error : ℕ
  pub blank : Bool

abbrev pub facts_of : ElementState → ElementFacts
facts_of e = record { error = e.player.error; blank = not (has_metadata e.player.level) }

abbrev facts_in : CoreSource → ElementFacts
facts_in s = record { error = s.error; blank = s.blank }

-- ---- by the signals

abbrev facts_by : Signal → ElementFacts → ElementFacts
facts_by (Tell events) f = f
facts_by (DurationChanged d) f = f
facts_by Loaded f = record { error = f.error; blank = false }
facts_by (StreamEnded end) f = record { error = end_error end f.blank f.error; blank = f.blank }

abbrev facts_after : List Signal → ElementFacts → ElementFacts
facts_after [] f = f
facts_after (signal ∷ signals) f = facts_after signals (facts_by signal f)

pub same_facts : (e new : ElementState) → IsUnchanged e.player new.player → facts_of new ≡ facts_of e
same_facts e new h = λ i. record { error = h.error i; blank = not (has_metadata (h.level i)) }

failed_by : (b m : Bool) (code : ℕ) (e : ElementState) → has_metadata e.player.level ≡ m
    → facts_of (after_told (cond b (player_change (kind.Error ∷ []) (record e.player { error = cond m code 4 })) (player_change [] e.player)) e) ≡ record { error = cond b (cond (not m) 4 code) e.player.error; blank = not m }
failed_by true true code e h = λ i. record { error = code; blank = not (h i) }
failed_by true false code e h = λ i. record { error = 4; blank = not (h i) }
failed_by false m code e h = λ i. record { error = e.player.error; blank = not (h i) }

signal_facts : (v : SourceView) (s : Signal) (e : ElementState) → facts_of (after_signal v s e) ≡ facts_by s (facts_of e)
signal_facts v (Tell events) e = refl
signal_facts v (DurationChanged d) e = same_facts e (after_signal v (DurationChanged d) e) (in_fall d (scene_at e.player.position v) e.player)
signal_facts v Loaded e = λ i. record { error = load_error (scene_at e.player.position v) e.player i; blank = not (has_metadata (load_level (scene_at e.player.position v) e.player i)) }
signal_facts v (StreamEnded Plain) e = refl
signal_facts v (StreamEnded Network) e = failed_by (e.player.error == 0) (has_metadata e.player.level) 2 e refl
signal_facts v (StreamEnded Decode) e = failed_by (e.player.error == 0) (has_metadata e.player.level) 3 e refl

signals_facts : (v : SourceView) (signals : List Signal) (e : ElementState) → facts_of (after_signals v signals e) ≡ facts_after signals (facts_of e)
signals_facts v [] e = refl
signals_facts v (s ∷ signals) e = signals_facts v signals (after_signal v s e) ∙ ap (facts_after signals) (signal_facts v s e)

settled_facts : (v : SourceView) (e : ElementState) → facts_of (after_settling v e) ≡ facts_of e
settled_facts v e = λ i. record { error = e.player.error; blank = not (settled_metadata (scene_at e.player.position v) e.player i) }

-- ---- by the effect

-- the signals tell what the core does
abbrev IsTold : Core → CoreEffect → Type 0
IsTold c m = facts_after m.signals (facts_in c.source) ≡ facts_in m.core.source

told_core : (st : State) (m : CoreEffect) (e : ElementState) → facts_of e ≡ facts_of st.element → IsTold (core_of st) m → core_of (step m.core m.signals e) ≡ m.core
told_core st m e same told =
    let v = core_view m.core in
    let facts : facts_of (after_settling v (after_signals v m.signals e)) ≡ facts_in m.core.source = settled_facts v (after_signals v m.signals e) ∙ (signals_facts v m.signals e ∙ (ap (facts_after m.signals) same ∙ told)) in
    λ i. record m.core { source = record m.core.source { error = (facts i).error; blank = (facts i).blank } }

-- ---- the calls on the source

answered_told : (n : Option Name) (s : SourceState) (events : List Event) (c : Core) → IsTold c (answered_by n s (Tell events ∷ []) c)
answered_told None s events c = refl
answered_told (Some name) s events c = refl

untold : (n : Option Name) (s : SourceState) (c : Core) → IsTold c (answered_by n s [] c)
untold None s c = refl
untold (Some name) s c = refl

added_told : (t : TypeAnswer) (c : Core) → IsTold c (add_effect_of t c)
added_told Empty c = refl
added_told Unsupported c = refl
added_told (Supported container) c = by_added (after_add_buffer c.source.state).answer
  where
    by_added : (a : Added) → IsTold c (added_effect container a (after_add_buffer c.source.state).state c)
    by_added (added.Refused name) = refl
    by_added (added.Number k) = refl

removed_told : (k : ℕ) (result : BuffersResult) (a : Removed) (s : SourceState) (c : Core) → IsTold c (removed_effect k result a s c)
removed_told k result (removed.Refused name) s c = refl
removed_told k result (removed.Gone active) s c = refl

made_told : (b : Bool) (m : CoreEffect) (name : Name) (c : Core) → IsTold c m → IsTold c (cond b m (refused_effect name c))
made_told true m name c h = h
made_told false m name c h = refl

changed_told : (a : Changed) (s : SourceState) (c : Core) → IsTold c (changed_effect [] a s c)
changed_told (changed.Refused name) s c = refl
changed_told changed.Same s c = refl
changed_told (changed.To d) s c = refl

end_told : (a : Changed) (s : SourceState) (end : EndKind) (c : Core) → IsTold c (with_end_error end (changed_effect (Tell (event_at target.Source kind.SourceEnded ∷ []) ∷ []) a s c))
end_told (changed.Refused name) s end c = refl
end_told changed.Same s end c = refl
end_told (changed.To d) s end c = refl

ended_told : (n : Option Name) (end : EndKind) (c : Core) → IsTold c (end_effect_by n end c)
ended_told None end c = let a = after_end end (all_in c).highest_end c.source.state in end_told a.answer a.state end c
ended_told (Some name) end c = refl

live_told : (start end : Moment) (c : Core) → IsTold c (set_live_effect start end c)
live_told Nan end c = refl
live_told (At a) Nan c = refl
live_told (At a) (At b) c = untold (after_set_live a b c.source.state).answer (after_set_live a b c.source.state).state c
live_told (At a) Infinite c = refl
live_told Infinite end c = refl

-- ---- the calls on a buffer, and its work

call_told : (k : ℕ) (call : CallView) (c : Core) → IsTold c (buffer_effect k call c)
call_told k call c =
    let r : Reply = (result_on_buffer k call (surroundings_in k c.source) c.buffers).reply in
    let plain = call-reply k call (surroundings_in k c.source) c.buffers in
    λ i. record { error = error_after (sym plain.fault i) (blank_behind k r c.source plain.received i) c.source.error; blank = blank_behind k r c.source plain.received i }
  where
    blank_by : (b : Bool) (s : CoreSource) (k : ℕ) (r : Reply) → r.received_init ≡ b → b ≡ false → s.blank ≡ is_blank_after k r s
    blank_by true s k r e h = absurd cc
    blank_by false s k r e h = ap (λ (x : Bool). cond ((x && s.blank) && are_in s.state.listed (active_after k r s.state)) false s.blank) (sym e)

    blank_behind : (k : ℕ) (r : Reply) (s : CoreSource) → r.received_init ≡ false → s.blank ≡ is_blank_after k r s
    blank_behind k r s h = blank_by r.received_init s k r refl h

read_told : (o : Option BufferState) (c : Core) → IsTold c (read_slot_effect o c)
read_told None c = refl
read_told (Some b) c = refl

worked_by : (loads : Bool) (fault : Option FaultView) (durations actives events : List Event) (f : ElementFacts)
    → facts_after (Tell durations ∷ Tell actives ∷ (cond loads (Loaded ∷ []) [] ++ Tell events ∷ fault_signals fault)) f ≡ record { error = error_after fault (cond loads false f.blank) f.error; blank = cond loads false f.blank }
worked_by true None durations actives events f = refl
worked_by true (Some fault) durations actives events f = refl
worked_by false None durations actives events f = refl
worked_by false (Some fault) durations actives events f = refl

turn_told : (k : ℕ) (result : BuffersResult) (c : Core) → IsTold c (turn_effect k result c)
turn_told k result c =
    let r = result.reply in
    worked_by (is_loading k r c.source.blank c.source.state) r.fault (duration_events r) (active_events k r c.source.state) (buffer_events k r) (facts_in c.source)

-- ---- the core behind each step

effect_told : (blobs : List (List ℕ)) (position : ℤ) (x : Call) (c : Core) → IsTold c (core_effect blobs position x c)
effect_told blobs position call.Attach c = answered_told (after_attach c.source.state).answer (after_attach c.source.state).state _ c
effect_told blobs position (call.AddSourceBuffer text) c = added_told (type_of text) c
effect_told blobs position (call.RemoveSourceBuffer k) c =
    let a = after_remove_buffer k c.source.state in
    made_told (nat_lt k (length c.buffers)) (remove_effect_by k a c) NoSuchBuffer c (removed_told k (removal_result k (surroundings_in k c.source) c.buffers) a.answer a.state c)
effect_told blobs position (call.SetDuration d) c = let a = after_set_duration d (all_in c) c.source.state in changed_told a.answer a.state c
effect_told blobs position (call.EndOfStream end) c = ended_told (end_refusal (all_in c).updating c.source.state) end c
effect_told blobs position (call.SetLiveSeekableRange start end) c = live_told start end c
effect_told blobs position call.ClearLiveSeekableRange c = untold (after_clear_live c.source.state).answer (after_clear_live c.source.state).state c
effect_told blobs position (call.SetMode k mode) c = call_told k (SetMode mode) c
effect_told blobs position (call.SetTimestampOffset k t) c = call_told k (SetOffset t) c
effect_told blobs position (call.SetAppendWindowStart k t) c = call_told k (SetWindowStart t) c
effect_told blobs position (call.SetAppendWindowEnd k t) c = call_told k (SetWindowEnd t) c
effect_told blobs position (call.AppendBuffer k piece) c = call_told k (Append (input_at position c.source.quota (bytes_of blobs piece))) c
effect_told blobs position (call.Abort k) c = call_told k Abort c
effect_told blobs position (call.Remove k start end) c = call_told k (Remove start end) c
effect_told blobs position (call.ChangeType k text) c = call_told k (ChangeType (type_of text)) c
effect_told blobs position (call.Buffered k) c = made_told (nat_lt k (length c.buffers)) (read_slot_effect (in_slot k c.buffers) c) NoSuchBuffer c (read_told (in_slot k c.buffers) c)
effect_told blobs position call.SourceState c = refl
effect_told blobs position (call.Seek t) c = refl
effect_told blobs position call.Play c = refl
effect_told blobs position call.Pause c = refl
effect_told blobs position (call.Advance t) c = refl
effect_told blobs position call.ElementBuffered c = refl
effect_told blobs position call.Seekable c = refl

sought_facts : (t : Moment) (v : SourceView) (e : ElementState) → facts_of (seek_effect t v e).state ≡ facts_of e
sought_facts Nan v e = refl
sought_facts (At t) v e = same_facts e (seek_effect (At t) v e).state (in_seek t (scene_at e.player.position v) e.player)
sought_facts Infinite v e = refl

advanced_facts : (t : Moment) (v : SourceView) (e : ElementState) → facts_of (advance_effect t v e).state ≡ facts_of e
advanced_facts Nan v e = refl
advanced_facts (At t) v e = same_facts e (advance_effect (At t) v e).state (in_advance t (scene_at e.player.position v) e.player)
advanced_facts Infinite v e = refl

acted_facts : (x : Call) (v : SourceView) (e : ElementState) → facts_of (element_effect x v e).state ≡ facts_of e
acted_facts (call.Seek t) v e = sought_facts t v e
acted_facts call.Play v e = same_facts e (element_effect call.Play v e).state (in_play (scene_at e.player.position v) e.player)
acted_facts call.Pause v e = same_facts e (element_effect call.Pause v e).state (in_pause e.player)
acted_facts (call.Advance t) v e = advanced_facts t v e
acted_facts other v e = refl

pub call-core : (blobs : List (List ℕ)) (x : Call) (st : State) → core_of (after_call blobs x st).state ≡ (core_effect blobs st.element.player.position x (core_of st)).core
call-core blobs x st =
    told_core st (core_effect blobs st.element.player.position x (core_of st)) (element_effect x (core_view (core_of st)) st.element).state (acted_facts x (core_view (core_of st)) st.element) (effect_told blobs st.element.player.position x (core_of st))

pub turn-core : (k : ℕ) (result : BuffersResult) (st : State) → core_of (step (turn_effect k result (core_of st)).core (turn_effect k result (core_of st)).signals st.element) ≡ (turn_effect k result (core_of st)).core
turn-core k result st = told_core st (turn_effect k result (core_of st)) st.element refl (turn_told k result (core_of st))

pub still-core : (st : State) (e : ElementState) → facts_of e ≡ facts_of st.element → core_of (step (core_of st) [] e) ≡ core_of st
still-core st e same = told_core st (no_core_effect (core_of st)) e same refl

pub own_turn-core : (st : State) → core_of (step (core_of st) [] (after_own_turn (scene_in st) st.element)) ≡ core_of st
own_turn-core st = still-core st (after_own_turn (scene_in st) st.element) (same_facts st.element (after_own_turn (scene_in st) st.element) (in_turn (scene_in st) st.element.player))
