-- Each call, each step of work and each turn of the element leaves the position inside the media.
use Rattle.std.proofs.Common.{◌≡◌, ℕ, ℤ, pos, ◌≤ℤ◌, int_lt, Bool, true, false, not, cond, ◌&&◌, ◌||◌, List, [], ◌∷◌, ◌++◌, refl, sym, subst, arith}
use Rattle.std.specs.Prelude.{Option, Some, None, nat_lt, length, option_map, unwrap_or}
use Rattle.std.specs.List.{AllByRecursion}
use Rattle.std.proofs.lemmas.Int.{ints}
use Rattle.mse_base.specs.declared.ticks.Moment.{Moment}
use Rattle.mse_base.specs.declared.ticks.Moment.TheVariants.{Nan, At, Infinite}
use Rattle.mse_base.specs.Moments.{is_nan, is_after, is_same_moment}
use Rattle.mse_types.specs.declared.answer.Container.{Container}
use Rattle.mse_types.specs.declared.answer.TypeAnswer.{TypeAnswer}
use Rattle.mse_types.specs.declared.answer.TypeAnswer.TheVariants.{Supported, Empty, Unsupported}
use Rattle.mse_types.specs.Texts.{type_of}
use Rattle.mse_calls.specs.AnswerAndState.{AnswerAndState}
use Rattle.mse_calls.specs.Pieces.{bytes_of}
use Rattle.mse_calls.specs.Ready.{is_closed, is_open}
use Rattle.mse_calls.specs.declared.answers.Name.{Name}
use Rattle.mse_calls.specs.declared.answers.Name.TheVariants.{InvalidState, QuotaExceeded, TypeError, NotFound}
use Rattle.mse_calls.specs.declared.answers.Ready.TheVariants.{Opened, Ended}
use Rattle.mse_calls.specs.declared.calls.Call.{Call}
use Rattle.mse_calls.specs.declared.calls.Call.TheVariants as call
use Rattle.mse_calls.specs.declared.calls.EndKind.{EndKind}
use Rattle.mse_calls.specs.declared.calls.EndKind.TheVariants.{Plain, Network, Decode}
use Rattle.mse_calls.specs.declared.events.Event.{Event}
use Rattle.mse_calls.specs.declared.events.EventKind.TheVariants as kind
use Rattle.mse_calls.specs.declared.events.Target.TheVariants as target
use Rattle.mse_calls.specs.declared.views.FaultView.{FaultView}
use Rattle.buffer_state.specs.declared.reply.Reply.{Reply}
use Rattle.buffer_state.specs.AllCalls.{CallView, SetMode, SetOffset, SetWindowStart, SetWindowEnd, Remove, Abort, ChangeType, input_at}
use Rattle.buffer_state.specs.AllCalls as calls
use Rattle.source_state.specs.State.{SourceState, is_listed_in, are_in}
use Rattle.source_state.specs.Calls.{answer_and_state, in_ready, with_live, after_set_live, has_most_buffers, with_new, without_buffer, after_duration_change, past_frames, has_frame_after, end_refusal}
use Rattle.source_state.specs.declared.answers.Added.{Added}
use Rattle.source_state.specs.declared.answers.Added.TheVariants as added
use Rattle.source_state.specs.declared.answers.Removed.{Removed}
use Rattle.source_state.specs.declared.answers.Removed.TheVariants as removed
use Rattle.source_state.specs.declared.answers.Changed.{Changed}
use Rattle.source_state.specs.declared.answers.Changed.TheVariants as changed
use Rattle.source_buffers.specs.State.{BufferState, BufferStates, in_slot, media_of, media_of_all, new_buffer}
use Rattle.source_buffers.specs.Slots.{BuffersResult, buffers_turn}
use Rattle.source_buffers.specs.All.{highest_end_of_all}
use Rattle.element_seek.specs.Inside.{IsSpanInside}
use Rattle.element_seek.specs.State.{PlayerState}
use Rattle.media_element.specs.Queueing.{event_at}
use Rattle.media_element.specs.State.{ElementState}
use Rattle.mse_engine.specs.State.{CoreSource, Core, State, core_of}
use Rattle.mse_engine.specs.Scenes.{SourceView, core_view}
use Rattle.mse_engine.specs.Signals.{Signal, Tell, DurationChanged, Loaded, after_signals, step}
use Rattle.mse_engine.specs.Replies.{surroundings_in, active_after, is_loading, load_signals, fault_signals, work_signals}
use Rattle.mse_engine.specs.CoreEffects.{CoreEffect, refused_effect, no_core_effect, effect_leaving, if_finite, if_made}
use Rattle.mse_engine.specs.SourceCalls.{from_source, attach_effect, set_live_effect, clear_live_effect, added_effect, add_effect_by, add_effect_of, remove_effect_by, remove_effect, changed_effect_by, all_in, set_duration_effect, with_end_error, end_effect_by}
use Rattle.mse_engine.specs.BufferCalls.{buffer_effect}
use Rattle.mse_engine.specs.Calls.{seek_effect, advance_effect, read_slot_effect, core_effect, after_call}
use Rattle.mse_engine.specs.Work.{turn_effect, work_result, after_work, is_turn_due, after_element_turn}
use Rattle.mse_engine.specs.Positions.{IsPositionInside, HasNoTracks, AreUntracked, IsInsideState}
use Rattle.mse_engine.proofs.Progress.{turned}
use Rattle.mse_engine.proofs.BufferedSpans.{all_append, highest-above}
use Rattle.mse_engine.proofs.RaisedDurations.{IsRaised, raised_same, raised_to}
use Rattle.mse_engine.proofs.ReplyDurations.{AreTimelyBuffers, call-timely, removal-timely, turn-timely}
use Rattle.mse_engine.proofs.ElementPositions.{HasFrames, placed_raised, placed_seek, placed_play, placed_advance, placed_pause, placed_turn, placed_settled, IsHearable, AreHearable, placed_signals, IsAbove, placed_fall}

abbrev ended_event : Event
ended_event = event_at target.Source kind.SourceEnded

-- what a call does to the source and its buffers, and what the element hears of it, leaves the position inside
record IsPlacing (c : Core) (m : CoreEffect) : Type 0 where
  untracked : AreUntracked m.core.source.state.duration m.core.buffers
  position_inside : (e : ElementState) → IsPositionInside c.source.state e.player → HasFrames (core_view m.core) → IsPositionInside m.core.source.state (step m.core m.signals e).element.player

placing_by : (c : Core) (b : Bool) (x y : CoreEffect) → IsPlacing c x → IsPlacing c y → IsPlacing c (cond b x y)
placing_by c true x y h k = h
placing_by c false x y h k = k

-- ---- what is told of a step of work

load_heard : (v : SourceView) (b : Bool) → (b ≡ true → is_nan v.state.duration ≡ false) → AreHearable v (cond b (Loaded ∷ []) [])
load_heard v true f = (f refl, tt)
load_heard v false f = tt

fault_heard : (v : SourceView) (o : Option FaultView) → AreHearable v (fault_signals o)
fault_heard v None = tt
fault_heard v (Some fault) = (tt, (tt, tt))

first_true : (a b c : Bool) → ((a && b) && c) ≡ true → a ≡ true
first_true true b c e = refl
first_true false b c e = absurd (cc)

work_heard : (v : SourceView) (k : ℕ) (r : Reply) (s : CoreSource) → (r.received_init ≡ true → is_nan v.state.duration ≡ false) → AreHearable v (work_signals k r s)
work_heard v k r s f =
    let there = load_heard v (is_loading k r s.blank s.state) (λ e. f (first_true r.received_init s.blank (are_in s.state.listed (active_after k r s.state)) e)) in
    (tt, (tt, all_append (IsHearable v) (load_signals k r s.blank s.state) _ there (tt, fault_heard v r.fault)))

-- ---- a time that may be after the end of what is sought

not_nan_by : (d e : Bool) → (d || e) ≡ false → (d ≡ false) × (e ≡ false)
not_nan_by true e h = absurd (cc)
not_nan_by false e h = (refl, h)

live_times : (a e : ℤ) → (int_lt a (pos 0) || int_lt e a) ≡ false → (pos 0 ≤ℤ a) × (a ≤ℤ e)
live_times a e h =
    let both = not_nan_by (int_lt a (pos 0)) (int_lt e a) h in
    (above_by a both.0, order_by a e both.1)
  where
    above_by : (a : ℤ) → int_lt a (pos 0) ≡ false → pos 0 ≤ℤ a
    above_by a h = grind (arith, ints)

    order_by : (a e : ℤ) → int_lt e a ≡ false → a ≤ℤ e
    order_by a e h = grind (arith, ints)

added_all : (bs : BufferStates) (b : Option BufferState) → AllByRecursion HasNoTracks (media_of_all bs) → HasNoTracks (media_of b) → AllByRecursion HasNoTracks (media_of_all (bs ++ b ∷ []))
added_all [] b h k = (k, tt)
added_all (x ∷ bs) b h k = (h.0, added_all bs b h.1 k)

-- a time that is raised
past_lasting : (o : Option ℤ) (d : Moment) → is_nan d ≡ false → is_after (pos 0) d ≡ false → (is_nan (past_frames o d) ≡ false) × (is_after (pos 0) (past_frames o d) ≡ false)
past_lasting None d n l = (n, l)
past_lasting (Some e) d n l = let r = raised_to d e n in (r.named n, r.lasting l)

end_above : (o : Option ℤ) → ((e : ℤ) → o ≡ Some e → pos 0 ≤ℤ e) → is_after (pos 0) (At (unwrap_or o (pos 0))) ≡ false
end_above None f = refl
end_above (Some e) f = not_before e (f e refl)
  where
    not_before : (e : ℤ) → pos 0 ≤ℤ e → is_after (pos 0) (At e) ≡ false
    not_before e h = grind (arith, ints)

module _ (c : Core) (none : AreUntracked c.source.state.duration c.buffers) where
  -- where the duration does not fall
  carried : (m : CoreEffect) → AreUntracked m.core.source.state.duration m.core.buffers → IsRaised c.source.state.duration m.core.source.state.duration
      → (IsSpanInside Infinite c.source.state.live → IsSpanInside Infinite m.core.source.state.live) → AreHearable (core_view m.core) m.signals → IsPlacing c m
  carried m untracked raised live heard = record {
    untracked = untracked;
    position_inside = λ e h f.
        let v : SourceView = core_view m.core in
        let here = placed_raised c.source.state m.core.source.state e.player h raised live in
        placed_settled v (after_signals v m.signals e) (placed_signals v m.signals e f heard here);
  }

  -- where the source and its buffers stay
  refused : (name : Name) → IsPlacing c (refused_effect name c)
  refused name = carried (refused_effect name c) none (raised_same c.source.state.duration) (λ x. x) tt

  still : IsPlacing c (no_core_effect c)
  still = carried (no_core_effect c) none (raised_same c.source.state.duration) (λ x. x) tt

  -- where the duration and the live range stay
  effect : (s : SourceState) (signals : List Signal) → s.duration ≡ c.source.state.duration → (IsSpanInside Infinite c.source.state.live → IsSpanInside Infinite s.live)
      → AreHearable (core_view (effect_leaving s signals c).core) signals → IsPlacing c (effect_leaving s signals c)
  effect s signals same live heard =
      carried (effect_leaving s signals c) (subst (λ (d : Moment). AreUntracked d c.buffers) (sym same) none) (subst (λ (d : Moment). IsRaised c.source.state.duration d) (sym same) (raised_same c.source.state.duration)) live heard

  -- ---- calls on the source

  source_by : (b : Bool) (x y : AnswerAndState (Option Name) SourceState) (signals : List Signal) → IsPlacing c (from_source x signals c) → IsPlacing c (from_source y signals c) → IsPlacing c (from_source (cond b x y) signals c)
  source_by true x y signals h k = h
  source_by false x y signals h k = k

  attach : IsPlacing c (attach_effect c)
  attach =
      source_by (not (is_closed c.source.state.ready)) (answer_and_state (Some InvalidState) c.source.state) (answer_and_state None (in_ready Opened c.source.state)) _ (refused InvalidState)
      (effect (in_ready Opened c.source.state) _ refl (λ x. x) (tt, tt))

  clear_live : IsPlacing c (clear_live_effect c)
  clear_live =
      source_by (not (is_open c.source.state.ready)) (answer_and_state (Some InvalidState) c.source.state) (answer_and_state None (with_live None c.source.state)) [] (refused InvalidState)
      (effect (with_live None c.source.state) [] refl (λ x. tt) tt)

  live_by : (b : Bool) (a e : ℤ) → (int_lt a (pos 0) || int_lt e a) ≡ b
      → IsPlacing c (from_source (cond b (answer_and_state (Some TypeError) c.source.state) (answer_and_state None (with_live (Some (record { start = a; end = e })) c.source.state))) [] c)
  live_by true a e h = refused TypeError
  live_by false a e h = let both = live_times a e h in effect (with_live (Some (record { start = a; end = e })) c.source.state) [] refl (λ x. (both.0, both.1, refl)) tt

  set_live_at : (a e : ℤ) → IsPlacing c (from_source (after_set_live a e c.source.state) [] c)
  set_live_at a e = source_by (not (is_open c.source.state.ready)) (answer_and_state (Some InvalidState) c.source.state) _ [] (refused InvalidState) (live_by (int_lt a (pos 0) || int_lt e a) a e refl)

  finite : (t : Moment) (call : ℤ → CoreEffect) → ((x : ℤ) → IsPlacing c (call x)) → IsPlacing c (if_finite t call c)
  finite Nan call f = refused TypeError
  finite (At t) call f = f t
  finite Infinite call f = refused TypeError

  set_live : (start end : Moment) → IsPlacing c (set_live_effect start end c)
  set_live start end = finite start _ (λ a. finite end _ (λ e. set_live_at a e))

  add_by : (b : Bool) (x y : AnswerAndState Added SourceState) (container : Container) → IsPlacing c (add_effect_by x container c) → IsPlacing c (add_effect_by y container c) → IsPlacing c (add_effect_by (cond b x y) container c)
  add_by true x y container h k = h
  add_by false x y container h k = k

  added_to : (container : Container) → IsPlacing c (added_effect container (added.Number c.source.state.made) (with_new c.source.state) c)
  added_to container =
      carried (added_effect container (added.Number c.source.state.made) (with_new c.source.state) c) (λ n. added_all c.buffers (Some (new_buffer c.source.gap container)) (none n) refl)
      (raised_same c.source.state.duration) (λ x. x) (tt, tt)

  add_of : (t : TypeAnswer) → IsPlacing c (add_effect_of t c)
  add_of Empty = refused _
  add_of Unsupported = refused _
  add_of (Supported container) =
      add_by (has_most_buffers c.source.state) (answer_and_state (added.Refused QuotaExceeded) c.source.state) _ container (refused QuotaExceeded)
      (add_by (not (is_open c.source.state.ready)) (answer_and_state (added.Refused InvalidState) c.source.state) (answer_and_state (added.Number c.source.state.made) (with_new c.source.state)) container (refused InvalidState) (added_to container))

  made : (k : ℕ) (m : CoreEffect) → IsPlacing c m → IsPlacing c (if_made k m c)
  made k m h = placing_by c (nat_lt k (length c.buffers)) m _ h (refused _)

  remove_by : (b : Bool) (k : ℕ) (x y : AnswerAndState Removed SourceState) → IsPlacing c (remove_effect_by k x c) → IsPlacing c (remove_effect_by k y c) → IsPlacing c (remove_effect_by k (cond b x y) c)
  remove_by true k x y h j = h
  remove_by false k x y h j = j

  gone : (k : ℕ) → IsPlacing c (remove_effect_by k (answer_and_state (removed.Gone (is_listed_in k c.source.state.active)) (without_buffer k c.source.state)) c)
  gone k =
      carried (remove_effect_by k (answer_and_state (removed.Gone (is_listed_in k c.source.state.active)) (without_buffer k c.source.state)) c) (removal-timely k (surroundings_in k c.source) c.buffers none)
      (raised_same c.source.state.duration) (λ x. x) (tt, (tt, tt))

  remove : (k : ℕ) → IsPlacing c (remove_effect k c)
  remove k = made k _ (remove_by (not (is_listed_in k c.source.state.listed)) k (answer_and_state (removed.Refused NotFound) c.source.state) _ (refused NotFound) (gone k))

  -- ---- the duration

  change_by : (b : Bool) (x y : AnswerAndState Changed SourceState) → IsPlacing c (changed_effect_by [] x c) → IsPlacing c (changed_effect_by [] y c) → IsPlacing c (changed_effect_by [] (cond b x y) c)
  change_by true x y h k = h
  change_by false x y h k = k

  -- the element is above the start, whatever the duration becomes
  above : (s : SourceState) (p : PlayerState) → IsPositionInside c.source.state p → is_nan s.duration ≡ false → is_after (pos 0) s.duration ≡ false → s.live ≡ c.source.state.live → IsAbove s p
  above s p h named lasting live = record {
    lasting = lasting;
    live = subst (λ x. IsSpanInside Infinite x) (sym live) h.live;
    named = named;
    start = h.start;
    above = h.inside.0;
  }

  changed_to : (d : Moment) → is_nan d ≡ false → is_after (pos 0) d ≡ false → IsPlacing c (changed_effect_by [] (answer_and_state (changed.To d) (record c.source.state { duration = d })) c)
  changed_to d named lasting = record {
    untracked = λ n. absurd (cc);
    position_inside = λ e h f.
        let v : SourceView = core_view (changed_effect_by [] (answer_and_state (changed.To d) (record c.source.state { duration = d })) c).core in
        placed_settled v (after_signals v (DurationChanged d ∷ []) e)
        (placed_fall d v e.player f refl (above (record c.source.state { duration = d }) e.player h named lasting refl));
  }

  same_duration : IsPlacing c (changed_effect_by [] (answer_and_state changed.Same c.source.state) c)
  same_duration = effect c.source.state [] refl (λ x. x) tt

  set_by : (b : Bool) (d : Moment) → (is_nan d || is_after (pos 0) d) ≡ b
      → IsPlacing c (changed_effect_by [] (cond b (answer_and_state (changed.Refused TypeError) c.source.state)
      (cond (not (is_open c.source.state.ready)) (answer_and_state (changed.Refused InvalidState) c.source.state)
      (cond (all_in c).updating (answer_and_state (changed.Refused InvalidState) c.source.state)
      (cond (is_same_moment d c.source.state.duration) (answer_and_state changed.Same c.source.state)
      (cond (has_frame_after (all_in c).highest_start d) (answer_and_state (changed.Refused InvalidState) c.source.state)
      (after_duration_change (past_frames (all_in c).highest_end d) c.source.state)))))) c)
  set_by true d h = refused TypeError
  set_by false d h =
      let both = not_nan_by (is_nan d) (is_after (pos 0) d) h in
      let past : Moment = past_frames (all_in c).highest_end d in
      let fine = past_lasting (all_in c).highest_end d both.0 both.1 in
      change_by (not (is_open c.source.state.ready)) (answer_and_state (changed.Refused InvalidState) c.source.state) _ (refused InvalidState)
      (change_by (all_in c).updating (answer_and_state (changed.Refused InvalidState) c.source.state) _ (refused InvalidState)
      (change_by (is_same_moment d c.source.state.duration) (answer_and_state changed.Same c.source.state) _ same_duration
      (change_by (has_frame_after (all_in c).highest_start d) (answer_and_state (changed.Refused InvalidState) c.source.state) _ (refused InvalidState)
      (change_by (is_same_moment past c.source.state.duration) (answer_and_state changed.Same c.source.state) (answer_and_state (changed.To past) (record c.source.state { duration = past })) same_duration (changed_to past fine.0 fine.1)))))

  set_duration : (d : Moment) → IsPlacing c (set_duration_effect d c)
  set_duration d = set_by (is_nan d || is_after (pos 0) d) d refl

  -- ---- the end

  -- with an error, or to the duration that there is
  ended_same : (end : EndKind) → IsPlacing c (with_end_error end (changed_effect_by (Tell (ended_event ∷ []) ∷ []) (answer_and_state changed.Same (in_ready Ended c.source.state)) c))
  ended_same end = carried (with_end_error end (changed_effect_by (Tell (ended_event ∷ []) ∷ []) (answer_and_state changed.Same (in_ready Ended c.source.state)) c)) none (raised_same c.source.state.duration) (λ x. x) (tt, (tt, tt))

  ended_at : (d : Moment) → is_nan d ≡ false → (HasFrames (core_view (with_end_error Plain (changed_effect_by (Tell (ended_event ∷ []) ∷ []) (answer_and_state (changed.To d) (record (in_ready Ended c.source.state) { duration = d })) c)).core) → is_after (pos 0) d ≡ false)
      → IsPlacing c (with_end_error Plain (changed_effect_by (Tell (ended_event ∷ []) ∷ []) (answer_and_state (changed.To d) (record (in_ready Ended c.source.state) { duration = d })) c))
  ended_at d named lasting = record {
    untracked = λ n. absurd (cc);
    position_inside = λ e h f.
        let m : CoreEffect = with_end_error Plain (changed_effect_by (Tell (ended_event ∷ []) ∷ []) (answer_and_state (changed.To d) (record (in_ready Ended c.source.state) { duration = d })) c) in
        let v : SourceView = core_view m.core in
        placed_settled v (after_signals v m.signals e)
        (placed_fall d v e.player f refl (above (record (in_ready Ended c.source.state) { duration = d }) e.player h named (lasting f) refl));
  }

  end_by : (b : Bool) (x y : AnswerAndState Changed SourceState) → IsPlacing c (with_end_error Plain (changed_effect_by (Tell (ended_event ∷ []) ∷ []) x c)) → IsPlacing c (with_end_error Plain (changed_effect_by (Tell (ended_event ∷ []) ∷ []) y c))
      → IsPlacing c (with_end_error Plain (changed_effect_by (Tell (ended_event ∷ []) ∷ []) (cond b x y) c))
  end_by true x y h k = h
  end_by false x y h k = k

  ended_by : (end : EndKind) → IsPlacing c (end_effect_by None end c)
  ended_by Plain =
      let d : Moment = At (unwrap_or (all_in c).highest_end (pos 0)) in
      end_by (is_same_moment d c.source.state.duration) (answer_and_state changed.Same (in_ready Ended c.source.state)) (answer_and_state (changed.To d) (record (in_ready Ended c.source.state) { duration = d })) (ended_same Plain)
      (ended_at d refl (λ f. end_above (highest_end_of_all (media_of_all c.buffers)) (λ e is. highest-above (media_of_all c.buffers) e f.sound is)))
  ended_by Network = ended_same Network
  ended_by Decode = ended_same Decode

  end_of : (o : Option Name) (end : EndKind) → IsPlacing c (end_effect_by o end c)
  end_of None end = ended_by end
  end_of (Some name) end = refused name

  -- ---- calls on a buffer

  worked : (k : ℕ) (r : BuffersResult) → AreTimelyBuffers c.source.state.duration r → IsPlacing c (turn_effect k r c)
  worked k r t = carried (turn_effect k r c) t.untracked t.raised (λ x. x) (work_heard (core_view (turn_effect k r c).core) k r.reply c.source t.received)

  on_buffer : (k : ℕ) (call : CallView) → IsPlacing c (buffer_effect k call c)
  on_buffer k call = let t = call-timely k (surroundings_in k c.source) call c.buffers none in carried (buffer_effect k call c) t.untracked t.raised (λ x. x) (tt, tt)

  read_slot : (o : Option BufferState) → IsPlacing c (read_slot_effect o c)
  read_slot None = refused InvalidState
  read_slot (Some b) = still

  -- ---- all calls

  of_call : (blobs : List (List ℕ)) (position : ℤ) (x : Call) → IsPlacing c (core_effect blobs position x c)
  of_call blobs position call.Attach = attach
  of_call blobs position (call.AddSourceBuffer text) = add_of (type_of text)
  of_call blobs position (call.RemoveSourceBuffer k) = remove k
  of_call blobs position (call.SetDuration d) = set_duration d
  of_call blobs position (call.EndOfStream end) = end_of (end_refusal (all_in c).updating c.source.state) end
  of_call blobs position (call.SetLiveSeekableRange start end) = set_live start end
  of_call blobs position call.ClearLiveSeekableRange = clear_live
  of_call blobs position (call.SetMode k mode) = on_buffer k (SetMode mode)
  of_call blobs position (call.SetTimestampOffset k t) = on_buffer k (SetOffset t)
  of_call blobs position (call.SetAppendWindowStart k t) = on_buffer k (SetWindowStart t)
  of_call blobs position (call.SetAppendWindowEnd k t) = on_buffer k (SetWindowEnd t)
  of_call blobs position (call.AppendBuffer k piece) = on_buffer k (calls.Append (input_at position c.source.quota (bytes_of blobs piece)))
  of_call blobs position (call.Abort k) = on_buffer k Abort
  of_call blobs position (call.Remove k start end) = on_buffer k (Remove start end)
  of_call blobs position (call.ChangeType k text) = on_buffer k (ChangeType (type_of text))
  of_call blobs position (call.Buffered k) = made k _ (read_slot (in_slot k c.buffers))
  of_call blobs position call.SourceState = still
  of_call blobs position (call.Seek t) = still
  of_call blobs position call.Play = still
  of_call blobs position call.Pause = still
  of_call blobs position (call.Advance t) = still
  of_call blobs position call.ElementBuffered = still
  of_call blobs position call.Seekable = still

-- ---- calls on the element

module _ (st : State) (h : IsInsideState st) (f : HasFrames (core_view (core_of st))) where
  settled : (e : ElementState) → IsPositionInside st.source.state e.player → IsInsideState (step (core_of st) [] e)
  settled e k = record { position_inside = placed_settled (core_view (core_of st)) e k; untracked = h.untracked }

  seeks : (t : Moment) → IsPositionInside st.source.state (seek_effect t (core_view (core_of st)) st.element).state.player
  seeks Nan = h.position_inside
  seeks (At t) = placed_seek (core_view (core_of st)) st.element.player f h.position_inside t
  seeks Infinite = h.position_inside

  advances : (t : Moment) → IsPositionInside st.source.state (advance_effect t (core_view (core_of st)) st.element).state.player
  advances Nan = h.position_inside
  advances (At t) = placed_advance (core_view (core_of st)) st.element.player f h.position_inside t
  advances Infinite = h.position_inside

-- a call that the element does not act by
behind : (blobs : List (List ℕ)) (x : Call) (st : State) → IsInsideState st → HasFrames (core_view (core_effect blobs st.element.player.position x (core_of st)).core)
    → IsInsideState (step (core_effect blobs st.element.player.position x (core_of st)).core (core_effect blobs st.element.player.position x (core_of st)).signals st.element)
behind blobs x st h f =
    let all = of_call (core_of st) h.untracked blobs st.element.player.position x in
    record { position_inside = all.position_inside st.element h.position_inside f; untracked = all.untracked }

-- where the frames are sound and end within the duration behind a call, it leaves the position inside
pub call-placed : (blobs : List (List ℕ)) (x : Call) (st : State) → IsInsideState st → HasFrames (core_view (core_of (after_call blobs x st).state)) → IsInsideState (after_call blobs x st).state
call-placed blobs (call.Seek t) st h f = settled st h f _ (seeks st h f t)
call-placed blobs call.Play st h f = settled st h f _ (placed_play (core_view (core_of st)) st.element.player f h.position_inside)
call-placed blobs call.Pause st h f = settled st h f _ (placed_pause (core_view (core_of st)) st.element.player f h.position_inside)
call-placed blobs (call.Advance t) st h f = settled st h f _ (advances st h f t)
call-placed blobs call.Attach st h f = behind blobs call.Attach st h f
call-placed blobs (call.AddSourceBuffer text) st h f = behind blobs (call.AddSourceBuffer text) st h f
call-placed blobs (call.RemoveSourceBuffer k) st h f = behind blobs (call.RemoveSourceBuffer k) st h f
call-placed blobs (call.SetDuration d) st h f = behind blobs (call.SetDuration d) st h f
call-placed blobs (call.EndOfStream end) st h f = behind blobs (call.EndOfStream end) st h f
call-placed blobs (call.SetLiveSeekableRange start end) st h f = behind blobs (call.SetLiveSeekableRange start end) st h f
call-placed blobs call.ClearLiveSeekableRange st h f = behind blobs call.ClearLiveSeekableRange st h f
call-placed blobs (call.SetMode k mode) st h f = behind blobs (call.SetMode k mode) st h f
call-placed blobs (call.SetTimestampOffset k t) st h f = behind blobs (call.SetTimestampOffset k t) st h f
call-placed blobs (call.SetAppendWindowStart k t) st h f = behind blobs (call.SetAppendWindowStart k t) st h f
call-placed blobs (call.SetAppendWindowEnd k t) st h f = behind blobs (call.SetAppendWindowEnd k t) st h f
call-placed blobs (call.AppendBuffer k piece) st h f = behind blobs (call.AppendBuffer k piece) st h f
call-placed blobs (call.Abort k) st h f = behind blobs (call.Abort k) st h f
call-placed blobs (call.Remove k start end) st h f = behind blobs (call.Remove k start end) st h f
call-placed blobs (call.ChangeType k text) st h f = behind blobs (call.ChangeType k text) st h f
call-placed blobs (call.Buffered k) st h f = behind blobs (call.Buffered k) st h f
call-placed blobs call.SourceState st h f = behind blobs call.SourceState st h f
call-placed blobs call.ElementBuffered st h f = behind blobs call.ElementBuffered st h f
call-placed blobs call.Seekable st h f = behind blobs call.Seekable st h f

work_by : (o : Option BuffersResult) (k : ℕ) (st new : State) → ((r : BuffersResult) → o ≡ Some r → AreTimelyBuffers st.source.state.duration r) → IsInsideState st → HasFrames (core_view (core_of new))
    → work_result (option_map (λ result. turn_effect k result (core_of st)) o) st ≡ Some new → IsInsideState new
work_by None k st new t h f e = absurd (cc)
work_by (Some r) k st new t h f e =
    let m : CoreEffect = turn_effect k r (core_of st) in
    let same : step m.core m.signals st.element ≡ new = cc in
    let all = worked (core_of st) h.untracked k r (t r refl) in
    let frames : HasFrames (core_view m.core) = subst (λ (s : State). HasFrames (core_view (core_of s))) (sym same) f in
    subst (λ (s : State). IsInsideState s) same (record { position_inside = all.position_inside st.element h.position_inside frames; untracked = all.untracked })

pub work-placed : (k : ℕ) (st new : State) → after_work k st ≡ Some new → IsInsideState st → HasFrames (core_view (core_of new)) → IsInsideState new
work-placed k st new e h f =
    work_by (buffers_turn k (surroundings_in k (core_of st).source) st.buffers) k st new (λ r is. turn-timely k (surroundings_in k (core_of st).source) st.buffers r h.untracked is) h f e

turn_by : (b : Bool) (st new : State) → cond b (Some (turned st)) None ≡ Some new → IsInsideState st → HasFrames (core_view (core_of st)) → IsInsideState new
turn_by true st new e h f =
    let same : turned st ≡ new = cc in
    subst (λ (s : State). IsInsideState s) same (settled st h f _ (placed_turn (core_view (core_of st)) st.element.player f h.position_inside))
turn_by false st new e h f = absurd (cc)

pub turn-placed : (st new : State) → after_element_turn st ≡ Some new → IsInsideState st → HasFrames (core_view (core_of st)) → IsInsideState new
turn-placed st new e h f = turn_by (is_turn_due st) st new e h f
