-- Each step of the engine stands for a state in which the position lies inside the media.
use Rattle.std.proofs.Common.{◌≡◌, ◌∙◌, ℕ, ℤ, Bool, true, false, cond, List, [], refl, sym, ap, subst, arith}
use Rattle.std.specs.Prelude.{Option, Some, None, option_map}
use Rattle.std.proofs.lemmas.Int.{ints}
use Rattle.mse_calls.specs.declared.answers.Answer.{Answer}
use Rattle.mse_calls.specs.declared.calls.Call.{Call}
use Rattle.mse_calls.specs.declared.events.Event.{Event}
use Rattle.source_buffers.specs.All.{AreSound}
use Rattle.track_buffers.specs.Media.{Media}
use Rattle.source_state.specs.State.{SourceState}
use Rattle.source_buffers.specs.State.{KeptBuffers, all_kept_media, media_of_all}
use Rattle.source_buffers.specs.Slots.{BuffersResult, buffers_turn}
use Rattle.source_buffers.proofs.KeptParts.{same_length, same_media}
use Rattle.media_element.specs.State.{ElementState, new_element}
use Rattle.media_element.specs.Queueing.{after_fire}
use Rattle.mse_engine.specs.declared.engine.Worked.{Worked}
use Rattle.mse_engine.specs.declared.engine.Worked.TheVariants.{Did, Idle}
use Rattle.mse_engine.specs.State.{MediaSource, State, core_of, new_media_source, opening_state}
use Rattle.mse_engine.specs.Calls.{after_call}
use Rattle.mse_engine.specs.CoreEffects.{CoreEffect}
use Rattle.mse_engine.specs.Lists.{AreListsSame}
use Rattle.mse_engine.specs.Replies.{surroundings_in}
use Rattle.mse_engine.specs.Signals.{step}
use Rattle.mse_engine.specs.Work.{turn_effect, work_result, after_work, after_element_turn, is_turn_due, fire_result, without_first}
use Rattle.mse_engine.specs.Positions.{IsInsideState}
use Rattle.mse_engine.specs.Standing.{KeptEngine, Stands, IsStep, IsSteady, IsWork, IsFired, HasEngineInvariants, kept_engine}
use Rattle.mse_engine.proofs.SoundStates.{sound_steady, stands_sound}
use Rattle.mse_engine.proofs.Lists.{HasSameLists, call-lists, turn-lists}
use Rattle.mse_engine.proofs.Placed.{call-placed, work-placed, turn-placed}
use Rattle.mse_engine.proofs.Progress.{turned}

pub opens_placed : (quota : ℕ) (gap : ℤ) → IsInsideState (opening_state quota gap)
opens_placed quota gap = record {
  position_inside = record { lasting = refl; live = tt; timed = λ m. absurd (cc); start = λ b. refl; inside = (omega (arith, ints), refl) };
  untracked = λ n. tt;
}

-- the lists of the state that is stood for
lists_of : (k : KeptEngine) (h : HasEngineInvariants k) → HasSameLists (core_of h.inside.state)
lists_of k h =
    let st : State = h.inside.state in
    record {
      made = sym (same_length k.buffers st.buffers h.inside.stands.buffers) ∙ (h.steady.made ∙ ap (λ (s : MediaSource). s.state.made) h.inside.stands.source);
      lists = h.inside.lists;
    }

pub whole_call : (blobs : List (List ℕ)) (x : Call) (old new : KeptEngine) (answer : Answer) → (h : HasEngineInvariants old) → IsSteady new → AreSound (all_kept_media new.buffers)
    → IsStep answer new (after_call blobs x h.inside.state) → HasEngineInvariants new
whole_call blobs x old new answer h steady sound made = record {
  steady = steady;
  inside = record {
    state = (after_call blobs x h.inside.state).state;
    stands = made.stands;
    position_inside = call-placed blobs x h.inside.state h.inside.position_inside (stands_sound new (after_call blobs x h.inside.state).state made.stands (sound_steady new steady sound));
    lists = (call-lists blobs h.inside.state.element.player.position x (core_of h.inside.state) (lists_of old h)).lists;
  };
}

-- nothing changed
pub whole_still : (old new : KeptEngine) → new ≡ old → HasEngineInvariants old → HasEngineInvariants new
whole_still old new same h = subst (λ (k : KeptEngine). HasEngineInvariants k) (sym same) h

abbrev HasLists : State → Type 0
HasLists st = AreListsSame st.source.state (media_of_all st.buffers)

worked_by : (w : Worked) (o : Option State) (old new : KeptEngine) → HasEngineInvariants old → IsSteady new → ((st : State) → o ≡ Some st → Stands new st → IsInsideState st) → ((st : State) → o ≡ Some st → HasLists st)
    → IsWork w old new o → HasEngineInvariants new
worked_by Did None old new h steady f g work = absurd work
worked_by Did (Some st) old new h steady f g work = record { steady = steady; inside = record { state = st; stands = work; position_inside = f st refl work; lists = g st refl } }
worked_by Idle None old new h steady f g work = whole_still old new work h
worked_by Idle (Some st) old new h steady f g work = absurd work

work_lists : (o : Option BuffersResult) (k : ℕ) (st new : State) → ((r : BuffersResult) → o ≡ Some r → HasSameLists (turn_effect k r (core_of st)).core) → work_result (option_map (λ result. turn_effect k result (core_of st)) o) st ≡ Some new → HasLists new
work_lists None k st new f e = absurd cc
work_lists (Some r) k st new f e =
    let m : CoreEffect = turn_effect k r (core_of st) in
    let same : step m.core m.signals st.element ≡ new = cc in
    subst (λ (x : State). HasLists x) same (f r refl).lists

pub whole_work : (k : ℕ) (w : Worked) (old new : KeptEngine) → (h : HasEngineInvariants old) → IsSteady new → AreSound (all_kept_media new.buffers) → IsWork w old new (after_work k h.inside.state) → HasEngineInvariants new
whole_work k w old new h steady sound work =
    let st : State = h.inside.state in
    worked_by w (after_work k st) old new h steady (λ s is stands. work-placed k st s is h.inside.position_inside (stands_sound new s stands (sound_steady new steady sound)))
    (λ s is. work_lists (buffers_turn k (surroundings_in k (core_of st).source) st.buffers) k st s (λ r found. turn-lists k (core_of st) r found (lists_of old h)) is) work

turn_lists : (b : Bool) (st x new : State) → HasLists x → cond b (Some x) None ≡ Some new → HasLists new
turn_lists true st x new h e = let same : x ≡ new = cc in subst (λ (y : State). HasLists y) same h
turn_lists false st x new h e = absurd cc

pub whole_turn : (w : Worked) (old new : KeptEngine) → (h : HasEngineInvariants old) → IsSteady new → AreSound (all_kept_media old.buffers) → IsWork w old new (after_element_turn h.inside.state) → HasEngineInvariants new
whole_turn w old new h steady sound work =
    let st : State = h.inside.state in
    worked_by w (after_element_turn st) old new h steady (λ s is stands. turn-placed st s is h.inside.position_inside (stands_sound old st h.inside.stands (sound_steady old h.steady sound)))
    (λ s is. turn_lists (is_turn_due st) st (turned st) s h.inside.lists is) work

-- firing leaves the core and the element
fired_placed : (st : State) → IsInsideState st → IsInsideState (without_first st)
fired_placed st h = record { position_inside = h.position_inside; untracked = h.untracked }

whole_fired_by : (o : Option Event) (st : State) (event : Option Event) (old new : KeptEngine) → HasEngineInvariants old → IsInsideState st → HasLists st → IsSteady new
    → IsFired event old new (option_map (λ e. record { answer = e; state = without_first st }) o) → HasEngineInvariants new
whole_fired_by None st None old new h p l steady fire = whole_still old new fire h
whole_fired_by None st (Some event) old new h p l steady fire = absurd fire
whole_fired_by (Some x) st None old new h p l steady fire = absurd fire
whole_fired_by (Some x) st (Some event) old new h p l steady fire = record { steady = steady; inside = record { state = without_first st; stands = fire.1; position_inside = fired_placed st p; lists = l } }

pub whole_fire : (event : Option Event) (old new : KeptEngine) → (h : HasEngineInvariants old) → IsSteady new → IsFired event old new (fire_result h.inside.state) → HasEngineInvariants new
whole_fire event old new h steady fire = whole_fired_by _ h.inside.state event old new h h.inside.position_inside h.inside.lists steady fire

-- the lists and the slots of what is kept
pub kept_lists : (k : KeptEngine) → HasEngineInvariants k → AreListsSame k.source.state (all_kept_media k.buffers)
kept_lists k h =
    let st : State = h.inside.state in
    let state = ap (λ (s : MediaSource). s.state) h.inside.stands.source in
    subst (λ (s : SourceState). AreListsSame s (all_kept_media k.buffers)) (sym state)
    (subst (λ (ms : List (Option Media)). AreListsSame st.source.state ms) (sym (same_media k.buffers st.buffers h.inside.stands.buffers)) h.inside.lists)

pub fire_steady : (source : MediaSource) (buffers : KeptBuffers) (e new : ElementState) → new ≡ after_fire e → IsSteady (kept_engine source buffers e) → IsSteady (kept_engine source buffers new)
fire_steady source buffers e new is k = subst (λ (x : ElementState). IsSteady (kept_engine source buffers x)) (sym is) (record { made = k.made; within = k.within; settled = k.settled })

pub new_steady : (quota : ℕ) (gap : ℤ) → IsSteady (kept_engine (new_media_source quota gap) [] new_element)
new_steady quota gap = record { made = refl; within = tt; settled = refl }

pub new_whole : (quota : ℕ) (gap : ℤ) (source : MediaSource) (buffers : KeptBuffers) (e : ElementState) → source ≡ new_media_source quota gap → buffers ≡ [] → e ≡ new_element → HasEngineInvariants (kept_engine source buffers e)
new_whole quota gap source buffers e is none new =
    let same : kept_engine (new_media_source quota gap) [] new_element ≡ kept_engine source buffers e = λ i. kept_engine ((sym is) i) ((sym none) i) ((sym new) i) in
    subst (λ (k : KeptEngine). HasEngineInvariants k) same (record {
      steady = new_steady quota gap;
      inside = record { state = opening_state quota gap; stands = record { source = refl; buffers = tt; element = refl }; position_inside = opens_placed quota gap; lists = record { listed = λ k. refl; active = λ k. refl } };
    })
