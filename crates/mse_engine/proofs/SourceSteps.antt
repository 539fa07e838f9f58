-- Steps of the calls on the media source.
use Rattle.std.proofs.Common.{◌≡◌, ◌∙◌, ◌||◌, ℤ, pos, int_lt, Bool, true, false, not, cond, List, [], Option, Some, None, refl, sym, ap, subst}
use Rattle.mse_base.specs.declared.ticks.Moment.{Moment}
use Rattle.mse_base.specs.declared.ticks.Moment.TheVariants.{Nan, At, Infinite}
use Rattle.mse_calls.specs.AnswerAndState.{AnswerAndState}
use Rattle.mse_calls.specs.Ready.{is_closed, is_open}
use Rattle.mse_calls.specs.declared.answers.Answer.TheVariants.{Done, Refused}
use Rattle.mse_calls.specs.declared.answers.Name.{Name}
use Rattle.mse_calls.specs.declared.answers.Name.TheVariants.{TypeError}
use Rattle.source_state.specs.State.{SourceState}
use Rattle.source_state.specs.Calls.{after_attach, after_set_live, after_clear_live}
use Rattle.source_buffers.specs.State.{KeptBuffers, all_kept_media}
use Rattle.source_buffers.specs.All.{AreSlotsWithin}
use Rattle.media_element.specs.State.{ElementState}
use Rattle.media_element.specs.Settled.{IsSettled}
use Rattle.mse_engine.specs.State.{MediaSource, Core, State, core_of}
use Rattle.mse_engine.specs.Signals.{Signal, after_signals, step}
use Rattle.mse_engine.specs.CoreEffects.{refused_effect, effect_leaving}
use Rattle.mse_engine.specs.SourceCalls.{answered_by, from_source, set_live_effect}
use Rattle.mse_engine.specs.Calls.{refused_or, no_element_effect, after_call_by}
use Rattle.mse_engine.specs.Standing.{KeptEngine, Stands, IsStep, IsSteady, kept_engine, kept_scene, view_of}
use Rattle.mse_engine.proofs.StepEnds.{IsEnd, state_at, stood, step_stands, still}

abbrev pub SourceCall : Type 0
SourceCall = SourceState → AnswerAndState (Option Name) SourceState

abbrev pub in_state : SourceState → MediaSource → MediaSource
in_state s source = record source { state = s }

-- a refused call leaves the source as it is, and none changes its duration or how many buffers were made
pub record IsPlain (call : SourceCall) (s : SourceState) : Type 0 where
  pub refused : (name : Name) → (call s).answer ≡ Some name → (call s).state ≡ s
  pub made : (call s).state.made ≡ s.made
  pub duration : (call s).state.duration ≡ s.duration

by_case : {A : Type 0} (P : AnswerAndState A SourceState → Type 0) (b : Bool) (x y : AnswerAndState A SourceState) → P x → P y → P (cond b x y)
by_case P true x y h k = h
by_case P false x y h k = k

abbrev IsPlainAnswer : SourceState → AnswerAndState (Option Name) SourceState → Type 0
IsPlainAnswer s a = ((name : Name) → a.answer ≡ Some name → a.state ≡ s) × ((a.state.made ≡ s.made) × (a.state.duration ≡ s.duration))

plain_attach : (s : SourceState) → IsPlainAnswer s (after_attach s)
plain_attach s = by_case (IsPlainAnswer s) (not (is_closed s.ready)) _ _ (λ name e. refl, (refl, refl)) (λ name e. absurd cc, (refl, refl))

plain_set_live : (start end : ℤ) (s : SourceState) → IsPlainAnswer s (after_set_live start end s)
plain_set_live start end s = by_case (IsPlainAnswer s) (not (is_open s.ready)) _ _ (λ name e. refl, (refl, refl)) (by_case (IsPlainAnswer s) (int_lt start (pos 0) || int_lt end start) _ _ (λ name e. refl, (refl, refl)) (λ name e. absurd cc, (refl, refl)))

plain_clear_live : (s : SourceState) → IsPlainAnswer s (after_clear_live s)
plain_clear_live s = by_case (IsPlainAnswer s) (not (is_open s.ready)) _ _ (λ name e. refl, (refl, refl)) (λ name e. absurd cc, (refl, refl))

pub attach_plain : (s : SourceState) → IsPlain after_attach s
attach_plain s = let p = plain_attach s in record { refused = p.0; made = p.1.0; duration = p.1.1 }

pub set_live_plain : (start end : ℤ) (s : SourceState) → IsPlain (after_set_live start end) s
set_live_plain start end s = let p = plain_set_live start end s in record { refused = p.0; made = p.1.0; duration = p.1.1 }

pub clear_live_plain : (s : SourceState) → IsPlain after_clear_live s
clear_live_plain s = let p = plain_clear_live s in record { refused = p.0; made = p.1.0; duration = p.1.1 }

-- a bound that is no time
pub live_refused : (start end : Moment) (c : Core) → ((a b : ℤ) → start ≡ At a → end ≡ At b → ⊥) → set_live_effect start end c ≡ refused_effect TypeError c
live_refused Nan end c h = refl
live_refused (At a) Nan c h = refl
live_refused (At a) (At b) c h = absurd (h a b refl refl)
live_refused (At a) Infinite c h = refl
live_refused Infinite end c h = refl

-- ---- a step by which the source comes to a state

pub source_step : (source new_source : MediaSource) (buffers : KeptBuffers) (e told new : ElementState) (s : SourceState) (signals : List Signal) (st : State)
    → new_source ≡ in_state s source → Stands (kept_engine source buffers e) st
    → told ≡ after_signals (view_of new_source buffers) signals e → IsEnd new_source buffers told new
    → Stands (kept_engine new_source buffers new) (step (effect_leaving s signals (core_of st)).core signals st.element)
source_step source new_source buffers e told new s signals st is k heard end =
    let old : KeptEngine = kept_engine source buffers e in
    stood (λ (x : State). Stands (kept_engine new_source buffers new) (step (effect_leaving s signals (core_of x)).core signals x.element)) old st k
    (step_stands new_source buffers told new (effect_leaving s signals (core_of (state_at old st.buffers))).core signals e is k.buffers heard end)

done_by : (n : Option Name) (s : SourceState) (signals : List Signal) (k : KeptEngine) (st : State) → n ≡ None → Stands k (step (effect_leaving s signals (core_of st)).core signals st.element) → IsStep Done k (after_call_by (answered_by n s signals (core_of st)) (no_element_effect st.element) Done)
done_by None s signals k st e h = record { answers = refl; stands = h }
done_by (Some name) s signals k st e h = absurd cc

refused_by : (n : Option Name) (name : Name) (s : SourceState) (signals : List Signal) (k : KeptEngine) (st : State) → n ≡ Some name → Stands k (step (core_of st) [] st.element) → IsStep (Refused name) k (after_call_by (answered_by n s signals (core_of st)) (no_element_effect st.element) Done)
refused_by None name s signals k st e h = absurd cc
refused_by (Some m) name s signals k st e h = let is : name ≡ m = cc in record { answers = ap (λ (x : Name). Refused x) is; stands = h }

either_by : (n : Option Name) (s : SourceState) (k : KeptEngine) (st : State) → ((name : Name) → n ≡ Some name → s ≡ st.source.state) → Stands k (step (effect_leaving s [] (core_of st)).core [] st.element) → IsStep (refused_or n Done) k (after_call_by (answered_by n s [] (core_of st)) (no_element_effect st.element) Done)
either_by None s k st leaves h = record { answers = refl; stands = h }
either_by (Some name) s k st leaves h = record { answers = refl; stands = subst (λ (x : SourceState). Stands k (step (effect_leaving x [] (core_of st)).core [] st.element)) (leaves name refl) h }

-- ---- a call that tells nothing but what the source answers

module _ (call : SourceCall) (source new_source : MediaSource) (buffers : KeptBuffers) (e start : ElementState) (plain : IsPlain call source.state) (is : new_source ≡ in_state (call source.state).state source) (ready : start ≡ e) where
  began : (st : State) → Stands (kept_engine source buffers e) st → Stands (kept_engine source buffers start) st
  began st k = subst (λ (x : ElementState). Stands (kept_engine source buffers x) st) (sym ready) k

  pub plain_steady : (new : ElementState) → IsSteady (kept_engine source buffers e) → IsSettled (kept_scene (kept_engine new_source buffers new)) new → IsSteady (kept_engine new_source buffers new)
  plain_steady new k settled =
      let made : new_source.state.made ≡ source.state.made = ap (λ (x : MediaSource). x.state.made) is ∙ plain.made in
      let duration : new_source.state.duration ≡ source.state.duration = ap (λ (x : MediaSource). x.state.duration) is ∙ plain.duration in
      record {
        made = k.made ∙ sym made;
        within = subst (λ d. AreSlotsWithin d (all_kept_media buffers)) (sym duration) k.within;
        settled = settled;
      }

  pub told_step : (told new : ElementState) (signals : List Signal) (st : State)
      → (call source.state).answer ≡ None → told ≡ after_signals (view_of new_source buffers) signals start
      → IsEnd new_source buffers told new → Stands (kept_engine source buffers e) st
      → IsStep Done (kept_engine new_source buffers new) (after_call_by (from_source (call st.source.state) signals (core_of st)) (no_element_effect st.element) Done)
  told_step told new signals st none heard end k =
      let was : source.state ≡ st.source.state = ap (λ (s : MediaSource). s.state) k.source in
      let here = source_step source new_source buffers start told new (call source.state).state signals st is (began st k) heard end in
      subst (λ (s : SourceState). IsStep Done (kept_engine new_source buffers new) (after_call_by (from_source (call s) signals (core_of st)) (no_element_effect st.element) Done)) was (done_by (call source.state).answer (call source.state).state signals (kept_engine new_source buffers new) st none here)

  pub either_step : (n : Option Name) (new : ElementState) (st : State)
      → n ≡ (call source.state).answer → IsEnd new_source buffers start new → Stands (kept_engine source buffers e) st
      → IsStep (refused_or n Done) (kept_engine new_source buffers new) (after_call_by (from_source (call st.source.state) [] (core_of st)) (no_element_effect st.element) Done)
  either_step n new st answer end k =
      let was : source.state ≡ st.source.state = ap (λ (s : MediaSource). s.state) k.source in
      let here = source_step source new_source buffers start start new (call source.state).state [] st is (began st k) refl end in
      let by_name = either_by (call source.state).answer (call source.state).state (kept_engine new_source buffers new) st (λ name h. plain.refused name h ∙ was) here in
      let now = subst (λ (s : SourceState). IsStep (refused_or (call source.state).answer Done) (kept_engine new_source buffers new) (after_call_by (from_source (call s) [] (core_of st)) (no_element_effect st.element) Done)) was by_name in
      subst (λ (m : Option Name). IsStep (refused_or m Done) (kept_engine new_source buffers new) (after_call_by (from_source (call st.source.state) [] (core_of st)) (no_element_effect st.element) Done)) (sym answer) now

  -- where it is refused nothing changes
  pub unchanged : (name : Name) → (call source.state).answer ≡ Some name → kept_engine new_source buffers start ≡ kept_engine source buffers e
  unchanged name h =
      let state = plain.refused name h in
      let as_before : new_source ≡ source = is ∙ (λ i. in_state (state i) source) in
      λ i. kept_engine (as_before i) buffers (ready i)

  pub refused_step : (name : Name) (signals : List Signal) (st : State)
      → (call source.state).answer ≡ Some name → IsSettled (kept_scene (kept_engine source buffers e)) e → Stands (kept_engine source buffers e) st
      → IsStep (Refused name) (kept_engine new_source buffers start) (after_call_by (from_source (call st.source.state) signals (core_of st)) (no_element_effect st.element) Done)
  refused_step name signals st h settled k =
      let was : source.state ≡ st.source.state = ap (λ (s : MediaSource). s.state) k.source in
      let here = subst (λ (x : KeptEngine). Stands x (step (core_of st) [] st.element)) (sym (unchanged name h)) (still source buffers e st k settled) in
      subst (λ (s : SourceState). IsStep (Refused name) (kept_engine new_source buffers start) (after_call_by (from_source (call s) signals (core_of st)) (no_element_effect st.element) Done)) was (refused_by (call source.state).answer name (call source.state).state signals (kept_engine new_source buffers start) st h here)
