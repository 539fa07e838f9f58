-- Steps of the calls on the element, of its own turns, and reads.
use Rattle.std.proofs.Common.{◌≡◌, ◌∙◌, ℤ, [], Option, refl, sym, ap, subst}
use Rattle.mse_base.specs.declared.span.Span.{Span}
use Rattle.mse_base.specs.declared.ticks.Moment.{Moment}
use Rattle.mse_base.specs.declared.ticks.Moment.TheVariants.{Nan, At, Infinite}
use Rattle.mse_calls.specs.AnswerAndState.{AnswerAndState}
use Rattle.mse_calls.specs.declared.answers.Answer.{Answer}
use Rattle.mse_calls.specs.declared.answers.Answer.TheVariants.{Done, Refused}
use Rattle.mse_calls.specs.declared.answers.Name.{Name}
use Rattle.mse_calls.specs.declared.answers.Name.TheVariants.{TypeError}
use Rattle.element_seek.specs.declared.player_answer.PlayerAnswer.{PlayerAnswer}
use Rattle.element_seek.specs.declared.scene.Scene.{Scene}
use Rattle.element_seek.specs.State.{PlayerState, PlayerChange}
use Rattle.source_buffers.specs.State.{KeptBuffers}
use Rattle.media_element.specs.State.{ElementState}
use Rattle.media_element.specs.Queueing.{after_action, refusal}
use Rattle.media_element.specs.Settled.{IsSettled}
use Rattle.mse_engine.specs.State.{MediaSource, State, core_of}
use Rattle.mse_engine.specs.Scenes.{SourceView, scene_at, scene_in, scene_with, seekable_in}
use Rattle.mse_engine.specs.Signals.{step}
use Rattle.mse_engine.specs.CoreEffects.{no_core_effect}
use Rattle.mse_engine.specs.Calls.{ElementEffect, seek_effect, advance_effect, element_refused, refused_or, no_element_effect, after_call_by}
use Rattle.mse_engine.specs.Standing.{KeptEngine, Stands, IsStep, IsSteady, kept_engine, kept_scene, view_of}
use Rattle.mse_engine.proofs.StepEnds.{IsEnd, state_at, stood, seen, step_stands, still}

-- ---- the step

module _ (source : MediaSource) (buffers : KeptBuffers) (e start : ElementState) (ready : start ≡ e) where
  pub begun : (st : State) → Stands (kept_engine source buffers e) st → Stands (kept_engine source buffers start) st
  begun st k = subst (λ (x : ElementState). Stands (kept_engine source buffers x) st) (sym ready) k

  pub action_step : (action : PlayerState → PlayerChange) (told new : ElementState) (st : State) → told ≡ after_action action start → IsEnd source buffers told new → Stands (kept_engine source buffers e) st
      → Stands (kept_engine source buffers new) (step (core_of st) [] (after_action action st.element))
  action_step action told new st h ends k =
      let old : KeptEngine = kept_engine source buffers e in
      stood (λ (x : State). Stands (kept_engine source buffers new) (step (core_of x) [] (after_action action x.element))) old st k
      (step_stands source buffers told new (core_of (state_at old st.buffers)) [] (after_action action e) refl k.buffers (h ∙ ap (after_action action) ready) ends)

  -- the scene of the code is that of the machine
  pub meant_scene : (seekable : Option Span) (st : State) → seekable ≡ seekable_in (view_of source buffers) → Stands (kept_engine source buffers e) st
      → scene_with seekable start.player.position (view_of source buffers) ≡ scene_in st
  meant_scene seekable st is k =
      let view = seen source buffers st.buffers st.source.state (ap (λ (s : MediaSource). s.state) k.source) k.buffers in
      ap (λ (o : Option Span). scene_with o start.player.position (view_of source buffers)) is
      ∙ (λ i. scene_at ((ready ∙ k.element) i).player.position (view i))

  pub scene_step : (action : Scene → PlayerState → PlayerChange) (told new : ElementState) (seekable : Option Span) (st : State)
      → told ≡ after_action (action (scene_with seekable start.player.position (view_of source buffers))) start → seekable ≡ seekable_in (view_of source buffers)
      → IsEnd source buffers told new → Stands (kept_engine source buffers e) st
      → Stands (kept_engine source buffers new) (step (core_of st) [] (after_action (action (scene_in st)) st.element))
  scene_step action told new seekable st h is ends k =
      action_step (action (scene_in st)) told new st (h ∙ ap (λ (s : Scene). after_action (action s) start) (meant_scene seekable st is k)) ends k

  pub refusal_is : (call : Scene → PlayerState → AnswerAndState PlayerAnswer PlayerState) (n : Option Name) (a : Answer) (seekable : Option Span) (st : State)
      → a ≡ refused_or n Done → n ≡ refusal (call (scene_with seekable start.player.position (view_of source buffers)) start.player).answer → seekable ≡ seekable_in (view_of source buffers)
      → Stands (kept_engine source buffers e) st
      → a ≡ refused_or (refusal (call (scene_in st) st.element.player).answer) Done
  refusal_is call n a seekable st answers h is k =
      let scene = meant_scene seekable st is k in
      answers ∙ ap (λ (m : Option Name). refused_or m Done) (h ∙ (λ i. refusal (call (scene i) ((ready ∙ k.element) i).player).answer))

  pub element_effect_steady : (new : ElementState) → IsSteady (kept_engine source buffers e) → IsSettled (kept_scene (kept_engine source buffers new)) new → IsSteady (kept_engine source buffers new)
  element_effect_steady new k settled = record { made = k.made; within = k.within; settled = settled }

  -- where nothing was done but that room was made
  pub steady_still : IsSteady (kept_engine source buffers e) → IsSteady (kept_engine source buffers start)
  steady_still k = subst (λ (x : ElementState). IsSteady (kept_engine source buffers x)) (sym ready) k

-- ---- calls with what is no time

pub seek_refused : (t : Moment) (v : SourceView) (e : ElementState) → ((x : ℤ) → t ≡ At x → ⊥) → seek_effect t v e ≡ element_refused TypeError e
seek_refused Nan v e h = refl
seek_refused (At x) v e h = absurd (h x refl)
seek_refused Infinite v e h = refl

pub advance_refused : (t : Moment) (v : SourceView) (e : ElementState) → ((x : ℤ) → t ≡ At x → ⊥) → advance_effect t v e ≡ element_refused TypeError e
advance_refused Nan v e h = refl
advance_refused (At x) v e h = absurd (h x refl)
advance_refused Infinite v e h = refl

-- ---- calls that leave all as it is

pub read_step : (x : KeptEngine) (st : State) (a b : Answer) → a ≡ b → IsSettled (kept_scene x) x.element → Stands x st → IsStep a x (after_call_by (no_core_effect (core_of st)) (no_element_effect st.element) b)
read_step x st a b is settled k = record { answers = is; stands = still x.source x.buffers x.element st k settled }

pub name_step : (x : KeptEngine) (st : State) (name : Name) → IsSettled (kept_scene x) x.element → Stands x st → IsStep (Refused name) x (after_call_by (no_core_effect (core_of st)) (element_refused name st.element) Done)
name_step x st name settled k = record { answers = refl; stands = still x.source x.buffers x.element st k settled }

pub element_effect_name_step : (x : KeptEngine) (st : State) (name : Name) (acts : ElementEffect) → acts ≡ element_refused name st.element → IsSettled (kept_scene x) x.element → Stands x st → IsStep (Refused name) x (after_call_by (no_core_effect (core_of st)) acts Done)
element_effect_name_step x st name acts is settled k = subst (λ (a : ElementEffect). IsStep (Refused name) x (after_call_by (no_core_effect (core_of st)) a Done)) (sym is) (name_step x st name settled k)
