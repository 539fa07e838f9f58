-- What comes of a reply, put together of what each of its parts tells.
use Rattle.std.proofs.Common.{◌≡◌, ◌∙◌, ℕ, Bool, true, false, not, cond, List, [], ◌∷◌, ◌++◌, refl, sym, ap, subst, append_assoc}
use Rattle.std.specs.Prelude.{Option, Some, None, is_some}
use Rattle.mse_calls.specs.Level.{has_metadata}
use Rattle.mse_calls.specs.declared.calls.EndKind.TheVariants.{Decode}
use Rattle.mse_calls.specs.declared.events.Event.{Event}
use Rattle.mse_calls.specs.declared.events.EventKind.TheVariants as kind
use Rattle.mse_calls.specs.declared.events.Target.TheVariants as target
use Rattle.mse_calls.specs.declared.views.FaultView.{FaultView}
use Rattle.buffer_state.specs.declared.reply.Reply.{Reply}
use Rattle.element_seek.specs.declared.scene.Scene.{Scene}
use Rattle.element_seek.specs.Playing.{after_fail}
use Rattle.element_seek.specs.Settling.{after_settle}
use Rattle.element_seek.proofs.Settled.{settled-once}
use Rattle.source_buffers.specs.State.{KeptBuffers}
use Rattle.media_element.specs.State.{ElementState}
use Rattle.media_element.specs.Queueing.{event_at, events_at, with_events, after_action}
use Rattle.media_element.specs.Settled.{IsSettled}
use Rattle.mse_engine.specs.declared.scenes.LoadBounds.{LoadBounds}
use Rattle.mse_engine.specs.State.{MediaSource, core_source}
use Rattle.mse_engine.specs.Scenes.{SourceView}
use Rattle.mse_engine.specs.Signals.{Signal, Tell, Loaded, after_signals, after_settling}
use Rattle.mse_engine.specs.Replies.{is_activating, is_loading, active_events, duration_events, load_signals, fault_signals, work_signals, media_source_after}
use Rattle.mse_engine.specs.Standing.{IsReadyToLoad, kept_engine, kept_scene, view_of}

-- ---- the end of a step

pub settled_element : (scene : Scene) (source : MediaSource) (ks : KeptBuffers) (e new : ElementState) → scene ≡ kept_scene (kept_engine source ks e) → new ≡ after_action (after_settle scene) e → new ≡ after_settling (view_of source ks) e
settled_element scene source ks e new is h = h ∙ ap (λ (s : Scene). after_action (after_settle s) e) is

pub settled_again : (scene : Scene) (source : MediaSource) (ks : KeptBuffers) (e new : ElementState) → scene ≡ kept_scene (kept_engine source ks e) → new ≡ after_action (after_settle scene) e → IsSettled (kept_scene (kept_engine source ks new)) new
settled_again scene source ks e new is h =
    let here : new ≡ after_action (after_settle (kept_scene (kept_engine source ks e))) e = h ∙ ap (λ (s : Scene). after_action (after_settle s) e) is in
    subst (λ (x : ElementState). IsSettled (kept_scene (kept_engine source ks x)) x) (sym here) (settled-once (kept_scene (kept_engine source ks e)) e.player)

-- ---- signals, in a row

pub signals_join : (v : SourceView) (first next : List Signal) (e : ElementState) → after_signals v (first ++ next) e ≡ after_signals v next (after_signals v first e)
signals_join v [] next e = refl
signals_join v (s ∷ first) next e = signals_join v first next (after_signals v (s ∷ []) e)

pub events_join : (first next : List Event) (e : ElementState) → with_events next (with_events first e) ≡ with_events (first ++ next) e
events_join first next e = λ i. record { player = e.player; queue = append_assoc e.queue first next i }

-- the same in two steps of the code
pub told_in_turn : (first next : List Event) (e e1 e2 : ElementState) → e1 ≡ with_events first e → e2 ≡ with_events next e1 → e2 ≡ with_events (first ++ next) e
told_in_turn first next e e1 e2 one two = two ∙ (ap (with_events next) one ∙ events_join first next e)

-- ---- a fault

pub fault_told : (o : Option FaultView) (v : SourceView) (e e1 e2 : ElementState) → is_some o ≡ true → e1 ≡ with_events (event_at target.Source kind.SourceEnded ∷ []) e → e2 ≡ after_action (after_fail Decode) e1 → e2 ≡ after_signals v (fault_signals o) e
fault_told None v e e1 e2 there one two = absurd (cc)
fault_told (Some fault) v e e1 e2 there one two = two ∙ ap (after_action (after_fail Decode)) one

pub no_fault_told : (o : Option FaultView) (v : SourceView) (e : ElementState) → is_some o ≡ false → e ≡ after_signals v (fault_signals o) e
no_fault_told None v e none = refl
no_fault_told (Some fault) v e none = absurd (cc)

-- ---- the parts of a reply in a row

module _ (k : ℕ) (r : Reply) (source source2 : MediaSource) (ks : KeptBuffers) (e e1 e2 : ElementState) (blank joins brings : Bool)
    (is_blank : blank ≡ not (has_metadata e.player.level)) (is_joins : joins ≡ is_activating k r source.state) (is_brings : brings ≡ is_loading k r blank source.state) (is_source : source2 ≡ media_source_after k r source)
    (one : e1 ≡ with_events (duration_events r) e) (two : e2 ≡ with_events (cond joins (event_at target.ActiveSourceBuffers kind.AddSourceBuffer ∷ []) []) e1) where
  loads : brings ≡ is_loading k r (not (has_metadata e.player.level)) source.state
  loads = is_brings ∙ ap (λ (b : Bool). is_loading k r b source.state) is_blank

  begun : e2 ≡ with_events (active_events k r source.state) (with_events (duration_events r) e)
  begun = two ∙ (λ i. with_events (cond (is_joins i) (event_at target.ActiveSourceBuffers kind.AddSourceBuffer ∷ []) []) (one i))

  pub still_ready : (bounds : LoadBounds) → (is_loading k r (not (has_metadata e.player.level)) source.state ≡ true → IsReadyToLoad bounds (view_of (media_source_after k r source) ks) e) → brings ≡ true → IsReadyToLoad bounds (view_of source2 ks) e2
  still_ready bounds ready h =
      subst (λ (x : ElementState). IsReadyToLoad bounds (view_of source2 ks) x) (sym begun)
      (subst (λ (s : MediaSource). IsReadyToLoad bounds (view_of s ks) e) (sym is_source) (ready (sym loads ∙ h)))

  pub finished : (e3 e4 e5 e6 : ElementState) → e3 ≡ after_signals (view_of source2 ks) (cond brings (Loaded ∷ []) []) e2 → e4 ≡ with_events (events_at (target.Buffer k) r.events) e3
      → ((v : SourceView) → e5 ≡ after_signals v (fault_signals r.fault) e4) → e6 ≡ after_settling (view_of source2 ks) e5
      → e6 ≡ after_settling (view_of source2 ks) (after_signals (view_of source2 ks) (work_signals k r (core_source source e)) e)
  finished e3 e4 e5 e6 three four five end =
      let v : SourceView = view_of source2 ks in
      let last : List Signal = Tell (events_at (target.Buffer k) r.events) ∷ fault_signals r.fault in
      let load : List Signal = load_signals k r (not (has_metadata e.player.level)) source.state in
      let here : e3 ≡ after_signals v load (with_events (active_events k r source.state) (with_events (duration_events r) e)) = three ∙ (λ i. after_signals v (cond (loads i) (Loaded ∷ []) []) (begun i)) in
      let told : e5 ≡ after_signals v last e3 = five v ∙ ap (after_signals v (fault_signals r.fault)) four in
      let all : e5 ≡ after_signals v (work_signals k r (core_source source e)) e = told ∙ (ap (after_signals v last) here ∙ sym (signals_join v load last (with_events (active_events k r source.state) (with_events (duration_events r) e)))) in
      end ∙ ap (after_settling v) all
