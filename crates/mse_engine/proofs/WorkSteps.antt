-- A step of running work, a turn of the element, and an event that is fired.
use Rattle.std.proofs.Common.{◌≡◌, ◌∙◌, ℕ, ℤ, Bool, true, false, cond, ◌||◌, List, [], ◌∷◌, drop, refl, sym, ap, subst}
use Rattle.std.specs.Prelude.{Option, Some, None, option_map, slice_get}
use Rattle.mse_base.specs.declared.span.Span.{Span}
use Rattle.mse_calls.specs.Ready.{is_ended}
use Rattle.mse_calls.specs.declared.answers.Ready.{Ready}
use Rattle.mse_calls.specs.declared.answers.StateView.{StateView}
use Rattle.mse_calls.specs.declared.events.Event.{Event}
use Rattle.mse_calls.specs.declared.views.BufferView.{BufferView}
use Rattle.mse_calls.specs.declared.views.Attributes.{Attributes}
use Rattle.mse_calls.specs.declared.views.FaultView.{FaultView}
use Rattle.mse_calls.specs.declared.views.View.{View}
use Rattle.buffer_state.specs.declared.reply.Reply.{Reply}
use Rattle.buffer_state.specs.State.{Surroundings}
use Rattle.element_seek.specs.declared.scene.Scene.{Scene}
use Rattle.element_seek.specs.State.{has_ended, player_change}
use Rattle.element_seek.specs.Turns.{Turn, is_seek_done, is_end_due, is_due, seek_turn, end_turn, no_turn, after_turn}
use Rattle.source_buffers.specs.State.{BufferStates, KeptBuffers, AreSlotsStanding}
use Rattle.source_buffers.specs.Views.{buffer_views}
use Rattle.source_buffers.specs.Slots.{BuffersResult, IsBuffersResult, IsBuffersTurn, buffers_turn}
use Rattle.media_element.specs.State.{ElementState}
use Rattle.media_element.specs.Queueing.{turn_kinds, change_by_turn, after_own_turn, after_fire}
use Rattle.media_element.proofs.QueuedEvents.{silent}
use Rattle.mse_engine.specs.declared.engine.Worked.TheVariants as worked
use Rattle.mse_engine.specs.State.{MediaSource, State, core_of, core_source}
use Rattle.mse_engine.specs.Scenes.{buffered_in, core_view, scene_at, scene_in, scene_with, seekable_in, source_view, span_at}
use Rattle.mse_engine.specs.Calls.{state_view}
use Rattle.mse_engine.specs.CoreEffects.{CoreEffect}
use Rattle.mse_engine.specs.Views.{attributes_in, span_in, view_in}
use Rattle.mse_engine.specs.Signals.{after_signals, after_settling, step}
use Rattle.mse_engine.specs.Replies.{media_source_after, surroundings_in, work_signals}
use Rattle.mse_engine.specs.Work.{turn_effect, work_result, after_work, is_turn_due, after_element_turn, without_first, fire_result}
use Rattle.mse_engine.specs.Standing.{KeptEngine, Stands, IsSteady, IsWork, IsFired, kept_engine, view_of}
use Rattle.mse_engine.proofs.StepEnds.{IsEnd, state_at, stood, seen, step_stands}
use Rattle.mse_engine.proofs.ElementEffects.{begun, scene_step}

-- ---- work

work_by : (x : Option BuffersResult) (k : ℕ) (r : Reply) (ks : KeptBuffers) (old new : KeptEngine) (st : State) → IsBuffersTurn (Some r) ks x
    → ((meant : BuffersResult) → IsBuffersResult r ks meant → Stands new (step (turn_effect k meant (core_of st)).core (turn_effect k meant (core_of st)).signals st.element))
    → IsWork worked.Did old new (work_result (option_map (λ result. turn_effect k result (core_of st)) x) st)
work_by None k r ks old new st h made = absurd h
work_by (Some meant) k r ks old new st h made = made meant h

idle_by : (x : Option BuffersResult) (k : ℕ) (ks : KeptBuffers) (old new : KeptEngine) (st : State) → IsBuffersTurn None ks x → new ≡ old
    → IsWork worked.Idle old new (work_result (option_map (λ result. turn_effect k result (core_of st)) x) st)
idle_by None k ks old new st h same = same
idle_by (Some meant) k ks old new st h same = absurd h

pub work_did : (k : ℕ) (around : Surroundings) (r : Reply) (source source2 : MediaSource) (e start new : ElementState) (ks left : KeptBuffers) (st : State)
    → start ≡ e → around ≡ surroundings_in k (core_source source start) → IsBuffersTurn (Some r) left (buffers_turn k around st.buffers)
    → source2 ≡ media_source_after k r source → new ≡ after_settling (view_of source2 left) (after_signals (view_of source2 left) (work_signals k r (core_source source start)) start)
    → Stands (kept_engine source ks e) st
    → IsWork worked.Did (kept_engine source ks e) (kept_engine source2 left new) (after_work k st)
work_did k around r source source2 e start new ks left st ready there turns is end h =
    let old : KeptEngine = kept_engine source ks e in
    let at : around ≡ surroundings_in k (core_source source e) = there ∙ ap (λ (x : ElementState). surroundings_in k (core_source source x)) ready in
    let now = subst (λ (x : Surroundings). IsBuffersTurn (Some r) left (buffers_turn k x st.buffers)) at turns in
    stood (λ (x : State). IsWork worked.Did old (kept_engine source2 left new) (after_work k x)) old st h
    (work_by (buffers_turn k (surroundings_in k (core_source source e)) st.buffers) k r left old (kept_engine source2 left new) (state_at old st.buffers) now (λ meant found.
    let m : CoreEffect = turn_effect k meant (core_of (state_at old st.buffers)) in
    let told : new ≡ after_settling (view_of source2 left) (after_signals (view_of source2 left) m.signals e) = end ∙ (λ i. after_settling (view_of source2 left) (after_signals (view_of source2 left) (work_signals k (found.replies i) (core_source source (ready i))) (ready i))) in
    step_stands source2 left (after_signals (view_of source2 left) m.signals e) new m.core m.signals e (is ∙ ap (λ (x : Reply). media_source_after k x source) found.replies) found.stand refl told))

pub work_idle : (k : ℕ) (around : Surroundings) (source : MediaSource) (e start : ElementState) (old new : KeptBuffers) (st : State)
    → start ≡ e → around ≡ surroundings_in k (core_source source start) → IsBuffersTurn None new (buffers_turn k around st.buffers)
    → new ≡ old → Stands (kept_engine source old e) st
    → IsWork worked.Idle (kept_engine source old e) (kept_engine source new start) (after_work k st)
work_idle k around source e start old new st ready there turns same h =
    let kept : KeptEngine = kept_engine source old e in
    let at : around ≡ surroundings_in k (core_source source e) = there ∙ ap (λ (x : ElementState). surroundings_in k (core_source source x)) ready in
    let now = subst (λ (x : Surroundings). IsBuffersTurn None new (buffers_turn k x st.buffers)) at turns in
    stood (λ (x : State). IsWork worked.Idle kept (kept_engine source new start) (after_work k x)) kept st h
    (idle_by (buffers_turn k (surroundings_in k (core_source source e)) st.buffers) k new kept (kept_engine source new start) (state_at kept st.buffers) now (λ i. kept_engine source (same i) (ready i)))

-- ---- turns of the element

did_by : (b : Bool) (old new : KeptEngine) (s : State) → b ≡ true → Stands new s → IsWork worked.Did old new (cond b (Some s) None)
did_by true old new s e h = h
did_by false old new s e h = absurd cc

rest_by : (b : Bool) (old new : KeptEngine) (s : State) → b ≡ false → new ≡ old → IsWork worked.Idle old new (cond b (Some s) None)
rest_by true old new s e h = absurd cc
rest_by false old new s e h = h

no_turn_by : (s e : Bool) (x y z : Turn) → (s || e) ≡ false → cond s x (cond e y z) ≡ z
no_turn_by true e x y z h = absurd cc
no_turn_by false true x y z h = absurd cc
no_turn_by false false x y z h = refl

-- where nothing is due a turn changes nothing
pub undue : (scene : Scene) (e : ElementState) → is_due scene e.player ≡ false → after_own_turn scene e ≡ e
undue scene e h =
    let none : after_turn scene e.player ≡ no_turn e.player = no_turn_by (is_seek_done e.player) (is_end_due scene e.player) (seek_turn e.player) (end_turn e.player) (no_turn e.player) h in
    silent (change_by_turn scene) e (λ i. player_change (turn_kinds (none i).answer) (none i).state)

module _ (source : MediaSource) (buffers : KeptBuffers) (e : ElementState) (st : State) (k : Stands (kept_engine source buffers e) st) where
  view : view_of source buffers ≡ core_view (core_of st)
  view = seen source buffers st.buffers st.source.state (ap (λ (s : MediaSource). s.state) k.source) k.buffers

  pub meant_due : (b : Bool) → b ≡ is_due (scene_with None e.player.position (view_of source buffers)) e.player → b ≡ is_turn_due st
  meant_due b h = h ∙ (λ i. is_due (scene_at (k.element i).player.position (view i)) (k.element i).player)

  pub meant_span : (position : ℤ) (span : Option Span) → position ≡ e.player.position → span ≡ span_at position (view_of source buffers) → span ≡ span_in st
  meant_span position span at is =
      let here : position ≡ st.element.player.position = at ∙ ap (λ (x : ElementState). x.player.position) k.element in
      is ∙ (λ i. span_at (here i) (view i))

  pub meant_shown : (state : StateView) (views : List BufferView) (ended : Bool) (ready : Ready) → ready ≡ source.state.ready → ended ≡ is_ended ready
      → ((bs : BufferStates) → AreSlotsStanding buffers bs → views ≡ buffer_views ended bs)
      → ((s : State) → source ≡ s.source → e ≡ s.element → state ≡ state_view s)
      → ◌≡◌ {A = View} (record { state = state; buffers = views; fault = source.fault }) (view_in st)
  meant_shown state views ended ready is is_end are shows =
      let end : ended ≡ is_ended st.source.state.ready = is_end ∙ ap is_ended (is ∙ ap (λ (s : MediaSource). s.state.ready) k.source) in
      let told : state ≡ state_view st = shows st k.source k.element in
      let all : views ≡ buffer_views (is_ended st.source.state.ready) st.buffers = are st.buffers k.buffers ∙ ap (λ (b : Bool). buffer_views b st.buffers) end in
      λ i. record { state = told i; buffers = all i; fault = (k.source i).fault }

  -- what a page reads of the source and of the element
  pub meant_attributes : (state : StateView) (start : ℤ) (scene : Scene) (ended : Bool) (seekable : Option Span) (buffered : List Span) (made : ℕ) (fault : Option FaultView)
      → ((s : State) → source ≡ s.source → e ≡ s.element → state ≡ state_view s)
      → start ≡ e.player.default_start
      → scene ≡ scene_with None e.player.position (view_of source buffers)
      → ended ≡ has_ended scene e.player
      → seekable ≡ seekable_in (view_of source buffers)
      → buffered ≡ buffered_in (view_of source buffers)
      → made ≡ source.state.made
      → fault ≡ source.fault
      → ◌≡◌ {A = Attributes} (record { state = state; start_position = start; ended = ended; seekable = seekable; buffered = buffered; made = made; fault = fault }) (attributes_in st)
  meant_attributes state start scene ended seekable buffered made fault shows starts is ends can are count faulty =
      let told : state ≡ state_view st = shows st k.source k.element in
      let from : start ≡ st.element.player.default_start = starts ∙ ap (λ (x : ElementState). x.player.default_start) k.element in
      let over : ended ≡ has_ended (scene_in st) st.element.player = ends ∙ ap (λ (s : Scene). has_ended s e.player) is ∙ (λ i. has_ended (scene_at (k.element i).player.position (view i)) (k.element i).player) in
      let sought : seekable ≡ seekable_in (source_view st) = can ∙ (λ i. seekable_in (view i)) in
      let ranges : buffered ≡ buffered_in (source_view st) = are ∙ (λ i. buffered_in (view i)) in
      let all : made ≡ st.source.state.made = count ∙ ap (λ (s : MediaSource). s.state.made) k.source in
      let first : fault ≡ st.source.fault = faulty ∙ ap (λ (s : MediaSource). s.fault) k.source in
      λ i. record { state = told i; start_position = from i; ended = over i; seekable = sought i; buffered = ranges i; made = all i; fault = first i }

pub turn_did : (source : MediaSource) (buffers : KeptBuffers) (e start told new : ElementState) (b : Bool) (st : State) → start ≡ e
    → b ≡ is_due (scene_with None start.player.position (view_of source buffers)) start.player → b ≡ true
    → told ≡ after_own_turn (scene_with None start.player.position (view_of source buffers)) start → IsEnd source buffers told new
    → Stands (kept_engine source buffers e) st
    → IsWork worked.Did (kept_engine source buffers e) (kept_engine source buffers new) (after_element_turn st)
turn_did source buffers e start told new b st ready due is heard ends k =
    let here = scene_step source buffers e start ready (λ scene p. change_by_turn scene p) told new (seekable_in (view_of source buffers)) st heard refl ends k in
    did_by (is_turn_due st) (kept_engine source buffers e) (kept_engine source buffers new) _ (sym (meant_due source buffers start st (begun source buffers e start ready st k) b due) ∙ is) here

pub turn_idle : (source : MediaSource) (buffers : KeptBuffers) (e start told : ElementState) (b : Bool) (st : State) → start ≡ e
    → b ≡ is_due (scene_with None start.player.position (view_of source buffers)) start.player → b ≡ false
    → told ≡ after_own_turn (scene_with None start.player.position (view_of source buffers)) start
    → Stands (kept_engine source buffers e) st
    → IsWork worked.Idle (kept_engine source buffers e) (kept_engine source buffers told) (after_element_turn st)
turn_idle source buffers e start told b st ready due is heard k =
    let same : told ≡ e = heard ∙ (undue (scene_with None start.player.position (view_of source buffers)) start (sym due ∙ is) ∙ ready) in
    rest_by (is_turn_due st) (kept_engine source buffers e) (kept_engine source buffers told) _ (sym (meant_due source buffers start st (begun source buffers e start ready st k) b due) ∙ is) (λ i. kept_engine source buffers (same i))

pub idle_steady : (source : MediaSource) (buffers : KeptBuffers) (e start told : ElementState) (b : Bool) → start ≡ e
    → b ≡ is_due (scene_with None start.player.position (view_of source buffers)) start.player → b ≡ false
    → told ≡ after_own_turn (scene_with None start.player.position (view_of source buffers)) start
    → IsSteady (kept_engine source buffers e) → IsSteady (kept_engine source buffers told)
idle_steady source buffers e start told b ready due is heard k =
    let same : told ≡ e = heard ∙ (undue (scene_with None start.player.position (view_of source buffers)) start (sym due ∙ is) ∙ ready) in
    subst (λ (x : ElementState). IsSteady (kept_engine source buffers x)) (sym same) k

-- ---- firing

fired_by : (event : Option Event) (source : MediaSource) (buffers : KeptBuffers) (e new : ElementState) (st : State) → new ≡ after_fire e → (event ≡ None → new ≡ e) → Stands (kept_engine source buffers new) (without_first st)
    → IsFired event (kept_engine source buffers e) (kept_engine source buffers new) (option_map (λ event. record { answer = event; state = without_first st }) event)
fired_by None source buffers e new st is none h = ap (λ (x : ElementState). kept_engine source buffers x) (none refl)
fired_by (Some event) source buffers e new st is none h = (refl, h)

none_left : (xs : List Event) → slice_get xs 0 ≡ None → drop 1 xs ≡ xs
none_left [] h = refl
none_left (x ∷ xs) h = absurd cc

pub fired : (event : Option Event) (source : MediaSource) (buffers : KeptBuffers) (e new : ElementState) (st : State) → event ≡ slice_get e.queue 0 → new ≡ after_fire e → Stands (kept_engine source buffers e) st
    → IsFired event (kept_engine source buffers e) (kept_engine source buffers new) (fire_result st)
fired event source buffers e new st first is k =
    let none : event ≡ None → new ≡ e = λ h. is ∙ (λ i. record { player = e.player; queue = none_left e.queue (sym first ∙ h) i }) in
    let behind : Stands (kept_engine source buffers new) (without_first st) = record { source = k.source; buffers = k.buffers; element = is ∙ ap after_fire k.element } in
    let queues : event ≡ slice_get st.element.queue 0 = first ∙ ap (λ (x : ElementState). slice_get x.queue 0) k.element in
    subst (λ (x : Option Event). IsFired event (kept_engine source buffers e) (kept_engine source buffers new) (option_map (λ y. record { answer = y; state = without_first st }) x)) queues (fired_by event source buffers e new st is none behind)
