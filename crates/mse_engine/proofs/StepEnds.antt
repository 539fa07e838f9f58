-- The end of a step of the engine is that of the machine's step.
use Rattle.std.proofs.Common.{◌≡◌, ◌∙◌, List, [], refl, sym, ap, subst}
use Rattle.element_seek.specs.Settling.{after_settle}
use Rattle.media_element.specs.State.{ElementState}
use Rattle.media_element.specs.Settled.{IsSettled}
use Rattle.media_element.proofs.QueuedEvents.{silent}
use Rattle.source_state.specs.State.{SourceState}
use Rattle.source_buffers.specs.State.{BufferStates, KeptBuffers, AreSlotsStanding, media_of_all}
use Rattle.source_buffers.proofs.KeptParts.{same_media}
use Rattle.mse_engine.specs.State.{MediaSource, Core, State, core_of, source_of}
use Rattle.mse_engine.specs.Scenes.{SourceView, core_view, scene_at}
use Rattle.mse_engine.specs.Signals.{Signal, after_signals, after_settling, step}
use Rattle.mse_engine.specs.Standing.{KeptEngine, Stands, kept_engine, kept_scene, view_of}

-- ---- what is stood for

-- the state of what is kept and of these buffers
abbrev pub state_at : KeptEngine → BufferStates → State
state_at k bs = record { source = k.source; buffers = bs; element = k.element }

-- what holds at it holds at a state that is stood for
pub stood : (P : State → Type 0) (k : KeptEngine) (st : State) → Stands k st → P (state_at k st.buffers) → P st
stood P k st h p =
    let same : state_at k st.buffers ≡ st = λ i. record { source = h.source i; buffers = st.buffers; element = h.element i } in
    subst P same p

-- the element sees the same
pub seen : (source : MediaSource) (ks : KeptBuffers) (bs : BufferStates) (s : SourceState) → source.state ≡ s → AreSlotsStanding ks bs → view_of source ks ≡ record { state = s; media = media_of_all bs }
seen source ks bs s is all = let media = same_media ks bs all in λ i. record { state = is i; media = media i }

-- ---- the end of a step

abbrev pub IsEnd : MediaSource → KeptBuffers → ElementState → ElementState → Type 0
IsEnd source ks told new = new ≡ after_settling (view_of source ks) told

-- a step whose signals the element heard, and which ended
pub step_stands : (source : MediaSource) (ks : KeptBuffers) (told new : ElementState) (c : Core) (signals : List Signal) (e : ElementState)
    → source ≡ source_of c.source → AreSlotsStanding ks c.buffers → told ≡ after_signals (view_of source ks) signals e → IsEnd source ks told new
    → Stands (kept_engine source ks new) (step c signals e)
step_stands source ks told new c signals e is all heard end =
    let view : view_of source ks ≡ core_view c = seen source ks c.buffers c.source.state (ap (λ (s : MediaSource). s.state) is) all in
    record {
      source = is;
      buffers = all;
      element = end ∙ (ap (after_settling (view_of source ks)) heard ∙ ap (λ (v : SourceView). after_settling v (after_signals v signals e)) view);
    }

-- nothing was heard, and the element has the level of its position already
pub still : (source : MediaSource) (ks : KeptBuffers) (e : ElementState) (st : State) → Stands (kept_engine source ks e) st → IsSettled (kept_scene (kept_engine source ks e)) e → Stands (kept_engine source ks e) (step (core_of st) [] st.element)
still source ks e st h settled =
    let k : KeptEngine = kept_engine source ks e in
    let same : e ≡ after_settling (view_of source ks) e = sym (silent (after_settle (scene_at e.player.position (view_of source ks))) e settled) in
    stood (λ (s : State). Stands k (step (core_of s) [] s.element)) k st h (step_stands source ks e e (core_of (state_at k st.buffers)) [] e refl h.buffers refl same)
