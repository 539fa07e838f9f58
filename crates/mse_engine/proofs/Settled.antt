-- A state is settled behind each step, and a step in which nothing happens leaves it.
use Rattle.std.proofs.Common.{◌≡◌, ◌∙◌, ℕ, Bool, true, false, cond, ◌&&◌, ◌||◌, List, [], refl, sym, ap, subst}
use Rattle.std.specs.Prelude.{Option, Some, None, option_map, slice_get}
use Rattle.mse_calls.specs.AnswerAndState.{AnswerAndState}
use Rattle.mse_calls.specs.declared.calls.Call.{Call}
use Rattle.mse_calls.specs.declared.events.Event.{Event}
use Rattle.mse_calls.specs.declared.answers.Level.{Level}
use Rattle.mse_calls.specs.declared.answers.Level.TheVariants.{Nothing, Metadata, Current, Future, Enough}
use Rattle.element_ready.specs.declared.facts.Facts.{Facts}
use Rattle.element_ready.specs.Events.{change_events, is_first_data}
use Rattle.element_seek.specs.declared.scene.Scene.{Scene}
use Rattle.element_seek.specs.State.{PlayerState, PlayerChange, player_change, has_ended}
use Rattle.element_seek.specs.Settling.{after_settle, at_level, facts_in, level_in}
use Rattle.element_seek.proofs.Settled.{settled-once}
use Rattle.media_element.specs.State.{ElementState}
use Rattle.media_element.specs.Queueing.{after_fire, after_own_turn}
use Rattle.media_element.specs.Settled.{IsSettled}
use Rattle.media_element.proofs.QueuedEvents.{silent}
use Rattle.track_buffers.specs.Media.{Media}
use Rattle.source_buffers.specs.State.{all_kept_media, media_of_all}
use Rattle.source_buffers.proofs.KeptParts.{same_media}
use Rattle.mse_engine.specs.State.{Core, State, core_of}
use Rattle.mse_engine.specs.Scenes.{core_view, scene_at, scene_in}
use Rattle.mse_engine.specs.Signals.{Signal, after_signals, step}
use Rattle.mse_engine.specs.CoreEffects.{CoreEffect}
use Rattle.mse_engine.specs.Calls.{core_effect, element_effect, after_call}
use Rattle.mse_engine.specs.Work.{work_effect, work_result, after_work, is_turn_due, after_element_turn, without_first, fire_result}
use Rattle.mse_engine.specs.Settled.{IsSettledState}
use Rattle.mse_engine.specs.Standing.{KeptEngine, Stands, kept_scene}
use Rattle.mse_engine.proofs.StepEnds.{stood}

-- ---- by the level, and by the end of a step

no_change : (l : Level) (f : Facts) → change_events l l f ≡ []
no_change Nothing f = refl
no_change Metadata f = refl
no_change Current f = refl
no_change Future f = refl
no_change Enough f = refl

no_data : (l : Level) → is_first_data l l ≡ false
no_data Nothing = refl
no_data Metadata = refl
no_data Current = refl
no_data Future = refl
no_data Enough = refl

or_none : (b c : Bool) → c ≡ false → (b || c) ≡ b
or_none true c h = refl
or_none false c h = h

untold : (finished ended : Bool) → (ended ≡ false → finished ≡ false) → (finished && ended) ≡ finished
untold true true h = refl
untold true false h = sym (h refl)
untold false ended h = refl

told : (finished ended : Bool) → (finished && ended) ≡ finished → ended ≡ false → finished ≡ false
told true true h e = absurd cc
told true false h e = sym h
told false ended h e = refl

stays : (scene : Scene) (p : PlayerState) → p.level ≡ level_in scene p → (has_ended scene p ≡ false → p.finished ≡ false) → after_settle scene p ≡ player_change [] p
stays scene p level finished =
    let here : after_settle scene p ≡ at_level p.level scene p = ap (λ (l : Level). at_level l scene p) (sym level) in
    here ∙ (λ i. player_change (no_change p.level (facts_in scene p) i) (record p {
      loaded_before = or_none p.loaded_before (is_first_data p.level p.level) (no_data p.level) i;
      finished = untold p.finished (has_ended scene p) finished i;
    }))

level_stays : (scene : Scene) (p : PlayerState) → after_settle scene p ≡ player_change [] p → p.level ≡ level_in scene p
level_stays scene p h = sym (ap (λ (x : PlayerChange). x.state.level) h)

end_stays : (scene : Scene) (p : PlayerState) → after_settle scene p ≡ player_change [] p → has_ended scene p ≡ false → p.finished ≡ false
end_stays scene p h = told p.finished (has_ended scene p) (ap (λ (x : PlayerChange). x.state.finished) h)

-- ---- laws

pub settled-still : (st : State) → IsSettledState st → step (core_of st) [] st.element ≡ st
settled-still st h =
    let scene : Scene = scene_in st in
    let same : step (core_of st) [] st.element ≡ record st { element = st.element } = ap (λ (e : ElementState). record st { element = e }) (silent (after_settle scene) st.element (stays scene st.element.player h.level h.finished)) in
    same

-- firing ends like every step
pub settled-fire : (st : State) → IsSettledState st → record st { element = after_fire st.element } ≡ step (core_of st) [] (after_fire st.element)
settled-fire st h =
    let scene : Scene = scene_in st in
    ap (λ (e : ElementState). record st { element = e }) (sym (silent (after_settle scene) (after_fire st.element) (stays scene st.element.player h.level h.finished)))

-- behind each step
pub step-settled : (c : Core) (signals : List Signal) (e : ElementState) → IsSettledState (step c signals e)
step-settled c signals e =
    let told_all : ElementState = after_signals (core_view c) signals e in
    let scene : Scene = scene_at told_all.player.position (core_view c) in
    let p : PlayerState = (after_settle scene told_all.player).state in
    let again = settled-once scene told_all.player in
    record { level = level_stays scene p again; finished = end_stays scene p again }

pub call-settled : (blobs : List (List ℕ)) (x : Call) (st : State) → IsSettledState (after_call blobs x st).state
call-settled blobs x st =
    let m = core_effect blobs st.element.player.position x (core_of st) in
    step-settled m.core m.signals (element_effect x (core_view (core_of st)) st.element).state

work_by : (o : Option CoreEffect) (st new : State) → work_result o st ≡ Some new → IsSettledState new
work_by None st new e = absurd cc
work_by (Some m) st new e = let same : step m.core m.signals st.element ≡ new = cc in subst IsSettledState same (step-settled m.core m.signals st.element)

pub work-settled : (k : ℕ) (st new : State) → after_work k st ≡ Some new → IsSettledState new
work-settled k st new e = work_by (work_effect k (core_of st)) st new e

turn_by : (b : Bool) (x new : State) → IsSettledState x → cond b (Some x) None ≡ Some new → IsSettledState new
turn_by true x new h e = let same : x ≡ new = cc in subst IsSettledState same h
turn_by false x new h e = absurd cc

pub turn-settled : (st new : State) → after_element_turn st ≡ Some new → IsSettledState new
turn-settled st new e = turn_by (is_turn_due st) (step (core_of st) [] (after_own_turn (scene_in st) st.element)) new (step-settled (core_of st) [] (after_own_turn (scene_in st) st.element)) e

fired_by : (o : Option Event) (st : State) (fired : AnswerAndState Event State) → option_map (λ event. record { answer = event; state = without_first st }) o ≡ Some fired → without_first st ≡ fired.state
fired_by None st fired e = absurd cc
fired_by (Some event) st fired e = let same : record { answer = event; state = without_first st } ≡ fired = cc in ap (λ (x : AnswerAndState Event State). x.state) same

pub fired-settled : (st : State) (fired : AnswerAndState Event State) → IsSettledState st → fire_result st ≡ Some fired → fired.state ≡ step (core_of st) [] (after_fire st.element)
fired-settled st fired h e = sym (fired_by (slice_get st.element.queue 0) st fired e) ∙ settled-fire st h

-- ---- what the engine keeps

pub kept-settled : (k : KeptEngine) (st : State) → IsSettled (kept_scene k) k.element → Stands k st → IsSettledState st
kept-settled k st settled h =
    let p : PlayerState = k.element.player in
    let media : all_kept_media k.buffers ≡ media_of_all st.buffers = same_media k.buffers st.buffers h.buffers in
    stood IsSettledState k st h (record {
      level = subst (λ (ms : List (Option Media)). p.level ≡ level_in (scene_at p.position (record { state = k.source.state; media = ms })) p) media (level_stays (kept_scene k) p settled);
      finished = end_stays (kept_scene k) p settled;
    })
