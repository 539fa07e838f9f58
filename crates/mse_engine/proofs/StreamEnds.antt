-- The end of a stream by a call, with its error.
use Rattle.std.proofs.Common.{◌≡◌, ◌∙◌, List, [], ◌∷◌, ◌++◌, Option, Some, None, refl, sym, ap, subst}
use Rattle.mse_calls.specs.declared.answers.Answer.TheVariants.{Done, Refused}
use Rattle.mse_calls.specs.declared.answers.Name.{Name}
use Rattle.mse_calls.specs.declared.calls.EndKind.{EndKind}
use Rattle.mse_calls.specs.declared.events.EventKind.TheVariants as kind
use Rattle.mse_calls.specs.declared.events.Target.TheVariants as target
use Rattle.source_state.specs.Calls.{end_refusal, after_end}
use Rattle.source_state.specs.State.{SourceState}
use Rattle.source_state.specs.declared.answers.AllBuffers.{AllBuffers}
use Rattle.source_state.specs.declared.answers.Changed.{Changed}
use Rattle.source_state.specs.declared.answers.Changed.TheVariants as changed
use Rattle.source_buffers.specs.State.{KeptBuffers, all_kept_media, all_kept_running}
use Rattle.source_buffers.specs.All.{AreSlotsWithin, all_buffers, highest_end_of_all}
use Rattle.element_seek.specs.Playing.{after_fail}
use Rattle.media_element.specs.State.{ElementState}
use Rattle.media_element.specs.Queueing.{event_at, with_events, after_action}
use Rattle.media_element.specs.Settled.{IsSettled}
use Rattle.mse_engine.specs.State.{MediaSource, Core, State, core_of}
use Rattle.mse_engine.specs.Scenes.{SourceView}
use Rattle.mse_engine.specs.Signals.{Signal, Tell, StreamEnded, after_signals, step}
use Rattle.mse_engine.specs.CoreEffects.{CoreEffect, refused_effect, effect_leaving}
use Rattle.mse_engine.specs.SourceCalls.{all_in, change_signals, changed_effect, changed_effect_by, with_end_error, end_effect_by, end_effect}
use Rattle.mse_engine.specs.Calls.{no_element_effect, after_call_by}
use Rattle.mse_engine.specs.Standing.{KeptEngine, Stands, IsStep, IsSteady, kept_engine, kept_scene, view_of}
use Rattle.mse_engine.proofs.StepEnds.{IsEnd, state_at, stood, step_stands, still}
use Rattle.mse_engine.proofs.SourceSteps.{in_state}
use Rattle.mse_engine.proofs.ReplyParts.{signals_join}
use Rattle.mse_engine.proofs.DurationChanges.{changed_done, end_change, end_done, end_within, same_all}

-- ---- the step

abbrev pub end_signals : Changed → EndKind → List Signal
end_signals ch end = ((Tell (event_at target.Source kind.SourceEnded ∷ []) ∷ []) ++ change_signals ch) ++ StreamEnded end ∷ []

module _ (end : EndKind) (source new_source : MediaSource) (buffers : KeptBuffers) (e start told failing new : ElementState) (ch : Changed) (s : SourceState)
    (ready : start ≡ e) (is : new_source ≡ in_state s source)
    (heard : told ≡ after_signals (view_of new_source buffers) (change_signals ch) (with_events (event_at target.Source kind.SourceEnded ∷ []) start))
    (fails : failing ≡ after_action (after_fail end) told) (ends : IsEnd new_source buffers failing new) where
  pub end_stands : (st : State) → Stands (kept_engine source buffers e) st
      → (let m : CoreEffect = with_end_error end (effect_leaving s ((Tell (event_at target.Source kind.SourceEnded ∷ []) ∷ []) ++ change_signals ch) (core_of st)) in Stands (kept_engine new_source buffers new) (step m.core m.signals st.element))
  end_stands st k =
      let v : SourceView = view_of new_source buffers in
      let old : KeptEngine = kept_engine source buffers e in
      let first : List Signal = (Tell (event_at target.Source kind.SourceEnded ∷ []) ∷ []) ++ change_signals ch in
      let told_all : failing ≡ after_signals v (end_signals ch end) start = fails ∙ (ap (after_action (after_fail end)) heard ∙ sym (signals_join v first (StreamEnded end ∷ []) start)) in
      let m : State → CoreEffect = λ x. with_end_error end (effect_leaving s first (core_of x)) in
      stood (λ (x : State). Stands (kept_engine new_source buffers new) (step (m x).core (m x).signals x.element)) old st k
      (step_stands new_source buffers failing new (m (state_at old st.buffers)).core (end_signals ch end) e is k.buffers (told_all ∙ ap (after_signals v (end_signals ch end)) ready) ends)

-- ---- the call

refused_by : (n : Option Name) (name : Name) (end : EndKind) (c : Core) → n ≡ Some name → end_effect_by n end c ≡ refused_effect name c
refused_by None name end c e = absurd cc
refused_by (Some m) name end c e = let is : m ≡ name = cc in ap (λ (x : Name). refused_effect x c) is

done_by : (n : Option Name) (end : EndKind) (c : Core) → n ≡ None → end_effect_by n end c ≡ end_effect_by None end c
done_by None end c e = refl
done_by (Some m) end c e = absurd cc

module _ (end : EndKind) (all : AllBuffers) (source : MediaSource) (buffers : KeptBuffers) (are : all ≡ all_buffers (all_kept_running buffers) (all_kept_media buffers)) where
  told_same : (e : ElementState) (st : State) → Stands (kept_engine source buffers e) st → end_refusal all.updating source.state ≡ end_refusal (all_in (core_of st)).updating st.source.state
  told_same e st k =
      let was : source.state ≡ st.source.state = ap (λ (s : MediaSource). s.state) k.source in
      let told : all ≡ all_in (core_of st) = are ∙ same_all buffers (core_of st) k.buffers in
      λ i. end_refusal (told i).updating (was i)

  pub end_refused : (n : Option Name) (name : Name) (e start : ElementState) (st : State) → n ≡ end_refusal all.updating source.state → n ≡ Some name → start ≡ e
      → IsSettled (kept_scene (kept_engine source buffers e)) e → Stands (kept_engine source buffers e) st
      → IsStep (Refused name) (kept_engine source buffers start) (after_call_by (end_effect end (core_of st)) (no_element_effect st.element) Done)
  end_refused n name e start st answer h ready settled k =
      let here = subst (λ (x : ElementState). Stands (kept_engine source buffers x) (step (core_of st) [] st.element)) (sym ready) (still source buffers e st k settled) in
      let by_name : IsStep (Refused name) (kept_engine source buffers start) (after_call_by (refused_effect name (core_of st)) (no_element_effect st.element) Done) = record { answers = refl; stands = here } in
      let effect : end_effect end (core_of st) ≡ refused_effect name (core_of st) = refused_by (end_refusal (all_in (core_of st)).updating st.source.state) name end (core_of st) (sym (told_same e st k) ∙ (sym answer ∙ h)) in
      subst (λ (m : CoreEffect). IsStep (Refused name) (kept_engine source buffers start) (after_call_by m (no_element_effect st.element) Done)) (sym effect) by_name

  pub end_step : (n : Option Name) (new_source : MediaSource) (e start told failing new : ElementState) (ch : Changed) (st : State) → n ≡ end_refusal all.updating source.state → n ≡ None → start ≡ e
      → ch ≡ (after_end end all.highest_end source.state).answer → new_source ≡ in_state (after_end end all.highest_end source.state).state source
      → told ≡ after_signals (view_of new_source buffers) (change_signals ch) (with_events (event_at target.Source kind.SourceEnded ∷ []) start)
      → failing ≡ after_action (after_fail end) told → IsEnd new_source buffers failing new → Stands (kept_engine source buffers e) st
      → IsStep Done (kept_engine new_source buffers new) (after_call_by (end_effect end (core_of st)) (no_element_effect st.element) Done)
  end_step n new_source e start told failing new ch st answer none ready change is heard fails ends k =
      let a = after_end end all.highest_end source.state in
      let first : List Signal = Tell (event_at target.Source kind.SourceEnded ∷ []) ∷ [] in
      let was : source.state ≡ st.source.state = ap (λ (s : MediaSource). s.state) k.source in
      let told_all : all ≡ all_in (core_of st) = are ∙ same_all buffers (core_of st) k.buffers in
      let here : IsStep Done (kept_engine new_source buffers new) (after_call_by (with_end_error end (effect_leaving a.state (first ++ change_signals ch) (core_of st))) (no_element_effect st.element) Done) = record { answers = refl; stands = end_stands end source new_source buffers e start told failing new ch a.state ready is heard fails ends st k } in
      let done : (name : Name) → ch ≡ changed.Refused name → ⊥ = λ name h. end_done end all.highest_end source.state name (sym change ∙ h) in
      let effect : with_end_error end (effect_leaving a.state (first ++ change_signals ch) (core_of st)) ≡ end_effect end (core_of st) =
      ap (with_end_error end) (sym (changed_done first ch a.state (core_of st) done) ∙ (ap (λ (x : Changed). changed_effect first x a.state (core_of st)) change ∙ (λ i. changed_effect_by first (after_end end (told_all i).highest_end (was i)) (core_of st))))
      ∙ sym (done_by (end_refusal (all_in (core_of st)).updating st.source.state) end (core_of st) (sym (told_same e st k) ∙ (sym answer ∙ none))) in
      subst (λ (m : CoreEffect). IsStep Done (kept_engine new_source buffers new) (after_call_by m (no_element_effect st.element) Done)) effect here

  pub end_steady : (new_source : MediaSource) (e new : ElementState) → new_source ≡ in_state (after_end end all.highest_end source.state).state source
      → IsSteady (kept_engine source buffers e) → IsSettled (kept_scene (kept_engine new_source buffers new)) new → IsSteady (kept_engine new_source buffers new)
  end_steady new_source e new is k settled =
      let change = end_change end all.highest_end source.state in
      let made : new_source.state.made ≡ source.state.made = ap (λ (x : MediaSource). x.state.made) is ∙ change.made in
      let duration : new_source.state.duration ≡ (after_end end all.highest_end source.state).state.duration = ap (λ (x : MediaSource). x.state.duration) is in
      let highest : all.highest_end ≡ highest_end_of_all (all_kept_media buffers) = ap (λ (x : AllBuffers). x.highest_end) are in
      record {
        made = k.made ∙ sym made;
        within = subst (λ d. AreSlotsWithin d (all_kept_media buffers)) (sym duration) (end_within end all.highest_end source.state (all_kept_media buffers) highest k.within);
        settled = settled;
      }
