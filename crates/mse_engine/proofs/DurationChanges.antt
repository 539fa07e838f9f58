-- What comes of the duration, on setting and at the end of a stream.
use Rattle.std.proofs.Common.{◌≡◌, ◌∙◌, ◌||◌, ℤ, pos, ◌≤ℤ◌, Bool, true, false, not, cond, List, [], ◌++◌, Option, Some, None, refl, sym, ap, subst, arith}
use Rattle.std.specs.Prelude.{unwrap_or}
use Rattle.std.specs.Int.{int_max}
use Rattle.std.proofs.lemmas.Int.{ints}
use Rattle.mse_base.specs.declared.span.Span.{Span}
use Rattle.mse_base.specs.declared.ticks.Moment.{Moment}
use Rattle.mse_base.specs.declared.ticks.Moment.TheVariants.{Nan, At, Infinite}
use Rattle.mse_base.specs.Moments.{is_nan, is_after, is_same_moment, greater_moment}
use Rattle.mse_calls.specs.AnswerAndState.{AnswerAndState}
use Rattle.mse_calls.specs.Ready.{is_open}
use Rattle.mse_calls.specs.declared.answers.Answer.TheVariants.{Done, Refused}
use Rattle.mse_calls.specs.declared.answers.Name.{Name}
use Rattle.mse_calls.specs.declared.answers.Name.TheVariants.{InvalidState, TypeError}
use Rattle.mse_calls.specs.declared.answers.Ready.TheVariants.{Ended}
use Rattle.mse_calls.specs.declared.calls.EndKind.{EndKind}
use Rattle.mse_calls.specs.declared.calls.EndKind.TheVariants.{Plain, Network, Decode}
use Rattle.track_buffers.specs.Media.{Media}
use Rattle.source_state.specs.State.{SourceState}
use Rattle.source_state.specs.Calls.{answer_and_state, in_ready, past_frames, has_frame_after, after_duration_change, after_set_duration, after_end}
use Rattle.source_state.specs.Seekable.{seekable_span}
use Rattle.source_state.specs.declared.answers.AllBuffers.{AllBuffers}
use Rattle.source_state.specs.declared.answers.Changed.{Changed}
use Rattle.source_state.specs.declared.answers.Changed.TheVariants as changed
use Rattle.source_buffers.specs.State.{KeptBuffers, AreSlotsStanding, all_kept_media, all_kept_running}
use Rattle.source_buffers.specs.All.{AreSlotsWithin, all_buffers, highest_end_of_all}
use Rattle.source_buffers.proofs.KeptParts.{same_media, same_running}
use Rattle.source_buffers.proofs.SlotDurations.{all_later}
use Rattle.source_buffers.proofs.Highest.{all_bounded, none_stored}
use Rattle.media_element.specs.State.{ElementState}
use Rattle.media_element.specs.Settled.{IsSettled}
use Rattle.media_element.specs.DurationChange.{after_element_change}
use Rattle.mse_engine.specs.State.{MediaSource, Core, State, core_of}
use Rattle.mse_engine.specs.Scenes.{SourceView}
use Rattle.mse_engine.specs.Signals.{Signal, after_signals, step}
use Rattle.mse_engine.specs.CoreEffects.{CoreEffect, refused_effect, effect_leaving}
use Rattle.mse_engine.specs.SourceCalls.{all_in, change_signals, changed_effect, changed_effect_by, set_duration_effect}
use Rattle.mse_engine.specs.Calls.{no_element_effect, after_call_by}
use Rattle.mse_engine.specs.Standing.{KeptEngine, Stands, IsStep, IsSteady, kept_engine, kept_scene, view_of}
use Rattle.mse_engine.proofs.StepEnds.{IsEnd, still}
use Rattle.mse_engine.proofs.SourceSteps.{in_state, source_step}

by_case : (P : AnswerAndState Changed SourceState → Type 0) (b : Bool) (x y : AnswerAndState Changed SourceState) → P x → P y → P (cond b x y)
by_case P true x y h k = h
by_case P false x y h k = k

-- ---- at the source

pub record IsChange (s : SourceState) (a : AnswerAndState Changed SourceState) : Type 0 where
  pub refused : (name : Name) → a.answer ≡ changed.Refused name → a.state ≡ s
  pub now : (d : Moment) → a.answer ≡ changed.To d → a.state.duration ≡ d
  pub made : a.state.made ≡ s.made

is_same : (s : SourceState) → IsChange s (answer_and_state changed.Same s)
is_same s = record { refused = λ name e. refl; now = λ d e. absurd cc; made = refl }

is_refused : (name : Name) (s : SourceState) → IsChange s (answer_and_state (changed.Refused name) s)
is_refused name s = record { refused = λ n e. refl; now = λ d e. absurd cc; made = refl }

is_new : (d : Moment) (s : SourceState) → IsChange s (answer_and_state (changed.To d) (record s { duration = d }))
is_new d s = record { refused = λ name e. absurd cc; now = λ x e. cc; made = refl }

duration_change : (d : Moment) (s : SourceState) → IsChange s (after_duration_change d s)
duration_change d s = by_case (IsChange s) (is_same_moment d s.duration) _ _ (is_same s) (is_new d s)

pub set_duration_change : (d : Moment) (all : AllBuffers) (s : SourceState) → IsChange s (after_set_duration d all s)
set_duration_change d all s =
    let last = duration_change (past_frames all.highest_end d) s in
    let invalid = is_refused InvalidState s in
    by_case (IsChange s) (is_nan d || is_after (pos 0) d) _ _ (is_refused TypeError s) (by_case (IsChange s) (not (is_open s.ready)) _ _ invalid (by_case (IsChange s) all.updating _ _ invalid (by_case (IsChange s) (is_same_moment d s.duration) _ _ (is_same s) (by_case (IsChange s) (has_frame_after all.highest_start d) _ _ invalid last))))

pub end_change : (kind : EndKind) (highest : Option ℤ) (s : SourceState) → IsChange (in_ready Ended s) (after_end kind highest s)
end_change Plain highest s = duration_change (At (unwrap_or highest (pos 0))) (in_ready Ended s)
end_change Network highest s = is_same (in_ready Ended s)
end_change Decode highest s = is_same (in_ready Ended s)

-- an end is not refused
pub end_done : (kind : EndKind) (highest : Option ℤ) (s : SourceState) (name : Name) → (after_end kind highest s).answer ≡ changed.Refused name → ⊥
end_done Plain highest s name = by_case (λ a. a.answer ≡ changed.Refused name → ⊥) (is_same_moment (At (unwrap_or highest (pos 0))) s.duration) _ _ (λ e. absurd cc) (λ e. absurd cc)
end_done Network highest s name = λ e. absurd cc
end_done Decode highest s name = λ e. absurd cc

-- ---- frames within the duration

duration_within : (d : Moment) (s : SourceState) (ms : List (Option Media)) → AreSlotsWithin s.duration ms → AreSlotsWithin d ms → AreSlotsWithin (after_duration_change d s).state.duration ms
duration_within d s ms h k = by_case (λ a. AreSlotsWithin a.state.duration ms) (is_same_moment d s.duration) _ _ h k

at_least : (d : Moment) (end : ℤ) (ms : List (Option Media)) → AreSlotsWithin (At end) ms → AreSlotsWithin (greater_moment d end) ms
at_least Nan end ms h = h
at_least (At d) end ms h = let above : end ≤ℤ int_max d end = grind (arith, ints) in all_later (At end) (At (int_max d end)) ms above h
at_least Infinite end ms h = all_later (At end) Infinite ms tt h

past_within : (highest : Option ℤ) (d : Moment) (ms : List (Option Media)) → highest_end_of_all ms ≡ highest → AreSlotsWithin (past_frames highest d) ms
past_within None d ms e = all_later Nan d ms tt (none_stored ms e)
past_within (Some end) d ms e = at_least d end ms (all_bounded ms end e)

ended_within : (highest : Option ℤ) (ms : List (Option Media)) → highest_end_of_all ms ≡ highest → AreSlotsWithin (At (unwrap_or highest (pos 0))) ms
ended_within None ms e = all_later Nan (At (pos 0)) ms tt (none_stored ms e)
ended_within (Some end) ms e = all_bounded ms end e

pub set_duration_within : (d : Moment) (all : AllBuffers) (s : SourceState) (ms : List (Option Media)) → all.highest_end ≡ highest_end_of_all ms → AreSlotsWithin s.duration ms → AreSlotsWithin (after_set_duration d all s).state.duration ms
set_duration_within d all s ms e h =
    let P : AnswerAndState Changed SourceState → Type 0 = λ a. AreSlotsWithin a.state.duration ms in
    let last = duration_within (past_frames all.highest_end d) s ms h (past_within all.highest_end d ms (sym e)) in
    by_case P (is_nan d || is_after (pos 0) d) _ _ h (by_case P (not (is_open s.ready)) _ _ h (by_case P all.updating _ _ h (by_case P (is_same_moment d s.duration) _ _ h (by_case P (has_frame_after all.highest_start d) _ _ h last))))

pub end_within : (kind : EndKind) (highest : Option ℤ) (s : SourceState) (ms : List (Option Media)) → highest ≡ highest_end_of_all ms → AreSlotsWithin s.duration ms → AreSlotsWithin (after_end kind highest s).state.duration ms
end_within Plain highest s ms e h = duration_within (At (unwrap_or highest (pos 0))) (in_ready Ended s) ms h (ended_within highest ms (sym e))
end_within Network highest s ms e h = h
end_within Decode highest s ms e h = h

-- ---- at the element

-- it seeks only where the duration is a time, and then what can be sought does not depend on what is buffered
fall_by : (d : Moment) (live : Option Span) (first last : Option ℤ) (ended : Bool) (span : Option Span) (e : ElementState)
    → after_element_change d (record { duration = d; ended = ended; span = span; seekable = seekable_span d live None None }) e ≡ after_element_change d (record { duration = d; ended = ended; span = span; seekable = seekable_span d live first last }) e
fall_by Nan live first last ended span e = refl
fall_by (At d) live first last ended span e = refl
fall_by Infinite live first last ended span e = refl

pub fall_alike : (d : Moment) (live : Option Span) (first last : Option ℤ) (ended : Bool) (span : Option Span) (e : ElementState) (duration : Moment) → d ≡ duration
    → after_element_change duration (record { duration = d; ended = ended; span = span; seekable = seekable_span d live None None }) e ≡ after_element_change duration (record { duration = d; ended = ended; span = span; seekable = seekable_span d live first last }) e
fall_alike d live first last ended span e duration is = subst (λ (x : Moment). after_element_change x (record { duration = d; ended = ended; span = span; seekable = seekable_span d live None None }) e ≡ after_element_change x (record { duration = d; ended = ended; span = span; seekable = seekable_span d live first last }) e) is (fall_by d live first last ended span e)

pub change_unheard : (v : SourceView) (ch : Changed) (e : ElementState) → ((d : Moment) → ch ≡ changed.To d → ⊥) → e ≡ after_signals v (change_signals ch) e
change_unheard v (changed.Refused name) e h = refl
change_unheard v changed.Same e h = refl
change_unheard v (changed.To d) e h = absurd (h d refl)

-- ---- the step

pub changed_done : (first : List Signal) (ch : Changed) (s : SourceState) (c : Core) → ((name : Name) → ch ≡ changed.Refused name → ⊥) → changed_effect first ch s c ≡ effect_leaving s (first ++ change_signals ch) c
changed_done first (changed.Refused name) s c h = absurd (h name refl)
changed_done first changed.Same s c h = refl
changed_done first (changed.To d) s c h = refl

changed_refused : (first : List Signal) (ch : Changed) (name : Name) (s : SourceState) (c : Core) → ch ≡ changed.Refused name → changed_effect first ch s c ≡ refused_effect name c
changed_refused first (changed.Refused n) name s c e = let is : n ≡ name = cc in ap (λ (x : Name). refused_effect x c) is
changed_refused first changed.Same name s c e = absurd cc
changed_refused first (changed.To d) name s c e = absurd cc

-- what the source is told of the buffers is what the machine's source is told
pub same_all : (ks : KeptBuffers) (c : Core) → AreSlotsStanding ks c.buffers → all_buffers (all_kept_running ks) (all_kept_media ks) ≡ all_in c
same_all ks c all = let running = same_running ks c.buffers all in let media = same_media ks c.buffers all in λ i. all_buffers (running i) (media i)

module _ (d : Moment) (all : AllBuffers) (source new_source : MediaSource) (buffers : KeptBuffers) (e start : ElementState) (ch : Changed)
    (are : all ≡ all_buffers (all_kept_running buffers) (all_kept_media buffers)) (ready : start ≡ e)
    (answer : ch ≡ (after_set_duration d all source.state).answer) (is : new_source ≡ in_state (after_set_duration d all source.state).state source) where
  meant : (st : State) → Stands (kept_engine source buffers e) st → changed_effect [] ch (after_set_duration d all source.state).state (core_of st) ≡ set_duration_effect d (core_of st)
  meant st k =
      let was : source.state ≡ st.source.state = ap (λ (s : MediaSource). s.state) k.source in
      let told : all ≡ all_in (core_of st) = are ∙ same_all buffers (core_of st) k.buffers in
      ap (λ (x : Changed). changed_effect [] x (after_set_duration d all source.state).state (core_of st)) answer ∙ (λ i. changed_effect_by [] (after_set_duration d (told i) (was i)) (core_of st))

  pub duration_step : (told new : ElementState) (st : State) → ((name : Name) → ch ≡ changed.Refused name → ⊥)
      → told ≡ after_signals (view_of new_source buffers) (change_signals ch) start → IsEnd new_source buffers told new → Stands (kept_engine source buffers e) st
      → IsStep Done (kept_engine new_source buffers new) (after_call_by (set_duration_effect d (core_of st)) (no_element_effect st.element) Done)
  duration_step told new st done heard end k =
      let began : Stands (kept_engine source buffers start) st = subst (λ (x : ElementState). Stands (kept_engine source buffers x) st) (sym ready) k in
      let a = after_set_duration d all source.state in
      let here : IsStep Done (kept_engine new_source buffers new) (after_call_by (effect_leaving a.state (change_signals ch) (core_of st)) (no_element_effect st.element) Done) = record { answers = refl; stands = source_step source new_source buffers start told new a.state (change_signals ch) st is began heard end } in
      subst (λ (m : CoreEffect). IsStep Done (kept_engine new_source buffers new) (after_call_by m (no_element_effect st.element) Done)) (sym (changed_done [] ch a.state (core_of st) done) ∙ meant st k) here

  pub duration_unchanged : (name : Name) → ch ≡ changed.Refused name → kept_engine new_source buffers start ≡ kept_engine source buffers e
  duration_unchanged name h =
      let state : (after_set_duration d all source.state).state ≡ source.state = (set_duration_change d all source.state).refused name (sym answer ∙ h) in
      let as_before : new_source ≡ source = is ∙ (λ i. in_state (state i) source) in
      λ i. kept_engine (as_before i) buffers (ready i)

  pub duration_refused : (name : Name) (st : State) → ch ≡ changed.Refused name → IsSettled (kept_scene (kept_engine source buffers e)) e → Stands (kept_engine source buffers e) st
      → IsStep (Refused name) (kept_engine new_source buffers start) (after_call_by (set_duration_effect d (core_of st)) (no_element_effect st.element) Done)
  duration_refused name st h settled k =
      let here = subst (λ (x : KeptEngine). Stands x (step (core_of st) [] st.element)) (sym (duration_unchanged name h)) (still source buffers e st k settled) in
      let by_name : IsStep (Refused name) (kept_engine new_source buffers start) (after_call_by (refused_effect name (core_of st)) (no_element_effect st.element) Done) = record { answers = refl; stands = here } in
      subst (λ (m : CoreEffect). IsStep (Refused name) (kept_engine new_source buffers start) (after_call_by m (no_element_effect st.element) Done)) (sym (changed_refused [] ch name (after_set_duration d all source.state).state (core_of st) h) ∙ meant st k) by_name

  pub duration_steady : (new : ElementState) → IsSteady (kept_engine source buffers e) → IsSettled (kept_scene (kept_engine new_source buffers new)) new → IsSteady (kept_engine new_source buffers new)
  duration_steady new k settled =
      let change = set_duration_change d all source.state in
      let made : new_source.state.made ≡ source.state.made = ap (λ (x : MediaSource). x.state.made) is ∙ change.made in
      let duration : new_source.state.duration ≡ (after_set_duration d all source.state).state.duration = ap (λ (x : MediaSource). x.state.duration) is in
      let highest : all.highest_end ≡ highest_end_of_all (all_kept_media buffers) = ap (λ (x : AllBuffers). x.highest_end) are in
      record {
        made = k.made ∙ sym made;
        within = subst (λ (x : Moment). AreSlotsWithin x (all_kept_media buffers)) (sym duration) (set_duration_within d all source.state (all_kept_media buffers) highest k.within);
        settled = settled;
      }
