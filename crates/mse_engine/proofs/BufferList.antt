-- A buffer joins the list of source buffers, and leaves it.
use Rattle.std.proofs.Common.{◌≡◌, ◌∙◌, ℕ, ◌+◌, ◌-◌, ◌<◌, ◌^◌, nat_le, ◌||◌, Bool, true, false, not, cond, List, [], ◌∷◌, ◌++◌, length, Some, None, refl, sym, ap, subst, arith, append_assoc}
use Rattle.std.proofs.lemmas.Bool.Decides.{nat_tests}
use Rattle.mse_base.specs.declared.ticks.Moment.{Moment}
use Rattle.mse_calls.specs.AnswerAndState.{AnswerAndState}
use Rattle.mse_calls.specs.Ready.{is_open}
use Rattle.mse_calls.specs.declared.answers.Answer.TheVariants.{Done, Refused}
use Rattle.mse_calls.specs.declared.answers.Name.{Name}
use Rattle.mse_calls.specs.declared.answers.Name.TheVariants.{QuotaExceeded}
use Rattle.mse_calls.specs.declared.events.Event.{Event}
use Rattle.mse_calls.specs.declared.events.EventKind.TheVariants as kind
use Rattle.mse_calls.specs.declared.events.Target.TheVariants as target
use Rattle.mse_types.specs.declared.answer.Container.{Container}
use Rattle.buffer_state.specs.declared.reply.Reply.{Reply}
use Rattle.buffer_state.specs.State.{Surroundings}
use Rattle.source_state.specs.State.{SourceState, is_listed_in}
use Rattle.source_state.specs.Calls.{has_most_buffers, with_new, after_add_buffer, after_remove_buffer}
use Rattle.source_state.specs.declared.answers.Added.{Added}
use Rattle.source_state.specs.declared.answers.Added.TheVariants as added
use Rattle.source_state.specs.declared.answers.Removed.{Removed}
use Rattle.source_state.specs.declared.answers.Removed.TheVariants as removed
use Rattle.source_buffers.specs.State.{BufferStates, KeptBuffers, AreSlotsStanding, all_kept_media, new_buffer}
use Rattle.source_buffers.specs.Slots.{BuffersResult, IsBuffersAnswer, IsBuffersResult, removal_result}
use Rattle.source_buffers.specs.All.{AreSlotsWithin, AreStillWithin}
use Rattle.media_element.specs.State.{ElementState}
use Rattle.media_element.specs.Queueing.{event_at, events_at, with_events}
use Rattle.media_element.specs.Settled.{IsSettled}
use Rattle.mse_engine.specs.State.{MediaSource, Core, State, core_of, core_source}
use Rattle.mse_engine.specs.Signals.{Signal, Tell, after_signals, step}
use Rattle.mse_engine.specs.Replies.{surroundings_in}
use Rattle.mse_engine.specs.CoreEffects.{CoreEffect, refused_effect, with_state}
use Rattle.mse_engine.specs.SourceCalls.{added_effect, add_effect_by, inactive_events, removal_events, removed_effect, remove_effect_by}
use Rattle.mse_engine.specs.Calls.{no_element_effect, after_call_by}
use Rattle.mse_engine.specs.Standing.{KeptEngine, Stands, IsStep, IsSteady, kept_engine, kept_scene, view_of}
use Rattle.mse_engine.proofs.StepEnds.{IsEnd, state_at, stood, step_stands, still}
use Rattle.mse_engine.proofs.SourceSteps.{in_state}

-- ---- adding, at the source

by_case : {A : Type 0} (P : AnswerAndState A SourceState → Type 0) (b : Bool) (x y : AnswerAndState A SourceState) → P x → P y → P (cond b x y)
by_case P true x y h k = h
by_case P false x y h k = k

abbrev IsSameIfNotAdded : SourceState → AnswerAndState Added SourceState → Type 0
IsSameIfNotAdded s a = (name : Name) → a.answer ≡ added.Refused name → a.state ≡ s

add_leaves : (s : SourceState) → IsSameIfNotAdded s (after_add_buffer s)
add_leaves s = by_case (IsSameIfNotAdded s) (has_most_buffers s) _ _ (λ name e. refl) (by_case (IsSameIfNotAdded s) (not (is_open s.ready)) _ _ (λ name e. refl) (λ name e. absurd cc))

-- a number was given, so that there are few
abbrev IsNewIfAdded : SourceState → AnswerAndState Added SourceState → Type 0
IsNewIfAdded s a = (n : ℕ) → a.answer ≡ added.Number n → a.state ≡ with_new s

add_gives : (s : SourceState) → IsNewIfAdded s (after_add_buffer s)
add_gives s = by_case (IsNewIfAdded s) (has_most_buffers s) _ _ (λ n e. absurd cc) (by_case (IsNewIfAdded s) (not (is_open s.ready)) _ _ (λ n e. absurd cc) (λ n e. refl))

few_by : (a b : Bool) (x y : AnswerAndState Added SourceState) (n : ℕ) (name : Name) → x.answer ≡ added.Refused name → (cond (a || b) x y).answer ≡ added.Number n → b ≡ false
few_by true b x y n name r e = absurd cc
few_by false true x y n name r e = absurd cc
few_by false false x y n name r e = refl

below : (made : ℕ) → nat_le (2 ^ 32 - 1) made ≡ false → made + 1 < 2 ^ 32
below made h = grind (arith, nat_tests, h)

pub add_few : (s : SourceState) (n : ℕ) → added.Number n ≡ (after_add_buffer s).answer → s.made + 1 < 2 ^ 32
add_few s n e = below s.made (few_by (nat_le 16 (length s.listed)) (nat_le (2 ^ 32 - 1) s.made) _ _ n QuotaExceeded refl (sym e))

-- ---- adding

added_refused : (container : Container) (x : Added) (name : Name) (s : SourceState) (c : Core) → x ≡ added.Refused name → added_effect container x s c ≡ refused_effect name c
added_refused container (added.Refused n) name s c e = let is : n ≡ name = cc in ap (λ (m : Name). refused_effect m c) is
added_refused container (added.Number n) name s c e = absurd cc

abbrev add_signals : List Signal
add_signals = Tell (event_at target.SourceBuffers kind.AddSourceBuffer ∷ []) ∷ []

abbrev state_with_number : Container → SourceState → Core → Core
state_with_number container s c = record { source = with_state s c.source; buffers = c.buffers ++ Some (new_buffer c.source.gap container) ∷ [] }

added_done : (container : Container) (x : Added) (n : ℕ) (s : SourceState) (c : Core) → x ≡ added.Number n → added_effect container x s c ≡ record { refused = None; core = state_with_number container s c; signals = add_signals }
added_done container (added.Refused name) n s c e = absurd cc
added_done container (added.Number m) n s c e = refl

module _ (container : Container) (source new_source : MediaSource) (buffers : KeptBuffers) (e start : ElementState) (x : Added) (ready : start ≡ e)
    (answer : x ≡ (after_add_buffer source.state).answer) (is : new_source ≡ in_state (after_add_buffer source.state).state source) where
  add_meant : (st : State) → Stands (kept_engine source buffers e) st → added_effect container x (after_add_buffer source.state).state (core_of st) ≡ add_effect_by (after_add_buffer st.source.state) container (core_of st)
  add_meant st k =
      let was : source.state ≡ st.source.state = ap (λ (s : MediaSource). s.state) k.source in
      ap (λ (y : Added). added_effect container y (after_add_buffer source.state).state (core_of st)) answer ∙ (λ i. add_effect_by (after_add_buffer (was i)) container (core_of st))

  pub add_unchanged : (name : Name) → x ≡ added.Refused name → kept_engine new_source buffers start ≡ kept_engine source buffers e
  add_unchanged name h =
      let state : (after_add_buffer source.state).state ≡ source.state = add_leaves source.state name (sym answer ∙ h) in
      let as_before : new_source ≡ source = is ∙ (λ i. in_state (state i) source) in
      λ i. kept_engine (as_before i) buffers (ready i)

  pub add_refused : (name : Name) (st : State) → x ≡ added.Refused name → IsSettled (kept_scene (kept_engine source buffers e)) e → Stands (kept_engine source buffers e) st
      → IsStep (Refused name) (kept_engine new_source buffers start) (after_call_by (add_effect_by (after_add_buffer st.source.state) container (core_of st)) (no_element_effect st.element) Done)
  add_refused name st h settled k =
      let here = subst (λ (y : KeptEngine). Stands y (step (core_of st) [] st.element)) (sym (add_unchanged name h)) (still source buffers e st k settled) in
      let by_name : IsStep (Refused name) (kept_engine new_source buffers start) (after_call_by (refused_effect name (core_of st)) (no_element_effect st.element) Done) = record { answers = refl; stands = here } in
      subst (λ (m : CoreEffect). IsStep (Refused name) (kept_engine new_source buffers start) (after_call_by m (no_element_effect st.element) Done)) (sym (added_refused container x name (after_add_buffer source.state).state (core_of st) h) ∙ add_meant st k) by_name

  pub add_step : (n : ℕ) (grew : KeptBuffers) (told new : ElementState) (st : State) → x ≡ added.Number n
      → ((bs : BufferStates) → AreSlotsStanding buffers bs → AreSlotsStanding grew (bs ++ Some (new_buffer source.gap container) ∷ []))
      → told ≡ with_events (event_at target.SourceBuffers kind.AddSourceBuffer ∷ []) start → IsEnd new_source grew told new → Stands (kept_engine source buffers e) st
      → IsStep Done (kept_engine new_source grew new) (after_call_by (add_effect_by (after_add_buffer st.source.state) container (core_of st)) (no_element_effect st.element) Done)
  add_step n grew told new st h stand heard ends k =
      let s = (after_add_buffer source.state).state in
      let old : KeptEngine = kept_engine source buffers e in
      let m : State → CoreEffect = λ y. record { refused = None; core = state_with_number container s (core_of y); signals = add_signals } in
      let stands : Stands (kept_engine new_source grew new) (step (m st).core add_signals st.element) =
      stood (λ (y : State). Stands (kept_engine new_source grew new) (step (m y).core add_signals y.element)) old st k
      (step_stands new_source grew told new (m (state_at old st.buffers)).core add_signals e is (stand st.buffers k.buffers) (heard ∙ ap (with_events (event_at target.SourceBuffers kind.AddSourceBuffer ∷ [])) ready) ends) in
      let here : IsStep Done (kept_engine new_source grew new) (after_call_by (m st) (no_element_effect st.element) Done) = record { answers = refl; stands = stands } in
      subst (λ (m : CoreEffect). IsStep Done (kept_engine new_source grew new) (after_call_by m (no_element_effect st.element) Done)) (sym (added_done container x n s (core_of st) h) ∙ add_meant st k) here

  pub add_steady : (n : ℕ) (grew : KeptBuffers) (new : ElementState) → x ≡ added.Number n → length grew ≡ length buffers + 1
      → ((d : Moment) → AreSlotsWithin d (all_kept_media buffers) → AreSlotsWithin d (all_kept_media grew))
      → IsSteady (kept_engine source buffers e) → IsSettled (kept_scene (kept_engine new_source grew new)) new → IsSteady (kept_engine new_source grew new)
  add_steady n grew new h more within k settled =
      let state : new_source.state ≡ with_new source.state = ap (λ (y : MediaSource). y.state) is ∙ add_gives source.state n (sym answer ∙ h) in
      let made : source.state.made + 1 ≡ new_source.state.made = sym (ap (λ (s : SourceState). s.made) state) in
      let duration : source.state.duration ≡ new_source.state.duration = sym (ap (λ (s : SourceState). s.duration) state) in
      record {
        made = more ∙ (ap (λ m. m + 1) k.made ∙ made);
        within = within new_source.state.duration (subst (λ (d : Moment). AreSlotsWithin d (all_kept_media buffers)) duration k.within);
        settled = settled;
      }

-- ---- removing

-- what is told in three parts, in order
pub removal_told : (k : ℕ) (r : Reply) (active : Bool) (start e1 e2 e3 : ElementState)
    → e1 ≡ with_events (events_at (target.Buffer k) r.events) start → e2 ≡ with_events (inactive_events active) e1 → e3 ≡ with_events (event_at target.SourceBuffers kind.RemoveSourceBuffer ∷ []) e2
    → e3 ≡ with_events (removal_events active) (with_events (events_at (target.Buffer k) r.events) start)
removal_told k r active start e1 e2 e3 a b d =
    let last : List Event = event_at target.SourceBuffers kind.RemoveSourceBuffer ∷ [] in
    let all : e3 ≡ with_events last (with_events (inactive_events active) (with_events (events_at (target.Buffer k) r.events) start)) = d ∙ (ap (with_events last) b ∙ ap (λ (x : ElementState). with_events last (with_events (inactive_events active) x)) a) in
    all ∙ (λ i. record { player = start.player; queue = append_assoc (start.queue ++ events_at (target.Buffer k) r.events) (inactive_events active) last i })

abbrev IsSameIfNotRemoved : SourceState → AnswerAndState Removed SourceState → Type 0
IsSameIfNotRemoved s a = ((name : Name) → a.answer ≡ removed.Refused name → a.state ≡ s) × ((a.state.made ≡ s.made) × (a.state.duration ≡ s.duration))

remove_leaves : (k : ℕ) (s : SourceState) → IsSameIfNotRemoved s (after_remove_buffer k s)
remove_leaves k s = by_case (IsSameIfNotRemoved s) (not (is_listed_in k s.listed)) _ _ (λ name e. refl, (refl, refl)) (λ name e. absurd cc, (refl, refl))

removed_refused : (k : ℕ) (r : BuffersResult) (x : Removed) (name : Name) (s : SourceState) (c : Core) → x ≡ removed.Refused name → removed_effect k r x s c ≡ refused_effect name c
removed_refused k r (removed.Refused n) name s c e = let is : n ≡ name = cc in ap (λ (m : Name). refused_effect m c) is
removed_refused k r (removed.Gone active) name s c e = absurd cc

abbrev removal_effect : ℕ → BuffersResult → Bool → SourceState → Core → CoreEffect
removal_effect k r active s c = record {
  refused = None;
  core = record { source = with_state s c.source; buffers = r.buffers };
  signals = Tell (events_at (target.Buffer k) r.reply.events) ∷ Tell (removal_events active) ∷ [];
}

removed_done : (k : ℕ) (r : BuffersResult) (x : Removed) (active : Bool) (s : SourceState) (c : Core) → x ≡ removed.Gone active → removed_effect k r x s c ≡ removal_effect k r active s c
removed_done k r (removed.Refused name) active s c e = absurd cc
removed_done k r (removed.Gone b) active s c e = let is : b ≡ active = cc in ap (λ (y : Bool). removal_effect k r y s c) is

module _ (k : ℕ) (source new_source : MediaSource) (buffers : KeptBuffers) (e start : ElementState) (x : Removed) (ready : start ≡ e)
    (answer : x ≡ (after_remove_buffer k source.state).answer) (is : new_source ≡ in_state (after_remove_buffer k source.state).state source) where
  remove_meant : (st : State) → Stands (kept_engine source buffers e) st → removed_effect k (removal_result k (surroundings_in k (core_of st).source) st.buffers) x (after_remove_buffer k source.state).state (core_of st) ≡ remove_effect_by k (after_remove_buffer k st.source.state) (core_of st)
  remove_meant st h =
      let was : source.state ≡ st.source.state = ap (λ (s : MediaSource). s.state) h.source in
      let r = removal_result k (surroundings_in k (core_of st).source) st.buffers in
      ap (λ (y : Removed). removed_effect k r y (after_remove_buffer k source.state).state (core_of st)) answer ∙ (λ i. remove_effect_by k (after_remove_buffer k (was i)) (core_of st))

  pub remove_unchanged : (name : Name) → x ≡ removed.Refused name → kept_engine new_source buffers start ≡ kept_engine source buffers e
  remove_unchanged name h =
      let state : (after_remove_buffer k source.state).state ≡ source.state = (remove_leaves k source.state).0 name (sym answer ∙ h) in
      let as_before : new_source ≡ source = is ∙ (λ i. in_state (state i) source) in
      λ i. kept_engine (as_before i) buffers (ready i)

  pub remove_refused : (name : Name) (st : State) → x ≡ removed.Refused name → IsSettled (kept_scene (kept_engine source buffers e)) e → Stands (kept_engine source buffers e) st
      → IsStep (Refused name) (kept_engine new_source buffers start) (after_call_by (remove_effect_by k (after_remove_buffer k st.source.state) (core_of st)) (no_element_effect st.element) Done)
  remove_refused name st h settled s =
      let here = subst (λ (y : KeptEngine). Stands y (step (core_of st) [] st.element)) (sym (remove_unchanged name h)) (still source buffers e st s settled) in
      let by_name : IsStep (Refused name) (kept_engine new_source buffers start) (after_call_by (refused_effect name (core_of st)) (no_element_effect st.element) Done) = record { answers = refl; stands = here } in
      subst (λ (m : CoreEffect). IsStep (Refused name) (kept_engine new_source buffers start) (after_call_by m (no_element_effect st.element) Done)) (sym (removed_refused k (removal_result k (surroundings_in k (core_of st).source) st.buffers) x name (after_remove_buffer k source.state).state (core_of st) h) ∙ remove_meant st s) by_name

  pub remove_step : (active : Bool) (r : Reply) (around : Surroundings) (left : KeptBuffers) (told new : ElementState) (st : State) → x ≡ removed.Gone active
      → around ≡ surroundings_in k (core_source source start) → IsBuffersAnswer buffers r left (removal_result k around)
      → told ≡ with_events (removal_events active) (with_events (events_at (target.Buffer k) r.events) start) → IsEnd new_source left told new → Stands (kept_engine source buffers e) st
      → IsStep Done (kept_engine new_source left new) (after_call_by (remove_effect_by k (after_remove_buffer k st.source.state) (core_of st)) (no_element_effect st.element) Done)
  remove_step active r around left told new st h at answers heard ends stands =
      let s = (after_remove_buffer k source.state).state in
      let old : KeptEngine = kept_engine source buffers e in
      let meant : BuffersResult = removal_result k (surroundings_in k (core_source st.source st.element)) st.buffers in
      let there : around ≡ surroundings_in k (core_source st.source st.element) = at ∙ (λ i. surroundings_in k (core_source (stands.source i) ((ready ∙ stands.element) i))) in
      let found : IsBuffersResult r left meant = subst (λ (y : Surroundings). IsBuffersResult r left (removal_result k y st.buffers)) there (answers st.buffers stands.buffers) in
      let m : State → CoreEffect = λ y. removal_effect k meant active s (core_of y) in
      let told_all : told ≡ after_signals (view_of new_source left) (m st).signals e = heard ∙ (λ i. with_events (removal_events active) (with_events (events_at (target.Buffer k) (found.replies i).events) (ready i))) in
      let behind : Stands (kept_engine new_source left new) (step (m st).core (m st).signals st.element) =
      stood (λ (y : State). Stands (kept_engine new_source left new) (step (m y).core (m y).signals y.element)) old st stands
      (step_stands new_source left told new (m (state_at old st.buffers)).core (m st).signals e is found.stand told_all ends) in
      let here : IsStep Done (kept_engine new_source left new) (after_call_by (m st) (no_element_effect st.element) Done) = record { answers = refl; stands = behind } in
      subst (λ (y : CoreEffect). IsStep Done (kept_engine new_source left new) (after_call_by y (no_element_effect st.element) Done)) (sym (removed_done k meant x active s (core_of st) h) ∙ remove_meant st stands) here

  pub remove_steady : (r : Reply) (d : Moment) (left : KeptBuffers) (new : ElementState) → d ≡ source.state.duration → r.duration ≡ d → AreStillWithin d buffers r left → length left ≡ length buffers
      → IsSteady (kept_engine source buffers e) → IsSettled (kept_scene (kept_engine new_source left new)) new → IsSteady (kept_engine new_source left new)
  remove_steady r d left new long lasts stays len h settled =
      let leaves = remove_leaves k source.state in
      let made : new_source.state.made ≡ source.state.made = ap (λ (y : MediaSource). y.state.made) is ∙ leaves.1.0 in
      let duration : r.duration ≡ new_source.state.duration = lasts ∙ (long ∙ sym (ap (λ (y : MediaSource). y.state.duration) is ∙ leaves.1.1)) in
      record {
        made = len ∙ (h.made ∙ sym made);
        within = subst (λ (y : Moment). AreSlotsWithin y (all_kept_media left)) duration (stays (subst (λ (y : Moment). AreSlotsWithin y (all_kept_media buffers)) (sym long) h.within));
        settled = settled;
      }
