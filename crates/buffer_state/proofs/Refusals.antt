-- The refusals before anything comes of a call are those of the call.
use Rattle.std.proofs.Common.{◌≡◌, ℤ, Bool, true, false, cond, ◌&&◌, [], ◌∷◌, ◌∙◌, length, refl, sym, ap}
use Rattle.std.specs.Prelude.{Option, Some, None, not}
use Rattle.mse_base.specs.declared.ticks.Moment.{Moment}
use Rattle.mse_base.specs.declared.ticks.Moment.TheVariants.{Nan, At, Infinite}
use Rattle.mse_calls.specs.declared.answers.Name.{Name}
use Rattle.mse_calls.specs.declared.answers.Name.TheVariants.{InvalidState, NotSupported, QuotaExceeded, TypeError, NoSuchBytes}
use Rattle.mse_calls.specs.declared.calls.Mode.{Mode}
use Rattle.mse_calls.specs.declared.events.EventKind.TheVariants.{UpdateStart}
use Rattle.buffer_state.specs.declared.running.Running.TheVariants.{Removal}
use Rattle.mse_types.specs.declared.answer.TypeAnswer.{TypeAnswer}
use Rattle.mse_types.specs.declared.answer.TypeAnswer.TheVariants.{Supported, Empty, Unsupported}
use Rattle.track_buffers.specs.Media.{Media}
use Rattle.track_buffers.specs.Frames.{flush_result, media_after_eviction}
use Rattle.track_buffers.specs.Settings.{with_mode, with_offset, with_window_start, with_window_end}
use Rattle.buffer_state.specs.State.{Feed, Content, Surroundings, AppendInput, is_updating, feed_running, feed_with, phase_in, ready_in}
use Rattle.mse_calls.specs.Ready.{is_ended}
use Rattle.buffer_state.specs.Replies.{CallResult, refused_result, early_refusal, result_with, event_reply}
use Rattle.buffer_state.specs.AllCalls.{CallView, SetMode, SetOffset, SetWindowStart, SetWindowEnd, Remove, Append, Abort, ChangeType, IsForQuota, early_name, refusal_of_call, result_of_call}
use Rattle.buffer_state.specs.Calls.{unless_refused, is_sequence, is_in_media, settings_result, settings_result_by_phase, mode_result, offset_result, window_start_refusal, window_start_result, window_end_refusal, window_end_result, remove_refusal, remove_result, append_refusal, append_result, append_result_after_eviction, is_full, with_media, abort_refusal, abort_result, abort_result_after_flush, change_type_refusal_by_answer, change_type_result_by_answer, change_type_result_after_flush}

-- the names are those by which a call is refused before anything comes of it, both ways
abbrev AreRefusalsTold : (Surroundings → Feed → Content → Option Name) → (Surroundings → Feed → Content → CallResult) → Type 0
AreRefusalsTold refusal call =
    (a : Surroundings) (f : Feed) (c : Content) (name : Name)
    → (refusal a f c ≡ Some name → call a f c ≡ refused_result name false a f c)
    × (call a f c ≡ refused_result name false a f c → refusal a f c ≡ Some name)

-- the call is no append of bytes that there are, which alone is refused for the quota
abbrev IsNoAppend : CallView → Type 0
IsNoAppend (Append (Some input)) = ⊥
IsNoAppend other = Unit {0}

-- the name of a result
abbrev name_of : CallResult → Option Name
name_of r = r.reply.refused

refused_by : (o : Option Name) (done : CallResult) (a : Surroundings) (f : Feed) (c : Content) (name : Name) → o ≡ Some name → unless_refused o done a f c ≡ refused_result name false a f c
refused_by o done a f c name is = ap (λ (x : Option Name). unless_refused x done a f c) is

told_by : (o : Option Name) (done : CallResult) (a : Surroundings) (f : Feed) (c : Content) (name : Name) → (o ≡ None → done ≡ refused_result name false a f c → ⊥) → unless_refused o done a f c ≡ refused_result name false a f c → o ≡ Some name
told_by None done a f c name never is = absurd (never refl is)
told_by (Some n) done a f c name never is = ap name_of is

-- what is done is no refusal
no_refusal : (done : CallResult) (a : Surroundings) (f : Feed) (c : Content) (name : Name) → name_of done ≡ None → done ≡ refused_result name false a f c → ⊥
no_refusal done a f c name none is = let both : name_of done ≡ Some name = ap name_of is in cc

-- both ways, where what is done is no refusal
both_ways : (o : Option Name) (done : CallResult) (a : Surroundings) (f : Feed) (c : Content) (name : Name) → name_of done ≡ None
    → (o ≡ Some name → unless_refused o done a f c ≡ refused_result name false a f c) × (unless_refused o done a f c ≡ refused_result name false a f c → o ≡ Some name)
both_ways o done a f c name none = (refused_by o done a f c name, told_by o done a f c name (λ _ is. no_refusal done a f c name none is))

window_start_told : (t : ℤ) → AreRefusalsTold (λ a f c. window_start_refusal t f c) (window_start_result t)
window_start_told t a f c name = both_ways (window_start_refusal t f c) (settings_result false (with_window_start t c.media) a f c) a f c name refl

window_end_told : (t : Moment) → AreRefusalsTold (λ a f c. window_end_refusal t f c) (window_end_result t)
window_end_told t a f c name = both_ways (window_end_refusal t f c) (settings_result false (with_window_end t c.media) a f c) a f c name refl

remove_told : (start : ℤ) (end : Moment) → AreRefusalsTold (λ a f c. remove_refusal start end a f) (remove_result start end)
remove_told start end a f c name =
    let done : CallResult = result_with (event_reply (is_ended a.ready) a.duration (UpdateStart ∷ [])) (feed_running (Removal start end) f) c in
    both_ways (remove_refusal start end a f) done a f c name refl

abort_told : AreRefusalsTold (λ a f c. abort_refusal a f) abort_result
abort_told a f c name = both_ways (abort_refusal a f) (abort_result_after_flush (flush_result (ready_in f) c.media a.duration) a f c) a f c name refl

-- ---- where an ended source is opened again before the place in a media segment is looked at

-- what is refused before that leaves all as it was
abbrev IsEarly : Surroundings → Feed → Content → CallResult → Type 0
IsEarly a f c r = (name : Name) → early_refusal r.reply ≡ Some name → r ≡ refused_result name false a f c

early_either : (b : Bool) (r s : CallResult) (a : Surroundings) (f : Feed) (c : Content) → IsEarly a f c r → IsEarly a f c s → IsEarly a f c (cond b r s)
early_either true r s a f c h k = h
early_either false r s a f c h k = k

early_refused : (n : Name) (reopened : Bool) (a : Surroundings) (f : Feed) (c : Content) → IsEarly a f c (refused_result n reopened a f c)
early_refused n true a f c name is = absurd cc
early_refused n false a f c name is = refused_by (Some n) (refused_result n false a f c) a f c name is

early_setting : (reopened : Bool) (m : Media) (a : Surroundings) (f : Feed) (c : Content) → IsEarly a f c (settings_result reopened m a f c)
early_setting true m a f c name is = absurd cc
early_setting false m a f c name is = absurd cc

early_phase : (m : Media) (a : Surroundings) (f : Feed) (c : Content) → IsEarly a f c (settings_result_by_phase m a f c)
early_phase m a f c = early_either (is_in_media (phase_in f)) (refused_result InvalidState (is_ended a.ready) a f c) (settings_result (is_ended a.ready) m a f c) a f c (early_refused InvalidState (is_ended a.ready) a f c) (early_setting (is_ended a.ready) m a f c)

early_told : (r : CallResult) (a : Surroundings) (f : Feed) (c : Content) (name : Name) → IsEarly a f c r → (early_refusal r.reply ≡ Some name → r ≡ refused_result name false a f c) × (r ≡ refused_result name false a f c → early_refusal r.reply ≡ Some name)
early_told r a f c name early = (early name, ap (λ (x : CallResult). early_refusal x.reply))

mode_told : (mode : Mode) → AreRefusalsTold (λ a f c. early_refusal (mode_result mode a f c).reply) (mode_result mode)
mode_told mode a f c name =
    let first : CallResult = refused_result InvalidState false a f c in
    let second : CallResult = refused_result TypeError false a f c in
    let done : CallResult = settings_result_by_phase (with_mode (is_sequence mode) c.media) a f c in
    let wrong : Bool = c.media.settings.generate && not (is_sequence mode) in
    early_told (mode_result mode a f c) a f c name (early_either (is_updating f.running) first (cond wrong second done) a f c (early_refused InvalidState false a f c) (early_either wrong second done a f c (early_refused TypeError false a f c) (early_phase (with_mode (is_sequence mode) c.media) a f c)))

offset_told : (t : ℤ) → AreRefusalsTold (λ a f c. early_refusal (offset_result t a f c).reply) (offset_result t)
offset_told t a f c name =
    let first : CallResult = refused_result InvalidState false a f c in
    let done : CallResult = settings_result_by_phase (with_offset t c.media) a f c in
    early_told (offset_result t a f c) a f c name (early_either (is_updating f.running) first done a f c (early_refused InvalidState false a f c) (early_phase (with_offset t c.media) a f c))

-- ---- appends

pub append_refused : (input : AppendInput) (a : Surroundings) (f : Feed) (c : Content) (name : Name) → append_refusal a f ≡ Some name → append_result input a f c ≡ refused_result name false a f c
append_refused input a f c name is = refused_by (append_refusal a f) (append_result_after_eviction input a f c) a f c name is

pub append_evicts : (input : AppendInput) (a : Surroundings) (f : Feed) (c : Content) → append_refusal a f ≡ None → append_result input a f c ≡ append_result_after_eviction input a f c
append_evicts input a f c is = ap (λ (x : Option Name). unless_refused x (append_result_after_eviction input a f c) a f c) is

-- ---- types

refused_where : (b : Bool) (first : Name) (o : Option Name) (r : CallResult) (a : Surroundings) (f : Feed) (c : Content) (name : Name)
    → (o ≡ Some name → r ≡ refused_result name false a f c) → cond b (Some first) o ≡ Some name → cond b (refused_result first false a f c) r ≡ refused_result name false a f c
refused_where true first o r a f c name behind is = ap (λ (x : Option Name). unless_refused x r a f c) is
refused_where false first o r a f c name behind is = behind is

told_where : (b : Bool) (first : Name) (o : Option Name) (r : CallResult) (a : Surroundings) (f : Feed) (c : Content) (name : Name)
    → (r ≡ refused_result name false a f c → o ≡ Some name) → cond b (refused_result first false a f c) r ≡ refused_result name false a f c → cond b (Some first) o ≡ Some name
told_where true first o r a f c name behind is = ap name_of is
told_where false first o r a f c name behind is = behind is

type_told : (answer : TypeAnswer) (a : Surroundings) (f : Feed) (c : Content) (name : Name)
    → (change_type_refusal_by_answer answer f ≡ Some name → change_type_result_by_answer answer a f c ≡ refused_result name false a f c)
    × (change_type_result_by_answer answer a f c ≡ refused_result name false a f c → change_type_refusal_by_answer answer f ≡ Some name)
type_told Empty a f c name = (λ is. refused_by (Some TypeError) (refused_result TypeError false a f c) a f c name is, λ is. ap name_of is)
type_told Unsupported a f c name =
    let r : CallResult = refused_result NotSupported false a f c in
    (refused_where (is_updating f.running) InvalidState (Some NotSupported) r a f c name (λ is. refused_by (Some NotSupported) r a f c name is), told_where (is_updating f.running) InvalidState (Some NotSupported) r a f c name (λ is. ap name_of is))
type_told (Supported container) a f c name =
    let r : CallResult = change_type_result_after_flush container (flush_result (ready_in f) c.media a.duration) a in
    (refused_where (is_updating f.running) InvalidState None r a f c name (λ is. absurd cc), told_where (is_updating f.running) InvalidState None r a f c name (λ is. absurd (no_refusal r a f c name refl is)))

-- ---- all calls

-- a call that is refused whatever the state
early : (n : Name) (a : Surroundings) (f : Feed) (c : Content) (name : Name) → (Some n ≡ Some name → refused_result n false a f c ≡ refused_result name false a f c) × (refused_result n false a f c ≡ refused_result name false a f c → Some n ≡ Some name)
early n a f c name = (λ is. refused_by (Some n) (refused_result n false a f c) a f c name is, λ is. ap name_of is)

-- both ways, of every call but an append
both : (call : CallView) (a : Surroundings) (f : Feed) (c : Content) (name : Name) → IsNoAppend call
    → (refusal_of_call call a f c ≡ Some name → result_of_call call a f c ≡ refused_result name false a f c) × (result_of_call call a f c ≡ refused_result name false a f c → refusal_of_call call a f c ≡ Some name)
both (SetMode mode) a f c name other = mode_told mode a f c name
both (SetOffset Nan) a f c name other = early TypeError a f c name
both (SetOffset (At t)) a f c name other = offset_told t a f c name
both (SetOffset Infinite) a f c name other = early TypeError a f c name
both (SetWindowStart Nan) a f c name other = early TypeError a f c name
both (SetWindowStart (At t)) a f c name other = window_start_told t a f c name
both (SetWindowStart Infinite) a f c name other = early TypeError a f c name
both (SetWindowEnd t) a f c name other = window_end_told t a f c name
both (Remove Nan end) a f c name other = early TypeError a f c name
both (Remove (At t) end) a f c name other = remove_told t end a f c name
both (Remove Infinite end) a f c name other = early TypeError a f c name
both (Append None) a f c name other = early NoSuchBytes a f c name
both (Append (Some input)) a f c name other = absurd other
both Abort a f c name other = abort_told a f c name
both (ChangeType answer) a f c name other = type_told answer a f c name

full_told : (full reopened : Bool) (r : CallResult) (a : Surroundings) (f : Feed) (c d : Content) (name : Name) → name_of r ≡ None → cond full (refused_result QuotaExceeded reopened a f d) r ≡ refused_result name false a f c → name ≡ QuotaExceeded
full_told true reopened r a f c d name none is = let same : Some QuotaExceeded ≡ Some name = ap name_of is in cc
full_told false reopened r a f c d name none is = absurd (no_refusal r a f c name none is)

told_unless : (o : Option Name) (name : Name) → o ≡ None → o ≡ Some name → ⊥
told_unless o name none some = cc

pub all_refused : (call : CallView) (a : Surroundings) (f : Feed) (c : Content) (name : Name) → refusal_of_call call a f c ≡ Some name → result_of_call call a f c ≡ refused_result name false a f c
all_refused (SetMode mode) a f c name = (both (SetMode mode) a f c name tt).0
all_refused (SetOffset t) a f c name = (both (SetOffset t) a f c name tt).0
all_refused (SetWindowStart t) a f c name = (both (SetWindowStart t) a f c name tt).0
all_refused (SetWindowEnd t) a f c name = (both (SetWindowEnd t) a f c name tt).0
all_refused (Remove start end) a f c name = (both (Remove start end) a f c name tt).0
all_refused (Append None) a f c name = (both (Append None) a f c name tt).0
all_refused (Append (Some input)) a f c name = append_refused input a f c name
all_refused Abort a f c name = (both Abort a f c name tt).0
all_refused (ChangeType answer) a f c name = (both (ChangeType answer) a f c name tt).0

told_of : (call : CallView) (a : Surroundings) (f : Feed) (c : Content) (name : Name) → IsNoAppend call → refusal_of_call call a f c ≡ None → result_of_call call a f c ≡ refused_result name false a f c → IsForQuota call name
told_of call a f c name other none is = absurd (told_unless (refusal_of_call call a f c) name none ((both call a f c name other).1 is))

pub all_told : (call : CallView) (a : Surroundings) (f : Feed) (c : Content) (name : Name) → refusal_of_call call a f c ≡ None → result_of_call call a f c ≡ refused_result name false a f c → IsForQuota call name
all_told (SetMode mode) a f c name = told_of (SetMode mode) a f c name tt
all_told (SetOffset t) a f c name = told_of (SetOffset t) a f c name tt
all_told (SetWindowStart t) a f c name = told_of (SetWindowStart t) a f c name tt
all_told (SetWindowEnd t) a f c name = told_of (SetWindowEnd t) a f c name tt
all_told (Remove start end) a f c name = told_of (Remove start end) a f c name tt
all_told (Append None) a f c name = told_of (Append None) a f c name tt
all_told (Append (Some input)) a f c name = λ none is.
    (let m = media_after_eviction input.position (length input.bytes) input.quota a.duration c.media in
    full_told (is_full input.bytes input.quota f m) (is_ended a.ready) (result_with (event_reply (is_ended a.ready) a.duration (UpdateStart ∷ [])) (feed_with input.bytes f) (with_media m c)) a f c (with_media m c) name refl (sym (append_evicts input a f c none) ∙ is))
all_told Abort a f c name = told_of Abort a f c name tt
all_told (ChangeType answer) a f c name = told_of (ChangeType answer) a f c name tt

-- ---- the name that does not go by the state

pub early_everywhere : (call : CallView) (a : Surroundings) (f : Feed) (c : Content) (name : Name) → early_name call ≡ Some name → refusal_of_call call a f c ≡ Some name
early_everywhere (SetMode mode) a f c name is = absurd cc
early_everywhere (SetOffset Nan) a f c name is = is
early_everywhere (SetOffset (At t)) a f c name is = absurd cc
early_everywhere (SetOffset Infinite) a f c name is = is
early_everywhere (SetWindowStart Nan) a f c name is = is
early_everywhere (SetWindowStart (At t)) a f c name is = absurd cc
early_everywhere (SetWindowStart Infinite) a f c name is = is
early_everywhere (SetWindowEnd t) a f c name is = absurd cc
early_everywhere (Remove Nan end) a f c name is = is
early_everywhere (Remove (At t) end) a f c name is = absurd cc
early_everywhere (Remove Infinite end) a f c name is = is
early_everywhere (Append None) a f c name is = is
early_everywhere (Append (Some input)) a f c name is = absurd cc
early_everywhere Abort a f c name is = absurd cc
early_everywhere (ChangeType Empty) a f c name is = is
early_everywhere (ChangeType Unsupported) a f c name is = absurd cc
early_everywhere (ChangeType (Supported container)) a f c name is = absurd cc
