-- A duration that is refused leaves the source as it is.
use Rattle.std.proofs.Common.{◌≡◌, Bool, true, false, Some, cond, not, ◌||◌, pos, refl}
use Rattle.mse_base.specs.declared.ticks.Moment.{Moment}
use Rattle.mse_calls.specs.AnswerAndState.{AnswerAndState}
use Rattle.mse_calls.specs.declared.answers.Name.{Name}
use Rattle.mse_calls.specs.declared.answers.Name.TheVariants.{InvalidState, TypeError}
use Rattle.source_state.specs.declared.answers.AllBuffers.{AllBuffers}
use Rattle.source_state.specs.declared.answers.Changed.{Changed}
use Rattle.source_state.specs.declared.answers.Changed.TheVariants.{Same, To, Refused}
use Rattle.source_state.specs.State.{SourceState}
use Rattle.mse_base.specs.Moments.{is_nan, is_after, is_same_moment}
use Rattle.mse_calls.specs.Ready.{is_open}
use Rattle.source_state.specs.Calls.{answer_and_state, duration_name, after_set_duration, has_frame_after, past_frames}

abbrev IsSameIfRefused : SourceState → AnswerAndState Changed SourceState → Type 0
IsSameIfRefused s a = (name : Name) → duration_name a.answer ≡ Some name → (Refused name ≡ a.answer) × (s ≡ a.state)

by_case : (s : SourceState) (b : Bool) (x y : AnswerAndState Changed SourceState) → IsSameIfRefused s x → IsSameIfRefused s y → IsSameIfRefused s (cond b x y)
by_case s true x y hx hy = hx
by_case s false x y hx hy = hy

refused_same : (s : SourceState) (n : Name) → IsSameIfRefused s (answer_and_state (Refused n) s)
refused_same s n name h = (cc, refl)

kept_same : (s : SourceState) → IsSameIfRefused s (answer_and_state Same s)
kept_same s name h = absurd (cc)

moved_same : (s t : SourceState) (d : Moment) → IsSameIfRefused s (answer_and_state (To d) t)
moved_same s t d name h = absurd (cc)

pub duration_same : (d : Moment) (all : AllBuffers) (s : SourceState) → IsSameIfRefused s (after_set_duration d all s)
duration_same d all s =
    by_case s (is_nan d || is_after (pos 0) d) _ _ (refused_same s TypeError)
    (by_case s (not (is_open s.ready)) _ _ (refused_same s InvalidState)
    (by_case s all.updating _ _ (refused_same s InvalidState)
    (by_case s (is_same_moment d s.duration) _ _ (kept_same s)
    (by_case s (has_frame_after all.highest_start d) _ _ (refused_same s InvalidState)
    (by_case s (is_same_moment (past_frames all.highest_end d) s.duration) _ _ (kept_same s)
    (moved_same s (record s { duration = past_frames all.highest_end d }) (past_frames all.highest_end d)))))))
