-- The calls on a media source (Media Source Extensions, 2.2): of each the refusals in order, and then what it does.
use Rattle.std.specs.Prelude.{ℕ, ◌+◌, ◌-◌, ◌^◌, nat_le, ℤ, pos, int_lt, Bool, true, false, not, ◌||◌, [], ◌∷◌, ◌++◌, length, Option, Some, None, unwrap_or, if◌then◌else◌}
use Rattle.mse_base.specs.declared.span.Span.{Span}
use Rattle.mse_base.specs.declared.ticks.Moment.{Moment}
use Rattle.mse_base.specs.declared.ticks.Moment.TheVariants.{At}
use Rattle.mse_base.specs.Moments.{is_nan, is_after, is_same_moment, greater_moment}
use Rattle.mse_calls.specs.AnswerAndState.{AnswerAndState}
use Rattle.mse_calls.specs.Ready.{is_closed, is_open, is_ended}
use Rattle.mse_calls.specs.declared.answers.Name.{Name}
use Rattle.mse_calls.specs.declared.answers.Name.TheVariants.{InvalidState, QuotaExceeded, TypeError, NotFound}
use Rattle.mse_calls.specs.declared.answers.Ready.{Ready}
use Rattle.mse_calls.specs.declared.answers.Ready.TheVariants.{Opened, Ended}
use Rattle.mse_calls.specs.declared.calls.EndKind.{EndKind}
use Rattle.mse_calls.specs.declared.calls.EndKind.TheVariants.{Plain, Network, Decode}
use Rattle.source_state.specs.declared.answers.AllBuffers.{AllBuffers}
use Rattle.source_state.specs.declared.answers.Added.{Added}
use Rattle.source_state.specs.declared.answers.Added.TheVariants as added
use Rattle.source_state.specs.declared.answers.Removed.{Removed}
use Rattle.source_state.specs.declared.answers.Removed.TheVariants as removed
use Rattle.source_state.specs.declared.answers.Changed.{Changed}
use Rattle.source_state.specs.declared.answers.Changed.TheVariants as changed
use Rattle.source_state.specs.State.{SourceState, is_listed_in, numbers_without}

-- what is answered, and the state that is left
abbrev pub answer_and_state : {A : Type 0} → A → SourceState → AnswerAndState A SourceState
answer_and_state answer state = record { answer = answer; state = state }

abbrev pub in_ready : Ready → SourceState → SourceState
in_ready ready s = record s { ready = ready }

-- attaching to a media element (2.4.1): of a source that is closed
abbrev pub after_attach : SourceState → AnswerAndState (Option Name) SourceState
after_attach s =
    if not (is_closed s.ready) then answer_and_state (Some InvalidState) s
    else answer_and_state None (in_ready Opened s)

-- ---- the live seekable range

abbrev pub with_live : Option Span → SourceState → SourceState
with_live live s = record s { live = live }

-- setLiveSeekableRange: of an open source, from a time that is neither negative nor after the end
abbrev pub after_set_live : ℤ → ℤ → SourceState → AnswerAndState (Option Name) SourceState
after_set_live start end s =
    if not (is_open s.ready) then answer_and_state (Some InvalidState) s
    else (if int_lt start (pos 0) || int_lt end start then answer_and_state (Some TypeError) s
    else answer_and_state None (with_live (Some (record { start = start; end = end })) s))

-- clearLiveSeekableRange: of an open source
abbrev pub after_clear_live : SourceState → AnswerAndState (Option Name) SourceState
after_clear_live s =
    if not (is_open s.ready) then answer_and_state (Some InvalidState) s
    else answer_and_state None (with_live None s)

-- ---- the lists of source buffers

-- 16 buffers are in the list, or all numbers below 2 ^ 32 - 1 are given
abbrev pub has_most_buffers : SourceState → Bool
has_most_buffers s = nat_le 16 (length s.listed) || nat_le (2 ^ 32 - 1) s.made

-- a buffer with the next number, at the end of sourceBuffers
abbrev pub with_new : SourceState → SourceState
with_new s = record s { made = s.made + 1; listed = s.listed ++ s.made ∷ [] }

-- addSourceBuffer, once its type is known to be supported: to an open source that is not full
abbrev pub after_add_buffer : SourceState → AnswerAndState Added SourceState
after_add_buffer s =
    if has_most_buffers s then answer_and_state (added.Refused QuotaExceeded) s
    else (if not (is_open s.ready) then answer_and_state (added.Refused InvalidState) s
    else answer_and_state (added.Number s.made) (with_new s))

-- the name by which the call is refused, if it is
abbrev pub add_name : Added → Option Name
add_name (added.Number k) = None
add_name (added.Refused name) = Some name

abbrev pub without_buffer : ℕ → SourceState → SourceState
without_buffer k s =
    record s { listed = numbers_without k s.listed; active = numbers_without k s.active }

-- removeSourceBuffer: of a buffer in sourceBuffers. It leaves activeSourceBuffers too, where it is there.
abbrev pub after_remove_buffer : ℕ → SourceState → AnswerAndState Removed SourceState
after_remove_buffer k s =
    if not (is_listed_in k s.listed) then answer_and_state (removed.Refused NotFound) s
    else answer_and_state (removed.Gone (is_listed_in k s.active)) (without_buffer k s)

-- the name by which the call is refused, if it is
abbrev pub remove_name : Removed → Option Name
remove_name (removed.Gone active) = None
remove_name (removed.Refused name) = Some name

-- the buffer joins activeSourceBuffers (3.5.7, initialization segment received)
abbrev pub with_active : ℕ → SourceState → SourceState
with_active k s = record s { active = s.active ++ k ∷ [] }

-- ---- the duration

-- duration change (2.4.6): to the duration that there is already, nothing
abbrev pub after_duration_change : Moment → SourceState → AnswerAndState Changed SourceState
after_duration_change d s =
    if is_same_moment d s.duration then answer_and_state changed.Same s
    else answer_and_state (changed.To d) (record s { duration = d })

-- the greater of a duration and the highest end of all frames, if there are any
abbrev pub past_frames : Option ℤ → Moment → Moment
past_frames None d = d
past_frames (Some end) d = greater_moment d end

-- a frame starts after the duration, or would
abbrev pub has_frame_after : Option ℤ → Moment → Bool
has_frame_after None d = false
has_frame_after (Some start) d = is_after start d

-- duration, on setting: to a number that is not negative, of an open source of which no buffer is updating. A lesser
-- duration does not cut off the start of a frame, and takes in the ends of all.
abbrev pub after_set_duration : Moment → AllBuffers → SourceState
    → AnswerAndState Changed SourceState
after_set_duration d all s =
    if is_nan d || is_after (pos 0) d then answer_and_state (changed.Refused TypeError) s
    else (if not (is_open s.ready) then answer_and_state (changed.Refused InvalidState) s
    else (if all.updating then answer_and_state (changed.Refused InvalidState) s
    else (if is_same_moment d s.duration then answer_and_state changed.Same s
    else (if has_frame_after all.highest_start d
    then answer_and_state (changed.Refused InvalidState) s
    else after_duration_change (past_frames all.highest_end d) s))))

-- the name by which the call is refused, if it is
abbrev pub duration_name : Changed → Option Name
duration_name changed.Same = None
duration_name (changed.To d) = None
duration_name (changed.Refused name) = Some name

-- ---- the end

-- endOfStream: of an open source of which no buffer is updating
abbrev pub end_refusal : Bool → SourceState → Option Name
end_refusal updating s = if not (is_open s.ready) || updating then Some InvalidState else None

-- the source's part of the end of stream algorithm (2.4.7): without an error the duration becomes the highest end of
-- all frames, 0 where there is none
abbrev pub after_end : EndKind → Option ℤ → SourceState → AnswerAndState Changed SourceState
after_end Plain highest_end s =
    after_duration_change (At (unwrap_or highest_end (pos 0))) (in_ready Ended s)
after_end Network highest_end s = answer_and_state changed.Same (in_ready Ended s)
after_end Decode highest_end s = answer_and_state changed.Same (in_ready Ended s)

-- an ended source is opened again
abbrev pub after_reopen : SourceState → AnswerAndState Bool SourceState
after_reopen s =
    if is_ended s.ready then answer_and_state true (in_ready Opened s)
    else answer_and_state false s
