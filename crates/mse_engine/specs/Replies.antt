-- What comes of a source buffer's reply at the source and at the element, in order.
use Rattle.std.specs.Prelude.{ℕ, ◌==◌, Bool, false, not, ◌&&◌, List, [], ◌∷◌, ◌++◌, replicate, Option, Some, None, unwrap_or, if◌then◌else◌}
use Rattle.mse_calls.specs.Ready.{is_ended}
use Rattle.mse_calls.specs.declared.answers.Ready.{Ready}
use Rattle.mse_calls.specs.declared.answers.Ready.TheVariants.{Opened, Ended}
use Rattle.mse_calls.specs.declared.calls.EndKind.TheVariants.{Decode}
use Rattle.mse_calls.specs.declared.events.Event.{Event}
use Rattle.mse_calls.specs.declared.events.EventKind.TheVariants as kind
use Rattle.mse_calls.specs.declared.events.Target.TheVariants as target
use Rattle.mse_calls.specs.declared.views.FaultView.{FaultView}
use Rattle.buffer_state.specs.declared.reply.Reply.{Reply}
use Rattle.buffer_state.specs.AllCalls.{CallView, Abort, ChangeType}
use Rattle.buffer_state.specs.State.{Surroundings}
use Rattle.source_state.specs.State.{SourceState, is_listed_in, are_in}
use Rattle.media_element.specs.Queueing.{event_at, events_at}
use Rattle.mse_engine.specs.State.{MediaSource, CoreSource}
use Rattle.mse_engine.specs.Signals.{Signal, Tell, Loaded, StreamEnded}

-- what the buffer of a number is told of the source and the element
abbrev pub surroundings_in : ℕ → CoreSource → Surroundings
surroundings_in k s = record {
  number = k;
  ready = s.state.ready;
  error = not (s.error == 0);
  duration = s.state.duration;
}

-- ---- at the source

-- a buffer becomes active with its first initialization segment (3.5.7), while it is in the list of source buffers
abbrev pub is_activating : ℕ → Reply → SourceState → Bool
is_activating k r s = r.activated && (is_listed_in k s.listed && not (is_listed_in k s.active))

abbrev pub active_after : ℕ → Reply → SourceState → List ℕ
active_after k r s = if is_activating k r s then s.active ++ k ∷ [] else s.active

-- The metadata is there where an initialization segment was received while the element has none, and every buffer in
-- the list is active. That is that every buffer in the list has had its first one (3.5.7): `laws::active_buffers` says
-- so.
abbrev pub is_loading : ℕ → Reply → Bool → SourceState → Bool
is_loading k r blank s = (r.received_init && blank) && are_in s.listed (active_after k r s)

-- the source is opened again by a call, and ends by a fault
abbrev pub ready_after_fault : Option FaultView → Ready → Ready
ready_after_fault None ready = ready
ready_after_fault (Some fault) ready = Ended

abbrev pub ready_again : Bool → Ready → Ready
ready_again reopened ready = if reopened && is_ended ready then Opened else ready

abbrev pub ready_after : Reply → Ready → Ready
ready_after r ready = ready_after_fault r.fault (ready_again r.reopened ready)

abbrev pub state_after : ℕ → Reply → SourceState → SourceState
state_after k r s = record {
  ready = ready_after r s.ready;
  duration = r.duration;
  live = s.live;
  made = s.made;
  listed = s.listed;
  active = active_after k r s;
}

abbrev pub is_blank_after : ℕ → Reply → CoreSource → Bool
is_blank_after k r s = if is_loading k r s.blank s.state then false else s.blank

-- the element's error code behind an error of a code: the first error stays, and before there is metadata the error is
-- that the source is not supported, of code 4 (HTML, MediaError)
abbrev pub first_error : ℕ → Bool → ℕ → ℕ
first_error code blank error = if error == 0 then (if blank then 4 else code) else error

-- behind a fault, which is an error in decoding
abbrev pub error_after : Option FaultView → Bool → ℕ → ℕ
error_after None blank error = error
error_after (Some fault) blank error = first_error 3 blank error

-- the first fault stays
abbrev pub fault_after : Option FaultView → Option FaultView → Option FaultView
fault_after None first = first
fault_after (Some fault) first = Some (unwrap_or first fault)

abbrev pub source_after : ℕ → Reply → CoreSource → CoreSource
source_after k r s = record {
  state = state_after k r s.state;
  error = error_after r.fault (is_blank_after k r s) s.error;
  blank = is_blank_after k r s;
  fault = fault_after r.fault s.fault;
  quota = s.quota;
  gap = s.gap;
}

-- of the source alone
abbrev pub media_source_after : ℕ → Reply → MediaSource → MediaSource
media_source_after k r source = record source {
  state = state_after k r source.state;
  fault = fault_after r.fault source.fault;
}

-- ---- at the element and in the queue, in order

abbrev pub buffer_events : ℕ → Reply → List Event
buffer_events k r = events_at (target.Buffer k) r.events

abbrev pub open_events : Reply → List Event
open_events r = if r.reopened then (event_at target.Source kind.SourceOpen ∷ []) else []

-- each change of the duration; an item and a reset only raise it, or set the first one, so that no seek follows
abbrev pub duration_events : Reply → List Event
duration_events r = replicate r.duration_changes (event_at target.Element kind.DurationChange)

-- A call on a buffer. Of an abort first the events at the buffer are told, and then what its reset of the parser brings
-- about; a change of type fires nothing at the buffer; all other calls do not change the duration.
abbrev pub call_events : ℕ → CallView → Reply → List Event
call_events k Abort r = buffer_events k r ++ duration_events r
call_events k (ChangeType answer) r = open_events r ++ duration_events r
call_events k other r = open_events r ++ buffer_events k r

-- where the buffer becomes active
abbrev pub active_events : ℕ → Reply → SourceState → List Event
active_events k r s =
    if is_activating k r s then (event_at target.ActiveSourceBuffers kind.AddSourceBuffer ∷ [])
    else []

-- where the metadata is there
abbrev pub load_signals : ℕ → Reply → Bool → SourceState → List Signal
load_signals k r blank s = if is_loading k r blank s then (Loaded ∷ []) else []

-- the end of stream algorithm with a decode error (2.4.7), where there is a fault
abbrev pub fault_signals : Option FaultView → List Signal
fault_signals None = []
fault_signals (Some fault) =
    Tell (event_at target.Source kind.SourceEnded ∷ []) ∷ StreamEnded Decode ∷ []

-- a step of running work: an item of an append, or the last step of an append or a removal
abbrev pub work_signals : ℕ → Reply → CoreSource → List Signal
work_signals k r s =
    Tell (duration_events r)
    ∷ Tell (active_events k r s.state)
    ∷ (load_signals k r s.blank s.state ++ Tell (buffer_events k r) ∷ fault_signals r.fault)
