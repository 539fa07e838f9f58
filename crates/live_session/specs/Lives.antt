-- A session that reads its lines as texts: what comes of a step.
use Rattle.std.specs.Prelude.{◌≡◌, ◌⊎◌, ℕ, Bool, true, false, List, [], Option, Some, None, if◌then◌else◌}
use Rattle.std.specs.Str.{is_utf8}
use Rattle.mse_outside.specs.Memory.{SureSinkState}
use Rattle.mse_outside.specs.Outside.{SinkView, sink_view}
use Rattle.call_script.specs.Lines.{step_of_line}
use Rattle.call_script.specs.declared.script.StepLine.{StepLine}
use Rattle.mse_calls.specs.declared.answers.Name.{Name}
use Rattle.mse_engine.specs.State.{State}
use Rattle.mse_engine.specs.Standing.{Stands}
use Rattle.live_session.specs.Steps.{IsStepDone, IsStepHalted, SessionView, has_its_bytes}
use Rattle.live_session.specs.declared.live.StepResult.{StepResult}
use Rattle.live_session.specs.declared.live.StepResult.TheVariants.{Done, NoStep, NoBytes, Memory}

-- the session, what its last step or block printed, and whether it has ended for want of memory
pub record LiveView : Type 0 where
  pub session : SessionView
  pub sink : SureSinkState
  pub ended : Bool

-- where nothing is printed
abbrev pub no_text : SureSinkState
no_text = record { written = []; puts = [] }

abbrev pub with_no_text : LiveView → LiveView
with_no_text live = record live { sink = no_text }

-- what is printed, as a sink tells it
abbrev pub text_view : SureSinkState → SinkView
text_view sink = sink_view (Some sink.written) (Some sink.puts)

-- the step of a line in UTF-8, if it is one
abbrev pub step_in : List ℕ → Option StepLine
step_in line = if is_utf8 line then step_of_line line else None

-- the line is a step, of which this holds
abbrev pub IsStepWith : List ℕ → (StepLine → Type 0) → Type 0
IsStepWith line P = (step : StepLine) × (step_in line ≡ Some step) × P step

-- its bytes are there, it was done, and the session goes on
pub record IsLiveStep (refused : Option Name) (old new : LiveView)
    (step : StepLine) : Type 0 where
  pub has_bytes : has_its_bytes old.session step ≡ true
  pub done : (st : State) → Stands old.session.engine st
      → IsStepDone st step refused old.session new.session (text_view no_text) (text_view new.sink)
  pub going_on : new.ended ≡ false

-- its bytes are there, and a front of its lines was printed
pub record IsLiveHalt (old new : LiveView) (step : StepLine) : Type 0 where
  pub has_bytes : has_its_bytes old.session step ≡ true
  pub front : (st : State) → Stands old.session.engine st
      → IsStepHalted st step old.session (text_view no_text) (text_view new.sink)

-- what comes of a step of a session that goes on
abbrev pub IsStepResult : List ℕ → StepResult → LiveView → LiveView → Type 0
IsStepResult line (Done refused) old new = IsStepWith line (IsLiveStep refused old new)
IsStepResult line NoStep old new = (step_in line ≡ None) × (new ≡ with_no_text old)
IsStepResult line NoBytes old new =
    IsStepWith line (λ step. has_its_bytes old.session step ≡ false) × (new ≡ with_no_text old)
IsStepResult line Memory old new =
    (new.ended ≡ true) × ((new.sink ≡ no_text) ⊎ IsStepWith line (IsLiveHalt old new))
