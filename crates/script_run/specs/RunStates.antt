-- How far a run has come.
use Rattle.std.specs.Prelude.{List}
use Rattle.mse_outside.specs.Outside.{SinkView}
use Rattle.listeners.specs.Views.{RunView}
use Rattle.run_steps.specs.declared.note.Note.{Note}

-- a run, with what its sink tells of what was written
pub record PrintedRun : Type 0 where
  pub run : RunView
  pub written : SinkView

abbrev pub printed_run : RunView → SinkView → PrintedRun
printed_run run written = record { run = run; written = written }

-- and with the notes of each listener
pub record RunState : Type 0 where
  pub run : RunView
  pub written : SinkView
  pub notes : List (List Note)

abbrev pub run_at : RunView → SinkView → List (List Note) → RunState
run_at run written notes = record { run = run; written = written; notes = notes }

-- the outside of a run alone: what was written, and the notes of each listener
pub record OutsideView : Type 0 where
  pub written : SinkView
  pub notes : List (List Note)

abbrev pub outside_view : SinkView → List (List Note) → OutsideView
outside_view written notes = record { written = written; notes = notes }

abbrev pub outside_in : RunState → OutsideView
outside_in state = outside_view state.written state.notes
