-- What the dispatch of an event changes.
use Rattle.std.specs.Prelude.{ℕ, List}
use Rattle.mse_calls.specs.declared.entry.Entry.{Entry}
use Rattle.mse_engine.specs.Standing.{KeptEngine}
use Rattle.run_steps.specs.declared.note.Note.{Note}

-- what the engine keeps, the journal, and how many calls listeners may still make
pub record RunView : Type 0 where
  pub engine : KeptEngine
  pub entries : List Entry
  pub left : ℕ

abbrev pub view_of_run : KeptEngine → List Entry → ℕ → RunView
view_of_run engine entries left = record { engine = engine; entries = entries; left = left }

-- with the listener whose turn it is: its number and its notes
pub record TurnView : Type 0 where
  pub number : ℕ
  pub run : RunView
  pub notes : List Note

abbrev pub turn_view : ℕ → RunView → List Note → TurnView
turn_view number run notes = record { number = number; run = run; notes = notes }

-- with all listeners, by the notes of each
pub record DispatchView : Type 0 where
  pub run : RunView
  pub notes : List (List Note)

abbrev pub dispatch_view : RunView → List (List Note) → DispatchView
dispatch_view run notes = record { run = run; notes = notes }
