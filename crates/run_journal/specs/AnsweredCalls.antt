-- Calls with their answers, where a call may be kept once for many.
use Rattle.std.specs.Prelude.{◌<◌, ℕ, List, length, map, get_or}
use Rattle.mse_calls.specs.declared.answers.Answer.{Answer}
use Rattle.mse_calls.specs.declared.calls.Call.{Call}
use Rattle.mse_calls.specs.declared.calls.Call.TheVariants.{SourceState}
use Rattle.run_journal.specs.declared.answered_calls.PlacedCall.{PlacedCall}

-- a call, and what it answered
pub record AnsweredCall : Type 0 where
  pub call : Call
  pub answer : Answer

-- the calls with their answers, and for how many more there is room
pub record AnsweredCallsView : Type 0 where
  pub list : List AnsweredCall
  pub spare : ℕ

abbrev pub answered : Call → Answer → AnsweredCall
answered call answer = record { call = call; answer = answer }

-- the call at a place, with its answer; where there is none, any
abbrev pub answered_at : List Call → PlacedCall → AnsweredCall
answered_at calls placed = answered (get_or calls placed.place SourceState) placed.answer

abbrev pub answered_calls : List Call → List PlacedCall → List AnsweredCall
answered_calls calls list = map (answered_at calls) list

-- the place lies inside the list
abbrev pub IsCallInside : List Call → PlacedCall → Type 0
IsCallInside calls placed = placed.place < length calls
