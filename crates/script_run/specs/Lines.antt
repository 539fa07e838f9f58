-- What a line of a script brings about (docs/SCRIPTS.md, call lines and step lines).
use Rattle.std.specs.Prelude.{◌≡◌, ◌⊎◌, ◌≤◌, ℕ, List, [], ◌∷◌}
use Rattle.mse_calls.specs.declared.entry.Entry.{Entry}
use Rattle.mse_calls.specs.declared.entry.Entry.TheVariants as entry
use Rattle.call_script.specs.declared.script.StepLine.{StepLine}
use Rattle.call_script.specs.declared.script.StepLine.TheVariants.{Call, Fire, Work, Element, Drain}
use Rattle.mse_engine.specs.State.{State}
use Rattle.mse_engine.specs.Calls.{after_call}
use Rattle.mse_engine.specs.Work.{after_element_turn, after_work, fire_result}
use Rattle.mse_engine.specs.Run.{fire_entries, entries_if}
use Rattle.script_run.specs.DrainSteps.{AreInDrainOrder, IsDrain}
use Rattle.script_run.specs.Turns.{AreCallsInPlace, calls_in}

-- the entries but for the calls of listeners
abbrev pub own_of : List Entry → List Entry
own_of [] = []
own_of (entry.Listener w call answer ∷ entries) = own_of entries
own_of (other ∷ entries) = other ∷ own_of entries

-- the line is done by these entries
abbrev pub IsLineEntries : List (List ℕ) → State → StepLine → List Entry → Type 0
IsLineEntries blobs st (Call call) part =
    own_of part ≡ entry.Script call (after_call blobs call st).answer ∷ []
IsLineEntries blobs st Fire part = own_of part ≡ fire_entries (fire_result st)
IsLineEntries blobs st (Work k) part = own_of part ≡ entries_if (after_work k st) (entry.Work k)
IsLineEntries blobs st Element part = own_of part ≡ entries_if (after_element_turn st) entry.Element
IsLineEntries blobs st Drain part = IsDrain blobs st part

-- a line that was cut off: it has not begun, or only the calls of listeners are cut, or it is the
-- front of a drain
abbrev pub IsLineFront : List (List ℕ) → State → StepLine → List Entry → Type 0
IsLineFront blobs st (Call call) part = (part ≡ []) ⊎ IsLineEntries blobs st (Call call) part
IsLineFront blobs st Fire part = (part ≡ []) ⊎ IsLineEntries blobs st Fire part
IsLineFront blobs st (Work k) part = (part ≡ []) ⊎ IsLineEntries blobs st (Work k) part
IsLineFront blobs st Element part = (part ≡ []) ⊎ IsLineEntries blobs st Element part
IsLineFront blobs st Drain part = AreInDrainOrder blobs st part

-- there are `count` listeners, which make at most `limit` calls in one line
pub record Limits : Type 0 where
  pub limit : ℕ
  pub count : ℕ

abbrev pub limits : ℕ → ℕ → Limits
limits limit count = record { limit = limit; count = count }

-- what a script is played with: the bytes of its blobs, and these limits
pub record PlayInputs : Type 0 where
  pub blobs : List (List ℕ)
  pub limits : Limits

abbrev pub play_inputs : List (List ℕ) → Limits → PlayInputs
play_inputs blobs limits = record { blobs = blobs; limits = limits }

pub record IsWithin (limits : Limits) (part : List Entry) : Type 0 where
  pub few : calls_in part ≤ limits.limit
  pub calls : AreCallsInPlace limits.count part
