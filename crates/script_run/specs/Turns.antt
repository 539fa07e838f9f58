-- When listeners call (docs/SCRIPTS.md, rules).
use Rattle.std.specs.Prelude.{◌≡◌, ◌≤◌, ◌+◌, ℕ, suc, List, [], ◌∷◌, ◌++◌, ⊤}
use Rattle.mse_calls.specs.declared.entry.Entry.{Entry}
use Rattle.mse_calls.specs.declared.entry.Entry.TheVariants.{Step, Listener, Fired}
use Rattle.listeners.specs.Dispatch.{AreCallsInTurn}
use Rattle.listeners.specs.Notes.{call_count}

-- a listener makes at most so many calls for one event
abbrev pub most_calls : ℕ
most_calls = 1000

-- the calls of listeners with which entries begin
abbrev pub calls_in_front : List Entry → List Entry
calls_in_front [] = []
calls_in_front (Listener w call answer ∷ entries) =
    Listener w call answer ∷ calls_in_front entries
calls_in_front (other ∷ entries) = []

-- By these calls `count` listeners answered one event: their numbers do not fall, and of each there are at most 1000.
pub record AreAnswersToEvent (count : ℕ) (calls : List Entry) : Type 0 where
  pub order : AreCallsInTurn 0 count calls
  pub few : (w : ℕ) → call_count w calls ≤ most_calls

-- the calls that stand behind an entry: listeners answer an event, and call behind nothing else
abbrev pub AreCallsBehind : ℕ → Entry → List Entry → Type 0
AreCallsBehind count (Fired event) calls = AreAnswersToEvent count calls
AreCallsBehind count (Listener w call answer) calls = ⊤
AreCallsBehind count other calls = calls ≡ []

abbrev pub AreCallsBehindEach : ℕ → List Entry → Type 0
AreCallsBehindEach count [] = ⊤
AreCallsBehindEach count (entry ∷ entries) =
    AreCallsBehind count entry (calls_in_front entries) × AreCallsBehindEach count entries

-- Listeners call only behind an event, in order of their numbers, at most 1000 times each; there are `count` of them.
pub record AreCallsInPlace (count : ℕ) (entries : List Entry) : Type 0 where
  pub first : calls_in_front entries ≡ []
  pub behind : AreCallsBehindEach count entries

-- how many calls listeners made
abbrev pub calls_in : List Entry → ℕ
calls_in [] = 0
calls_in (Listener w call answer ∷ entries) = suc (calls_in entries)
calls_in (other ∷ entries) = calls_in entries

-- how many lines began
abbrev pub steps_in : List Entry → ℕ
steps_in [] = 0
steps_in (Step n ∷ entries) = suc (steps_in entries)
steps_in (other ∷ entries) = steps_in entries

-- says how many calls listeners may still make behind entries
abbrev pub CallsLeft : Type 1
CallsLeft = List Entry → ℕ → Type 0

-- where they may make `limit` calls
abbrev pub HasCallsLeft : ℕ → List Entry → ℕ → Type 0
HasCallsLeft limit entries left = limit ≡ left + calls_in entries

-- where they may make `limit` calls in the line that was begun last
pub record HasCallsLeftInLine (limit : ℕ) (entries : List Entry) (left : ℕ) : Type 0 where
  pub front : List Entry
  pub number : ℕ
  pub part : List Entry
  pub entries_are : entries ≡ front ++ Step number ∷ part
  pub one_line : steps_in part ≡ 0
  pub calls : HasCallsLeft limit part left
