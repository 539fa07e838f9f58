-- Calls of listeners turn by turn, one part of a journal after another.
use Rattle.std.proofs.Common.{◌≡◌, ◌<◌, ◌+◌, ◌==◌, ℕ, suc, List, [], ◌∷◌, ◌++◌, arith}
use Rattle.std.specs.Prelude.{◌⊎◌, if◌then◌else◌, Option, Some, None, ⊤}
use Rattle.mse_calls.specs.declared.entry.Entry.{Entry}
use Rattle.mse_calls.specs.declared.entry.Entry.TheVariants.{Step, Script, Listener, Fired, Work, Element}
use Rattle.script_run.specs.Turns.{calls_in, most_calls}

-- ---- a device: `AreCallsInPlace` by the loop that listeners are served in

-- the listener whose turn it is to call after an event, and how many calls it has made
pub record ListenerTurn : Type 0 where
  pub listener : ℕ
  pub made : ℕ

-- listener 0 hears an event first
abbrev pub first_turn : ListenerTurn
first_turn = record { listener = 0; made = 0 }

-- it may call: it is its turn and it has a call left, or it comes behind the one whose turn it was
abbrev pub IsTurnToCall : ListenerTurn → ℕ → Type 0
IsTurnToCall turn w = (turn.listener < w) ⊎ ((turn.listener ≡ w) × (turn.made < most_calls))

abbrev pub turn_after : ListenerTurn → ℕ → ListenerTurn
turn_after turn w =
    if turn.listener == w then record { listener = w; made = suc turn.made }
    else record { listener = w; made = 1 }

-- Each call comes in its turn. Without a turn no event was fired since the last thing that was done.
abbrev pub AreInTurn : ℕ → Option ListenerTurn → List Entry → Type 0
AreInTurn count turn [] = ⊤
AreInTurn count turn (Fired event ∷ entries) = AreInTurn count (Some first_turn) entries
AreInTurn count None (Listener w call answer ∷ entries) = ⊥
AreInTurn count (Some turn) (Listener w call answer ∷ entries) =
    (w < count) × IsTurnToCall turn w × AreInTurn count (Some (turn_after turn w)) entries
AreInTurn count turn (Script call answer ∷ entries) = AreInTurn count None entries
AreInTurn count turn (Step n ∷ entries) = AreInTurn count None entries
AreInTurn count turn (Work k ∷ entries) = AreInTurn count None entries
AreInTurn count turn (Element ∷ entries) = AreInTurn count None entries

-- ---- parts in a row

-- what holds without a turn holds with one
pub turns_any : (count : ℕ) (turn : Option ListenerTurn) (es : List Entry) → AreInTurn count None es → AreInTurn count turn es
turns_any count None es h = h
turns_any count (Some turn) [] h = tt
turns_any count (Some turn) (Fired event ∷ es) h = h
turns_any count (Some turn) (Step n ∷ es) h = h
turns_any count (Some turn) (Script call answer ∷ es) h = h
turns_any count (Some turn) (Work k ∷ es) h = h
turns_any count (Some turn) (Element ∷ es) h = h
turns_any count (Some turn) (Listener w call answer ∷ es) h = absurd h

pub turns_then : (count : ℕ) (turn : Option ListenerTurn) (xs ys : List Entry) → AreInTurn count turn xs → AreInTurn count None ys → AreInTurn count turn (xs ++ ys)
turns_then count turn [] ys p q = turns_any count turn ys q
turns_then count turn (Fired event ∷ xs) ys p q = turns_then count _ xs ys p q
turns_then count turn (Step n ∷ xs) ys p q = turns_then count None xs ys p q
turns_then count turn (Script call answer ∷ xs) ys p q = turns_then count None xs ys p q
turns_then count turn (Work k ∷ xs) ys p q = turns_then count None xs ys p q
turns_then count turn (Element ∷ xs) ys p q = turns_then count None xs ys p q
turns_then count None (Listener w call answer ∷ xs) ys p q = absurd p
turns_then count (Some turn) (Listener w call answer ∷ xs) ys p q = (p.0, p.1, turns_then count (Some (turn_after turn w)) xs ys p.2 q)

pub turns_front : (count : ℕ) (turn : Option ListenerTurn) (xs ys : List Entry) → AreInTurn count turn (xs ++ ys) → AreInTurn count turn xs
turns_front count turn [] ys p = tt
turns_front count turn (Fired event ∷ xs) ys p = turns_front count _ xs ys p
turns_front count turn (Step n ∷ xs) ys p = turns_front count None xs ys p
turns_front count turn (Script call answer ∷ xs) ys p = turns_front count None xs ys p
turns_front count turn (Work k ∷ xs) ys p = turns_front count None xs ys p
turns_front count turn (Element ∷ xs) ys p = turns_front count None xs ys p
turns_front count None (Listener w call answer ∷ xs) ys p = absurd p
turns_front count (Some turn) (Listener w call answer ∷ xs) ys p = (p.0, p.1, turns_front count (Some (turn_after turn w)) xs ys p.2)

pub calls_in-append : (xs ys : List Entry) → calls_in (xs ++ ys) ≡ calls_in xs + calls_in ys
calls_in-append [] ys = omega arith
calls_in-append (Listener w call answer ∷ xs) ys = omega (arith, calls_in-append xs ys)
calls_in-append (Fired event ∷ xs) ys = calls_in-append xs ys
calls_in-append (Step n ∷ xs) ys = calls_in-append xs ys
calls_in-append (Script call answer ∷ xs) ys = calls_in-append xs ys
calls_in-append (Work k ∷ xs) ys = calls_in-append xs ys
calls_in-append (Element ∷ xs) ys = calls_in-append xs ys
