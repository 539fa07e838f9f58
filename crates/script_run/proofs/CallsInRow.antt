-- Calls of listeners in their places, one part of a journal after another.
use Rattle.std.proofs.Common.{◌≡◌, ◌∙◌, ◌≤◌, ℕ, List, [], ◌∷◌, ◌++◌, ap, arith, refl, subst, sym}
use Rattle.mse_calls.specs.declared.entry.Entry.{Entry}
use Rattle.mse_calls.specs.declared.entry.Entry.TheVariants.{Step, Script, Listener, Fired, Work, Element}
use Rattle.listeners.specs.Notes.{call_count, call_notes}
use Rattle.script_run.specs.NoteHistory.{entries_until_event}
use Rattle.script_run.specs.Turns.{AreAnswersToEvent, AreCallsBehind, AreCallsBehindEach, AreCallsInPlace, calls_in, calls_in_front}

-- ---- behind a part, one that begins with no call

front_then : (xs ys : List Entry) → calls_in_front ys ≡ [] → calls_in_front (xs ++ ys) ≡ calls_in_front xs
front_then [] ys e = e
front_then (Listener w call answer ∷ xs) ys e = ap (λ (es : List Entry). Listener w call answer ∷ es) (front_then xs ys e)
front_then (Fired event ∷ xs) ys e = refl
front_then (Step n ∷ xs) ys e = refl
front_then (Script call answer ∷ xs) ys e = refl
front_then (Work k ∷ xs) ys e = refl
front_then (Element ∷ xs) ys e = refl

behind_then : (count : ℕ) (xs ys : List Entry) → AreCallsBehindEach count xs → calls_in_front ys ≡ [] → AreCallsBehindEach count ys → AreCallsBehindEach count (xs ++ ys)
behind_then count [] ys p e q = q
behind_then count (x ∷ xs) ys p e q = (subst (λ (es : List Entry). AreCallsBehind count x es) (sym (front_then xs ys e)) p.0, behind_then count xs ys p.1 e q)

pub calls_then : (count : ℕ) (xs ys : List Entry) → AreCallsInPlace count xs → AreCallsInPlace count ys → AreCallsInPlace count (xs ++ ys)
calls_then count xs ys p q = record { first = front_then xs ys q.first ∙ p.first; behind = behind_then count xs ys p.behind q.first q.behind }

-- ---- before an event

behind_before : (count : ℕ) (xs ys : List Entry) → calls_in_front ys ≡ [] → AreCallsBehindEach count (xs ++ ys) → AreCallsBehindEach count xs
behind_before count [] ys e p = tt
behind_before count (x ∷ xs) ys e p = (subst (λ (es : List Entry). AreCallsBehind count x es) (front_then xs ys e) p.0, behind_before count xs ys e p.1)

pub calls_before : (count : ℕ) (xs ys : List Entry) → calls_in_front ys ≡ [] → AreCallsInPlace count (xs ++ ys) → AreCallsInPlace count xs
calls_before count xs ys e p = record { first = sym (front_then xs ys e) ∙ p.first; behind = behind_before count xs ys e p.behind }

-- no listener calls before the first event
until_fresh : (count : ℕ) (es : List Entry) (w : ℕ) → calls_in_front es ≡ [] → AreCallsBehindEach count es → call_notes w (entries_until_event es) ≡ []
until_fresh count [] w first behind = refl
until_fresh count (Fired event ∷ es) w first behind = refl
until_fresh count (Step n ∷ es) w first behind = until_fresh count es w behind.0 behind.1
until_fresh count (Script call answer ∷ es) w first behind = until_fresh count es w behind.0 behind.1
until_fresh count (Work k ∷ es) w first behind = until_fresh count es w behind.0 behind.1
until_fresh count (Element ∷ es) w first behind = until_fresh count es w behind.0 behind.1
until_fresh count (Listener v call answer ∷ es) w first behind = absurd (cc)

pub fresh_calls : (count : ℕ) (es : List Entry) (w : ℕ) → AreCallsInPlace count es → call_notes w (entries_until_event es) ≡ []
fresh_calls count es w p = until_fresh count es w p.first p.behind

-- ---- where no listener calls

pub nothing_in_place : (count : ℕ) → AreCallsInPlace count []
nothing_in_place count = record { first = refl; behind = tt }

-- behind the number of a line
pub step_in_place : (count n : ℕ) (es : List Entry) → AreCallsInPlace count es → AreCallsInPlace count (Step n ∷ es)
step_in_place count n es p = record { first = refl; behind = (p.first, p.behind) }

silent_front : (es : List Entry) → calls_in es ≡ 0 → calls_in_front es ≡ []
silent_front [] none = refl
silent_front (Listener w call answer ∷ es) none = absurd (omega (arith, none))
silent_front (Fired event ∷ es) none = refl
silent_front (Step n ∷ es) none = refl
silent_front (Script call answer ∷ es) none = refl
silent_front (Work k ∷ es) none = refl
silent_front (Element ∷ es) none = refl

no_count : (w : ℕ) → call_count w [] ≡ 0
no_count w = refl

no_calls : (w : ℕ) → call_count w [] ≤ 1000
no_calls w = omega (arith, no_count w)

no_answers : (count : ℕ) → AreAnswersToEvent count []
no_answers count = record { order = tt; few = no_calls }

unanswered : (count : ℕ) (calls : List Entry) → calls ≡ [] → AreAnswersToEvent count calls
unanswered count calls none = subst (λ (es : List Entry). AreAnswersToEvent count es) (sym none) (no_answers count)

silent_behind : (count : ℕ) (es : List Entry) → calls_in es ≡ 0 → AreCallsBehindEach count es
silent_behind count [] none = tt
silent_behind count (Listener w call answer ∷ es) none = absurd (omega (arith, none))
silent_behind count (Fired event ∷ es) none = (unanswered count (calls_in_front es) (silent_front es none), silent_behind count es none)
silent_behind count (Step n ∷ es) none = (silent_front es none, silent_behind count es none)
silent_behind count (Script call answer ∷ es) none = (silent_front es none, silent_behind count es none)
silent_behind count (Work k ∷ es) none = (silent_front es none, silent_behind count es none)
silent_behind count (Element ∷ es) none = (silent_front es none, silent_behind count es none)

pub silent_in_place : (count : ℕ) (es : List Entry) → calls_in es ≡ 0 → AreCallsInPlace count es
silent_in_place count es none = record { first = silent_front es none; behind = silent_behind count es none }
