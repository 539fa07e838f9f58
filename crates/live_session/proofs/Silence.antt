-- Listeners that never answer.
use Rattle.std.proofs.Common.{◌≡◌, ◌∙◌, ℕ, zero, suc, ◌+◌, List, [], ◌∷◌, ◌++◌, length, refl, sym, ap, subst, arith}
use Rattle.std.specs.Prelude.{Option, None, slice_get, ⊤}
use Rattle.mse_calls.specs.declared.calls.Call.{Call}
use Rattle.mse_calls.specs.declared.events.Event.{Event}
use Rattle.mse_calls.specs.declared.entry.Entry.{Entry}
use Rattle.mse_calls.specs.declared.entry.Entry.TheVariants.{Step, Script, Listener, Fired, Work, Element}
use Rattle.mse_calls.specs.declared.rules.Rule.{Rule}
use Rattle.listeners.specs.Dispatch.{AreCallsInTurn}
use Rattle.listeners.specs.Notes.{calls_made, heard_of}
use Rattle.listeners.specs.RuleCalls.{again_calls, answering_after, calls_from, next_call, once_calls, rule_calls}
use Rattle.run_steps.specs.declared.note.Note.{Note}
use Rattle.run_steps.specs.declared.note.Note.TheVariants.{Heard}
use Rattle.script_run.specs.Turns.{calls_in}
use Rattle.mse_commands.specs.Played.{ListenerState, listeners_from}
use Rattle.mse_commands.specs.Program.{by_rules}
use Rattle.mse_commands.proofs.Dispatches.{AreServed, heard_by}
use Rattle.mse_commands.proofs.Drains.{AreEventsServed, led}

-- none of them ever answers a call
abbrev pub AreSilent : List ListenerState → Type 0
AreSilent [] = ⊤
AreSilent (h ∷ hs) = ((notes : List Note) → h.answers notes ≡ None) × AreSilent hs

none_led : (es : List Entry) → calls_in es ≡ 0 → led es ≡ []
none_led [] q = refl
none_led (Listener w call answer ∷ es) q = absurd (omega (arith, q))
none_led (Step n ∷ es) q = refl
none_led (Script call answer ∷ es) q = refl
none_led (Fired event ∷ es) q = refl
none_led (Work k ∷ es) q = refl
none_led (Element ∷ es) q = refl

served_silently : (event : Event) (w : ℕ) (hs : List ListenerState) → AreSilent hs → AreServed event w [] hs
served_silently event w [] s = tt
served_silently event w (h ∷ hs) s = ((s.0 (h.notes ++ Heard event ∷ []), tt), omega arith, served_silently event (suc w) hs s.1)

heard_silently : (event : Event) (w : ℕ) (hs : List ListenerState) → AreSilent hs → AreSilent (heard_by event w [] hs)
heard_silently event w [] s = tt
heard_silently event w (h ∷ hs) s = (s.0, heard_silently event (suc w) hs s.1)

-- behind no event stands a call
pub silently : (es : List Entry) (hs : List ListenerState) → calls_in es ≡ 0 → AreSilent hs → AreEventsServed hs es
silently [] hs q s = tt
silently (Listener w call answer ∷ es) hs q s = absurd (omega (arith, q))
silently (Step n ∷ es) hs q s = (none_led es q, silently es hs q s)
silently (Script call answer ∷ es) hs q s = (none_led es q, silently es hs q s)
silently (Work k ∷ es) hs q s = (none_led es q, silently es hs q s)
silently (Element ∷ es) hs q s = (none_led es q, silently es hs q s)
silently (Fired event ∷ es) hs q s =
    let none : led es ≡ [] = none_led es q in (
      subst (λ (xs : List Entry). AreCallsInTurn 0 (length hs) xs) (sym none) tt,
      subst (λ (xs : List Entry). AreServed event 0 xs hs) (sym none) (served_silently event 0 hs s),
      subst (λ (xs : List Entry). AreEventsServed (heard_by event 0 xs hs) es) (sym none) (silently es (heard_by event 0 [] hs) q (heard_silently event 0 hs s)),
    )

-- ---- listeners without rules

no_answering : (earlier events : List Event) → answering_after [] earlier events ≡ []
no_answering earlier [] = refl
no_answering earlier (event ∷ events) = no_answering (earlier ++ event ∷ []) events

no_calls_from : (n : ℕ) → calls_from n [] [] ≡ []
no_calls_from zero = refl
no_calls_from (suc n) = refl

none_at : (i : ℕ) → ◌≡◌ {A = Option Call} (slice_get [] i) None
none_at zero = refl
none_at (suc i) = refl

no_rule_calls : (events : List Event) (n : ℕ) → rule_calls [] events n ≡ []
unfolding rule_calls
no_rule_calls events n = ap (λ (rs : List Rule). calls_from n (once_calls rs) (again_calls rs)) (no_answering [] events) ∙ no_calls_from n

never : (notes : List Note) → next_call [] notes ≡ None
unfolding next_call
never notes =
    ap (λ (calls : List Call). slice_get calls (length (calls_made notes))) (no_rule_calls (heard_of notes) (length (calls_made notes) + 1))
    ∙ none_at (length (calls_made notes))

pub without_rules : (n w : ℕ) → AreSilent (listeners_from w [] (by_rules n))
without_rules zero w = tt
without_rules (suc n) w = (never, without_rules n (suc w))
