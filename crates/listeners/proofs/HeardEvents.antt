-- The rules that answer one event more.
use Rattle.std.proofs.Common.{◌≡◌, ℕ, suc, ◌+◌, List, [], ◌∷◌, ◌++◌, refl, sym, ap, ◌∙◌, append_assoc, arith}
use Rattle.std.specs.Prelude.{Bool, true, false, if◌then◌else◌, Option}
use Rattle.std.specs.List.{filter}
use Rattle.std.proofs.lemmas.List.{append-nil}
use Rattle.mse_calls.specs.declared.events.Event.{Event}
use Rattle.mse_calls.specs.declared.rules.Rule.{Rule}
use Rattle.listeners.specs.declared.index.RuleIndex.{RuleIndex}
use Rattle.listeners.specs.Events.{is_same}
use Rattle.listeners.specs.Index.{HasIndex}
use Rattle.listeners.specs.RuleCalls.{times_heard, is_answering, answering_after, answering_rules}

answering_more : (rules : List Rule) (earlier events : List Event) (event : Event)
    → answering_after rules earlier (events ++ event ∷ []) ≡ answering_after rules earlier events ++ filter (is_answering (earlier ++ events) event) rules
answering_more rules earlier [] event = rw (append-nil earlier) (append-nil (filter (is_answering earlier event) rules))
answering_more rules earlier (e ∷ events) event =
    ap (λ (rs : List Rule). filter (is_answering earlier e) rules ++ rs) (answering_more rules (earlier ++ e ∷ []) events event)
    ∙ rw (append_assoc earlier (e ∷ []) events) (sym (append_assoc (filter (is_answering earlier e) rules) (answering_after rules (earlier ++ e ∷ []) events) (filter (is_answering (earlier ++ e ∷ events) event) rules)))

pub answering_next : (rules : List Rule) (heard : List Event) (event : Event) → answering_rules rules (heard ++ event ∷ []) ≡ answering_rules rules heard ++ filter (is_answering heard event) rules
answering_next rules heard event = answering_more rules [] heard event

times_by : (b : Bool) (m n : ℕ) → (if b then suc (m + n) else m + n) ≡ (if b then suc m else m) + n
times_by true m n = omega arith
times_by false m n = refl

times_one : (b : Bool) → (if b then 1 else 0) ≡ 0 + (if b then 1 else 0)
times_one true = refl
times_one false = refl

pub times_more : (event e : Event) (heard : List Event) → times_heard event (heard ++ e ∷ []) ≡ times_heard event heard + (if is_same event e then 1 else 0)
times_more event e [] = times_one (is_same event e)
times_more event e (x ∷ heard) =
    ap (λ (n : ℕ). if is_same event x then suc n else n) (times_more event e heard) ∙ times_by (is_same event x) (times_heard event heard) (if is_same event e then 1 else 0)

-- the index of a listener, and the rules that are due
pub record Duties : Type 0 where
  pub index : Option RuleIndex
  pub due : List Rule

-- what hearing an event makes of the index, and of the rules that are due
pub record AreDutiesAfter (rules : List Rule) (heard : List Event) (event : Event) (before : List Rule) (after : Duties) : Type 0 where
  pub indexed : HasIndex rules (heard ++ event ∷ []) after.index
  pub due : after.due ≡ before ++ filter (is_answering heard event) rules
