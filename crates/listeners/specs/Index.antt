-- Where the rules on an event are, and how often it was heard.
use Rattle.std.specs.Prelude.{ℕ, ◌+◌, ◌-◌, ◌^◌, ◌==◌, ◌≡◌, ◌⊎◌, ◌&&◌, min, Bool, List, [], ◌∷◌, Option, Some, None, if◌then◌else◌, Vec}
use Rattle.std.specs.BTreeMap.{get}
use Rattle.std.specs.Ordering.{nat_cmp}
use Rattle.std.specs.declared.alloc.Global.{Global}
use Rattle.mse_calls.specs.declared.events.Event.{Event}
use Rattle.mse_calls.specs.declared.rules.Rule.{Rule}
use Rattle.listeners.specs.declared.index.RuleIndex.{RuleIndex}
use Rattle.listeners.specs.Events.{event_number}
use Rattle.listeners.specs.RuleCalls.{has_calls, times_heard}

-- a rule that has calls and is on the event of this number
abbrev pub is_on : ℕ → Rule → Bool
is_on number rule = number == event_number rule.on && has_calls rule.calls

-- the places of those rules, of which the first has the place `i`
abbrev pub places_from : ℕ → ℕ → List Rule → List ℕ
places_from number i [] = []
places_from number i (rule ∷ rules) =
    if is_on number rule then i ∷ places_from number (i + 1) rules
    else places_from number (i + 1) rules

abbrev pub places_of : List Rule → ℕ → List ℕ
places_of rules number = places_from number 0 rules

abbrev pub places_or_none : Option (Vec ℕ Global) → List ℕ
places_or_none None = []
places_or_none (Some places) = places.items

abbrev pub count_or_zero : Option ℕ → ℕ
count_or_zero None = 0
count_or_zero (Some n) = n

-- what an index has at a number
abbrev pub places_at : RuleIndex → ℕ → List ℕ
places_at index number = places_or_none (get nat_cmp index.places number)

abbrev pub count_at : RuleIndex → ℕ → ℕ
count_at index number = count_or_zero (get nat_cmp index.heard number)

-- a count that stands at its greatest value
abbrev pub bounded_count : ℕ → ℕ
bounded_count n = min n (2 ^ 32 - 1)

-- no rule is on the event, or the index has how often it was heard
abbrev pub HasCount : List Rule → List Event → RuleIndex → Event → Type 0
HasCount rules heard index event =
    (places_of rules (event_number event) ≡ [])
    ⊎ (count_at index (event_number event) ≡ bounded_count (times_heard event heard))

-- the index of rules after these events were heard
pub record IsIndexOf (rules : List Rule) (heard : List Event) (index : RuleIndex) : Type 0 where
  pub places : (number : ℕ) → places_at index number ≡ places_of rules number
  pub counts : (event : Event) → HasCount rules heard index event

-- an index that may not be there yet, where nothing was heard
abbrev pub HasIndex : List Rule → List Event → Option RuleIndex → Type 0
HasIndex rules heard None = heard ≡ []
HasIndex rules heard (Some index) = IsIndexOf rules heard index
