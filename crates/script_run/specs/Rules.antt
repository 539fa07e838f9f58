-- The rules of listeners.
use Rattle.std.specs.Prelude.{ℕ, ◌==◌, Bool, List, [], slice_index_or}
use Rattle.std.specs.List.{filter}
use Rattle.mse_calls.specs.declared.rules.Rule.{Rule}

-- the rules of a listener, by its number
abbrev pub rules_of_listener : List (List Rule) → ℕ → List Rule
rules_of_listener given w = slice_index_or given w []

-- the rule is for it
abbrev pub is_for : ℕ → Rule → Bool
is_for w rule = rule.listener == w

-- those that are for it, in their order
abbrev pub rules_for : ℕ → List Rule → List Rule
rules_for w rules = filter (is_for w) rules
