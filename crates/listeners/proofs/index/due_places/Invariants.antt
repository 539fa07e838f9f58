use Rattle.std.proofs.Common.{◌≡◌, ℕ, ◌++◌, take, nat_lt}
use Rattle.std.specs.List.{filter}
use Rattle.listeners.specs.Index.{bounded_count}
use Rattle.listeners.specs.Coming.{rule_at}
use Rattle.listeners.proofs.index.due_places.Given as goal

-- the places that are due so far
abbrev pub invariant-loop-place : goal.invariant-loop-place
invariant-loop-place l = (times : ℕ) → l.count ≡ bounded_count times
    → l.due.items ≡ l.places_left ++ filter (λ p. nat_lt times (rule_at l.rules p).times) (take l.place-index l.places)
