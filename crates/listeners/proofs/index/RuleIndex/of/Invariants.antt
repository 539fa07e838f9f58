use Rattle.std.proofs.Common.{◌≡◌, ℕ, take, nat_cmp}
use Rattle.std.specs.BTreeMap.{get}
use Rattle.listeners.specs.Index.{places_or_none, places_of}
use Rattle.listeners.proofs.index.RuleIndex.of.Given as goal

-- the places of the rules so far
abbrev pub invariant-loop-place : goal.invariant-loop-place
invariant-loop-place l = (m : ℕ) → places_or_none (get nat_cmp l.places m) ≡ places_of (take l.place l.rules) m
