use Rattle.std.proofs.Common.{◌≡◌, drop}
use Rattle.sample_tables.specs.Rules.{are_numbers}
use Rattle.sample_tables.proofs.rules.are_numbers.Given as goal

abbrev pub invariant-loop-number : goal.invariant-loop-number
invariant-loop-number l = are_numbers l.before l.n (drop l.number-index l.numbers) ≡ are_numbers 0 l.n l.numbers
