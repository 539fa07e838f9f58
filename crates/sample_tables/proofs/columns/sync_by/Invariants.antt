use Rattle.std.proofs.Common.{◌≡◌, ◌+◌, ◌==◌, ◌<◌, ℕ, false, take, drop, get_or, vec_len, true}
use Rattle.std.specs.List.{list_any}
use Rattle.sample_tables.specs.Rules.{are_numbers}
use Rattle.sample_tables.proofs.columns.sync_by.Given as goal

abbrev pub invariant-loop-number : goal.invariant-loop-number
invariant-loop-number l = record {
  marks : (k : ℕ) → k < l.n → get_or l.each.items k false ≡ list_any (λ number. number == k + 1) (take l.number-index l.numbers);
  len : vec_len l.each ≡ l.n;
  order : (before : ℕ) × (are_numbers before l.n (drop l.number-index l.numbers) ≡ true);
}
