use Rattle.std.proofs.Common.{◌≡◌, [], map, vec_len}
use Rattle.std.specs.Prelude.{Some, replicate}
use Rattle.listeners.specs.RuleCalls.{next_call}
use Rattle.rule_run.proofs.by_rules.run_by_rules.OwnLists.{own-1}
use Rattle.rule_run.proofs.by_rules.run_by_rules.Given as goal

-- so many listeners are there, of which each answers by its rules, has none yet and has heard nothing
abbrev pub invariant-loop : goal.invariant-loop
invariant-loop g l = record {
  count : vec_len l.listeners ≡ l.counter;
  by_rules : map (λ b. (own-1.entry b.vtable).1.way b.value) l.listeners.items ≡ replicate l.counter (Some next_call);
  no_rules : map (λ b. (own-1.entry b.vtable).1.rules b.value) l.listeners.items ≡ replicate l.counter [];
  no_notes : map (λ b. (own-1.entry b.vtable).1.notes b.value) l.listeners.items ≡ replicate l.counter [];
}
