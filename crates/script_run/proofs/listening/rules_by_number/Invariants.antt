use Rattle.std.proofs.Common.{◌≡◌, ◌++◌, not}
use Rattle.std.specs.List.{filter}
use Rattle.script_run.specs.Rules.{is_for, rules_for}
use Rattle.script_run.proofs.listening.rules_by_number.Given as goal

abbrev pub invariant-loop-rule : goal.invariant-loop-rule
invariant-loop-rule l = record {
  own : l.own.items ++ rules_for l.number l.rule-iterator.rest.items ≡ rules_for l.number l.fn.rules.items;
  others : l.others.items ++ filter (λ rule. not (is_for l.number rule)) l.rule-iterator.rest.items ≡ filter (λ rule. not (is_for l.number rule)) l.fn.rules.items;
}
