use Rattle.std.proofs.Common.{◌≡◌, map, vec_len}
use Rattle.script_run.proofs.GivenRules.{AreRulesGivenBelow}
use Rattle.script_run.proofs.listening.give_rules.Given as goal

abbrev pub invariant-loop-number : goal.invariant-loop-number
invariant-loop-number g l = record {
  len : vec_len l.listeners ≡ l.number-end;
  kinds : map (λ b. b.vtable) l.listeners.items ≡ map (λ b. b.vtable) l.fn.listeners.items;
  ways : map (λ b. (goal.Listener-dyn g (b.vtable, b.value)).way b.value) l.listeners.items ≡ map (λ b. (goal.Listener-dyn g (b.vtable, b.value)).way b.value) l.fn.listeners.items;
  notes : map (λ b. (goal.Listener-dyn g (b.vtable, b.value)).notes b.value) l.listeners.items ≡ map (λ b. (goal.Listener-dyn g (b.vtable, b.value)).notes b.value) l.fn.listeners.items;
  given : AreRulesGivenBelow l.fn.list.items l.rules_left.items (map (λ b. (goal.Listener-dyn g (b.vtable, b.value)).rules b.value) l.listeners.items) l.number;
}
