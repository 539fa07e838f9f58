use Rattle.listeners.proofs.RuleListeners.{made_by_rules}
use Rattle.listeners.proofs.rule_listener.RuleListener.calls_are_by_rules.Goals as goal

pub returns : goal.returns
returns c = rw (← c.self.view_is) (made_by_rules _ _ _ _ _ c.self.invariant.1)
