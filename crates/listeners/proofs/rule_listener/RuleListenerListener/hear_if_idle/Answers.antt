use Rattle.std.proofs.Common.{◌++◌, ◌∷◌, [], drop, sym, append_assoc, arith}
use Rattle.std.specs.Prelude.{None}
use Rattle.run_steps.specs.declared.note.Note.TheVariants.{Heard, Rested}
use Rattle.listeners.specs.Coming.{notes_of}
use Rattle.listeners.proofs.RuleListeners.{holds_idle, holds_rested, next_is_none}
use Rattle.listeners.proofs.rule_listener.RuleListenerListener.hear_if_idle.Goals as goal

pub invariant_of-self : goal.invariant_of-self
invariant_of-self c =
    let rules = c.self.inside.rules.items in
    let notes = notes_of rules c.self.inside.history.items in
    let due = drop c.self.inside.at c.self.inside.due.items in
    let none = rw c.if-not-has_no_rule_on.false at c.has_no_rule_on.ensures in
    let idle = holds_idle rules notes c.args.event.now c.self.inside.index due c.self.inside.call none c.self.invariant.1 in
    rw (c.with_remark-self-inside.ensures rules, c.with_remark-heard.ensures rules)
    (c.self.invariant.0, holds_rested rules (notes ++ Heard c.args.event.now ∷ []) c.self.inside.index due c.self.inside.call None idle)

pub returns-clause-idle : goal.returns-clause-idle
returns-clause-idle c =
    let rules = c.self.inside.rules.items in
    let notes = notes_of rules c.self.inside.history.items in
    rw (← c.self.view_is, c.with_remark-self-inside.ensures rules, c.with_remark-heard.ensures rules) (append_assoc notes (Heard c.args.event.now ∷ []) (Rested ∷ []))

pub returns-clause-by_way : goal.returns-clause-by_way
returns-clause-by_way c =
    let rules = c.self.inside.rules.items in
    let notes = notes_of rules c.self.inside.history.items in
    let due = drop c.self.inside.at c.self.inside.due.items in
    let none = rw c.if-not-has_no_rule_on.false at c.has_no_rule_on.ensures in
    let idle = holds_idle rules notes c.args.event.now c.self.inside.index due c.self.inside.call none c.self.invariant.1 in
    rw (← c.self.view_is) (sym (next_is_none rules (notes ++ Heard c.args.event.now ∷ []) c.self.inside.index c.self.inside.due.items c.self.inside.at c.self.inside.call (omega arith) idle))
