use Rattle.std.proofs.Common.{rules, ◌≡◌, ◌<◌, ◌∙◌, length, get_or, sym}
use Rattle.listeners.specs.Coming.{notes_of}
use Rattle.listeners.proofs.RuleListeners.{holds_rested, next_is_none, past_end, rule_read, rule_inside, room_there, call_read, holds_after, next_after}
use Rattle.listeners.proofs.NoteLists.{told_next}
use Rattle.listeners.proofs.rule_listener.RuleListenerListener.next.Goals as goal

pub invariant_of-self : goal.invariant_of-self
invariant_of-self c =
    rw (c.with_answer_and_remark-self-inside.ensures c.self.inside.rules.items) (c.self.invariant.0, holds_rested _ _ _ _ _ _ c.self.invariant.1)

pub returns-in_default-clause-by_rules : goal.returns-in_default-clause-by_rules
returns-in_default-clause-by_rules c =
    let past = past_end c.get.result c.deref.result.now c.self.inside.at c.get.ensures.lookup.0 c.in_default.ensures in
    let past_due = rw c.deref.ensures.value at past in
    rw (← c.self.view_is) (sym (next_is_none _ _ _ c.self.inside.due.items c.self.inside.at _ past_due c.self.invariant.1))

pub invariant_of-self-2 : goal.invariant_of-self-2
invariant_of-self-2 c =
    let xs = c.self.inside.rules.items in
    let due = c.self.inside.due.items in
    let place = c.in-Some.place in
    let rule = c.index-rule.result.now in
    let within : c.self.inside.at < length due = search rules in
    let there : place ≡ get_or due c.self.inside.at 0 = search rules in
    let is : rule ≡ get_or xs place rule = search rules in
    let room = room_there xs (notes_of xs c.self.inside.history.items) c.self.inside.index due c.self.inside.at c.self.inside.call place within there c.self.invariant.1 in
    let read = rule_read xs place rule (rule_inside xs place c.self.inside.call room) is in
    rw (c.with_answer_and_remark-self-inside-2.ensures xs)
    (holds_after xs (notes_of xs c.self.inside.history.items) c.self.inside.index due c.self.inside.at c.self.inside.call _ place rule c.turn_after-turn.result within there read c.turn_after-turn.ensures c.self.invariant.1)

pub returns-clause-ok : goal.returns-clause-ok
returns-clause-ok c =
    let xs = c.self.inside.rules.items in
    let due = c.self.inside.due.items in
    let place = c.in-Some.place in
    let rule = c.index-rule.result.now in
    let within : c.self.inside.at < length due = search rules in
    let there : place ≡ get_or due c.self.inside.at 0 = search rules in
    let is : rule ≡ get_or xs place rule = search rules in
    let room = room_there xs (notes_of xs c.self.inside.history.items) c.self.inside.index due c.self.inside.at c.self.inside.call place within there c.self.invariant.1 in
    let read = rule_read xs place rule (rule_inside xs place c.self.inside.call room) is in
    let called : c.in_ok-call.call ≡ get_or rule.calls c.self.inside.call c.in_ok-call.call = search rules in
    let call = call_read xs place c.self.inside.call rule c.in_ok-call.call read (rw read room) called in
    rw (← c.self.view_is, call) (c.with_answer_and_remark-self-inside-2.ensures xs)

pub returns-clause-by_rules : goal.returns-clause-by_rules
returns-clause-by_rules c =
    let xs = c.self.inside.rules.items in
    let due = c.self.inside.due.items in
    let place = c.in-Some.place in
    let rule = c.index-rule.result.now in
    let within : c.self.inside.at < length due = search rules in
    let there : place ≡ get_or due c.self.inside.at 0 = search rules in
    let is : rule ≡ get_or xs place rule = search rules in
    let room = room_there xs (notes_of xs c.self.inside.history.items) c.self.inside.index due c.self.inside.at c.self.inside.call place within there c.self.invariant.1 in
    let read = rule_read xs place rule (rule_inside xs place c.self.inside.call room) is in
    let called : c.in_ok-call.call ≡ get_or rule.calls c.self.inside.call c.in_ok-call.call = search rules in
    let call = call_read xs place c.self.inside.call rule c.in_ok-call.call read (rw read room) called in
    rw (← c.self.view_is, call) (sym (next_after xs (notes_of xs c.self.inside.history.items) c.self.inside.index due c.self.inside.at c.self.inside.call place within there c.self.invariant.1))

pub returns-in_default-clause-by_way : goal.returns-in_default-clause-by_way
returns-in_default-clause-by_way c = returns-in_default-clause-by_rules c ∙ sym (told_next _ _ _)

pub returns-clause-by_way : goal.returns-clause-by_way
returns-clause-by_way c = returns-clause-by_rules c ∙ sym (told_next _ _ _)
