use Rattle.std.proofs.Common.{drop, arith}
use Rattle.listeners.specs.Notes.{heard_of}
use Rattle.listeners.specs.Coming.{notes_of}
use Rattle.listeners.proofs.RuleListeners.{holds_index, holds_heard, rest_whole}
use Rattle.listeners.proofs.rule_listener.RuleListenerListener.hear.Goals as goal

pub invariant_of-self : goal.invariant_of-self
invariant_of-self c =
    let rules = c.self.inside.rules.items in
    let notes = notes_of rules c.self.inside.history.items in
    let h = c.self.invariant.1 in
    let kept = c.in_err-due.ensures.err in
    let indexed = rw c.as_slice-rules.ensures.value at kept in
    (c.self.invariant.0, holds_index rules notes c.self.inside.index c.hear_event.new.index (drop c.self.inside.at c.self.inside.due.items) c.self.inside.call (indexed (heard_of notes) h.indexed) h)

pub invariant_of-self-in_default : goal.invariant_of-self-in_default
invariant_of-self-in_default c =
    let rules = c.self.inside.rules.items in
    let notes = notes_of rules c.self.inside.history.items in
    let h = c.self.invariant.1 in
    let index = c.in_ok-due.ensures.index in
    let due = c.in_ok-due.ensures.due in
    let indexed = rw c.as_slice-rules.ensures.value at index in
    let more = rw (c.as_slice-rules.ensures.value, c.deref.ensures.value, rest_whole c.self.inside.due.items c.self.inside.at, c.in_default.is) at due in
    rw (c.with_remark-self-inside.ensures rules) (c.self.invariant.0, holds_heard rules notes c.args.event.now c.self.inside.index c.hear_event.new.index _ _ c.self.inside.call h (record { indexed = indexed (heard_of notes) h.indexed; due = more (heard_of notes) h.indexed }))

pub invariant_of-self-2 : goal.invariant_of-self-2
invariant_of-self-2 c =
    let rules = c.self.inside.rules.items in
    let notes = notes_of rules c.self.inside.history.items in
    let h = c.self.invariant.1 in
    let index = c.in_ok-due.ensures.index in
    let due = c.in_ok-due.ensures.due in
    let indexed = rw c.as_slice-rules.ensures.value at index in
    let more = rw (c.as_slice-rules.ensures.value, c.deref.ensures.value, rest_whole c.self.inside.due.items c.self.inside.at, c.in-Some.is) at due in
    rw (c.with_remark-self-inside-2.ensures rules) (omega arith, holds_heard rules notes c.args.event.now c.self.inside.index c.hear_event.new.index _ _ c.self.inside.call h (record { indexed = indexed (heard_of notes) h.indexed; due = more (heard_of notes) h.indexed }))
