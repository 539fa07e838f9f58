use Rattle.std.proofs.Common.{◌∙◌, ℕ, ap}
use Rattle.listeners.specs.Index.{places_at, count_at}
use Rattle.listeners.proofs.RuleIndex.{empty_there, not_empty, hears_none, hears_some}
use Rattle.listeners.proofs.rule_listener.hear_by_index.Goals as goal

pub returns-then-is_empty-clause-index : goal.returns-then-is_empty-clause-index
returns-then-is_empty-clause-index c heard h =
    let there = c.places-places.ensures ∙ ap (λ (n : ℕ). places_at c.args.index.now n) c.event_number-number.ensures in
    let heard_one = hears_none c.args.rules.now heard c.args.event.now c.args.index.now c.args.places_left.now (empty_there c.places-places.result.now _ there c.if-is_empty.ensures) h in
    heard_one.indexed

pub returns-then-is_empty-clause-due : goal.returns-then-is_empty-clause-due
returns-then-is_empty-clause-due c heard h =
    let there = c.places-places.ensures ∙ ap (λ (n : ℕ). places_at c.args.index.now n) c.event_number-number.ensures in
    let heard_one = hears_none c.args.rules.now heard c.args.event.now c.args.index.now c.args.places_left.now (empty_there c.places-places.result.now _ there c.if-is_empty.ensures) h in
    heard_one.due

pub returns-clause-index : goal.returns-clause-index
returns-clause-index c heard h =
    let number = c.event_number-number.ensures in
    let there = c.places-places.ensures ∙ ap (λ (n : ℕ). places_at c.args.index.now n) number in
    let chosen = c.in_ok-due.ensures in
    let counted = c.in_ok-count_one.ensures.ok in
    let counted_there = rw number at counted in
    let chosen_there = rw there at chosen in
    let heard_one =
    hears_some c.args.rules.now heard c.args.event.now c.count_one.new.self c.args.index.now c.args.places_left.now c.in_ok-due.due.items
    (not_empty c.places-places.result.now _ there c.if-is_empty.ensures) c.in_ok-count_one.ensures.places counted_there
    (λ times is. chosen_there times (c.count.ensures ∙ (ap (λ (n : ℕ). count_at c.args.index.now n) number ∙ is))) h in
    heard_one.indexed

pub returns-clause-due : goal.returns-clause-due
returns-clause-due c heard h =
    let number = c.event_number-number.ensures in
    let there = c.places-places.ensures ∙ ap (λ (n : ℕ). places_at c.args.index.now n) number in
    let chosen = c.in_ok-due.ensures in
    let counted = c.in_ok-count_one.ensures.ok in
    let counted_there = rw number at counted in
    let chosen_there = rw there at chosen in
    let heard_one =
    hears_some c.args.rules.now heard c.args.event.now c.count_one.new.self c.args.index.now c.args.places_left.now c.in_ok-due.due.items
    (not_empty c.places-places.result.now _ there c.if-is_empty.ensures) c.in_ok-count_one.ensures.places counted_there
    (λ times is. chosen_there times (c.count.ensures ∙ (ap (λ (n : ℕ). count_at c.args.index.now n) number ∙ is))) h in
    heard_one.due
