use Rattle.std.proofs.Common.{◌∙◌}
use Rattle.listeners.proofs.ListenerTurns.{serving_start, serving_more, turn_unasked, turn_unheard, turn_unmade, turn_call_budget, turn_task_budget}
use Rattle.std.specs.Prelude.{None}
use Rattle.listeners.proofs.ListenerWays.{heard_kept, asked_kept}
use Rattle.listeners.proofs.event_dispatch.hear_and_call.Goals as goal

pub loop-next_call-init : goal.loop-next_call-init
loop-next_call-init g c = record {
  kind = c.ask_one.ensures.kind ∙ c.hear_one.ensures.kind;
  way = c.ask_one.ensures.way ∙ c.hear_one.ensures.way;
  by_way = λ h. asked_kept _ _ _ _ _ _ None c.ask_one.result c.ask_one.ensures.way c.ask_one.ensures.rules c.ask_one.ensures.ok c.ask_one.ensures.answers c.ask_one.ensures.err (heard_kept _ _ _ _ _ _ _ c.hear_one.result c.hear_one.ensures.way c.hear_one.ensures.rules c.hear_one.ensures.ok c.hear_one.ensures.err h);
  rules = c.ask_one.ensures.rules ∙ c.hear_one.ensures.rules;
  serving = serving_start _ _ _ _ _ _ _ _ c.in-Ok.ensures.ok c.in-Ok-ask_one.ensures.ok;
}

pub returns-in_default-clause-turn : goal.returns-in_default-clause-turn
returns-in_default-clause-turn g c = turn_unheard _ _ _ _ _ _ c.in_default.ensures.err

pub returns-in_default-ask_one-clause-turn : goal.returns-in_default-ask_one-clause-turn
returns-in_default-ask_one-clause-turn g c =
    turn_unasked _ _ _ _ _ _ _ c.in-Ok.ensures.ok c.in_default-ask_one.ensures.err

pub returns-then-call_count-eq-MOST_CALLS-clause-turn : goal.returns-then-call_count-eq-MOST_CALLS-clause-turn
returns-then-call_count-eq-MOST_CALLS-clause-turn g c =
    turn_call_budget _ _ _ _ c.in-Some.call _ (rw c.in-Some.is at c.loop-next_call.invariant.serving) c.if-call_count-eq-MOST_CALLS.true

pub returns-then-left-eq0-clause-turn : goal.returns-then-left-eq0-clause-turn
returns-then-left-eq0-clause-turn g c =
    turn_task_budget _ _ _ _ c.in-Some.call _ (rw c.in-Some.is at c.loop-next_call.invariant.serving) c.if-call_count-eq-MOST_CALLS.false c.if-left-eq0.true

pub returns-in_default-make_one-clause-turn : goal.returns-in_default-make_one-clause-turn
returns-in_default-make_one-clause-turn g c =
    turn_unmade _ _ _ _ _ _ _ _ _ c.in-Some.call _ c.in_default-make_one.field-0 (rw c.in-Some.is at c.loop-next_call.invariant.serving) c.if-call_count-eq-MOST_CALLS.false c.if-left-eq0.false c.in_default-make_one.ensures.turn

pub loop-next_call-preserved : goal.loop-next_call-preserved
loop-next_call-preserved g c = record {
  kind = c.make_one.ensures.kind ∙ c.loop-next_call.invariant.kind;
  way = c.make_one.ensures.way ∙ c.loop-next_call.invariant.way;
  by_way = λ h. c.make_one.ensures.by_way (c.loop-next_call.invariant.by_way h);
  rules = c.make_one.ensures.rules ∙ c.loop-next_call.invariant.rules;
  serving = serving_more _ _ _ _ _ _ _ _ _ c.in-Some.call _ _ (rw c.in-Some.is at c.loop-next_call.invariant.serving) c.if-call_count-eq-MOST_CALLS.false c.in-Ok-make_one.ensures.turn;
}

pub returns-in_default-clause-by_way : goal.returns-in_default-clause-by_way
returns-in_default-clause-by_way g c h = heard_kept _ _ _ _ _ _ _ c.hear_one.result c.hear_one.ensures.way c.hear_one.ensures.rules c.hear_one.ensures.ok c.hear_one.ensures.err h

pub returns-in_default-ask_one-clause-by_way : goal.returns-in_default-ask_one-clause-by_way
returns-in_default-ask_one-clause-by_way g c h = asked_kept _ _ _ _ _ _ None c.ask_one.result c.ask_one.ensures.way c.ask_one.ensures.rules c.ask_one.ensures.ok c.ask_one.ensures.answers c.ask_one.ensures.err (heard_kept _ _ _ _ _ _ _ c.hear_one.result c.hear_one.ensures.way c.hear_one.ensures.rules c.hear_one.ensures.ok c.hear_one.ensures.err h)
