use Rattle.std.proofs.Common.{rules, refl, arith}
use Rattle.std.proofs.lemmas.Grind.{common_steps}
use Rattle.listeners.proofs.EventDispatch.{progress_none, listeners_more, listeners_end, rules_kept, kept}
use Rattle.listeners.proofs.DispatchSteps.{grown_none, steps_none, steps_done, same_length, listeners_grown, listeners_steps, listeners_fault}
use Rattle.listeners.proofs.ListenerWays.{by_way_set}
use Rattle.listeners.proofs.event_dispatch.dispatch.Goals as goal

pub loop-number-init : goal.loop-number-init
loop-number-init g c = record { len = search rules; kinds = refl; ways = refl; by_way = λ h. h; rules = refl; progress = progress_none _ _ _; grew = grown_none _; steps = steps_none _ _ _ }

pub returns-in-Err-clause-rules : goal.returns-in-Err-clause-rules
returns-in-Err-clause-rules g c = rules_kept _ _ _ _ _ _ c.loop-number.invariant.rules c.index_mut-listener.ensures.value c.serve.ensures.rules

pub returns-in-Err-clause-dispatch : goal.returns-in-Err-clause-dispatch
returns-in-Err-clause-dispatch g c = listeners_end _ _ _ _ _ _ _ _ _ _ _ _ c.loop-number.invariant.progress (grind (arith, common_steps)) c.index_mut-listener.ensures.value c.in-Err.ensures.turn

pub loop-number-preserved : goal.loop-number-preserved
loop-number-preserved g c = record {
  len = c.loop-number.invariant.len;
  kinds = kept _ _ _ _ _ _ c.loop-number.invariant.kinds c.index_mut-listener.ensures.value c.serve.ensures.kind;
  ways = kept _ _ _ _ _ _ c.loop-number.invariant.ways c.index_mut-listener.ensures.value c.serve.ensures.way;
  by_way = λ h. by_way_set _ _ _ _ _ _ _ (grind (arith, common_steps)) c.index_mut-listener.ensures.value c.serve.ensures.by_way (c.loop-number.invariant.by_way h);
  rules = rules_kept _ _ _ _ _ _ c.loop-number.invariant.rules c.index_mut-listener.ensures.value c.serve.ensures.rules;
  progress = listeners_more _ _ _ _ _ _ _ _ _ _ _ c.loop-number.invariant.progress (grind (arith, common_steps)) c.index_mut-listener.ensures.value c.in-Ok.ensures.turn;
  grew = listeners_grown _ _ _ _ _ _ c.loop-number.invariant.grew (grind (arith, common_steps)) c.index_mut-listener.ensures.value c.serve.ensures.grew;
  steps = listeners_steps _ _ _ _ _ _ _ _ _ _ _ c.loop-number.invariant.steps (same_length _ _ _ c.loop-number.invariant.kinds) (grind (arith, common_steps)) c.index_mut-listener.ensures.value c.serve.ensures.grew c.in-Ok.ensures.steps;
}

pub returns-in-Err-clause-kinds : goal.returns-in-Err-clause-kinds
returns-in-Err-clause-kinds g c = kept _ _ _ _ _ _ c.loop-number.invariant.kinds c.index_mut-listener.ensures.value c.serve.ensures.kind

pub returns-in-Err-clause-ways : goal.returns-in-Err-clause-ways
returns-in-Err-clause-ways g c = kept _ _ _ _ _ _ c.loop-number.invariant.ways c.index_mut-listener.ensures.value c.serve.ensures.way

pub returns-in-Err-clause-by_way : goal.returns-in-Err-clause-by_way
returns-in-Err-clause-by_way g c h = by_way_set _ _ _ _ _ _ _ (grind (arith, common_steps)) c.index_mut-listener.ensures.value c.serve.ensures.by_way (c.loop-number.invariant.by_way h)

pub returns-in-Err-clause-grew : goal.returns-in-Err-clause-grew
returns-in-Err-clause-grew g c = listeners_grown _ _ _ _ _ _ c.loop-number.invariant.grew (grind (arith, common_steps)) c.index_mut-listener.ensures.value c.serve.ensures.grew

pub returns-in-Err-clause-steps : goal.returns-in-Err-clause-steps
returns-in-Err-clause-steps g c = listeners_fault _ _ _ _ _ _ _ _ _ _ _ _ c.loop-number.invariant.steps (same_length _ _ _ c.loop-number.invariant.kinds) (grind (arith, common_steps)) c.index_mut-listener.ensures.value c.serve.ensures.grew c.in-Err.ensures.steps

pub returns-clause-steps : goal.returns-clause-steps
returns-clause-steps g c = steps_done _ _ _ _ _ c.loop-number.invariant.steps (grind (arith, common_steps))
