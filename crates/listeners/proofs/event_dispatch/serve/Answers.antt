use Rattle.listeners.proofs.ListenerTurns.{turn_passed}
use Rattle.std.proofs.Common.{refl}
use Rattle.listeners.proofs.TurnSteps.{served, served_grown, grown_from}
use Rattle.listeners.proofs.ListenerWays.{idle_kept, same_kept}
use Rattle.listeners.proofs.event_dispatch.serve.Goals as goal

pub returns-then-pass_over-clause-turn : goal.returns-then-pass_over-clause-turn
returns-then-pass_over-clause-turn g c = turn_passed _ _ _ _ _ _ (rw c.if-pass_over.true at c.pass_over.ensures.idle)

pub returns-then-pass_over-clause-by_way : goal.returns-then-pass_over-clause-by_way
returns-then-pass_over-clause-by_way g c h = idle_kept _ _ _ _ _ _ _ c.pass_over.ensures.way c.pass_over.ensures.rules (rw c.if-pass_over.true at c.pass_over.ensures.idle) (rw c.if-pass_over.true at c.pass_over.ensures.by_way) h

pub returns-clause-by_way : goal.returns-clause-by_way
returns-clause-by_way g c h = c.hear_and_call.ensures.by_way (same_kept _ _ _ _ _ _ c.pass_over.ensures.way c.pass_over.ensures.rules (rw c.if-pass_over.false at c.pass_over.ensures.busy) h)

pub returns-then-pass_over-clause-grew : goal.returns-then-pass_over-clause-grew
returns-then-pass_over-clause-grew g c = (_, rw c.if-pass_over.true at c.pass_over.ensures.idle)

pub returns-then-pass_over-clause-steps : goal.returns-then-pass_over-clause-steps
returns-then-pass_over-clause-steps g c = served _ _ _ _ _ refl (turn_passed _ _ _ _ _ _ (rw c.if-pass_over.true at c.pass_over.ensures.idle))

pub returns-clause-grew : goal.returns-clause-grew
returns-clause-grew g c = grown_from _ _ _ (rw c.if-pass_over.false at c.pass_over.ensures.busy) (served_grown _ _ _ _ _ c.hear_and_call.ensures.turn)

pub returns-clause-steps : goal.returns-clause-steps
returns-clause-steps g c = served _ _ _ _ _ refl (rw (rw c.if-pass_over.false at c.pass_over.ensures.busy) at c.hear_and_call.ensures.turn)
