use Rattle.std.proofs.Common.{refl, arith, rules}
use Rattle.std.proofs.lemmas.Grind.{common_steps}
use Rattle.script_run.proofs.GivenRules.{given_more, given_none, none_at, notes_kept, all_kept}
use Rattle.listeners.proofs.ListenerWays.{unheard_by_way}
use Rattle.script_run.proofs.listening.give_rules.Goals as goal

pub loop-number-init : goal.loop-number-init
loop-number-init g c = record { len = search rules; kinds = refl; ways = refl; notes = refl; given = given_none _ _ }

pub give_to-requires : goal.give_to-requires
give_to-requires g c = none_at _ _ c.loop-number.listeners.items c.loop-number.number _ c.requires.no_notes c.loop-number.invariant.notes (grind (arith, common_steps)) c.index_mut-listener.ensures.value

pub loop-number-preserved : goal.loop-number-preserved
loop-number-preserved g c = record {
  len = c.loop-number.invariant.len;
  kinds = all_kept _ _ _ _ _ _ c.loop-number.invariant.kinds c.index_mut-listener.ensures.value c.give_to.ensures.kind;
  ways = all_kept _ _ _ _ _ _ c.loop-number.invariant.ways c.index_mut-listener.ensures.value c.give_to.ensures.way;
  notes = notes_kept _ _ _ _ _ _ c.loop-number.invariant.notes c.index_mut-listener.ensures.value c.give_to.ensures.notes;
  given = given_more _ _ _ _ _ c.loop-number.listeners.items c.loop-number.number _ (grind (arith, common_steps)) c.give_to.ensures.rules c.in-Ok.ensures.own c.in-Ok.ensures.others c.loop-number.invariant.given;
}

pub returns-in_default-clause-by_way : goal.returns-in_default-clause-by_way
returns-in_default-clause-by_way g c = unheard_by_way _ _ _ _ (λ w. rw c.loop-number.invariant.notes (c.requires.no_notes w))

pub returns-clause-by_way : goal.returns-clause-by_way
returns-clause-by_way g c = unheard_by_way _ _ _ _ (λ w. rw c.loop-number.invariant.notes (c.requires.no_notes w))
