use Rattle.mseplay_c.proofs.Puts.{ArePutUpTo}
use Rattle.mseplay_c.specs.Looks.{IsRangeTold}
use Rattle.mseplay_c.proofs.look.put_ranges.Given as goal

abbrev pub invariant-loop-i : goal.invariant-loop-i
invariant-loop-i l = ArePutUpTo IsRangeTold l.from l.i l.ranges l.initial.room l.room
