use Rattle.mseplay_c.proofs.Puts.{IsTellingBehind}
use Rattle.mseplay_c.specs.Looks.{IsRangeTold}
use Rattle.mseplay_c.proofs.sessions.put_all_ranges.Given as goal

abbrev pub invariant-loop-i : goal.invariant-loop-i
invariant-loop-i l = IsTellingBehind IsRangeTold (λ track. track.ranges) l.found.view.ranges l.found.view.tracks l.fn.room l.from l.i l.room
