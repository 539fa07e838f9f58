use Rattle.mseplay_c.proofs.Puts.{ArePutUpTo}
use Rattle.mseplay_c.specs.Looks.{IsTrackTold}
use Rattle.mseplay_c.proofs.sessions.put_tracks.Given as goal

abbrev pub invariant-loop-i : goal.invariant-loop-i
invariant-loop-i l = ArePutUpTo IsTrackTold 0 l.i l.found.view.tracks l.initial.room l.room
