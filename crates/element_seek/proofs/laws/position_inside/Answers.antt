use Rattle.element_seek.proofs.Positions.{seek-inside, play-inside, advance-inside}
use Rattle.element_seek.proofs.laws.position_inside.Goals as goal

pub returns-clause-seek : goal.returns-clause-seek
returns-clause-seek c = seek-inside

pub returns-clause-play : goal.returns-clause-play
returns-clause-play c = play-inside

pub returns-clause-advance : goal.returns-clause-advance
returns-clause-advance c = advance-inside
