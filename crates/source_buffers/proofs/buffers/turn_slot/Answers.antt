use Rattle.buffer_state.specs.State.{surroundings}
use Rattle.source_buffers.proofs.SlotCalls.{nothing_there, turned_there}
use Rattle.source_buffers.proofs.buffers.turn_slot.Goals as goal

pub returns-in-Some-clause-done : goal.returns-in-Some-clause-done
returns-in-Some-clause-done g c = rw c.in-Some.is (turned_there c.turn.result c.turn.new.reply c.in-Some.buffer c.turn.new.self (surroundings c.args.around.now) c.turn.ensures.turned c.turn.ensures.idle c.turn.ensures.fewer c.turn.ensures.changes c.turn.ensures.within_duration c.turn.ensures.no_fall c.turn.ensures.ranges)

pub returns-in-None-clause-done : goal.returns-in-None-clause-done
returns-in-None-clause-done g c = rw c.in-None.is (nothing_there (surroundings c.args.around.now))
