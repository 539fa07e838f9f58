use Rattle.buffer_state.specs.State.{kept_buffer, surroundings}
use Rattle.buffer_state.proofs.InitRanges.{turn_leaves_ranges}
use Rattle.buffer_state.proofs.buffer.Buffer.turn.Goals as goal

pub returns-in-Append-clause-ranges : goal.returns-in-Append-clause-ranges
returns-in-Append-clause-ranges g c =
    let old = kept_buffer c.self.inside.stream c.self.inside.media.media c.self.inside.running in
    let new = kept_buffer c.append_turn.new.stream c.append_turn.new.media.media c.append_turn.new.running in
    rw (← c.self.view_is) (turn_leaves_ranges c.append_turn.result c.args.around.now.duration c.append_turn.new.reply old new (surroundings c.args.around.now) c.stands.ensures c.append_turn.ensures.answered)
