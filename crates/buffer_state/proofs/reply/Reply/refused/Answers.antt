use Rattle.track_buffers.proofs.Durations.{not_after_itself}
use Rattle.buffer_state.proofs.reply.Reply.refused.Goals as goal

pub returns-clause-no_fall : goal.returns-clause-no_fall
returns-clause-no_fall c = not_after_itself c.args.duration.now
