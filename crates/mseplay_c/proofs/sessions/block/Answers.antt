use Rattle.mseplay_c.proofs.Answered.{block_of}
use Rattle.mseplay_c.proofs.sessions.block.Goals as goal

pub returns : goal.returns
returns c = block_of c.block.result c.status_of.result c.args.live.now c.block.new.self c.status_of.ensures.ok c.status_of.ensures.err c.block.ensures.ok c.block.ensures.err c.block.ensures.stays c.block.ensures.ended
