use Rattle.decoder_feed.proofs.FeederAnswers.{seek_in_order, run_in_order}
use Rattle.decoder_feed.proofs.laws.frames_come_in_order.Goals as goal

pub returns-clause-seek : goal.returns-clause-seek
returns-clause-seek c = seek_in_order

pub returns-clause-midst : goal.returns-clause-midst
returns-clause-midst c = run_in_order
