use Rattle.decoder_feed.proofs.FeederAnswers.{feed_given}
use Rattle.decoder_feed.proofs.laws.feed_is_given.Goals as goal

pub returns : goal.returns
returns c = λ t time sound. feed_given time t sound
