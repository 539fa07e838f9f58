use Rattle.decoder_feed.proofs.Groups.{feed_group}
use Rattle.decoder_feed.proofs.laws.feed_is_a_group.Goals as goal

pub returns : goal.returns
returns c = λ t time sound. feed_group time t.frames sound.ascending sound.chained
