use Rattle.feed_lines.proofs.FeederAnswers.{answer_behind_last}
use Rattle.feed_lines.proofs.Progress.{end_is, enough_groups, feed_first}
use Rattle.feed_lines.proofs.laws.lines_of_a_sound_track.Goals as goal

pub returns : goal.returns
returns c = record { feed = feed_first; end = end_is; answer = answer_behind_last; groups = enough_groups }
