use Rattle.std.proofs.Common.{◌≡◌}
use Rattle.track_store.specs.State.{state_of}
use Rattle.feed_lines.proofs.FeederAnswers.{calls_left}
use Rattle.feed_lines.proofs.PutLines.{group_place, IsGiving}
use Rattle.feed_lines.proofs.put.put_given.Given as goal

abbrev pub invariant-giving : goal.invariant-giving
invariant-giving g l = record {
  giving : IsGiving (group_place l.at (state_of g.S.FrameStore.frames l.track)) l.feeder l.last (g.K.Sink.written l.fn.sink) (g.K.Sink.written l.sink);
  same_faults : g.K.Sink.faults l.sink ≡ g.K.Sink.faults l.fn.sink;
}

abbrev pub decreases-giving : goal.decreases-giving
decreases-giving g l = calls_left (state_of g.S.FrameStore.frames l.track) l.feeder.next
