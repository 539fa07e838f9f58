use Rattle.std.proofs.Common.{◌≡◌}
use Rattle.track_store.specs.State.{state_of}
use Rattle.feed_lines.proofs.Progress.{later}
use Rattle.feed_lines.proofs.PutLines.{IsFeeding}
use Rattle.feed_lines.proofs.put.put_feeds.Given as goal

abbrev pub invariant-feeding : goal.invariant-feeding
invariant-feeding g l = record {
  feeding : IsFeeding l.fn.from l.at (state_of g.S.FrameStore.frames l.track) (g.K.Sink.written l.fn.sink) (g.K.Sink.written l.sink);
  same_faults : g.K.Sink.faults l.sink ≡ g.K.Sink.faults l.fn.sink;
}

abbrev pub decreases-feeding : goal.decreases-feeding
decreases-feeding g l = later l.at (g.S.FrameStore.frames l.track.store)
