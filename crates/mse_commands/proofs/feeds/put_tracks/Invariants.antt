use Rattle.std.proofs.Common.{◌≡◌}
use Rattle.feed_lines.specs.Lines.{lines_of_track}
use Rattle.mse_engine.specs.State.{State}
use Rattle.mse_engine.specs.Standing.{Stands}
use Rattle.mse_commands.specs.Feeds.{tracks_in}
use Rattle.mse_commands.proofs.PutTexts.{IsPut}
use Rattle.mse_commands.proofs.feeds.put_tracks.Given as goal

abbrev pub invariant-loop-i : goal.invariant-loop-i
invariant-loop-i g l = record {
  put : (st : State) → Stands l.engine st → IsPut (lines_of_track l.at) (tracks_in st) l.i (g.K.Sink.written l.fn.sink) (g.K.Sink.written l.sink);
  same_faults : g.K.Sink.faults l.sink ≡ g.K.Sink.faults l.fn.sink;
}
