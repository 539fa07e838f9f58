use Rattle.script_run.specs.Writes.{IsWritten, IsFrontWritten}
use Rattle.track_store.specs.State.{state_of}
use Rattle.feed_lines.specs.Lines.{lines_of_track}
use Rattle.mse_commands.proofs.EngineTracks.{err_there, not_there, ok_there}
use Rattle.mse_commands.proofs.feeds.put_track.Goals as goal

pub returns-in-Some-clause-ok : goal.returns-in-Some-clause-ok
returns-in-Some-clause-ok g c = λ st h.
    ok_there c.args.engine.now st c.args.i (state_of g.S.FrameStore.frames c.in-Some.track.now) (λ t. IsWritten (lines_of_track c.args.at t) (g.K.Sink.written c.args.sink.now) (g.K.Sink.written c.put_feeds.new.sink)) c.put_feeds.result h c.in-Some.ensures c.put_feeds.ensures.ok

pub returns-in-Some-clause-err : goal.returns-in-Some-clause-err
returns-in-Some-clause-err g c = λ st h.
    err_there c.args.engine.now st c.args.i (state_of g.S.FrameStore.frames c.in-Some.track.now) (λ t. IsFrontWritten (lines_of_track c.args.at t) (g.K.Sink.written c.args.sink.now) (g.K.Sink.written c.put_feeds.new.sink)) c.put_feeds.result h c.in-Some.ensures c.put_feeds.ensures.err

pub returns-in-None-clause-ok : goal.returns-in-None-clause-ok
returns-in-None-clause-ok g c = λ st h. not_there c.args.engine.now st c.args.i (λ t. IsWritten (lines_of_track c.args.at t) (g.K.Sink.written c.args.sink.now) (g.K.Sink.written c.args.sink.now)) h c.in-None.ensures
