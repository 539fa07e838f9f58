use Rattle.std.proofs.Common.{◌∷◌, []}
use Rattle.script_run.proofs.PutLines.{front_none}
use Rattle.feed_lines.specs.Lines.{frame_line}
use Rattle.feed_lines.proofs.lines.put_frame.Goals as goal

pub returns-in-Err-clause-err : goal.returns-in-Err-clause-err
returns-in-Err-clause-err g c = front_none (g.K.Sink.written c.args.sink.now) (frame_line c.args.stored.now ∷ [])
