use Rattle.script_run.proofs.PutLines.{put_err, put_ok, put_short}
use Rattle.script_run.proofs.put.put_bytes.Goals as goal

pub returns-clause-ok : goal.returns-clause-ok
returns-clause-ok g c = rw c.halt_of.ensures (put_ok c.args.bytes.now _ _ c.put.result c.put.ensures.told)

pub returns-clause-err : goal.returns-clause-err
returns-clause-err g c = rw c.halt_of.ensures (put_err c.args.bytes.now _ _ c.put.result c.put.ensures.told)

pub returns-clause-short : goal.returns-clause-short
returns-clause-short g c = rw c.halt_of.ensures (λ e some. put_short c.args.bytes.now _ _ c.put.result c.put.ensures.told e some)
