use Rattle.std.proofs.Common.{arith, vec_len}
use Rattle.std.proofs.lemmas.List.{length-map}
use Rattle.std.proofs.lemmas.Grind.{common_steps}
use Rattle.script_run.specs.Lines.{limits}
use Rattle.script_run.proofs.ScriptLines.{line_by, line_unopened}
use Rattle.script_run.proofs.run.ScriptRun.play_line.Goals as goal

pub returns-in-Ok-clause-played : goal.returns-in-Ok-clause-played
returns-in-Ok-clause-played g c =
    let ran = rw c.in-Ok.ensures.ok at c.do_line.ensures.ran in
    line_by c.args.blobs.now (limits c.args.limit (vec_len c.args.listeners.now)) c.args.n c.args.line.now _ _ _ _ _ _ _ c.open_line.ensures.standing c.open_line.ensures.sound (simp length-map (grind (arith, common_steps))) ran

pub returns-in-Err-clause-played : goal.returns-in-Err-clause-played
returns-in-Err-clause-played g c = rw c.in-Err.ensures.err (line_unopened _ _ _ _ _ _ _)
