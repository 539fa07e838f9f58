use Rattle.std.proofs.Common.{refl, arith, inl}
use Rattle.std.proofs.lemmas.Grind.{common_steps}
use Rattle.std.proofs.lemmas.Result.{on_ok_weaker}
use Rattle.script_run.proofs.ScriptLines.{called_of, halted_call}
use Rattle.script_run.proofs.run.ScriptRun.call_and_print.Goals as goal

pub returns-in_default-clause-err : goal.returns-in_default-clause-err
returns-in_default-clause-err g c = inl (c.in_default.ensures.err, refl)

pub put_entries-requires : goal.put_entries-requires
put_entries-requires g c =
    let step = rw (← c.self.view_is, ← c.self-2.view_is) at c.in-Ok.ensures.ok in
    let grew = step.1.grew in
    let from = c.len-from.ensures in
    grind (arith, common_steps)

pub returns-clause-ok : goal.returns-clause-ok
returns-clause-ok g c =
    let step = rw (← c.self.view_is, ← c.self-2.view_is) at c.in-Ok.ensures.ok in
    rw (← c.self.view_is, ← c.self-2.view_is) (on_ok_weaker _ (λ wrote. called_of _ _ _ _ _ _ _ c.len-from.ensures step wrote) c.put_entries.ensures.ok)

pub returns-clause-err : goal.returns-clause-err
returns-clause-err g c =
    let step = rw (← c.self.view_is, ← c.self-2.view_is) at c.in-Ok.ensures.ok in
    rw (← c.self.view_is, ← c.self-2.view_is) (halted_call c.args.blobs.now c.args.call.now c.len-from.result _ _ _ _ c.put_entries.result c.len-from.ensures step c.put_entries.ensures.err)
