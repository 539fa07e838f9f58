use Rattle.std.proofs.Common.{◌∙◌, ◌∷◌, ◌≤◌, [], ℕ, List, arith, length, subst}
use Rattle.std.proofs.lemmas.Result.{err_from_is_err_and}
use Rattle.script_run.specs.Writes.{IsFrontWritten, IsWritten}
use Rattle.script_run.proofs.GoneThrough.{gone_through}
use Rattle.mse_commands.proofs.PutTexts.{all_put, one_failed, one_put, singles, some_put}
use Rattle.mse_commands.proofs.remuxing.put_pieces.Goals as goal

pub returns-in_default-clause-err : goal.returns-in_default-clause-err
returns-in_default-clause-err g c =
    subst (λ (x : List (List ℕ)). IsFrontWritten x (g.K.Sink.written c.args.sink.now) (g.K.Sink.written c.loop-i.sink)) (singles c.args.file.now)
    (some_put (λ piece. piece ∷ []) c.args.file.now c.loop-i.i _ _ c.loop-i.invariant.put)

pub returns-in_err-put_bytes-clause-err : goal.returns-in_err-put_bytes-clause-err
returns-in_err-put_bytes-clause-err g c =
    let p = err_from_is_err_and c.from_residual.result c.from_residual.ensures.1 in
    rw p.1 (subst (λ (x : List (List ℕ)). IsFrontWritten x (g.K.Sink.written c.args.sink.now) (g.K.Sink.written c.put_bytes.new.sink)) (singles c.args.file.now)
    (one_failed (λ piece. piece ∷ []) c.args.file.now c.loop-i.i c.in-Ok.piece _ _ _ c.in-Ok.ensures c.loop-i.invariant.put (rw c.as_slice.ensures at c.in_err-put_bytes.ensures.err)))

pub loop-i-preserved : goal.loop-i-preserved
loop-i-preserved g c = record {
  put = one_put (λ piece. piece ∷ []) c.args.file.now c.loop-i.i c.in-Ok.piece _ _ _ c.in-Ok.ensures c.loop-i.invariant.put (rw c.as_slice.ensures at c.in_ok-put_bytes.ensures.ok);
  same_faults = c.in_ok-put_bytes.ensures.puts.told (gone_through _ _) ∙ c.loop-i.invariant.same_faults;
}

pub returns-clause-ok : goal.returns-clause-ok
returns-clause-ok g c =
    let past : length c.args.file.now ≤ c.loop-i.i = omega (arith, c.loop-i-test.false, c.piece_count-i-end.ensures) in
    subst (λ (x : List (List ℕ)). IsWritten x (g.K.Sink.written c.args.sink.now) (g.K.Sink.written c.loop-i.sink)) (singles c.args.file.now)
    (all_put (λ piece. piece ∷ []) c.args.file.now c.loop-i.i _ _ past c.loop-i.invariant.put)
