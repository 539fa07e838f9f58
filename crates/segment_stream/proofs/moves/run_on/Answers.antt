use Rattle.std.proofs.Common.{◌∙◌, subst, Result, Ok, Err, OnErr}
use Rattle.segment_stream.specs.declared.progress.MoveResult.{MoveResult}
use Rattle.segment_stream.specs.Kept.{IsMoveResult, snapshot}
use Rattle.segment_stream.proofs.Acts.{since-on, since-back}
use Rattle.segment_stream.proofs.moves.run_on.Goals as goal

on_err : {T E P : Type 0} (r : Result T E) → P → OnErr r P
on_err (Ok x) p = tt
on_err (Err e) p = p

pub returns-in_err-move_result-clause-err : goal.returns-in_err-move_result-clause-err
returns-in_err-move_result-clause-err c = on_err c.from_residual.result (since-back c.args.start.position.mode c.moves.at.position.mode c.args.tables.now c.moves.tables c.move_on.new.tables c.moves.invariant.since c.in_err-move_result.ensures.err)

pub moves-preserved : goal.moves-preserved
moves-preserved c =
    let g = subst (λ (m : MoveResult). IsMoveResult (snapshot c.args.last.now c.moves.at c.moves.tables c.args.input.now) c.move_on.new.tables m) c.in-Go.is c.in_ok-move_result.ensures.ok in
    record {
      same = g.same ∙ c.moves.invariant.same;
      consistent = g.consistent;
      total = g.total ∙ c.moves.invariant.total;
      same_failed = g.same_failed ∙ c.moves.invariant.same_failed;
      since = since-on c.args.start.position.mode c.moves.at.position.mode c.in-Go.next.position.mode c.args.tables.now c.moves.tables c.move_on.new.tables c.moves.invariant.since g.since;
    }
