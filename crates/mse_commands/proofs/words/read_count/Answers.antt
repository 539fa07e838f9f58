use Rattle.std.proofs.Common.{◌∙◌, sym, inl, inr, arith}
use Rattle.mse_commands.proofs.Numbers.{count_none, count_found, count_outside}
use Rattle.mse_commands.proofs.words.read_count.Goals as goal
use Rattle.mse_commands.proofs.words.read_count.Goals.{else-count-ge1-via-then-count-ge1+else-count-most, else-count-ge1-via-else-count-ge1}

pub returns-in_err-count-clause-value : goal.returns-in_err-count-clause-value
returns-in_err-count-clause-value c = c.from_residual.ensures ∙ count_none c.args.most c.args.word.now (omega arith) (sym c.in_err-count.ensures)

pub returns-then-count-most-clause-value : goal.returns-then-count-most-clause-value
returns-then-count-most-clause-value c =
    count_found c.args.most c.in_ok-count.count c.args.word.now (omega arith) (sym c.in_ok-count.ensures) c.if-count-ge1.true c.if-count-most.true

pub returns-else-count-ge1-clause-value : goal.returns-else-count-ge1-clause-value
returns-else-count-ge1-clause-value c = elim c.else-count-ge1.branch [
  | else-count-ge1-via-then-count-ge1+else-count-most w ↦
      count_outside c.args.most c.in_ok-count.count c.args.word.now (omega arith) (sym c.in_ok-count.ensures) (inr (omega (arith, w.if-count-most.false)))
  | else-count-ge1-via-else-count-ge1 w ↦
      count_outside c.args.most c.in_ok-count.count c.args.word.now (omega arith) (sym c.in_ok-count.ensures) (inl (omega (arith, w.if-count-ge1.false)))
]
