use Rattle.std.proofs.Common.{length, ap, arith}
use Rattle.block_list.proofs.TestedFronts.{row_passed, row_failed, some_row}
use Rattle.block_list.proofs.finding.is_passed_by_first.Goals as goal

pub bounds-items-0 : goal.bounds-items-0
bounds-items-0 g c = omega (arith, some_row c.args.list.now.rows c.args.b c.requires.none_empty c.requires.block, ap length c.block-items.ensures.value)

pub returns-clause-before : goal.returns-clause-before
returns-clause-before g c = λ e. row_passed (g.P.Test.is_passed_by c.args.test.now) c.args.list.now.rows c.args.b c.index-items-0.result c.block-items.result.now c.is_passed_by.result c.requires.cut c.requires.block c.requires.none_empty c.block-items.ensures.value c.index-items-0.is c.is_passed_by.ensures e

pub returns-clause-after : goal.returns-clause-after
returns-clause-after g c = λ e. row_failed (g.P.Test.is_passed_by c.args.test.now) c.args.list.now.rows c.args.b c.index-items-0.result c.block-items.result.now c.is_passed_by.result c.requires.cut c.requires.block c.requires.none_empty c.block-items.ensures.value c.index-items-0.is c.is_passed_by.ensures e
