use Rattle.std.proofs.Common.{◌≡◌, ◌+◌, length, ap, arith, subst}
use Rattle.mse_base.specs.Rows.{row}
use Rattle.block_list.specs.Rows.{AreNonEmpty}
use Rattle.block_list.proofs.RowItems.{start_more, start_all}
use Rattle.block_list.proofs.KeptRows.{full_of}
use Rattle.block_list.proofs.TestedFronts.{some_row}
use Rattle.block_list.proofs.block_list.BlockList.at_item.Goals as goal

pub returns : goal.returns
returns g c =
    let rows = c.args.self.now.rows in
    let b = c.args.place.block in
    let none = subst (λ w. AreNonEmpty w.rows) c.self.view_is (full_of c.self.inside.half c.self.inside.blocks.items c.self.invariant.0.short) in
    record {
      rank = omega (arith, start_more c.args.self.now.rows c.args.place.block c.requires.block, ap (λ w. length (row w.rows c.args.place.block)) c.self.view_is, c.len_at.ensures.value);
      place = record {
        item = λ l. omega (arith, some_row rows (b + 1) none l);
        end = λ l. let e : b + 1 ≡ length rows = omega arith in omega (arith, start_all rows (b + 1) e);
      };
    }
