use Rattle.std.proofs.Common.{◌∙◌, refl, sym, arith}
use Rattle.block_list.specs.Starts.{starts_of}
use Rattle.block_list.proofs.RowStarts.{length_starts, none_behind}
use Rattle.block_list.proofs.ranked.fit.Goals as goal

pub lower-requires-clause-starts : goal.lower-requires-clause-starts
lower-requires-clause-starts g c = record { len = c.requires.long ∙ length_starts 0 c.args.list.now.rows; front = c.requires.front; rest = c.requires.rest }

pub lower-requires-clause-in_order : goal.lower-requires-clause-in_order
lower-requires-clause-in_order g c = omega (arith, c.requires.within, length_starts 0 c.args.list.now.rows, c.blocks-blocks.ensures)

pub returns-clause-starts : goal.returns-clause-starts
returns-clause-starts g c =
    let rows = c.args.list.now.rows in
    let n = length_starts 0 rows in
    record {
      long = c.lower.ensures.starts.len ∙ sym n;
      within = omega (arith, n, c.blocks-blocks.ensures);
      front = c.lower.ensures.starts.front;
      rest = none_behind c.lower.new.starts.items (starts_of rows) c.blocks-blocks.result 0 (omega (arith, c.lower.ensures.starts.len, c.blocks-blocks.ensures)) (omega (arith, n, c.blocks-blocks.ensures));
      none = λ _. refl;
    }
