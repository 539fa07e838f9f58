use Rattle.std.proofs.Common.{◌≡◌, ◌∙◌, ◌+◌, ◌<◌, suc, length, ap, arith, length-drop}
use Rattle.std.proofs.lemmas.List.{length-take-le}
use Rattle.mse_base.specs.Rows.{row, start}
use Rattle.mse_base.proofs.InRows.{apart_left, apart_right, left_row, right_row, length_split}
use Rattle.mse_base.proofs.BlockStarts.{start_set_front, start_split_front}
use Rattle.mse_base.proofs.block_row.put_apart.Goals as goal

pub put_in-requires-clause-block : goal.put_in-requires-clause-block
put_in-requires-clause-block c = rw c.split_at.ensures.rows (omega (arith, length_split c.args.blocks.now.items c.args.b c.cut_place-s.result c.requires.block))

pub put_in-requires-clause-within : goal.put_in-requires-clause-within
put_in-requires-clause-within c = rw (c.split_at.ensures.rows, left_row c.args.blocks.now.items c.args.b c.cut_place-s.result c.requires.block) (omega (arith, length-take-le c.cut_place-s.result (row c.args.blocks.now.items c.args.b) (omega (arith, c.requires.full, c.cut_place-s.ensures.at_most_full)), c.if-i-s.true))

pub put_in-requires-clause-room : goal.put_in-requires-clause-room
put_in-requires-clause-room c = rw (c.split_at.ensures.rows, left_row c.args.blocks.now.items c.args.b c.cut_place-s.result c.requires.block) (omega (arith, length-take-le c.cut_place-s.result (row c.args.blocks.now.items c.args.b) (omega (arith, c.requires.full, c.cut_place-s.ensures.at_most_full)), c.cut_place-s.ensures.left c.if-i-s.true))

pub put_in-requires-else-i-s-clause-block : goal.put_in-requires-else-i-s-clause-block
put_in-requires-else-i-s-clause-block c = rw c.split_at.ensures.rows (omega (arith, length_split c.args.blocks.now.items c.args.b c.cut_place-s.result c.requires.block, c.requires.block))

pub put_in-requires-else-i-s-clause-within : goal.put_in-requires-else-i-s-clause-within
put_in-requires-else-i-s-clause-within c =
    let z : c.args.b + 1 ≡ suc c.args.b = omega arith in
    rw (c.split_at.ensures.rows, z, right_row c.args.blocks.now.items c.args.b c.cut_place-s.result c.requires.block) (omega (arith, length-drop c.cut_place-s.result (row c.args.blocks.now.items c.args.b), c.requires.within))

pub put_in-requires-else-i-s-clause-room : goal.put_in-requires-else-i-s-clause-room
put_in-requires-else-i-s-clause-room c =
    let z : c.args.b + 1 ≡ suc c.args.b = omega arith in
    rw (c.split_at.ensures.rows, z, right_row c.args.blocks.now.items c.args.b c.cut_place-s.result c.requires.block) (omega (arith, length-drop c.cut_place-s.result (row c.args.blocks.now.items c.args.b), c.requires.full, c.cut_place-s.ensures.at_least_half))

pub returns-then-i-s : goal.returns-then-i-s
returns-then-i-s c =
    let middle = c.cut_place-s.ensures.left c.if-i-s.true in
    let within : c.cut_place-s.result < length (row c.args.blocks.now.items c.args.b) = omega (arith, c.requires.full, middle) in
    let p = apart_left c.args.blocks.now.items c.split_at.new.blocks.items c.put_in.new.blocks.items c.args.b c.args.i c.cut_place-s.result c.args.x c.split_at.ensures.rows c.put_in.ensures.rows c.requires.block c.requires.filled within c.if-i-s.true in
    record {
      spans = p.spans;
      filled = p.filled;
      front = λ k m. ap (λ q. start q k) c.put_in.ensures.rows ∙ start_set_front c.split_at.new.blocks.items c.args.b k _ m ∙ ap (λ q. start q k) c.split_at.ensures.rows ∙ start_split_front c.args.blocks.now.items c.args.b c.cut_place-s.result k m;
      len = p.len;
      capacity = c.put_in.ensures.capacity ∙ c.split_at.ensures.capacity;
    }

pub returns-else-i-s : goal.returns-else-i-s
returns-else-i-s c =
    let some : 0 < c.cut_place-s.result = omega (arith, c.cut_place-s.ensures.at_least_half) in
    let p = apart_right c.args.blocks.now.items c.split_at.new.blocks.items c.put_in-else-i-s.new.blocks.items c.args.b c.args.i c.cut_place-s.result c.args.x c.split_at.ensures.rows c.put_in-else-i-s.ensures.rows c.requires.block c.requires.filled some c.if-i-s.false c.requires.within in
    record {
      spans = p.spans;
      filled = p.filled;
      front = λ k m. ap (λ q. start q k) c.put_in-else-i-s.ensures.rows ∙ start_set_front c.split_at.new.blocks.items (c.args.b + 1) k _ (omega (arith, m)) ∙ ap (λ q. start q k) c.split_at.ensures.rows ∙ start_split_front c.args.blocks.now.items c.args.b c.cut_place-s.result k m;
      len = p.len;
      capacity = c.put_in-else-i-s.ensures.capacity ∙ c.split_at.ensures.capacity;
    }
