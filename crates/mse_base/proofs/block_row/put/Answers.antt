use Rattle.std.proofs.Common.{◌∙◌, ◌+◌, List, length, ap, sym, subst, insert, arith}
use Rattle.std.proofs.lemmas.List.Edits.{length-insert}
use Rattle.mse_base.specs.declared.span.Span.{Span}
use Rattle.mse_base.specs.Rows.{row_items, start, row, AreStarts}
use Rattle.mse_base.proofs.InRows.{joined_set_insert, row_within}
use Rattle.mse_base.proofs.BlockStarts.{start_fits, starts_raised}
use Rattle.mse_base.proofs.block_row.put.Goals as goal

pub raise-requires : goal.raise-requires
raise-requires c = λ g l. start_fits c.args.starts.now.items c.args.blocks.now.items g c.requires.starts c.requires.small l

pub returns-then-len_at-lt-LONG-clause-spans : goal.returns-then-len_at-lt-LONG-clause-spans
returns-then-len_at-lt-LONG-clause-spans c =
    let rows = c.args.blocks.now.items in
    ap row_items c.put_in.ensures.rows ∙ joined_set_insert rows c.place_to_put-place.result.block c.place_to_put-place.result.index c.args.x c.place_to_put-place.ensures.block c.place_to_put-place.ensures.index ∙ ap (λ n. insert (row_items rows) n c.args.x) c.place_to_put-place.ensures.rank

pub returns-then-len_at-lt-LONG-clause-starts : goal.returns-then-len_at-lt-LONG-clause-starts
returns-then-len_at-lt-LONG-clause-starts c =
    let rows = c.args.blocks.now.items in
    let place = c.place_to_put-place.result in
    let at = c.place_to_put-place.ensures in
    let new = insert (row rows place.block) place.index c.args.x in
    subst (λ (rs : List (List Span)). AreStarts c.raise.new.starts.items rs) (sym c.put_in.ensures.rows) (starts_raised c.args.starts.now.items c.raise.new.starts.items rows place.block new c.requires.starts at.block (length-insert (row rows place.block) place.index c.args.x at.index) c.raise.ensures.len c.raise.ensures.front c.raise.ensures.behind)

pub restart-requires-clause-small : goal.restart-requires-clause-small
restart-requires-clause-small c =
    let rows = c.args.blocks.now.items in
    let place = c.place_to_put-place.result in
    let at = c.place_to_put-place.ensures in
    omega (arith, ap length c.put_apart.ensures.spans, length-insert (row_items rows) (start rows place.block + place.index) c.args.x (omega (arith, row_within rows place.block at.block, at.index)), c.requires.small)

pub restart-requires-clause-front : goal.restart-requires-clause-front
restart-requires-clause-front c = λ g l m. c.requires.starts.each g l ∙ sym (c.put_apart.ensures.front _ m)
