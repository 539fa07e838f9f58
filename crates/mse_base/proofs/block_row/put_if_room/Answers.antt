use Rattle.std.proofs.Common.{◌∙◌, List, ap, sym, subst, insert}
use Rattle.std.proofs.lemmas.List.Edits.{length-insert}
use Rattle.mse_base.specs.declared.span.Span.{Span}
use Rattle.mse_base.specs.Rows.{row_items, row, AreStarts}
use Rattle.mse_base.proofs.InRows.{joined_set_insert}
use Rattle.mse_base.proofs.BlockStarts.{start_fits, starts_raised}
use Rattle.mse_base.proofs.block_row.put_if_room.Goals as goal

pub raise-requires : goal.raise-requires
raise-requires c = λ g l. start_fits c.args.starts.now.items c.args.blocks.now.items g c.requires.starts c.requires.small l

pub returns-then-len_at-lt-LONG-clause-spans : goal.returns-then-len_at-lt-LONG-clause-spans
returns-then-len_at-lt-LONG-clause-spans c = λ _.
    let rows = c.args.blocks.now.items in
    ap row_items c.put_in.ensures.rows ∙ joined_set_insert rows c.place_to_put-place.result.block c.place_to_put-place.result.index c.args.x.now c.place_to_put-place.ensures.block c.place_to_put-place.ensures.index ∙ ap (λ n. insert (row_items rows) n c.args.x.now) c.place_to_put-place.ensures.rank

pub returns-then-len_at-lt-LONG-clause-starts : goal.returns-then-len_at-lt-LONG-clause-starts
returns-then-len_at-lt-LONG-clause-starts c =
    let rows = c.args.blocks.now.items in
    let place = c.place_to_put-place.result in
    let at = c.place_to_put-place.ensures in
    let new = insert (row rows place.block) place.index c.args.x.now in
    subst (λ (rs : List (List Span)). AreStarts c.raise.new.starts.items rs) (sym c.put_in.ensures.rows) (starts_raised c.args.starts.now.items c.raise.new.starts.items rows place.block new c.requires.starts at.block (length-insert (row rows place.block) place.index c.args.x.now at.index) c.raise.ensures.len c.raise.ensures.front c.raise.ensures.behind)
