use Rattle.std.proofs.Common.{◌∙◌, get_or, ap, sym}
use Rattle.mse_base.proofs.InRows.{row_is, get_at}
use Rattle.mse_base.proofs.block_row.span_at.Goals as goal

pub get-requires : goal.get-requires
get-requires c = rw (row_is c.args.blocks.now.items c.args.place.block c.index-block.result.now c.requires.block c.index-block.ensures) c.requires.index

pub returns : goal.returns
returns c = c.get.ensures ∙ ap (λ r. get_or r c.args.place.index c.get.result) (row_is c.args.blocks.now.items c.args.place.block c.index-block.result.now c.requires.block c.index-block.ensures) ∙ sym (get_at c.args.blocks.now.items c.args.place.block c.args.place.index c.get.result c.requires.block c.requires.index)
