use Rattle.std.proofs.Common.{◌∙◌, get_or, ap, sym}
use Rattle.block_list.proofs.RowItems.{get_at}
use Rattle.block_list.proofs.block_list.BlockList.item.Goals as goal

pub returns : goal.returns
returns g c = c.index-items-place.is ∙ ap (λ r. get_or r c.args.place.index c.index-items-place.result) c.block-items.ensures.value ∙ sym (get_at c.args.self.now.rows c.args.place.block c.args.place.index c.index-items-place.result c.requires.block c.requires.index)
