use Rattle.std.proofs.Common.{◌∙◌, ap, arith}
use Rattle.std.specs.List.{swap}
use Rattle.block_list.proofs.ItemBeforeLast.{before_last}
use Rattle.block_list.proofs.block.put_at.Goals as goal

pub returns-then-i-len-2-clause-items : goal.returns-then-i-len-2-clause-items
returns-then-i-len-2-clause-items g c =
    c.swap.ensures.items ∙ ap (λ ys. swap ys c.args.i c.len-len.result) c.push_reserved.ensures.items ∙ before_last c.args.items.now.items c.args.i c.len-len.result c.args.x (omega (arith, c.if-i-len.true, c.if-i-len-2.true)) (omega (arith, c.len-len.ensures, c.args.items.now.ok.0))
