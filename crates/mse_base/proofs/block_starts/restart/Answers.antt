use Rattle.std.proofs.Common.{◌≡◌, ◌∙◌, ◌+◌, ◌*◌, length, ap, arith}
use Rattle.mse_base.specs.Rows.{start}
use Rattle.mse_base.proofs.BlockStarts.{starts_kept, starts_counted}
use Rattle.mse_base.proofs.block_starts.restart.Goals as goal

pub counting-init : goal.counting-init
counting-init c = record { starts = starts_kept c.args.starts.now.items c.truncate.new.self.items c.args.blocks.now.items c.args.b c.requires.within c.truncate.ensures.items c.requires.front }

pub counting-preserved : goal.counting-preserved
counting-preserved c =
    let starts = c.counting.starts.items in
    let z : (c.len-in-counting-3.result + 1) * 32 ≡ 32 * (length starts + 1) = omega (arith, c.len-in-counting-3.ensures, c.counting.starts.ok.0) in
    record { starts = starts_counted starts c.push_reserved.new.self.items c.args.blocks.now.items c.start_of-count.result c.counting.invariant.starts c.push_reserved.ensures.items (omega arith) (c.start_of-count.ensures ∙ ap (start c.args.blocks.now.items) z) }
