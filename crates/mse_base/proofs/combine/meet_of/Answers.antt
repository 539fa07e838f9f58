use Rattle.mse_base.proofs.Overlaps.{take-left, take-right}
use Rattle.mse_base.proofs.Compared.{le_true, le_false}
use Rattle.mse_base.proofs.combine.meet_of.Goals as goal

pub heads-preserved-then-le : goal.heads-preserved-then-le
heads-preserved-then-le c =
    take-left _ _ c.heads.xs.now c.heads.ys.now c.heads.spans.items _ c.x-item.result c.y-item.result (le_true _ _ c.if-le.ensures) c.in_ok-push_overlap.ensures c.in-len1-up.len_at_least c.x-item.is c.in-len1-up-ys.len_at_least c.y-item.is c.heads.invariant

pub heads-preserved : goal.heads-preserved
heads-preserved c =
    take-right _ _ c.heads.xs.now c.heads.ys.now c.heads.spans.items _ c.x-item.result c.y-item.result (le_false _ _ c.if-le.ensures) c.in_ok-push_overlap.ensures c.in-len1-up.len_at_least c.x-item.is c.in-len1-up-ys.len_at_least c.y-item.is c.heads.invariant
