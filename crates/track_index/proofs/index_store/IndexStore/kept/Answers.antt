use Rattle.std.proofs.Common.{List, subst, sym}
use Rattle.mse_base.specs.Spans.{IsBridging}
use Rattle.mse_base.specs.declared.span.Span.{Span}
use Rattle.mse_base.proofs.Extended.{bridged_law}
use Rattle.mse_base.specs.Rows.{row_items}
use Rattle.track_store.specs.Frames.{intervals}
use Rattle.track_index.proofs.index_store.IndexStore.kept.Goals as goal

pub returns-clause-bridged : goal.returns-clause-bridged
returns-clause-bridged c =
    let fs = row_items c.self.inside.items.rows in
    rw (← c.self.view_is) (subst (λ (rs : List Span). IsBridging c.self.inside.gap (intervals fs) rs) (sym c.self.invariant.joined) (bridged_law c.self.inside.gap (intervals fs) c.self.invariant.gap_from_zero))
