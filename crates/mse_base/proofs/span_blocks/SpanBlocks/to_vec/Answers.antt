use Rattle.std.proofs.Common.{◌∙◌, ◌<◌, ◌++◌, length, take, ap, sym, arith}
use Rattle.mse_base.specs.Rows.{row_items}
use Rattle.mse_base.proofs.InRows.{row_is, joined_take}
use Rattle.mse_base.proofs.span_blocks.SpanBlocks.to_vec.Goals as goal

pub loop-b-preserved : goal.loop-b-preserved
loop-b-preserved c =
    let rows = c.self.inside.blocks.items in
    let here : c.loop-b.b < length rows = omega (arith, c.len.ensures, c.self.inside.blocks.ok.0, c.loop-b-test.true) in
    let e = row_is rows c.loop-b.b c.index-block.result.now here c.index-block.ensures in
    record {
      within = omega (arith, here);
      spans = c.in_ok-extend_from_slice.ensures.items ∙ ap (λ xs. xs ++ c.as_slice.result.now) c.loop-b.invariant.spans ∙ ap (λ r. row_items (take c.loop-b.b rows) ++ r) (c.as_slice.ensures ∙ e) ∙ sym (joined_take rows c.loop-b.b here);
    }
