use Rattle.std.proofs.Common.{◌∙◌, List, set, ap, sym, subst, vec_capacity}
use Rattle.std.proofs.lemmas.List.{length-set}
use Rattle.mse_base.specs.declared.span.Span.{Span}
use Rattle.mse_base.specs.Rows.{row_items, row, AreStarts}
use Rattle.mse_base.proofs.BlockStarts.{starts_same}
use Rattle.mse_base.proofs.InRows.{joined_set_set}
use Rattle.mse_base.proofs.SpreadOut.{spread_set}
use Rattle.mse_base.proofs.span_blocks.SpanBlocks.set.Goals as goal

pub invariant_of-self : goal.invariant_of-self
invariant_of-self c =
    let rows = c.self.inside.blocks.items in
    let place = c.place_of-place.result in
    let at = c.place_of-place.ensures in
    let held = c.self.invariant in
    let new = set (row rows place.block) place.index c.args.x in
    record {
      spread = spread_set _ c.set_in.new.blocks.items c.self.inside.len c.self.inside.spare place.block place.index (vec_capacity c.set_in.new.blocks) c.args.x held.spread at.block at.index c.set_in.ensures.rows c.set_in.ensures.capacity;
      starts = subst (λ (rs : List (List Span)). AreStarts c.self.inside.starts.items rs) (sym c.set_in.ensures.rows) (starts_same c.self.inside.starts.items rows place.block new held.starts at.block (length-set (row rows place.block) place.index c.args.x));
    }

pub returns-clause-spans : goal.returns-clause-spans
returns-clause-spans c =
    let rows = c.self.inside.blocks.items in
    ap row_items c.set_in.ensures.rows ∙ joined_set_set rows c.place_of-place.result.block c.place_of-place.result.index c.args.x c.place_of-place.ensures.block c.place_of-place.ensures.index ∙ ap (λ n. set (row_items rows) n c.args.x) c.place_of-place.ensures.rank ∙ ap (λ w. set w.spans c.args.i c.args.x) c.self.view_is
