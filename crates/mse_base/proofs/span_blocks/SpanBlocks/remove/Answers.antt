use Rattle.std.proofs.Common.{◌∙◌, ◌≡◌, ◌+◌, ◌*◌, List, remove, length, ap, sym, subst, arith, vec_capacity}
use Rattle.std.proofs.lemmas.List.Edits.{length-remove}
use Rattle.mse_base.specs.declared.span.Span.{Span}
use Rattle.mse_base.specs.Rows.{row_items, start, row, AreStarts}
use Rattle.mse_base.proofs.BlockStarts.{start_some, starts_lowered, start_remove_front}
use Rattle.mse_base.proofs.InRows.{joined_set_remove, joined_one, row_within}
use Rattle.mse_base.proofs.SpreadOut.{spread_take, spread_less}
use Rattle.mse_base.proofs.span_blocks.SpanBlocks.remove.Goals as goal

pub lower-requires : goal.lower-requires
lower-requires c = λ g m l. start_some c.self.inside.starts.items c.self.inside.blocks.items c.place_of-place.result.block g c.self.invariant.starts c.place_of-place.ensures.block (omega (arith, c.place_of-place.ensures.index)) m l

pub invariant_of-self : goal.invariant_of-self
invariant_of-self c =
    let rows = c.self.inside.blocks.items in
    let place = c.place_of-place.result in
    let at = c.place_of-place.ensures in
    let held = c.self.invariant in
    let new = remove (row rows place.block) place.index in
    record {
      spread = spread_take _ c.take_from.new.blocks.items c.self.inside.len c.self.inside.spare place.block place.index (vec_capacity c.take_from.new.blocks) held.spread at.block at.index (omega (arith, c.len_at.ensures.value)) c.take_from.ensures.rows c.take_from.ensures.capacity;
      starts = subst (λ (rs : List (List Span)). AreStarts c.lower.new.starts.items rs) (sym c.take_from.ensures.rows) (starts_lowered c.self.inside.starts.items c.lower.new.starts.items rows place.block new held.starts at.block (length-remove (row rows place.block) place.index at.index) c.lower.ensures.len c.lower.ensures.front c.lower.ensures.behind);
    }

pub returns-then-len_at-gt1-clause-spans : goal.returns-then-len_at-gt1-clause-spans
returns-then-len_at-gt1-clause-spans c =
    let rows = c.self.inside.blocks.items in
    ap row_items c.take_from.ensures.rows ∙ joined_set_remove rows c.place_of-place.result.block c.place_of-place.result.index c.place_of-place.ensures.block c.place_of-place.ensures.index ∙ ap (λ n. remove (row_items rows) n) c.place_of-place.ensures.rank ∙ ap (λ w. remove w.spans c.args.i) c.self.view_is

pub restart-requires-clause-within : goal.restart-requires-clause-within
restart-requires-clause-within c = omega (arith, ap length c.remove-block.ensures.items, length-remove c.self.inside.blocks.items c.place_of-place.result.block c.place_of-place.ensures.block, c.place_of-place.ensures.block)

pub restart-requires-clause-small : goal.restart-requires-clause-small
restart-requires-clause-small c =
    let rows = c.self.inside.blocks.items in
    let place = c.place_of-place.result in
    let at = c.place_of-place.ensures in
    let spread = c.self.invariant.spread in
    let one : length (row rows place.block) ≡ 1 = omega (arith, c.len_at.ensures.value, at.index) in
    let less = ap length (ap row_items c.remove-block.ensures.items ∙ joined_one rows place.block place.index at.block one (omega (arith, one, at.index))) in
    omega (arith, less, length-remove (row_items rows) (start rows place.block + place.index) (omega (arith, row_within rows place.block at.block, at.index)), spread.count, spread.fits)

pub restart-requires-clause-front : goal.restart-requires-clause-front
restart-requires-clause-front c = λ g l m. c.self.invariant.starts.each g l ∙ sym (ap (λ q. start q (32 * (g + 1))) c.remove-block.ensures.items ∙ start_remove_front c.self.inside.blocks.items c.place_of-place.result.block (32 * (g + 1)) m)

pub invariant_of-self-2 : goal.invariant_of-self-2
invariant_of-self-2 c = record {
  spread = spread_less _ (record { rows = c.remove-block.new.self.items; pool = c.push_reserved.new.self.items; block_capacity = vec_capacity c.remove-block.new.self; pool_capacity = vec_capacity c.push_reserved.new.self }) c.clear.new.self c.self.inside.len c.self.inside.spare c.place_of-place.result.block c.place_of-place.result.index c.self.invariant.spread c.place_of-place.ensures.block c.place_of-place.ensures.index (omega (arith, c.len_at.ensures.value)) c.remove-block.ensures.items c.push_reserved.ensures.items c.clear.ensures c.remove-block.ensures.capacity c.push_reserved.ensures.capacity;
  starts = c.restart.ensures.starts;
}

pub returns-clause-spans : goal.returns-clause-spans
returns-clause-spans c =
    let rows = c.self.inside.blocks.items in
    let b = c.place_of-place.result.block in
    let i = c.place_of-place.result.index in
    let one : length (row rows b) ≡ 1 = omega (arith, c.len_at.ensures.value, c.place_of-place.ensures.index) in
    ap row_items c.remove-block.ensures.items ∙ joined_one rows b i c.place_of-place.ensures.block one (omega (arith, one, c.place_of-place.ensures.index)) ∙ ap (λ n. remove (row_items rows) n) c.place_of-place.ensures.rank ∙ ap (λ w. remove w.spans c.args.i) c.self.view_is
