use Rattle.std.proofs.Common.{◌≡◌, ◌∙◌, ◌≤◌, ◌-◌, ◌++◌, ℕ, suc, List, length, take, drop, remove, vec_capacity, ap, sym, arith, take-append-drop}
use Rattle.std.proofs.lemmas.List.{length-take-le, length-append}
use Rattle.mse_base.specs.Rows.{row_items}
use Rattle.block_list.proofs.RowItems.{less_rows, less_items}
use Rattle.block_list.proofs.KeptRows.{listed_less, one_more}
use Rattle.block_list.proofs.block_list.drop_blocks.Goals as goal

pub dropping-init : goal.dropping-init
dropping-init g c = record {
  count = omega arith;
  in_order = c.requires.in_order;
  within = omega arith;
  rows = sym (take-append-drop c.args.to c.args.blocks.now.items);
  room = c.requires.room;
  listed = λ h e k. k;
}

long : {T : Type 0} (rows now : List (List T)) (n to : ℕ) → now ≡ take n rows ++ drop to rows → n ≤ to → to ≤ length rows → n ≤ length now
long rows now n to e l h = omega (arith, ap length e, length-append (take n rows) (drop to rows), length-take-le n rows (omega arith))

pub remove-block-requires : goal.remove-block-requires
remove-block-requires g c =
    let m = long c.args.blocks.now.items c.dropping.blocks.items c.dropping.end c.args.to c.dropping.invariant.rows c.dropping.invariant.within c.requires.within in
    omega (arith, m, c.dropping.blocks.ok.0)

pub dropping-preserved : goal.dropping-preserved
dropping-preserved g c =
    let rows = c.args.blocks.now.items in
    let n = c.dropping.end in
    let to = c.args.to in
    let m = long rows c.dropping.blocks.items n to c.dropping.invariant.rows c.dropping.invariant.within c.requires.within in
    let z : n ≡ suc (n - 1) = omega arith in
    let less = c.remove-block.ensures.items ∙ ap (λ q. remove q (n - 1)) (c.dropping.invariant.rows ∙ ap (λ k. take k rows ++ drop to rows) z) ∙ less_rows rows (n - 1) to (omega (arith, c.dropping.invariant.within)) c.requires.within in
    record {
      count = omega (arith, c.dropping.invariant.count, less_items c.dropping.blocks.items (n - 1) c.remove-block.result (omega (arith, m)) c.remove-block.ensures.value, ap (λ q. length (row_items q)) c.remove-block.ensures.items, c.len-removed_count.ensures.value);
      in_order = omega arith;
      within = omega (arith, c.dropping.invariant.within);
      rows = less;
      room = omega (arith, c.dropping.invariant.room, ap length c.push_reserved.ensures.items, one_more c.dropping.pool.items c.clear.new.self, c.remove-block.ensures.len, c.remove-block.new.self.ok.0, c.dropping.blocks.ok.0, c.push_reserved.ensures.capacity);
      listed = λ h e k. listed_less h _ (record { rows = c.remove-block.new.self.items; pool = c.push_reserved.new.self.items; block_capacity = vec_capacity c.remove-block.new.self; pool_capacity = vec_capacity c.push_reserved.new.self }) c.clear.new.self e (n - 1) (c.dropping.invariant.listed h e k) (omega (arith, m)) c.remove-block.ensures.items c.push_reserved.ensures.items c.clear.ensures c.remove-block.ensures.capacity c.push_reserved.ensures.capacity;
    }

pub overflow_add-removed_count : goal.overflow_add-removed_count
overflow_add-removed_count g c =
    let m = long c.args.blocks.now.items c.dropping.blocks.items c.dropping.end c.args.to c.dropping.invariant.rows c.dropping.invariant.within c.requires.within in
    omega (arith, c.dropping.invariant.count, c.requires.small, less_items c.dropping.blocks.items (c.dropping.end - 1) c.remove-block.result (omega (arith, m)) c.remove-block.ensures.value, ap (λ q. length (row_items q)) c.remove-block.ensures.items, c.len-removed_count.ensures.value)
