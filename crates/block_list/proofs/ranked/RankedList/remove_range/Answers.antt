use Rattle.std.proofs.Common.{◌≡◌, ◌∙◌, ◌+◌, ◌-◌, ◌<◌, ◌≤◌, length, drop, get_or, ap, sym, arith}
use Rattle.mse_base.specs.Rows.{row_items, row}
use Rattle.block_list.specs.Starts.{starts_of}
use Rattle.block_list.proofs.RowStarts.{length_starts, start_at, start_front, kept_low, kept_high, kept_rest, front_left, rest_left, few_left}
use Rattle.block_list.proofs.ranked.RankedList.remove_range.Goals as goal

pub restart-count-requires-clause-before : goal.restart-count-requires-clause-before
restart-count-requires-clause-before g c =
    let old = c.self.inside.list.rows in
    let new = c.remove_range.new.self.rows in
    let b = c.args.from.block in
    let x = c.index-before.result.now in
    let many = ap (λ w. length w.rows) c.self.view_is in
    let n = length_starts 0 old in
    let l : b < length old = omega (arith, many, c.requires.from) in
    let at = c.index-before.ensures ∙ kept_low c.settle.new.starts.items (starts_of old) (c.args.to.block + 1) b x (omega (arith, c.requires.in_order)) (omega (arith, c.settle.ensures.starts.len)) (omega (arith, n)) c.settle.ensures.starts.front ∙ start_at 0 old b x l in
    omega (arith, at, start_front new old b (omega (arith, c.remove_range.ensures.at_most_touched_gone, c.requires.to, many)) (omega arith) c.remove_range.ensures.front)

pub restart-count-requires-clause-front : goal.restart-count-requires-clause-front
restart-count-requires-clause-front g c =
    let old = c.self.inside.list.rows in
    let new = c.remove_range.new.self.rows in
    let v = c.self.view_is in
    let many = ap (λ w. length w.rows) v in
    let fb = c.args.from.block in
    let fi = c.args.from.index in
    let tb = c.args.to.block in
    let ti = c.args.to.index in
    let behind = tb + 1 in
    let rest = behind - (c.blocks-blocks.result - c.blocks-2.result) in
    let l : tb < length old = omega (arith, many, c.requires.to) in
    front_left c.settle.new.starts.items c.take_out.new.items.items old new fb rest behind c.settle.ensures.starts.len c.settle.ensures.starts.front c.take_out.ensures.items (omega (arith, c.blocks-blocks.ensures, c.blocks-2.ensures, c.remove_range.ensures.at_most_touched_gone)) (omega arith) (omega arith) c.remove_range.ensures.front

pub excess_at-self-inside-requires : goal.excess_at-self-inside-requires
excess_at-self-inside-requires g c = λ h.
    let old = c.self.inside.list.rows in
    let new = c.remove_range.new.self.rows in
    let v = c.self.view_is in
    let many = ap (λ w. length w.rows) v in
    let fb = c.args.from.block in
    let fi = c.args.from.index in
    let tb = c.args.to.block in
    let ti = c.args.to.index in
    let behind = tb + 1 in
    let rest = behind - (c.blocks-blocks.result - c.blocks-2.result) in
    let l : tb < length old = omega (arith, many, c.requires.to) in
    let i : fi < length (row old fb) = omega (arith, ap (λ w. length (row w.rows fb)) v, c.requires.from_index) in
    let few = few_left old (row_items new) fb fi tb ti c.requires.in_order l i (omega (arith, ap (λ w. length (row w.rows tb)) v, c.requires.to_index)) c.requires.in_block c.remove_range.ensures.items in
    let gone = length (row_items old) - length (row_items new) in
    let z : behind - (c.blocks-blocks.result - c.blocks-2.result) ≡ tb + 1 + length new - length old = omega (arith, c.blocks-blocks.ensures, c.blocks-2.ensures, c.remove_range.ensures.no_more_blocks) in
    let low : rest ≤ length new = omega (arith, c.blocks-blocks.ensures, c.blocks-2.ensures, c.remove_range.ensures.no_more_blocks) in
    let too = rest_left c.settle.new.starts.items c.take_out.new.items.items c.restart-count.new.starts.items old new rest behind c.self.inside.excess gone c.settle.ensures.starts.len c.settle.ensures.starts.rest c.take_out.ensures.items c.restart-count.ensures.rest low (omega arith) (omega arith) (ap (λ k. drop k new) z ∙ c.remove_range.ensures.rest) (omega (arith, few)) in
    let two = c.restart-count.new.starts.items in
    let here : rest < length new = omega (arith, h, ap length c.deref.ensures.value, c.restart-count.ensures.len) in
    let at = kept_high two (starts_of new) rest (gone + c.self.inside.excess) rest 0 (omega arith) (omega (arith, c.restart-count.ensures.len)) (omega (arith, length_starts 0 new)) too in
    omega (arith, ap (λ ns. get_or ns rest 0) c.deref.ensures.value ∙ at, start_at 0 new rest 0 here, c.restart-count.ensures.count)

pub invariant_of-self : goal.invariant_of-self
invariant_of-self g c =
    let old = c.self.inside.list.rows in
    let new = c.remove_range.new.self.rows in
    let v = c.self.view_is in
    let many = ap (λ w. length w.rows) v in
    let fb = c.args.from.block in
    let fi = c.args.from.index in
    let tb = c.args.to.block in
    let ti = c.args.to.index in
    let behind = tb + 1 in
    let rest = behind - (c.blocks-blocks.result - c.blocks-2.result) in
    let l : tb < length old = omega (arith, many, c.requires.to) in
    let i : fi < length (row old fb) = omega (arith, ap (λ w. length (row w.rows fb)) v, c.requires.from_index) in
    let few = few_left old (row_items new) fb fi tb ti c.requires.in_order l i (omega (arith, ap (λ w. length (row w.rows tb)) v, c.requires.to_index)) c.requires.in_block c.remove_range.ensures.items in
    let gone = length (row_items old) - length (row_items new) in
    let z : behind - (c.blocks-blocks.result - c.blocks-2.result) ≡ tb + 1 + length new - length old = omega (arith, c.blocks-blocks.ensures, c.blocks-2.ensures, c.remove_range.ensures.no_more_blocks) in
    let low : rest ≤ length new = omega (arith, c.blocks-blocks.ensures, c.blocks-2.ensures, c.remove_range.ensures.no_more_blocks) in
    let too = rest_left c.settle.new.starts.items c.take_out.new.items.items c.restart-count.new.starts.items old new rest behind c.self.inside.excess gone c.settle.ensures.starts.len c.settle.ensures.starts.rest c.take_out.ensures.items c.restart-count.ensures.rest low (omega arith) (omega arith) (ap (λ k. drop k new) z ∙ c.remove_range.ensures.rest) (omega (arith, few)) in
    let two = c.restart-count.new.starts.items in
    let n = length_starts 0 new in
    let long = c.restart-count.ensures.len ∙ sym n in
    let at : rest < length two → get_or two rest 0 ≡ c.restart-count.result + c.excess_at-self-inside.result = λ h. ap (λ ns. get_or ns rest 0) (sym c.deref.ensures.value) ∙ c.excess_at-self-inside.ensures.some (omega (arith, h, ap length c.deref.ensures.value)) in
    let true_one : rest < length (starts_of new) → get_or (starts_of new) rest 0 ≡ c.restart-count.result = λ h. omega (arith, start_at 0 new rest 0 (omega (arith, h, n)), c.restart-count.ensures.count) in
    record {
      long = long;
      within = omega (arith, low, n);
      front = c.restart-count.ensures.front;
      rest = kept_rest two (starts_of new) rest (gone + c.self.inside.excess) c.excess_at-self-inside.result c.restart-count.result long too true_one at;
      none = λ e. c.excess_at-self-inside.ensures.none (omega (arith, e, ap length c.deref.ensures.value, c.restart-count.ensures.len, n));
    }

pub returns-clause-no_room_lost : goal.returns-clause-no_room_lost
returns-clause-no_room_lost g c =
    let n = length_starts 0 c.self.inside.list.rows in
    omega (arith, ap (λ w. w.spare) c.self.view_is, c.remove_range.ensures.spare, c.remove_range.ensures.no_more_blocks, c.settle.ensures.capacity, c.take_out.ensures.capacity, c.restart-count.ensures.capacity, c.self.invariant.long, n, c.restart-count.ensures.len, c.restart-count.new.starts.ok.0, c.self.inside.starts.ok.0)
