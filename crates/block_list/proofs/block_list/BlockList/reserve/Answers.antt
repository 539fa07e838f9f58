use Rattle.std.proofs.Common.{ap, sym, ◌∙◌, ◌≡◌, length, subst, arith, ◌≤◌, ◌*◌, ◌-◌, ◌+◌, max, vec_capacity, ℕ}
use Rattle.mse_base.specs.Rows.{row_items}
use Rattle.block_list.proofs.KeptRows.{listed_fill}
use Rattle.block_list.proofs.block_list.BlockList.reserve.Goals as goal

pub invariant_of-self-2 : goal.invariant_of-self-2
invariant_of-self-2 g c =
    let n : c.len.result ≡ length c.self.inside.blocks.items = omega (arith, c.len.ensures, c.self.inside.blocks.ok.0) in
    (listed_fill c.self.inside.half _ (record { rows = c.fill.new.blocks.items; pool = c.fill.new.pool.items; block_capacity = vec_capacity c.fill.new.blocks; pool_capacity = vec_capacity c.fill.new.pool }) c.self.inside.spare c.args.n c.blocks_for-block_count.result c.self.invariant.0 c.fill.ensures.rows c.fill.ensures.empty c.fill.ensures.block_room c.fill.ensures.pool_room (subst (λ (k : ℕ). c.args.n ≤ max c.blocks_for-block_count.result (c.self.inside.half * c.blocks_for-block_count.result - (c.self.inside.half * k + c.self.inside.half))) n c.blocks_for-block_count.ensures) c.in_ok-fill.ensures.ok, record { count = c.self.invariant.1.count ∙ sym (ap (λ q. length (row_items q)) c.fill.ensures.rows); fits = omega arith })
