use Rattle.std.proofs.Common.{◌≡◌, ◌≤◌, ◌-◌, ℕ, Bool, List, length, arith}
use Rattle.std.specs.List.{prefix_len}
use Rattle.std.proofs.lemmas.List.Sums.{prefix_len-le-length}
use Rattle.bmff_fragment.specs.declared.slot.Slot.{Slot}
use Rattle.segment_walk.specs.Moves.{is_ready}
use Rattle.segment_stream.proofs.moves.behind_frames.Goals as goal

at-most : (p : Slot → Bool) (xs : List Slot) (n : ℕ) → n ≡ prefix_len p xs → n ≤ length xs
at-most p xs n e = omega (arith, e, prefix_len-le-length p xs)

pub overflow_add-count : goal.overflow_add-count
overflow_add-count c =
    let h = at-most (is_ready (c.len.result - c.args.at.from) c.split_at-2.result.0.now) c.split_at.result.1.now c.count_ready-count.result c.count_ready-count.ensures in
    omega (arith, h, c.split_at.ensures.back_len, c.as_slice.ensures.len)

pub overflow_add-fragment-2 : goal.overflow_add-fragment-2
overflow_add-fragment-2 c =
    let h = at-most (is_ready (c.len.result - c.args.at.from) c.split_at-2.result.0.now) c.split_at.result.1.now c.count_ready-count.result c.count_ready-count.ensures in
    omega (arith, h, c.split_at.ensures.back_len, c.as_slice.ensures.len)
