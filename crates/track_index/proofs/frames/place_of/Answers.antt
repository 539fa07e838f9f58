use Rattle.std.proofs.Common.{◌∙◌, ◌<◌, ◌≤◌, ℕ, Some, length, ap, arith}
use Rattle.mse_base.specs.Rows.{row_items}
use Rattle.block_list.specs.BlockPlaces.{rank}
use Rattle.track_index.proofs.FrameLookUps.{serial_found, serial_other, serial_past}
use Rattle.track_index.proofs.Blocks.{rank_within}
use Rattle.track_index.proofs.frames.place_of.Goals as goal

pub returns-then-place-blocks-clause-place : goal.returns-then-place-blocks-clause-place
returns-then-place-blocks-clause-place c =
    let rows = c.args.frames.now.rows in
    let s = c.place_below-place.result in
    let past : length rows ≤ s.block = omega (arith, c.blocks-2.ensures, c.if-place-blocks.true) in
    serial_past c.args.serial (row_items rows) (rank rows s) (omega (arith, c.place_below-place.ensures.place.end past)) c.place_below-place.ensures.before

pub item-requires : goal.item-requires
item-requires c =
    let l : c.place_below-place.result.block < length c.args.frames.now.rows = omega (arith, c.blocks-2.ensures, c.if-place-blocks.false) in
    record { block = l; index = c.place_below-place.ensures.place.item l }

pub rank-requires : goal.rank-requires
rank-requires c =
    let l : c.place_below-place.result.block < length c.args.frames.now.rows = omega (arith, c.blocks-2.ensures, c.if-place-blocks.false) in
    let i = c.place_below-place.ensures.place.item l in
    record { block = l; index = omega (arith, i) }

pub returns-then-item-serial : goal.returns-then-item-serial
returns-then-item-serial c =
    let rows = c.args.frames.now.rows in
    let s = c.place_below-place.result in
    let l : s.block < length rows = omega (arith, c.blocks-2.ensures, c.if-place-blocks.false) in
    let k = rank_within rows s l (c.place_below-place.ensures.place.item l) in
    record { place = ap (λ (n : ℕ). Some n) c.rank.ensures ∙ serial_found c.args.serial (row_items rows) (rank rows s) c.item.result.now k c.item.ensures c.if-item-serial.true c.place_below-place.ensures.before; in_range = omega (arith, c.rank.ensures, k) }

pub returns-else-item-serial-clause-place : goal.returns-else-item-serial-clause-place
returns-else-item-serial-clause-place c =
    let rows = c.args.frames.now.rows in
    let s = c.place_below-place.result in
    let l : s.block < length rows = omega (arith, c.blocks-2.ensures, c.if-place-blocks.false) in
    let k = rank_within rows s l (c.place_below-place.ensures.place.item l) in
    serial_other c.args.serial (row_items rows) (rank rows s) c.item.result.now c.requires k c.item.ensures c.if-item-serial.false c.place_below-place.ensures.before c.place_below-place.ensures.after
