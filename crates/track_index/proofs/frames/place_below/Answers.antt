use Rattle.std.proofs.Common.{◌<◌, ◌≤◌, take, drop, subst, sym}
use Rattle.std.specs.List.{AllByRecursion}
use Rattle.mse_base.specs.Rows.{row_items}
use Rattle.block_list.specs.BlockPlaces.{rank}
use Rattle.track_index.specs.declared.frames.SerialBelow.{SerialBelow}
use Rattle.track_index.proofs.RemovedRuns.{cut_below, lows_of, highs_of}
use Rattle.track_index.proofs.frames.place_below.Goals as goal

pub search-place-requires : goal.search-place-requires
search-place-requires c = cut_below _ (row_items c.args.frames.now.rows) c.requires

pub returns-clause-before : goal.returns-clause-before
returns-clause-before c =
    let fs = row_items c.args.frames.now.rows in
    let s : SerialBelow = record { serial = c.args.serial } in
    subst (λ k. AllByRecursion (λ f. f.serial < c.args.serial) (take k fs)) (sym c.at_item.ensures.rank) (lows_of s (take (rank c.args.frames.now.rows c.search-place.result) fs) c.search-place.ensures.before)

pub returns-clause-after : goal.returns-clause-after
returns-clause-after c =
    let fs = row_items c.args.frames.now.rows in
    let s : SerialBelow = record { serial = c.args.serial } in
    subst (λ k. AllByRecursion (λ f. c.args.serial ≤ f.serial) (drop k fs)) (sym c.at_item.ensures.rank) (highs_of s (drop (rank c.args.frames.now.rows c.search-place.result) fs) c.search-place.ensures.after)
