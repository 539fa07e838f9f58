use Rattle.std.proofs.Common.{◌≡◌, ℤ, true, false, take, drop, subst, sym}
use Rattle.std.specs.List.{AllByRecursion}
use Rattle.mse_base.specs.Rows.{row_items}
use Rattle.block_list.specs.BlockPlaces.{rank}
use Rattle.track_index.specs.Keyed.{is_before_key, IsNamedAt, has_entry_serial}
use Rattle.track_index.proofs.Keys.{cut_keyed, names_at, any_rows}
use Rattle.track_index.proofs.Blocks.{item_place}
use Rattle.track_index.proofs.order.place_of.Goals as goal

pub search-place-requires : goal.search-place-requires
search-place-requires c = cut_keyed _ (row_items c.args.list.now.rows) c.requires.keyed

pub at_item-requires : goal.at_item-requires
at_item-requires c = record { block = c.search-place.ensures.block (any_rows (has_entry_serial c.args.serial) c.args.list.now.rows c.requires.held); index = c.search-place.ensures.index }

names_of : goal.returns-clause-names
names_of c =
    let os = row_items c.args.list.now.rows in
    let k = rank c.args.list.now.rows c.search-place.result in
    let before = subst (λ (m : ℤ). AllByRecursion (λ o. is_before_key (record { mark = m; serial = c.args.serial }) o ≡ true) (take k os)) c.at.ensures c.search-place.ensures.before in
    let after = subst (λ (m : ℤ). AllByRecursion (λ o. is_before_key (record { mark = m; serial = c.args.serial }) o ≡ false) (drop k os)) c.at.ensures c.search-place.ensures.after in
    subst (IsNamedAt c.args.serial os) (sym c.at_item.ensures.rank) (names_at c.args.pts c.args.serial os k c.requires.keyed c.requires.at_pts c.requires.held before after)

pub returns-clause-names : goal.returns-clause-names
returns-clause-names c = names_of c

pub returns-clause-place : goal.returns-clause-place
returns-clause-place c = let p = item_place c.args.list.now.rows c.at_item.result c.at_item.ensures.place (names_of c).within in record { block = p.0; index = p.1 }
