use Rattle.std.proofs.Common.{◌≡◌, ◌∙◌, ℤ, true, take, subst, ap}
use Rattle.std.specs.List.{AllByRecursion}
use Rattle.mse_base.specs.Rows.{row_items}
use Rattle.block_list.specs.BlockPlaces.{rank}
use Rattle.track_index.specs.declared.key.Key.{Key}
use Rattle.track_index.specs.Keyed.{is_before_key}
use Rattle.track_index.proofs.Keys.{cut_keyed, lows}
use Rattle.track_index.proofs.Lookups.{before_at}
use Rattle.track_index.proofs.order.place_from.Goals as goal

pub search-requires : goal.search-requires
search-requires c = cut_keyed _ (row_items c.args.list.now.rows) c.requires.keyed

pub returns-in-At-clause-before : goal.returns-in-At-clause-before
returns-in-At-clause-before c =
    let zs = take (rank c.args.list.now.rows c.search.result) (row_items c.args.list.now.rows) in
    let e = c.at-in-At.ensures ∙ ap (λ (m : ℤ). record { mark = m; serial = 0 }) c.at.ensures in
    before_at c.in-At.t c.args.t.now zs c.in-At.is (lows c.in-At.t zs (subst (λ (q : Key). AllByRecursion (λ o. is_before_key q o ≡ true) zs) e c.search.ensures.before))
