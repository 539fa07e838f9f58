use Rattle.std.proofs.Common.{◌≡◌, ◌∙◌, ◌<◌, ◌+ℤ◌, pos, ℤ, sym, subst, ap, false, true, take, drop, length, arith, refl}
use Rattle.std.specs.List.{AllByRecursion}
use Rattle.mse_base.specs.Rows.{row_items, row}
use Rattle.block_list.specs.BlockPlaces.{rank}
use Rattle.track_index.specs.declared.key.Key.{Key}
use Rattle.track_index.specs.Order.{is_in_entry, last_that, or_else}
use Rattle.track_index.specs.Keyed.{IsKeyed, is_before_key}
use Rattle.track_index.proofs.Keys.{cut_keyed}
use Rattle.track_index.proofs.Blocks.{last_at_place, begun_before}
use Rattle.track_index.proofs.order.Order.last_holding.Goals as goal
use Rattle.track_index.proofs.order.Order.last_holding.Goals.{After-look}

pub search-place-requires : goal.search-place-requires
search-place-requires c = cut_keyed _ (row_items c.self.inside.list.rows) (subst (λ w. IsKeyed (row_items w.rows)) (sym c.self.view_is) c.requires.keyed)

whole : (c : After-look) → last_that (is_in_entry c.args.t) (row_items c.self.inside.list.rows) ≡ or_else (last_that (is_in_entry c.args.t) (take c.search-place.result.index (row c.self.inside.list.rows c.search-place.result.block))) (last_that (is_in_entry c.args.t) (row_items (take c.search-place.result.block c.self.inside.list.rows)))
whole c =
    let rows = c.self.inside.list.rows in
    let s = c.search-place.result in
    let l : s.block < length rows = c.search-place.ensures.block (omega (arith, c.blocks-2.ensures, c.if-blocks-eq0.false)) in
    let e = c.at-key.ensures ∙ ap (λ (m : ℤ). record { mark = m; serial = 0 }) c.after.ensures in
    last_at_place c.args.t (c.args.t +ℤ pos 1) rows s refl l c.search-place.ensures.index (subst (λ (q : Key). AllByRecursion (λ o. is_before_key q o ≡ false) (drop (rank rows s) (row_items rows))) e c.search-place.ensures.after)

pub returns-in-Some-clause-last : goal.returns-in-Some-clause-last
returns-in-Some-clause-last c =
    let rest = last_that (is_in_entry c.args.t) (row_items (take c.search-place.result.block c.self.inside.list.rows)) in
    ap (λ r. or_else r rest) c.in-Some.ensures.last ∙ sym (whole ((goal.at.returns-in-Some-clause-last c).After-look)) ∙ ap (λ w. last_that (is_in_entry c.args.t) (row_items w.rows)) c.self.view_is

pub returns-in-None-clause-last : goal.returns-in-None-clause-last
returns-in-None-clause-last c =
    let rest = last_that (is_in_entry c.args.t) (row_items (take c.search-place.result.block c.self.inside.list.rows)) in
    c.last_in_blocks.ensures.last ∙ ap (λ r. or_else r rest) c.in-None.ensures.last ∙ sym (whole ((goal.at.returns-in-None-clause-last c).After-look)) ∙ ap (λ w. last_that (is_in_entry c.args.t) (row_items w.rows)) c.self.view_is

pub last_in_blocks-requires-clause-start_by : goal.last_in_blocks-requires-clause-start_by
last_in_blocks-requires-clause-start_by c =
    let rows = c.self.inside.list.rows in
    let s = c.search-place.result in
    let l : s.block < length rows = c.search-place.ensures.block (omega (arith, c.blocks-2.ensures, c.if-blocks-eq0.false)) in
    let e = c.at-key.ensures ∙ ap (λ (m : ℤ). record { mark = m; serial = 0 }) c.after.ensures in
    begun_before c.args.t (c.args.t +ℤ pos 1) rows s refl l c.search-place.ensures.index (subst (λ (q : Key). AllByRecursion (λ o. is_before_key q o ≡ true) (take (rank rows s) (row_items rows))) e c.search-place.ensures.before)
