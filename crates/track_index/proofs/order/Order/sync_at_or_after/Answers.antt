use Rattle.std.proofs.Common.{◌∙◌, ◌+◌, drop, sym, ap, subst, arith}
use Rattle.mse_base.specs.Rows.{row_items, row}
use Rattle.block_list.specs.BlockPlaces.{rank}
use Rattle.block_list.proofs.RemovedStretch.{drop_at}
use Rattle.track_index.specs.Order.{first_start, is_sync_from}
use Rattle.track_index.specs.Keyed.{IsKeyed}
use Rattle.track_index.proofs.Lookups.{sync_init}
use Rattle.track_index.proofs.Blocks.{first_some, first_none, rest_is}
use Rattle.track_index.proofs.order.Order.sync_at_or_after.Goals as goal

pub place_from-place-requires : goal.place_from-place-requires
place_from-place-requires c = record { keyed = subst (λ w. IsKeyed (row_items w.rows)) (sym c.self.view_is) c.requires.keyed; some = omega (arith, c.blocks-2.ensures, c.if-blocks-eq0.false) }

pub returns-in-Some : goal.returns-in-Some
returns-in-Some c =
    let rows = c.self.inside.list.rows in
    let s = c.place_from-place.result in
    let p = is_sync_from c.args.t.now in
    let here = c.in-Some.ensures ∙ ap (first_start (is_sync_from c.args.t.now)) (rest_is c.block-items.result.now s.index) ∙ ap (λ zs. first_start (is_sync_from c.args.t.now) (drop s.index zs)) c.block-items.ensures.value in
    sym (first_some (is_sync_from c.args.t.now) (drop s.index (row rows s.block)) (row_items (drop (s.block + 1) rows)) c.in-Some.pts (sym here)) ∙ ap (first_start (is_sync_from c.args.t.now)) (sym (drop_at rows s.block s.index c.place_from-place.ensures.block c.place_from-place.ensures.index))
    ∙ sync_init c.args.t.now (row_items rows) (rank rows s) c.place_from-place.ensures.before ∙ ap (λ w. first_start (is_sync_from c.args.t.now) (row_items w.rows)) c.self.view_is

pub returns-in-None : goal.returns-in-None
returns-in-None c =
    let rows = c.self.inside.list.rows in
    let s = c.place_from-place.result in
    let here = c.in-None.ensures ∙ ap (first_start (is_sync_from c.args.t.now)) (rest_is c.block-items.result.now s.index) ∙ ap (λ zs. first_start (is_sync_from c.args.t.now) (drop s.index zs)) c.block-items.ensures.value in
    c.sync_in_blocks.ensures ∙ sym (first_none (is_sync_from c.args.t.now) (drop s.index (row rows s.block)) (row_items (drop (s.block + 1) rows)) (sym here)) ∙ ap (first_start (is_sync_from c.args.t.now)) (sym (drop_at rows s.block s.index c.place_from-place.ensures.block c.place_from-place.ensures.index))
    ∙ sync_init c.args.t.now (row_items rows) (rank rows s) c.place_from-place.ensures.before ∙ ap (λ w. first_start (is_sync_from c.args.t.now) (row_items w.rows)) c.self.view_is
