use Rattle.std.proofs.Common.{◌∙◌, ◌<◌, sym, subst, ap, take, filter, length, arith}
use Rattle.mse_base.proofs.Compared.{max_of_two}
use Rattle.mse_base.specs.Rows.{row_items}
use Rattle.track_index.specs.Keyed.{IsKeyed, is_before_key}
use Rattle.track_index.specs.Known.{greatest_end}
use Rattle.track_index.proofs.Keys.{cut_keyed}
use Rattle.track_index.proofs.Blocks.{greatest_before}
use Rattle.track_index.proofs.order.Order.greatest_end_before.Goals as goal

pub search-place-requires : goal.search-place-requires
search-place-requires c = cut_keyed c.args.key.now (row_items c.self.inside.list.rows) (subst (λ w. IsKeyed (row_items w.rows)) (sym c.self.view_is) c.requires.keyed)

pub returns : goal.returns
returns c =
    let rows = c.self.inside.list.rows in
    let s = c.search-place.result in
    let l : s.block < length rows = c.search-place.ensures.block (omega (arith, c.blocks-2.ensures, c.if-blocks-eq0.false)) in
    c.max.ensures ∙ max_of_two c.top_before.result c.greatest_end-within.result ∙ greatest_before c.args.key.now rows s c.top_before.result c.greatest_end-within.result l c.search-place.ensures.index c.search-place.ensures.before c.search-place.ensures.after c.top_before.ensures (c.greatest_end-within.ensures ∙ ap (λ zs. greatest_end (take s.index zs)) c.block-items.ensures.value)
    ∙ ap (λ w. greatest_end (filter (is_before_key c.args.key.now) (row_items w.rows))) c.self.view_is
