use Rattle.std.proofs.Common.{◌≡◌, ◌∙◌, true, take, sym, ap}
use Rattle.track_index.specs.declared.known.Known.{Known}
use Rattle.track_index.specs.Order.{is_in_entry, last_that, is_ended}
use Rattle.mse_base.specs.Rows.{row}
use Rattle.track_index.proofs.Blocks.{passed_over}
use Rattle.track_index.proofs.order.look.Goals as goal

pub returns-then-is_ended-clause-last : goal.returns-then-is_ended-clause-last
returns-then-is_ended-clause-last c =
    let e : is_ended c.args.t (c.fact.result.now).end ≡ true = sym c.is_ended.ensures ∙ c.if-is_ended.true in
    sym (passed_over c.args.t (row c.args.list.now.rows c.args.b) c.args.count (sym (ap (λ (k : Known). is_ended c.args.t k.end) c.fact.ensures) ∙ e))

pub returns-clause-last : goal.returns-clause-last
returns-clause-last c = c.last_in.ensures.last ∙ ap (λ zs. last_that (is_in_entry c.args.t) (take c.args.count zs)) c.block-items.ensures.value
