use Rattle.std.proofs.Common.{◌∙◌, sym, ap}
use Rattle.mse_base.specs.Rows.{row}
use Rattle.track_index.specs.declared.known.Known.{Known}
use Rattle.track_index.specs.Order.{first_start, is_sync_from}
use Rattle.track_index.proofs.Blocks.{no_sync}
use Rattle.track_index.proofs.order.sync_in.Goals as goal

pub returns-then-not-fact : goal.returns-then-not-fact
returns-then-not-fact c = sym (no_sync c.args.t.now (row c.args.list.now.rows c.args.b) (sym (ap (λ (k : Known). k.sync) c.fact.ensures) ∙ c.if-not-fact.true))

pub returns : goal.returns
returns c = c.first_sync.ensures ∙ ap (first_start (is_sync_from c.args.t.now)) c.block.ensures.value
