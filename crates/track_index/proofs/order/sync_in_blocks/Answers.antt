use Rattle.std.proofs.Common.{◌∙◌, ◌+◌, drop, sym, ap, arith}
use Rattle.std.proofs.lemmas.List.{drop_all}
use Rattle.mse_base.specs.Rows.{row_items, row}
use Rattle.track_index.specs.Order.{first_start, is_sync_from}
use Rattle.track_index.proofs.Blocks.{rows_rest, first_some, first_none}
use Rattle.track_index.proofs.order.sync_in_blocks.Goals as goal

pub returns-in-Some : goal.returns-in-Some
returns-in-Some c =
    let rows = c.args.list.now.rows in
    sym (first_some (is_sync_from c.args.t.now) (row rows c.loop-b.b) (row_items (drop (c.loop-b.b + 1) rows)) c.in-Some.pts (sym c.in-Some.ensures)) ∙ sym (ap (first_start (is_sync_from c.args.t.now)) (rows_rest rows c.loop-b.b (omega arith))) ∙ c.loop-b.invariant

pub loop-b-preserved : goal.loop-b-preserved
loop-b-preserved c =
    let rows = c.args.list.now.rows in
    sym (first_none (is_sync_from c.args.t.now) (row rows c.loop-b.b) (row_items (drop (c.loop-b.b + 1) rows)) (sym c.in-None.ensures)) ∙ sym (ap (first_start (is_sync_from c.args.t.now)) (rows_rest rows c.loop-b.b (omega arith))) ∙ c.loop-b.invariant

pub returns : goal.returns
returns c =
    let rows = c.args.list.now.rows in
    ap (λ qs. first_start (is_sync_from c.args.t.now) (row_items qs)) (sym (drop_all c.loop-b.b rows (omega arith))) ∙ c.loop-b.invariant
