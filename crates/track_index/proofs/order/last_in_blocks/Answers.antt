use Rattle.std.proofs.Common.{◌≡◌, ◌∙◌, ◌-◌, refl, true, take, sym, ap, arith}
use Rattle.mse_base.specs.Rows.{row_items, row}
use Rattle.track_index.specs.declared.known.Known.{Known}
use Rattle.track_index.specs.Order.{is_in_entry, last_that, is_ended}
use Rattle.track_index.proofs.EntryOrder.{last_none}
use Rattle.track_index.proofs.BlockEnds.{none_covers, found_in}
use Rattle.track_index.proofs.Blocks.{last_back, last_pass, begun_row, begun_less}
use Rattle.track_index.proofs.order.last_in_blocks.Goals as goal

pub loop-b-init : goal.loop-b-init
loop-b-init c = record { within = c.requires.within; last = refl; begun = c.requires.start_by; same = refl }

pub returns-then-is_ended-clause-last : goal.returns-then-is_ended-clause-last
returns-then-is_ended-clause-last c =
    let e : is_ended c.args.t c.top_before-top.result ≡ true = sym c.is_ended.ensures ∙ c.if-is_ended.true in
    sym (last_none (is_in_entry c.args.t) (row_items (take c.loop-b.b c.args.list.now.rows)) (none_covers c.args.t (row_items (take c.loop-b.b c.args.list.now.rows)) (sym (ap (is_ended c.args.t) c.top_before-top.ensures) ∙ e))) ∙ c.loop-b.invariant.last

pub returns-then-not-is_ended-clause-last : goal.returns-then-not-is_ended-clause-last
returns-then-not-is_ended-clause-last c =
    let rows = c.args.list.now.rows in
    let b = c.loop-b.b in
    let late = sym (ap (λ (k : Known). is_ended c.args.t k.end) c.fact.ensures) ∙ sym c.is_ended-in-loop-b.ensures ∙ c.if-not-is_ended.true in
    let begun = begun_row c.args.t rows b c.loop-b-test.true c.loop-b.invariant.within c.loop-b.invariant.begun in
    c.last_in.ensures.last ∙ ap (last_that (is_in_entry c.args.t)) c.block.ensures.value
    ∙ sym (found_in c.args.t (row rows (b - 1)) (last_that (is_in_entry c.args.t) (row_items (take (b - 1) rows))) begun late)
    ∙ sym (last_back c.args.t rows b c.loop-b-test.true c.loop-b.invariant.within) ∙ c.loop-b.invariant.last

pub returns-then-not-is_ended-clause-not_less : goal.returns-then-not-is_ended-clause-not_less
returns-then-not-is_ended-clause-not_less c = omega (arith, c.last_in.ensures.not_less, c.loop-b.invariant.same)

pub returns-then-not-is_ended-clause-at_most : goal.returns-then-not-is_ended-clause-at_most
returns-then-not-is_ended-clause-at_most c = omega (arith, c.last_in.ensures.at_most, c.block.ensures.at_most_128, c.loop-b.invariant.same)

pub loop-b-preserved : goal.loop-b-preserved
loop-b-preserved c =
    let rows = c.args.list.now.rows in
    let b = c.loop-b.b in
    let ended = sym (ap (λ (k : Known). is_ended c.args.t k.end) c.fact.ensures) ∙ sym c.is_ended-in-loop-b.ensures ∙ c.if-not-is_ended.false in
    record {
      within = omega (arith, c.loop-b.invariant.within);
      last = sym (last_pass c.args.t rows b c.loop-b-test.true c.loop-b.invariant.within ended) ∙ c.loop-b.invariant.last;
      begun = begun_less c.args.t rows b c.loop-b-test.true c.loop-b.invariant.within c.loop-b.invariant.begun;
      same = c.loop-b.invariant.same;
    }

pub returns-clause-last : goal.returns-clause-last
returns-clause-last c =
    let z : c.loop-b.b ≡ 0 = omega arith in
    sym (ap (λ n. last_that (is_in_entry c.args.t) (row_items (take n c.args.list.now.rows))) z) ∙ c.loop-b.invariant.last
