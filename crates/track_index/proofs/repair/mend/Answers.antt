use Rattle.std.proofs.Common.{◌≡◌, ◌∙◌, ◌<ℤ◌, ◌≤ℤ◌, ◌+ℤ◌, ℤ, map, ap, sym, subst, arith}
use Rattle.std.proofs.lemmas.Int.{ints}
use Rattle.mse_base.specs.Bridging.{ranges_without, IsRanges}
use Rattle.mse_base.proofs.JoinedSpans.{ranges_bridged}
use Rattle.mse_base.specs.Rows.{row_items}
use Rattle.track_index.specs.declared.key.Key.{Key}
use Rattle.track_index.specs.Order.{span_of}
use Rattle.track_index.specs.Repair.{AreGrownBy, HasTicksPast, HasTicksBetween}
use Rattle.track_index.proofs.MendedRanges.{mended, between_whole, between_empty}
use Rattle.track_index.proofs.repair.mend.Goals as goal

pub returns-then-le-clause-between : goal.returns-then-le-clause-between
returns-then-le-clause-between c =
    let h : c.args.hole.end ≤ℤ c.args.hole.start = grind (arith, ints, c.le.ensures, c.if-le.true) in
    λ holes b. between_empty c.args.gap (map span_of (row_items c.args.order.now.rows)) holes c.args.ranges.now.spans c.args.hole h b

pub returns-then-spare-eq0-clause-ranges : goal.returns-then-spare-eq0-clause-ranges
returns-then-spare-eq0-clause-ranges c = subst (IsRanges c.args.gap) (sym c.remake.ensures.spans) (ranges_bridged c.args.gap (map span_of (row_items c.args.order.now.rows)) c.requires.gap_from_zero)

pub returns-then-spare-eq0-clause-between : goal.returns-then-spare-eq0-clause-between
returns-then-spare-eq0-clause-between c = λ holes _. between_whole c.args.gap (map span_of (row_items c.args.order.now.rows)) holes c.remake.new.ranges.spans c.requires.gap_from_zero c.remake.ensures.spans

pub returns-then-not-refill-clause-ranges : goal.returns-then-not-refill-clause-ranges
returns-then-not-refill-clause-ranges c = subst (IsRanges c.args.gap) (sym c.remake-then-not-refill.ensures.spans) (ranges_bridged c.args.gap (map span_of (row_items c.args.order.now.rows)) c.requires.gap_from_zero)

pub returns-then-not-refill-clause-between : goal.returns-then-not-refill-clause-between
returns-then-not-refill-clause-between c = λ holes _. between_whole c.args.gap (map span_of (row_items c.args.order.now.rows)) holes c.remake-then-not-refill.new.ranges.spans c.requires.gap_from_zero c.remake-then-not-refill.ensures.spans

pub returns-else-not-refill-clause-between : goal.returns-else-not-refill-clause-between
returns-else-not-refill-clause-between c = λ holes same.
    let old = c.args.ranges.now.spans in
    let new = c.refill.new.ranges.spans in
    let os = row_items c.args.order.now.rows in
    let a = c.ahead.result in
    let b = c.beyond-high.result in
    let w : c.args.hole.start <ℤ c.args.hole.end = grind (arith, ints, c.le.ensures, c.if-le.false) in
    let hollow : c.carve.new.self.spans ≡ ranges_without a b old = c.carve.ensures.spans ∙ ap (λ (z : ℤ). ranges_without z (c.args.hole.end +ℤ c.args.gap) old) (sym c.ahead.ensures) ∙ ap (λ (z : ℤ). ranges_without a z old) (sym c.beyond-high.ensures) in
    let grown = subst (λ rs. AreGrownBy c.args.gap os rs new) hollow (c.refill.ensures.grown c.if-not-refill.false) in
    let past = subst (λ (k : Key). HasTicksPast c.args.gap k os new) c.at-key.ensures (c.refill.ensures.past c.if-not-refill.false) in
    let between = subst (λ (k : Key). HasTicksBetween c.args.gap k b os new) c.at-key.ensures (c.refill.ensures.between c.if-not-refill.false) in
    mended c.args.gap a b c.args.hole os old new holes c.requires.gap_from_zero w c.ahead.ensures c.beyond-high.ensures c.requires.ranges grown past between same
