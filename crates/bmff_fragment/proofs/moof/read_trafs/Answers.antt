use Rattle.std.proofs.Common.{◌∙◌, List, ap, sym, arith}
use Rattle.std.proofs.lemmas.Result.{err_from_is_err_and}
use lib.Chars.{codes}
use Rattle.bmff_boxes.specs.Rows.{BoxView, all_of}
use Rattle.bmff_boxes.proofs.RowLaws.{all-here}
use Rattle.bmff_fragment.specs.Steps.{trafs_steps}
use Rattle.bmff_fragment.proofs.RowSteps.{traf_goes, traf_stops, trafs_end}
use Rattle.bmff_fragment.proofs.moof.read_trafs.Goals as goal

pub returns-in_err-at-clause-value : goal.returns-in_err-at-clause-value
returns-in_err-at-clause-value c =
    let s = c.boxes in
    let child = c.in-Some.child in
    let left = all_of (codes "traf") c.next.new.self in
    let here = all-here child.kind (codes "traf") child.payload.now c.next.new.self s.row (sym c.eq.ensures ∙ c.if-eq.true) c.in-Some.ensures.some in
    let same = sym (ap (trafs_steps c.args.tracks.now s.at s.slots.items) here) ∙ s.invariant.same in
    let p = err_from_is_err_and c.from_residual.result c.from_residual.ensures.1 in
    rw (p.1, p.2) (traf_stops c.args.tracks.now s.at s.slots.items child.payload.now left _ c.in_err-at.field-0.0 c.in_err-at.ensures.value same)

pub boxes-preserved-then-eq : goal.boxes-preserved-then-eq
boxes-preserved-then-eq c =
    let s = c.boxes in
    let child = c.in-Some.child in
    let left = all_of (codes "traf") c.next.new.self in
    let here = all-here child.kind (codes "traf") child.payload.now c.next.new.self s.row (sym c.eq.ensures ∙ c.if-eq.true) c.in-Some.ensures.some in
    let same = sym (ap (trafs_steps c.args.tracks.now s.at s.slots.items) here) ∙ s.invariant.same in
    record {
      same = traf_goes c.args.tracks.now s.at c.in_ok-at.at s.slots.items _ child.payload.now left _ c.in_ok-at.ensures.value same;
      few = c.in_ok-at.ensures.few;
      data_end_small = omega (arith, s.invariant.data_end_small, c.in_ok-at.ensures.data_end_small, c.in-Some.ensures.shorter);
      well_formed = c.in_ok-at.ensures.well_formed;
      slots_within_samples = c.in_ok-at.ensures.slots_within_samples;
    }

pub returns-clause-value : goal.returns-clause-value
returns-clause-value c =
    let s = c.boxes in
    let same = sym (ap (λ (row : List BoxView). trafs_steps c.args.tracks.now s.at s.slots.items (all_of (codes "traf") row)) c.in_default.ensures.none.0) ∙ s.invariant.same in
    trafs_end c.args.tracks.now s.at s.slots.items _ same
