use Rattle.std.proofs.Common.{◌∙◌, ap, sym, rules}
use Rattle.std.proofs.lemmas.Int.{to_z-of_z}
use Rattle.std.proofs.lemmas.Result.{err_from_is_err_and}
use lib.Chars.{codes}
use mir.Syntax.{w128}
use mir.Val.{SFits}
use Rattle.bmff_boxes.specs.Rows.{all_of}
use Rattle.bmff_boxes.proofs.RowLaws.{all-here}
use Rattle.bmff_fragment.specs.Steps.{runs_steps}
use Rattle.bmff_fragment.proofs.RowSteps.{run_goes, run_stops, part_stops, part_ends}
use Rattle.bmff_fragment.proofs.moof.read_runs.Goals as goal

pub returns-in_err-at-clause-value : goal.returns-in_err-at-clause-value
returns-in_err-at-clause-value c =
    let s = c.boxes in
    let f = c.args.fragment.now in
    let child = c.in-Some.child in
    let left = all_of (codes "trun") c.next.new.self in
    let here = all-here child.kind (codes "trun") child.payload.now c.next.new.self s.row (sym c.eq.ensures ∙ c.if-eq.true) c.in-Some.ensures.some in
    let same = sym (ap (runs_steps f s.at s.slots.items) here) ∙ s.invariant.same in
    let stop = run_stops f s.at s.slots.items child.payload.now left _ c.in_err-at.field-0.0 c.in_err-at.ensures.value same in
    let p = err_from_is_err_and c.from_residual.result c.from_residual.ensures.1 in
    rw (p.1, p.2) (part_stops f c.args.samples c.args.slots.now.items (all_of (codes "trun") c.args.row) c.in_err-at.field-0.0 stop)

pub boxes-preserved-then-eq : goal.boxes-preserved-then-eq
boxes-preserved-then-eq c =
    let s = c.boxes in
    let f = c.args.fragment.now in
    let child = c.in-Some.child in
    let left = all_of (codes "trun") c.next.new.self in
    let here = all-here child.kind (codes "trun") child.payload.now c.next.new.self s.row (sym c.eq.ensures ∙ c.if-eq.true) c.in-Some.ensures.some in
    let same = sym (ap (runs_steps f s.at s.slots.items) here) ∙ s.invariant.same in
    record {
      same = run_goes f s.at c.in_ok-at.at s.slots.items c.read_run.new.slots.items child.payload.now left _ c.in_ok-at.ensures.value same;
      few = c.in_ok-at.ensures.few;
      data_end_small = c.in_ok-at.ensures.data_end_small;
      time_small = c.in_ok-at.ensures.time_small;
      well_formed = c.in_ok-at.ensures.well_formed;
      slots_within_samples = c.in_ok-at.ensures.slots_within_samples;
    }

pub returns-clause-value : goal.returns-clause-value
returns-clause-value c =
    let s = c.boxes in
    let f = c.args.fragment.now in
    let fits : SFits w128 s.at.data_end = search rules in
    let same = sym (ap (λ row. runs_steps f s.at s.slots.items (all_of (codes "trun") row)) c.in_default.ensures.none.0) ∙ s.invariant.same in
    part_ends f c.args.samples c.args.slots.now.items (all_of (codes "trun") c.args.row) s.at s.slots.items 0 _ same (to_z-of_z w128 s.at.data_end fits)
