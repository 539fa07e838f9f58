use Rattle.std.proofs.Common.{◌∙◌, List, Result, Ok, sym, ap, subst, arith}
use Rattle.std.proofs.lemmas.List.Elements.{All-same}
use Rattle.std.proofs.lemmas.Result.{err_from_is_err_and}
use lib.Chars.{codes}
use Rattle.bmff_boxes.specs.Rows.{all_of}
use Rattle.bmff_boxes.proofs.RowLaws.{row-length}
use Rattle.bmff_fragment.specs.declared.fault.MoofFault.{MoofFault}
use Rattle.bmff_fragment.specs.declared.slot.Slot.{Slot}
use Rattle.bmff_boxes.specs.Reading.{Fails}
use Rattle.bmff_fragment.specs.Slots.{IsSlotOf}
use Rattle.bmff_fragment.proofs.PlanByRuns.{plan_is, trafs-whole}
use Rattle.bmff_fragment.proofs.SlotTracks.{belong}
use Rattle.bmff_fragment.proofs.moof.read_moof.Goals as goal

pub read_trafs-requires-clause-small : goal.read_trafs-requires-clause-small
read_trafs-requires-clause-small c = omega (arith, row-length c.in-Some.payload.now c.in-Some-open.row (sym c.in-Some-open.ensures), c.in-Some.ensures.within)

pub returns-in_err-slots-clause-value : goal.returns-in_err-slots-clause-value
returns-in_err-slots-clause-value c =
    let tracks = c.args.with.now.tracks in
    let plan = plan_is tracks c.args.moof.now c.in-Some.payload.now c.in-Some-first.field-0.now c.in-Some-open.row c.in-Some.ensures.value c.in-Some-open.ensures c.in-Some-first.ensures in
    let whole = trafs-whole tracks (all_of (codes "traf") c.in-Some-open.row) in
    let P : Result (List Slot) MoofFault → Type 0 = λ r. Fails c.in_err-slots.field-0.0 r in
    let p = err_from_is_err_and c.from_residual.result c.from_residual.ensures.1 in
    rw (p.1, p.2) (subst P (whole ∙ sym plan) c.in_err-slots.ensures.value)

pub returns-clause-value : goal.returns-clause-value
returns-clause-value c =
    let tracks = c.args.with.now.tracks in
    let plan = plan_is tracks c.args.moof.now c.in-Some.payload.now c.in-Some-first.field-0.now c.in-Some-open.row c.in-Some.ensures.value c.in-Some-open.ensures c.in-Some-first.ensures in
    let whole = trafs-whole tracks (all_of (codes "traf") c.in-Some-open.row) in
    plan ∙ sym whole ∙ c.in_ok-slots.ensures.value ∙ ap Ok (sym c.from_vec.ensures)

pub returns-clause-slots : goal.returns-clause-slots
returns-clause-slots c =
    let tracks = c.args.with.now.tracks in
    let trafs = all_of (codes "traf") c.in-Some-open.row in
    let whole = trafs-whole tracks trafs in
    All-same (IsSlotOf tracks) c.from_vec.result c.in_ok-slots.slots.items c.from_vec.ensures (belong tracks trafs c.in_ok-slots.slots.items (sym whole ∙ c.in_ok-slots.ensures.value) c.in_ok-slots.ensures.well_formed)
