use Rattle.bmff_boxes.proofs.RowLaws.{found, first-here, first-later, first-none, not-uneven}
use Rattle.bmff_boxes.proofs.row.first_in.Goals as goal

pub returns-then-eq : goal.returns-then-eq
returns-then-eq c =
    let f = found c.boxes.walk.rest.now _ _ _ c.in-Found.ensures.value c.boxes.invariant.row in
    first-here _ c.args.kind _ _ _ c.eq.result _ c.eq.ensures c.if-eq.true f.boxes c.boxes.invariant.same

pub boxes-preserved : goal.boxes-preserved
boxes-preserved c =
    let f = found c.boxes.walk.rest.now _ _ _ c.in-Found.ensures.value c.boxes.invariant.row in
    record {
      row = f.row;
      same = first-later _ c.args.kind _ _ _ c.eq.result _ c.eq.ensures c.if-eq.false f.boxes c.boxes.invariant.same;
    }

pub returns-in-End : goal.returns-in-End
returns-in-End c = first-none c.args.kind c.boxes.walk.rest.now _ _ c.in-End.ensures.value c.boxes.invariant.same

pub returns-in-Uneven : goal.returns-in-Uneven
returns-in-Uneven c = absurd (not-uneven c.boxes.walk.rest.now _ c.in-Uneven.ensures.value c.boxes.invariant.row)
