use Rattle.std.proofs.Common.{sym, ◌∙◌}
use Rattle.bmff_boxes.proofs.RowLaws.{found, ended, not-uneven}
use Rattle.bmff_init.proofs.RowSteps.{trex-here, trex-other, trex-later, trex-none}
use Rattle.bmff_init.proofs.track.find_trex.Goals as goal
use Rattle.bmff_init.proofs.track.find_trex.Goals.{else-eq-via-then-eq+else-is_trex_of, else-eq-via-else-eq}

pub returns-then-is_trex_of : goal.returns-then-is_trex_of
returns-then-is_trex_of c =
    let f = found c.boxes.walk.rest.now _ _ _ c.in-Found.ensures.value c.boxes.invariant.row in
    trex-here c.in-Found.kind c.in-Found.payload.now _ _ c.args.track _ (sym c.eq.ensures ∙ c.if-eq.true) (sym c.is_trex_of.ensures ∙ c.if-is_trex_of.true) f.boxes c.boxes.invariant.same

pub boxes-preserved : goal.boxes-preserved
boxes-preserved c =
    let f = found c.boxes.walk.rest.now _ _ _ c.in-Found.ensures.value c.boxes.invariant.row in
    elim c.else-eq.branch [
      | else-eq-via-then-eq+else-is_trex_of w ↦ record {
        row = f.row;
        same = trex-other c.in-Found.kind c.in-Found.payload.now _ _ c.args.track _ (sym c.eq.ensures ∙ w.if-eq.true) (sym w.is_trex_of.ensures ∙ w.if-is_trex_of.false) f.boxes c.boxes.invariant.same;
      }
      | else-eq-via-else-eq w ↦ record {
        row = f.row;
        same = trex-later c.in-Found.kind c.in-Found.payload.now _ _ c.args.track _ (sym c.eq.ensures ∙ w.if-eq.false) f.boxes c.boxes.invariant.same;
      }
    ]

pub returns-in-End : goal.returns-in-End
returns-in-End c = trex-none c.boxes.walk.rest.now c.args.track _ (ended c.boxes.walk.rest.now c.next.new.self.rest.now c.in-End.ensures.value) c.boxes.invariant.same

pub returns-in-Uneven : goal.returns-in-Uneven
returns-in-Uneven c = absurd (not-uneven c.boxes.walk.rest.now _ c.in-Uneven.ensures.value c.boxes.invariant.row)
