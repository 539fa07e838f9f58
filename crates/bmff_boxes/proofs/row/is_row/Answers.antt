use Rattle.std.proofs.Common.{ap, sym, ◌∙◌, is_some}
use Rattle.bmff_boxes.proofs.RowLaws.{found-is, ended, uneven}
use Rattle.bmff_boxes.proofs.row.is_row.Goals as goal

pub boxes-preserved : goal.boxes-preserved
boxes-preserved c = sym (found-is _ _ _ _ c.in-Found.ensures.value) ∙ c.boxes.invariant

pub returns-in-End : goal.returns-in-End
returns-in-End c = sym (ap is_some (ended _ _ c.in-End.ensures.value)) ∙ c.boxes.invariant

pub returns-in-Uneven : goal.returns-in-Uneven
returns-in-Uneven c = sym (ap is_some (uneven _ _ c.in-Uneven.ensures.value)) ∙ c.boxes.invariant
