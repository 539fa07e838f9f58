use Rattle.bmff_boxes.proofs.RowLaws.{row-step, row-enough}
use Rattle.bmff_boxes.proofs.laws.row_law.Goals as goal

pub returns : goal.returns
returns c = record {
  step = λ b. row-step b;
  enough = λ b n h. row-enough b n h;
}
