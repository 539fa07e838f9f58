use Rattle.bmff_write.proofs.ReadBoxes.{row_more}
use Rattle.bmff_write.proofs.laws.row_law.Goals as goal

pub returns : goal.returns
returns c = row_more
