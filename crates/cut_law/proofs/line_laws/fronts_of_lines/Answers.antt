use Rattle.cut_law.proofs.LineFronts.{rest_of_line}
use Rattle.cut_law.proofs.line_laws.fronts_of_lines.Goals as goal

pub returns : goal.returns
returns c = rest_of_line
