use Rattle.std.proofs.Common.{None, ap}
use Rattle.std.specs.List.{concat}
use Rattle.adts_stream.proofs.StreamLaws.{holds-empty, stands-start-view}
use Rattle.adts_stream.proofs.stream.AdtsStream.new.Goals as goal

pub invariant_of-result : goal.invariant_of-result
invariant_of-result c = holds-empty None c.start.result (concat c.new.result) c.start.ensures (ap concat c.new.ensures)

pub returns-clause-stands : goal.returns-clause-stands
returns-clause-stands c = stands-start-view None c.start.result (concat c.new.result) c.start.ensures (ap concat c.new.ensures)
