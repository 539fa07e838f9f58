use Rattle.std.proofs.Common.{None}
use Rattle.segment_stream.proofs.StreamLaws.{holds-empty, stands-empty-view}
use Rattle.segment_stream.proofs.stream.Stream.new.Goals as goal

pub invariant_of-result : goal.invariant_of-result
invariant_of-result c = rw (c.start.ensures, c.new-3.ensures) (holds-empty None (record { slots = c.new.result; known = c.new-2.result }) tt)

pub returns-clause-stands : goal.returns-clause-stands
returns-clause-stands c = rw (c.start.ensures, c.new-3.ensures) (stands-empty-view None (record { slots = c.new.result; known = c.new-2.result }))
