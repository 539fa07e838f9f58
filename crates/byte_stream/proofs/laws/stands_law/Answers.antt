use Rattle.byte_stream.proofs.KeptStreams.{given-is, ready-is, phase-is, held-is, latest-is}
use Rattle.byte_stream.proofs.laws.stands_law.Goals as goal

pub returns : goal.returns
returns c = record {
  given = λ s r h. given-is s.parser r.container r.string h.parser;
  ready = λ s r h. ready-is s.parser r.container r.string h.parser;
  phase = λ s r h. phase-is s.parser r.container r.string h.parser;
  held = λ s r h. held-is s.parser r.container r.string h.parser;
  latest = λ s r h. latest-is s.parser r.container r.string h.parser;
}
