use Rattle.byte_stream.proofs.Placed.{init-place, frame-place, frame-there, fault-last}
use Rattle.byte_stream.proofs.laws.place_law.Goals as goal

pub returns : goal.returns
returns c = record {
  init = λ r p at e. init-place r.container r.string.before r.string.whole r.string.taken at p e;
  frame = λ r f at e. frame-place r.container r.string.before r.string.whole r.string.taken at f e;
  there = λ r f at e. frame-there r.container r.string.before r.string.whole r.string.taken at f e;
  fault = λ r f at e. fault-last r.container r.string.before r.string.whole r.string.taken at f e;
}
