use Rattle.parser_loop.specs.Items.{InitItem, FrameItem}
use Rattle.segment_walk.proofs.Announced.{frame-announced}
use Rattle.segment_walk.proofs.Places.{item-place, fault-last}
use Rattle.segment_walk.proofs.laws.place_law.Goals as goal

pub returns : goal.returns
returns c = record {
  init = λ r p at e. item-place r.before r.whole r.taken (InitItem p at) e;
  announced = λ r f at e. frame-announced r f at e;
  frame = λ r f at e. (item-place r.before r.whole r.taken (FrameItem f at) e).0;
  there = λ r f at e. (item-place r.before r.whole r.taken (FrameItem f at) e).1;
  fault = λ r f at e. fault-last r.before r.whole r.taken f at e;
}
