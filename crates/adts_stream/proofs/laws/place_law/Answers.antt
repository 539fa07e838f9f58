use Rattle.parser_loop.specs.Items.{InitItem, FrameItem, FaultItem}
use Rattle.adts_stream.proofs.Places.{item-place, payload-is, payload-there}
use Rattle.adts_stream.proofs.laws.place_law.Goals as goal

pub returns : goal.returns
returns c = record {
  init = λ r p at e. item-place r.before r.whole r.taken (InitItem p at) e;
  header = λ r f at e. item-place r.before r.whole r.taken (FrameItem f at) e;
  frame = λ r f at e. payload-is r.whole at f (item-place r.before r.whole r.taken (FrameItem f at) e);
  there = λ r f at e. payload-there r.whole at f (item-place r.before r.whole r.taken (FrameItem f at) e);
  refused = λ r f at e. item-place r.before r.whole r.taken (FaultItem f at) e;
}
