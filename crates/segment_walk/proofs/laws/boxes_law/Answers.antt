use Rattle.std.proofs.Common.{ap}
use Rattle.parser_loop.specs.Parse.{ParserView}
use Rattle.segment_walk.proofs.WalkLaws.{is_walk}
use Rattle.segment_walk.proofs.Boxes.{items-boxes, seen-boxes, ready-boxes, enough-boxes}
use Rattle.segment_walk.proofs.laws.boxes_law.Goals as goal

pub returns : goal.returns
returns c = record {
  walk = is_walk;
  items = λ last b. items-boxes last b;
  phase = λ r. ap (λ (v : ParserView). v.phase) (seen-boxes r);
  held = λ r. ap (λ (v : ParserView). v.held) (seen-boxes r);
  latest = λ r. ap (λ (v : ParserView). v.latest) (seen-boxes r);
  ready = λ r. ready-boxes r;
  enough = λ last b n h. enough-boxes last b n h;
}
