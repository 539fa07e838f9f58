use Rattle.adts_stream.proofs.WalkLaws.{is_walk}
use Rattle.adts_stream.proofs.FrameLaws.{items-frames, view-frames, enough-frames}
use Rattle.adts_stream.proofs.laws.frames_law.Goals as goal

pub returns : goal.returns
returns c = record {
  walk = is_walk;
  items = λ last b. items-frames last b;
  view = λ r. view-frames r;
  enough = λ last b n h. enough-frames last b n h;
}
