use Rattle.sample_tables.proofs.PlaceLaws.{places-enough, places-step-in}
use Rattle.sample_tables.proofs.laws.box_places_law.Goals as goal

pub returns : goal.returns
returns c = record {
  step = λ b total n h. places-step-in total n b h;
  enough = λ b n h. places-enough b n h;
}
