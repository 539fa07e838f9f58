use Rattle.track_store.proofs.Soundness.{decodable_of}
use Rattle.track_store.proofs.laws.decodable.Goals as goal

pub returns : goal.returns
returns c = λ t sound. decodable_of t.frames sound.chained
