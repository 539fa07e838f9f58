use Rattle.cut_law.proofs.AppendsUpToFault.{stopping}
use Rattle.cut_law.proofs.laws.stopped_parts.Goals as goal

pub returns : goal.returns
returns c = λ blobs st cut done left p back parts awaited us ut broken. stopping blobs st cut done left p back parts awaited us ut broken
