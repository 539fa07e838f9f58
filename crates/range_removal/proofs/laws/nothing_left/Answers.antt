use Rattle.std.proofs.Common.{false}
use Rattle.track_store.specs.Frames.{is_between}
use Rattle.range_removal.specs.Removal.{remove_end}
use Rattle.range_removal.proofs.Removals.{unnamed-cleared}
use Rattle.range_removal.proofs.laws.nothing_left.Goals as goal

pub returns : goal.returns
returns c = λ start end duration t. unnamed-cleared (is_between start (remove_end end duration t.frames)) false t.frames
