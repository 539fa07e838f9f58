use Rattle.std.proofs.Common.{◌≡◌, take}
use Rattle.mse_base.specs.Moments.{greatest}
use Rattle.track_store.specs.Frames.{ends}
use Rattle.track_store.proofs.list_store.highest_end.Given as goal

abbrev pub invariant-loop-stored : goal.invariant-loop-stored
invariant-loop-stored l = l.best ≡ greatest (ends (take l.stored-index l.frames))
