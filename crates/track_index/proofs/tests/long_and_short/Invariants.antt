use Rattle.std.proofs.Common.{◌<◌}
use Rattle.std.specs.List.{AllByRecursion}
use Rattle.track_index.proofs.tests.long_and_short.Given as goal

abbrev pub invariant-loop-serial : goal.invariant-loop-serial
invariant-loop-serial g l = AllByRecursion (λ f. f.serial < l.serial) (g.S.FrameStore.frames l.store)
