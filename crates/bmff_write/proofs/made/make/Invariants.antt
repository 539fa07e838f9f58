use Rattle.std.proofs.Common.{◌≡◌, ◌∷◌, [], ◌++◌}
use Rattle.std.specs.List.{flat_map, range_with_len}
use Rattle.bmff_write.specs.Movie.{init_bytes}
use Rattle.bmff_write.specs.Made.{made_track, made_segment}
use Rattle.bmff_write.proofs.made.make.Given as goal

-- the initialization segment and the segments so far
abbrev pub invariant-loop-j : goal.invariant-loop-j
invariant-loop-j l = l.out.items ≡ init_bytes (made_track ∷ []) ++ flat_map made_segment (range_with_len 0 l.j)
