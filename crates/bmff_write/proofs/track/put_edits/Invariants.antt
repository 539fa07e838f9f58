use Rattle.std.proofs.Common.{◌≡◌, ◌++◌, take}
use Rattle.std.specs.List.{flat_map}
use Rattle.bmff_write.specs.Movie.{edit_bytes}
use Rattle.bmff_write.proofs.track.put_edits.Given as goal

-- the edits so far were appended
abbrev pub invariant-loop-edit : goal.invariant-loop-edit
invariant-loop-edit l = l.out.items ≡ l.fn.out.items ++ flat_map edit_bytes (take l.edit-index l.edits)
