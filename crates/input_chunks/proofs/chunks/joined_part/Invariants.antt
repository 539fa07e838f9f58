use Rattle.std.proofs.Common.{◌≡◌, ◌++◌, take, drop}
use Rattle.std.specs.List.{concat}
use Rattle.input_chunks.specs.Ends.{pieces_of}
use Rattle.input_chunks.proofs.chunks.joined_part.Given as goal

abbrev pub invariant-pieces : goal.invariant-pieces
invariant-pieces l = l.bytes ++ take l.len_left (concat (drop l.i (pieces_of l.entries.items))) ≡ take l.fn.n (drop l.fn.skip (concat (drop l.fn.first (pieces_of l.entries.items))))
