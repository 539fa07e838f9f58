use Rattle.std.proofs.Common.{◌≡◌, ◌+◌, ◌≤◌, ◌++◌, length, take, drop}
use Rattle.std.specs.List.{concat}
use Rattle.input_chunks.specs.Ends.{pieces_of}
use Rattle.input_chunks.proofs.chunks.copy_of.Given as goal

abbrev pub invariant-entries : goal.invariant-entries
invariant-entries l = record {
  same : l.into.items ++ take l.len_left (drop l.skip (concat (drop l.i (pieces_of l.entries.items)))) ≡ take l.fn.n (drop l.fn.skip (concat (drop l.fn.first (pieces_of l.entries.items))));
  room : l.skip + l.len_left ≤ length (concat (drop l.i (pieces_of l.entries.items)));
}
