use Rattle.std.proofs.Common.{◌≡◌, ◌+◌, ◌-◌, ◌≤◌, ◌++◌, length, take, drop}
use Rattle.std.specs.List.{concat}
use Rattle.input_chunks.specs.Ends.{pieces_of}
use Rattle.input_chunks.proofs.chunks.read_of.Given as goal

abbrev pub invariant-entries : goal.invariant-entries
invariant-entries l = record {
  same : take l.filled_len l.into ++ take (length l.into - l.filled_len) (drop l.skip (concat (drop l.i (pieces_of l.entries.items)))) ≡ take (length l.into) (drop l.fn.skip (concat (drop l.fn.first (pieces_of l.entries.items))));
  room : l.skip + (length l.into - l.filled_len) ≤ length (concat (drop l.i (pieces_of l.entries.items)));
  filled : l.filled_len ≤ length l.into;
}
