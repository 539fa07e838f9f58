use Rattle.std.proofs.Common.{◌≡◌, ℕ, ◌+◌, ◌-◌, ◌≤◌, length}
use Rattle.std.specs.List.{concat}
use Rattle.input_chunks.specs.Pieces.{pieces_without_first}
use Rattle.input_chunks.specs.Ends.{pieces_of, HasEnds}
use Rattle.input_chunks.proofs.chunks.drop_front_of.Given as goal

abbrev pub invariant-entries : goal.invariant-entries
invariant-entries l = record {
  same : pieces_without_first l.len_left (pieces_of l.entries.items) ≡ pieces_without_first l.fn.n (pieces_of l.fn.entries.items);
  room : l.len_left ≤ length (concat (pieces_of l.entries.items));
  ended : (at : ℕ) → HasEnds at l.fn.entries.items → HasEnds (at + (l.fn.n - l.len_left)) l.entries.items;
  less : l.len_left ≤ l.fn.n;
}

abbrev pub decreases-entries : goal.decreases-entries
decreases-entries l = length l.entries.items
