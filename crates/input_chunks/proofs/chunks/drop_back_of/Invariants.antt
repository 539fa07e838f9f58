use Rattle.std.proofs.Common.{◌≡◌, ℕ, ◌+◌, ◌-◌, length}
use Rattle.std.specs.List.{concat}
use Rattle.input_chunks.specs.Pieces.{first_pieces, HasNoEmptyPiece}
use Rattle.input_chunks.specs.Ends.{pieces_of, HasEnds}
use Rattle.input_chunks.proofs.chunks.drop_back_of.Given as goal

abbrev pub invariant-entries : goal.invariant-entries
invariant-entries l = record {
  same : first_pieces (length (concat (pieces_of l.fn.entries.items)) - l.fn.n) (pieces_of l.entries.items) ≡ first_pieces (length (concat (pieces_of l.fn.entries.items)) - l.fn.n) (pieces_of l.fn.entries.items);
  room : length (concat (pieces_of l.fn.entries.items)) - l.fn.n + l.len_left ≡ length (concat (pieces_of l.entries.items));
  none_empty : HasNoEmptyPiece (pieces_of l.entries.items);
  ended : (at : ℕ) → HasEnds at l.fn.entries.items → HasEnds at l.entries.items;
}

abbrev pub decreases-entries : goal.decreases-entries
decreases-entries l = length l.entries.items
