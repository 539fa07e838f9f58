-- The pieces of a queue as they are kept, each with the place of its end.
use Rattle.std.specs.Prelude.{◌≡◌, ℕ, ◌+◌, ◌%◌, ◌^◌, List, [], ◌∷◌, ◌++◌, length, take, drop}
use Rattle.std.specs.List.{concat}
use Rattle.input_chunks.specs.Pieces.{pieces_with_tail}
use Rattle.input_chunks.specs.declared.piece_with_end.PieceWithEnd.{PieceWithEnd}

-- the pieces alone
abbrev pub pieces_of : List PieceWithEnd → List (List ℕ)
pieces_of [] = []
pieces_of (e ∷ es) = e.piece ∷ pieces_of es

-- all bytes, those of the first i pieces, and those of the others
abbrev pub bytes_of : List PieceWithEnd → List ℕ
bytes_of es = concat (pieces_of es)

abbrev pub bytes_before : ℕ → List PieceWithEnd → List ℕ
bytes_before i es = concat (take i (pieces_of es))

abbrev pub bytes_from : ℕ → List PieceWithEnd → List ℕ
bytes_from i es = concat (drop i (pieces_of es))

-- each end is the number of bytes up to it, from `at` on, modulo 2^64
abbrev pub HasEnds : ℕ → List PieceWithEnd → Type 0
HasEnds at [] = Unit {0}
HasEnds at (e ∷ es) = (e.end ≡ (at + length e.piece) % 2 ^ 64) × HasEnds (at + length e.piece) es

-- Wherever the ends are counted from: the new ends are right where the old ones were, and `end` is that of all bytes,
-- which are `total` now.
abbrev pub HasNewEnds : ℕ → ℕ → List PieceWithEnd → List PieceWithEnd → Type 0
HasNewEnds end total old new =
    (at : ℕ) → HasEnds at old → end ≡ (at + total) % 2 ^ 64 → HasEnds at new

-- the pieces with bytes behind the last, and their ends, where these bytes end at `end`
pub record IsWith (bytes : List ℕ) (end : ℕ) (old new : List PieceWithEnd) : Type 0 where
  pub pieces : pieces_of new ≡ pieces_with_tail bytes (pieces_of old)
  pub ends : HasNewEnds end (length (bytes_of old) + length bytes) old new

-- the bytes are to be a piece of their own
abbrev pub IsApart : List ℕ → List (List ℕ) → Type 0
IsApart bytes ps = pieces_with_tail bytes ps ≡ ps ++ bytes ∷ []
