-- The bytes that an append takes.
use Rattle.std.specs.Prelude.{ℕ, ◌+◌, nat_le, List, length, take, drop, slice_get, Option, Some, None, option_and_then, if◌then◌else◌}
use Rattle.mse_calls.specs.declared.calls.Piece.{Piece}

-- the part of some bytes, by its start and its length, where it lies inside them; all of them where no part is told
abbrev pub part_of : Option (ℕ × ℕ) → List ℕ → Option (List ℕ)
part_of None bytes = Some bytes
part_of (Some part) bytes =
    if nat_le (part.0 + part.1) (length bytes) then Some (take part.1 (drop part.0 bytes)) else None

-- the bytes of a piece: none where there is no such blob, or where the part does not lie inside it
abbrev pub bytes_of : List (List ℕ) → Piece → Option (List ℕ)
bytes_of blobs piece = option_and_then (part_of piece.part) (slice_get blobs piece.blob)
