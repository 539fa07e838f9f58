-- The header of a box (ISO/IEC 14496-12, 4.2, object structure).
use Rattle.std.specs.Prelude.{ℕ, ◌+◌, ◌≤◌, nat_lt, ◌==◌, if◌then◌else◌, List, [], ◌∷◌, length, drop, slice_index}
use Rattle.byteorder.specs.Endian.{big_number}
use Rattle.bmff_boxes.specs.declared.box_header.HeadFault.TheVariants.{SizeZero, BoxSize}
use Rattle.bmff_boxes.specs.declared.box_header.Header.{Header}
use Rattle.bmff_boxes.specs.declared.box_header.Header.TheVariants.{Whole, Short, Bad}

-- the four bytes from place i on
abbrev pub four_at : ℕ → List ℕ → List ℕ
four_at i b =
    slice_index b i ∷ slice_index b (i + 1) ∷ slice_index b (i + 2) ∷ slice_index b (i + 3) ∷ []

-- a box has at least the bytes of its header
abbrev pub header_of_len : List ℕ → ℕ → ℕ → Header
header_of_len kind head len = if nat_lt len head then Bad BoxSize else Whole kind head len

-- `size` in bytes 0 to 3 and `type` in bytes 4 to 7. Where size is 1, `largesize` in bytes 8 to 15 takes its
-- place. A size of 0, a box up to the end of the file, cannot stand in a byte stream. The 16 bytes of
-- extended type of a `uuid` box belong to its payload here.
unfoldable pub header_of : List ℕ → Header
header_of b =
    if nat_lt (length b) 8 then Short
    else (if big_number 4 b == 0 then Bad SizeZero
    else (if big_number 4 b == 1
    then (if nat_lt (length b) 16 then Short
    else header_of_len (four_at 4 b) 16 (big_number 8 (drop 8 b)))
    else header_of_len (four_at 4 b) 8 (big_number 4 b)))

-- a whole header lies in the n bytes and in its box; of a bad one at least eight bytes are there
abbrev pub IsHeaderWithin : ℕ → Header → Type 0
IsHeaderWithin n (Whole kind head len) = (8 ≤ head) × (head ≤ len) × (head ≤ n)
IsHeaderWithin n Short = Unit {0}
IsHeaderWithin n (Bad fault) = 8 ≤ n
