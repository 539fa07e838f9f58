-- Boxes as bytes (ISO/IEC 14496-12, 4.2). A box is its size, its type and its payload. Numbers are big-endian.
use Rattle.std.specs.Prelude.{ℕ, ◌+◌, List, [], ◌∷◌, ◌++◌, length, replicate}
use Rattle.std.specs.List.{flat_map}
use Rattle.std.specs.Int.{w32, cast_unsigned}
use Rattle.byteorder.specs.Endian.{big_bytes}
use Rattle.bmff_write.specs.declared.boxes.Field.{Field}
use Rattle.bmff_write.specs.declared.boxes.Field.TheVariants.{Full, U16, U32, I32, U64, Code, Zeros}

-- a field: the version and the flags of a full box, a number, four characters, or bytes of value 0
unfoldable pub field_bytes : Field → List ℕ
field_bytes (Full version flags) = big_bytes 1 version ++ big_bytes 3 flags
field_bytes (U16 n) = big_bytes 2 n
field_bytes (U32 n) = big_bytes 4 n
field_bytes (I32 z) = big_bytes 4 (cast_unsigned w32 z)
field_bytes (U64 n) = big_bytes 8 n
field_bytes (Code code) = code
field_bytes (Zeros n) = replicate n 0

abbrev pub field_len : Field → ℕ
field_len (Full version flags) = 4
field_len (U16 n) = 2
field_len (U32 n) = 4
field_len (I32 z) = 4
field_len (U64 n) = 8
field_len (Code code) = length code
field_len (Zeros n) = n

-- fields one after the other
unfoldable pub fields_bytes : List Field → List ℕ
fields_bytes fields = flat_map field_bytes fields

abbrev pub fields_len : List Field → ℕ
fields_len [] = 0
fields_len (field ∷ fields) = field_len field + fields_len fields

-- the size of a box and its type
unfoldable pub header_bytes : ℕ → List ℕ → List ℕ
header_bytes size kind = big_bytes 4 size ++ kind

-- a box; its size counts its header too
unfoldable pub box_bytes : List ℕ → List ℕ → List ℕ
box_bytes kind payload = header_bytes (8 + length payload) kind ++ payload

-- a box that consists of fields
abbrev pub box_of : List ℕ → List Field → List ℕ
box_of kind fields = box_bytes kind (fields_bytes fields)

-- a full box that consists of fields
abbrev pub full_box : List ℕ → ℕ → ℕ → List Field → List ℕ
full_box kind version flags fields = box_of kind (Full version flags ∷ fields)
