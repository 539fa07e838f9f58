-- Numbers in the payload of a box, the highest byte first. A full box begins its payload with a version of
-- one byte and flags of three (ISO/IEC 14496-12, 4.2); places in the payload count these four bytes.
use Rattle.std.specs.Prelude.{ℕ, ◌+◌, ◌*◌, ◌-◌, ◌^◌, ℤ, pos, ◌-ℤ◌, nat_lt, ◌==◌, if◌then◌else◌, List, length, drop, slice_index, bit_and, Bool, Option, Some, None}
use Rattle.std.specs.Option.{option_map}
use Rattle.byteorder.specs.Endian.{big_number}

-- the number in the n bytes from place i on; none where the payload ends before
unfoldable pub field : ℕ → ℕ → List ℕ → Option ℕ
field n i p = if nat_lt (length p) (i + n) then None else Some (big_number n (drop i p))

-- the number `bits` of n bytes, read as two's complement
abbrev pub signed_number : ℕ → ℕ → ℤ
signed_number n bits =
    if nat_lt bits (2 ^ (8 * n - 1)) then pos bits else pos bits -ℤ pos (2 ^ (8 * n))

-- the signed number in the n bytes from place i on
abbrev pub signed_field : ℕ → ℕ → List ℕ → Option ℤ
signed_field n i p = option_map (signed_number n) (field n i p)

abbrev pub version_of : List ℕ → Option ℕ
version_of p = field 1 0 p

abbrev pub flags_of : List ℕ → Option ℕ
flags_of p = field 3 1 p

-- whether the payload begins with this version
abbrev pub is_version : ℕ → List ℕ → Bool
is_version version p = slice_index p 0 == version

-- how many bytes a field of n bytes takes that is there where its flag is set
abbrev pub optional_len : ℕ → ℕ → ℕ → ℕ
optional_len flags flag n = if bit_and flags flag == 0 then 0 else n

-- a field of n bytes at place i that is there where its flag is set; the inner none says that it is not set
abbrev pub optional_field : ℕ → ℕ → ℕ → ℕ → List ℕ → Option (Option ℕ)
optional_field flags flag n i p =
    if bit_and flags flag == 0 then Some None else option_map Some (field n i p)

-- what is read of a payload by more than one field, none where one of them is not there
infixl 10 ◌>>=◌
abbrev pub ◌>>=◌ : {A B : Type 0} → Option A → (A → Option B) → Option B
None >>= f = None
(Some x) >>= f = f x
