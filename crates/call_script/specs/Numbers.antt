-- Decimal numbers without leading zeros.
use Rattle.std.specs.Prelude.{ℕ, ◌^◌, nat_lt, Bool, ◌&&◌, ◌||◌, List, slice_index, Option, Some, None, option_and_then, if◌then◌else◌, codes, bytes_eq}
use Rattle.std.specs.Str.{all_ascii_digits}
use Rattle.std.specs.Str.Parse.{digits_value}

-- digits of which the first is not 0, or just 0
abbrev pub is_number : List ℕ → Bool
is_number text =
    bytes_eq text (codes "0") || (nat_lt 48 (slice_index text 0) && all_ascii_digits text)

abbrev pub number_of : List ℕ → Option ℕ
number_of text = if is_number text then Some (digits_value 10 text) else None

abbrev pub number_if_below : ℕ → ℕ → Option ℕ
number_if_below limit n = if nat_lt n limit then Some n else None

abbrev pub number_below : ℕ → List ℕ → Option ℕ
number_below limit text = option_and_then (number_if_below limit) (number_of text)

-- the number of a buffer or of a blob
unfoldable pub index_of : List ℕ → Option ℕ
index_of text = number_below (2 ^ 32) text

-- a first byte, or a length in bytes
unfoldable pub size_of : List ℕ → Option ℕ
size_of text = number_below (2 ^ 63) text
