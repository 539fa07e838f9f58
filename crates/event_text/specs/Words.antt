-- Words and lines of printed text.
use Rattle.std.specs.Prelude.{ℕ, zero, suc, nat_le, Bool, true, false, ◌&&◌, if◌then◌else◌, List, [], ◌∷◌, ◌++◌, map, codes}
use Rattle.std.specs.Str.{chars}

-- the characters from 0x20 to 0x7E
abbrev pub is_printable : ℕ → Bool
is_printable c = nat_le 32 c && nat_le c 126

-- the sign that a character prints as: a printable one itself, and every other one as a question mark
abbrev pub sign_of : ℕ → ℕ
sign_of c = if is_printable c then c else 63

-- a text, which is in UTF-8: one sign for each of its characters
abbrev pub printable_text : List ℕ → List ℕ
printable_text text = map sign_of (chars text)

-- words parted by one space
abbrev pub words : List (List ℕ) → List ℕ
words [] = []
words (word ∷ []) = word
words (word ∷ next ∷ rest) = word ++ (32 ∷ words (next ∷ rest))

-- words parted by one space, and a line feed
abbrev pub line : List (List ℕ) → List ℕ
line [] = 10 ∷ []
line (word ∷ []) = word ++ 10 ∷ []
line (word ∷ next ∷ rest) = word ++ (32 ∷ line (next ∷ rest))

abbrev pub bool_text : Bool → List ℕ
bool_text true = codes "true"
bool_text false = codes "false"

-- the name at a number, where the names are counted from 1
abbrev pub name_at : List (List ℕ) → ℕ → List ℕ
name_at names zero = codes "Unknown"
name_at [] (suc n) = codes "Unknown"
name_at (name ∷ names) (suc zero) = name
name_at (name ∷ names) (suc (suc n)) = name_at names (suc n)
