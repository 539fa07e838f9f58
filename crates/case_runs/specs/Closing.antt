-- How a text closes.
use Rattle.std.specs.Prelude.{◌≡◌, ℕ, List, Option, Some, None, codes, drop}
use Rattle.std.specs.Str.Pattern.{RFindsText}

-- what stands behind a place of a text
abbrev pub behind : Option (ℕ × ℕ) → List ℕ → List ℕ
behind None text = text
behind (Some place) text = drop place.1 text

-- behind its last ` error `, or whole where it has none
abbrev pub IsClosing : List ℕ → List ℕ → Type 0
IsClosing text closing = (place : Option (ℕ × ℕ)) × RFindsText (codes " error ") text place
    × (closing ≡ behind place text)

-- two texts close alike
abbrev pub CloseAlike : List ℕ → List ℕ → Type 0
CloseAlike text other = (closing : List ℕ) × IsClosing text closing × IsClosing other closing
