-- The first word of a text, and what stands behind it.
use Rattle.std.specs.Prelude.{ℕ, ◌==◌, List, [], ◌∷◌, Option, Some, None, if◌then◌else◌}
use Rattle.std.specs.List.{before_first}

-- what stands before the first such byte; the whole text where there is none
abbrev pub text_before : ℕ → List ℕ → List ℕ
text_before mark text = before_first (λ b. b == mark) text

-- what stands behind the first such byte; nothing where there is none
abbrev pub rest_after : ℕ → List ℕ → Option (List ℕ)
rest_after mark [] = None
rest_after mark (byte ∷ bytes) = if byte == mark then Some bytes else rest_after mark bytes

-- words are parted by one space
abbrev pub first_word : List ℕ → List ℕ
first_word text = text_before 32 text

abbrev pub after_word : List ℕ → Option (List ℕ)
after_word text = rest_after 32 text
