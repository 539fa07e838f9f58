-- Things that a text names.
use Rattle.std.specs.Prelude.{ℕ, List, Option, find, bytes_eq}

-- the first of these whose name the text is
abbrev pub first_named : {A : Type 0} → (A → List ℕ) → List A → List ℕ → Option A
first_named name all text = find (λ x. bytes_eq text (name x)) all
