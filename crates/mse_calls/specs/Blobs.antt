-- Loaded byte strings, of which those in front may be forgotten.
use Rattle.std.specs.Prelude.{◌≡◌, ℕ, List, [], ◌++◌, map, take, drop, replicate, Option, Some, None}

-- the blobs before place n are without bytes, and those from n on stay
abbrev pub forgotten_before : ℕ → List (List ℕ) → List (List ℕ)
forgotten_before n blobs = map (λ _. []) (take n blobs) ++ drop n blobs

-- n forgotten blobs, and those that are kept behind them
abbrev pub behind_forgotten : ℕ → List (List ℕ) → List (List ℕ)
behind_forgotten n blobs = replicate n [] ++ blobs

-- where n blobs are forgotten, and n is not 0, there is one without bytes to show for each
abbrev pub HasNoBytes : ℕ → Option (List ℕ) → Type 0
HasNoBytes n None = n ≡ 0
HasNoBytes n (Some bytes) = bytes ≡ []
