-- The grammar of the type texts that are supported: a media type in letters of either case, alone or with the
-- one parameter `codecs` (RFC 2045, section 5.1; RFC 6381, section 3.2; ISO BMFF byte stream format, section 2).
use Rattle.std.specs.Prelude.{◌≡◌, ℕ, not, ◌⊎◌, List, [], ◌∷◌, ◌++◌, replicate, Some}
use Rattle.std.specs.List.{AllPass, slice_split}
use Rattle.std.specs.Str.{str_to_ascii_lowercase}
use lib.Chars.{codes}
use Rattle.mse_types.specs.declared.answer.Container.{Container}
use Rattle.mse_types.specs.Names.{container_of}
use Rattle.mse_types.specs.Texts.{is_quote, is_comma, is_bare_end, is_codec}

-- a value is a list in double quotes without one inside, or a list with no space, double quote or comma
abbrev pub IsQuoted : List ℕ → List ℕ → Type 0
IsQuoted value codecs = (value ≡ 34 ∷ (codecs ++ 34 ∷ [])) × AllPass (λ b. not (is_quote b)) codecs

abbrev pub IsBare : List ℕ → List ℕ → Type 0
IsBare value codecs = (value ≡ codecs) × AllPass (λ b. not (is_bare_end b)) codecs

-- the parameter `codecs`: spaces, a semicolon, spaces, the exact name, and the value, which ends the text
pub record IsCodecs (parameter : List ℕ) : Type 0 where
  pub before : ℕ
  pub after : ℕ
  pub value : List ℕ
  pub codecs : List ℕ
  pub written : parameter
      ≡ replicate before 32 ++ (codes ";" ++ (replicate after 32 ++ (codes "codecs=" ++ value)))
  pub holds : IsQuoted value codecs ⊎ IsBare value codecs
  pub known : AllPass is_codec (slice_split is_comma codecs)

-- a supported type text
pub record IsType (text : List ℕ) (container : Container) : Type 0 where
  pub essence : List ℕ
  pub parameter : List ℕ
  pub written : text ≡ essence ++ parameter
  pub media : container_of (str_to_ascii_lowercase essence) ≡ Some container
  pub ends : (parameter ≡ []) ⊎ IsCodecs parameter
