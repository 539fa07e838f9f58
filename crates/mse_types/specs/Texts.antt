-- What a type text is read as.
use Rattle.std.specs.Prelude.{ℕ, ◌+◌, ◌-◌, ◌==◌, Bool, true, false, ◌||◌, List, [], ◌∷◌, length, take, drop, Option, None, Some, option_and_then, if◌then◌else◌}
use Rattle.std.specs.List.{prefix_len, suffix_len, position_or_len, before_first, slice_split, list_any, list_all}
use Rattle.std.specs.Option.{option_map_or}
use Rattle.std.specs.Str.{bytes_eq, str_to_ascii_lowercase}
use lib.Chars.{codes}
use Rattle.mse_types.specs.declared.answer.Container.{Container}
use Rattle.mse_types.specs.declared.answer.TypeAnswer.{TypeAnswer}
use Rattle.mse_types.specs.declared.answer.TypeAnswer.TheVariants.{Supported, Empty, Unsupported}
use Rattle.mse_types.specs.Names.{container_of, codec_names, is_among}

abbrev pub is_space : ℕ → Bool
is_space b = b == 32

abbrev pub is_quote : ℕ → Bool
is_quote b = b == 34

abbrev pub is_comma : ℕ → Bool
is_comma b = b == 44

abbrev pub is_full_stop : ℕ → Bool
is_full_stop b = b == 46

-- the bytes without the spaces at their start, and without those at their end
abbrev pub without_leading_spaces : List ℕ → List ℕ
without_leading_spaces bs = drop (prefix_len is_space bs) bs

abbrev pub without_trailing_spaces : List ℕ → List ℕ
without_trailing_spaces bs = take (length bs - suffix_len is_space bs) bs

-- a part of the list of codecs names a codec: up to its first full stop, without the spaces round it
abbrev pub is_codec : List ℕ → Bool
is_codec part =
    is_among codec_names
    (before_first is_full_stop (without_trailing_spaces (without_leading_spaces part)))

-- each part between the commas does
abbrev pub are_codecs : List ℕ → Bool
are_codecs codecs = list_all is_codec (slice_split is_comma codecs)

-- what stands after a text, where the bytes begin with it
abbrev pub after_text : List ℕ → List ℕ → Option (List ℕ)
after_text text bs =
    if bytes_eq (take (length text) bs) text then Some (drop (length text) bs) else None

-- what stands before the first double quote, where that is the last byte
abbrev pub quoted_list : List ℕ → Option (List ℕ)
quoted_list bs =
    if position_or_len is_quote bs + 1 == length bs then Some (before_first is_quote bs) else None

-- a value without quotes
abbrev pub is_bare_end : ℕ → Bool
is_bare_end b = is_space b || is_quote b || is_comma b

abbrev pub bare_list : List ℕ → Option (List ℕ)
bare_list value = if list_any is_bare_end value then None else Some value

-- the list of codecs that a value holds
abbrev pub list_in : List ℕ → Option (List ℕ)
list_in [] = Some []
list_in (b ∷ bs) = if b == 34 then quoted_list bs else bare_list (b ∷ bs)

-- the list of codecs in what follows the media type
abbrev pub codecs_in : List ℕ → Option (List ℕ)
codecs_in rest =
    option_and_then
    (λ parameter. option_and_then list_in
    (after_text (codes "codecs=") (without_leading_spaces parameter)))
    (after_text (codes ";") (without_leading_spaces rest))

-- nothing follows the media type, or a list of known codecs does
abbrev pub is_type_end : List ℕ → Bool
is_type_end [] = true
is_type_end (b ∷ bs) = option_map_or are_codecs (codecs_in (b ∷ bs)) false

abbrev pub type_answer : Option Container → Bool → TypeAnswer
type_answer None well = Unsupported
type_answer (Some container) well = if well then Supported container else Unsupported

-- each media type has nine letters
abbrev pub type_of : List ℕ → TypeAnswer
type_of [] = Empty
type_of (b ∷ bs) =
    type_answer (container_of (str_to_ascii_lowercase (take 9 (b ∷ bs))))
    (is_type_end (drop 9 (b ∷ bs)))
