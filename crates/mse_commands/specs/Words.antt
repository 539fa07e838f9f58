-- The words of a call.
use Rattle.std.specs.Prelude.{ℕ, ℤ, ◌≤◌, ◌^◌, ◌&&◌, nat_le, List, [], ◌∷◌, Option, Some, None, option_map, option_and_then, if◌then◌else◌, codes, bytes_eq, ⊤}
use Rattle.mse_base.specs.declared.ticks.Moment.{Moment}
use Rattle.mse_base.specs.declared.ticks.Moment.TheVariants.{Nan, At, Infinite}
use Rattle.call_script.specs.Numbers.{number_of}
use Rattle.call_script.specs.Times.{time_of}
use Rattle.mse_commands.specs.declared.words.Command.{Command}
use Rattle.mse_commands.specs.declared.words.Command.TheVariants.{Ranges, Pieces, Make, Play, Remux, Feed}

-- a count from 1 to the greatest one
abbrev pub count_within : ℕ → ℕ → Option ℕ
count_within most n = if nat_le 1 n && nat_le n most then Some n else None

-- The number from 1 to the greatest one that a word names, in decimal digits without leading zeros; nothing where it
-- names none.
abbrev pub count_of_word : ℕ → List ℕ → Option ℕ
count_of_word most word = option_and_then (count_within most) (number_of word)

-- a piece has at most so many bytes
abbrev pub longest_piece : ℕ
longest_piece = 2 ^ 31

-- a file is made of at most so many segments
abbrev pub most_segments : ℕ
most_segments = 10000

-- a time that is a number of ticks
abbrev pub ticks_in : Moment → Option ℤ
ticks_in Nan = None
ticks_in (At t) = Some t
ticks_in Infinite = None

-- the time that a word writes, where it is one (docs/SCRIPTS.md, words of lines)
abbrev pub finite_time : List ℕ → Option ℤ
finite_time word = option_and_then ticks_in (time_of word)

-- what two words ask for
abbrev pub command_of_two : List ℕ → List ℕ → Option Command
command_of_two name word =
    if bytes_eq name (codes "ranges") then Some Ranges
    else (if bytes_eq name (codes "play") then Some Play
    else (if bytes_eq name (codes "remux") then Some Remux
    else (if bytes_eq name (codes "make")
    then option_map (λ n. Make n) (count_of_word most_segments word)
    else None)))

-- what three words ask for, of which the last names a file
abbrev pub command_of_three : List ℕ → List ℕ → Option Command
command_of_three name word =
    if bytes_eq name (codes "pieces")
    then option_map (λ n. Pieces n) (count_of_word longest_piece word)
    else (if bytes_eq name (codes "feed") then option_map (λ t. Feed t) (finite_time word)
    else None)

-- what the words ask for; nothing where they are no command
abbrev pub command_of : List (List ℕ) → Option Command
command_of [] = None
command_of (name ∷ []) = None
command_of (name ∷ word ∷ []) = command_of_two name word
command_of (name ∷ word ∷ file ∷ []) = command_of_three name word
command_of (name ∷ word ∷ file ∷ more ∷ words) = None

-- the number of a command is one that it may have
abbrev pub IsInRange : Command → Type 0
IsInRange Ranges = ⊤
IsInRange (Pieces count) = 1 ≤ count
IsInRange (Make count) = (1 ≤ count) × (count ≤ most_segments)
IsInRange Play = ⊤
IsInRange Remux = ⊤
IsInRange (Feed at) = ⊤

-- the last of two or three words, which names the file that a command loads
abbrev pub file_of : List (List ℕ) → List ℕ
file_of [] = []
file_of (name ∷ []) = []
file_of (name ∷ file ∷ []) = file
file_of (name ∷ count ∷ file ∷ []) = file
file_of (name ∷ count ∷ file ∷ more ∷ words) = []
