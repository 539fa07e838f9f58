-- A small walk, which shows what the definitions compute: it gives the characters of a text that ends at a zero
-- byte, the zero byte as the last item, and passes over blanks.
use Rattle.std.specs.Prelude.{ℕ, ◌==◌, Bool, true, false, List, [], ◌∷◌, ◌++◌, length, if◌then◌else◌}
use Rattle.parser_loop.specs.Walk.{Move, Stop, Pass, Give, StreamKind}

-- the bytes that are not walked over yet, and whether the zero byte was met
pub record ExampleState : Type 0 where
  pub rest : List ℕ
  pub ended : Bool

abbrev pub example_state : List ℕ → ExampleState
example_state rest = record { rest = rest; ended = false }

abbrev pub read_byte : ℕ → List ℕ → Move ExampleState ℕ
read_byte b rest =
    if b == 0 then Give 0 (record { rest = []; ended = true })
    else (if b == 32 then Pass (example_state rest) else Give b (example_state rest))

abbrev pub move_by : Bool → List ℕ → Move ExampleState ℕ
move_by true rest = Stop
move_by false [] = Stop
move_by false (b ∷ rest) = read_byte b rest

abbrev pub more_by : Bool → List ℕ → List ℕ → ExampleState
more_by true rest c = record { rest = rest; ended = true }
more_by false rest c = example_state (rest ++ c)

abbrev pub is_letter : ℕ → Bool
is_letter b = if b == 0 then false else true

abbrev pub zero_ended : StreamKind ExampleState ℕ
zero_ended = record {
  move = λ s. move_by s.ended s.rest;
  size = λ s. length s.rest;
  more = λ s c. more_by s.ended s.rest c;
  ends = λ b. b == 0;
  runs = is_letter;
}
