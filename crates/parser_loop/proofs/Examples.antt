-- The walk over texts that end at a zero byte is a walk.
use Rattle.std.proofs.Common.{◌≡◌, ℕ, Bool, true, false, List, [], ◌∷◌, ◌++◌, length, eqb, cond, refl, arith}
use Rattle.parser_loop.specs.Walk.{Pass, Give, IsMoveBelow, IsSameWithMore, IsWalk}
use Rattle.parser_loop.specs.Example.{example_state, move_by, more_by, zero_ended}

byte-shrinks : (b : ℕ) (rest : List ℕ) (zero blank : Bool) → IsMoveBelow zero_ended (length (b ∷ rest)) (cond zero (Give 0 (record { rest = []; ended = true })) (cond blank (Pass (example_state rest)) (Give b (example_state rest))))
byte-shrinks b rest true blank = omega arith
byte-shrinks b rest false true = omega arith
byte-shrinks b rest false false = omega arith

move-shrinks : (ended : Bool) (rest : List ℕ) → IsMoveBelow zero_ended (length rest) (move_by ended rest)
move-shrinks true rest = tt
move-shrinks false [] = tt
move-shrinks false (b ∷ rest) = byte-shrinks b rest (eqb b 0) (eqb b 32)

byte-follows : (b : ℕ) (rest c : List ℕ) (zero blank : Bool) → eqb b 0 ≡ zero → IsSameWithMore zero_ended c (cond zero (Give 0 (record { rest = []; ended = true })) (cond blank (Pass (example_state rest)) (Give b (example_state rest)))) (cond zero (Give 0 (record { rest = []; ended = true })) (cond blank (Pass (example_state (rest ++ c))) (Give b (example_state (rest ++ c)))))
byte-follows b rest c true blank e = (refl, λ h. refl)
byte-follows b rest c false true e = refl
byte-follows b rest c false false e = (refl, λ h. absurd (cc))

move-follows : (ended : Bool) (rest c : List ℕ) → IsSameWithMore zero_ended c (move_by ended rest) (zero_ended.move (more_by ended rest c))
move-follows true rest c = tt
move-follows false [] c = tt
move-follows false (b ∷ rest) c = byte-follows b rest c (eqb b 0) (eqb b 32) refl

pub is_walk : IsWalk zero_ended
is_walk = record { shrinks = λ s. move-shrinks s.ended s.rest; follows = λ s c. move-follows s.ended s.rest c }
