-- What is kept of a string before an item is an end of it.
use Rattle.std.proofs.Common.{ℕ, ◌+◌, List, drop, refl, ap, ◌∙◌, drop-drop}
use Rattle.parser_loop.specs.Walk.{Move, Stop, Pass, Give, StreamKind, state_at, IsWalk}
use Rattle.parser_loop.specs.Parse.{IfMoved, IsSuffix, IsSuffixLeft}
use Rattle.parser_loop.proofs.StateInvariants.{each-state}

pub suffix-all : (string : List ℕ) → IsSuffix string string
suffix-all string = record { offset = 0; is = refl }

-- an end of an end
pub suffix-suffix : (a b c : List ℕ) → IsSuffix a b → IsSuffix b c → IsSuffix a c
suffix-suffix a b c p q = record { offset = q.offset + p.offset; is = p.is ∙ ap (drop p.offset) q.is ∙ drop-drop p.offset q.offset c }

keeps : {S I : Type 0} (bytes : S → List ℕ) (string : List ℕ) (from : List ℕ) (m : Move S I) → IsSuffix from string → IsSuffixLeft bytes from m → IfMoved (λ s. IsSuffix (bytes s) string) (λ item. Unit {0}) m
keeps bytes string from Stop p d = tt
keeps bytes string from (Pass t) p d = suffix-suffix (bytes t) from string d p
keeps bytes string from (Give item t) p d = (tt, suffix-suffix (bytes t) from string d p)

pub state-suffix : {S I : Type 0} (k : StreamKind S I) (w : IsWalk k) (bytes : S → List ℕ) (g : (s : S) → IsSuffixLeft bytes (bytes s) (k.move s)) (s : S) (n : ℕ) → IsSuffix (bytes (state_at k n s)) (bytes s)
state-suffix k w bytes g s n = each-state k w (λ t. IsSuffix (bytes t) (bytes s)) (λ item. Unit {0}) (λ t p. keeps bytes (bytes s) (bytes t) (k.move t) p (g t)) n s (suffix-all (bytes s))
