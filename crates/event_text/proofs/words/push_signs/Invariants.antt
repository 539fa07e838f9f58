use Rattle.std.proofs.Common.{◌≡◌, ◌++◌, map, string_bytes}
use Rattle.event_text.specs.Words.{sign_of}
use Rattle.event_text.proofs.words.push_signs.Given as goal

-- the signs of the characters so far were appended
abbrev pub invariant-loop-c : goal.invariant-loop-c
invariant-loop-c l = string_bytes l.text ≡ string_bytes l.fn.text ++ map sign_of l.yielded
