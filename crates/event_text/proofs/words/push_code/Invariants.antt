use Rattle.std.proofs.Common.{◌≡◌, ◌++◌, map, take, string_bytes}
use Rattle.event_text.specs.Words.{sign_of}
use Rattle.event_text.proofs.words.push_code.Given as goal

-- the signs of the bytes so far were appended
abbrev pub invariant-loop-byte : goal.invariant-loop-byte
invariant-loop-byte l = string_bytes l.text ≡ string_bytes l.fn.text ++ map sign_of (take l.byte-index l.code)
