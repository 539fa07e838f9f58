use Rattle.std.proofs.Common.{◌≡◌, ◌++◌, map, take, string_bytes}
use Rattle.event_text.specs.Words.{words}
use Rattle.event_text.specs.Times.{span_text}
use Rattle.event_text.proofs.times.push_ranges.Given as goal

-- the spans so far were appended
abbrev pub invariant-loop-i : goal.invariant-loop-i
invariant-loop-i l = string_bytes l.text ≡ string_bytes l.fn.text ++ words (map span_text (take l.i l.ranges))
