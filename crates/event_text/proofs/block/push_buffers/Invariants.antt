use Rattle.std.proofs.Common.{◌≡◌, ◌++◌, take, string_bytes}
use Rattle.std.specs.List.{flat_map}
use Rattle.event_text.specs.Block.{buffer_lines}
use Rattle.event_text.proofs.block.push_buffers.Given as goal

-- the lines of the buffers so far were appended
abbrev pub invariant-loop-buffer : goal.invariant-loop-buffer
invariant-loop-buffer l = string_bytes l.text ≡ string_bytes l.fn.text ++ flat_map buffer_lines (take l.buffer-index l.buffers)
