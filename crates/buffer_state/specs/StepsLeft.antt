-- How many steps of running work are left, by what is kept.
use Rattle.std.specs.Prelude.{◌≡◌, ℕ, ◌+◌, ◌<◌, true, false, length, Option, Some, None}
use Rattle.parser_loop.specs.Walk.{items_from}
use Rattle.segment_walk.specs.Moves.{segments}
use Rattle.adts_stream.specs.Walk.{adts}
use Rattle.byte_stream.specs.Streams.{OfSegments, OfFrames}
use Rattle.byte_stream.specs.Streams as byte_stream
use Rattle.buffer_state.specs.declared.running.Running.{Running}
use Rattle.buffer_state.specs.declared.running.Running.TheVariants.{Nothing, Append, Removal}
use Rattle.buffer_state.specs.declared.reply.Reply.{Reply}
use Rattle.buffer_state.specs.State.{KeptBuffer, is_updating}

-- how many items the stream will give of the bytes that it has
abbrev pub items_left : byte_stream.ParserState → ℕ
items_left (OfSegments k) = length k.items + length (items_from segments k.state)
items_left (OfFrames s) = length (items_from adts s)

abbrev pub work_left : Running → byte_stream.ParserState → ℕ
work_left Nothing k = 0
work_left Append k = items_left k + 1
work_left (Removal start end) k = 1

-- a removal is one step; an append has one for each item, and one for its end
abbrev pub steps_left : KeptBuffer → ℕ
steps_left k = work_left k.running k.stream.parser

-- a step lowers them
abbrev pub IsFewer : Option Reply → KeptBuffer → KeptBuffer → Type 0
IsFewer (Some reply) old new = steps_left new < steps_left old
IsFewer None old new = Unit {0}

-- a step finds nothing to do exactly where nothing runs, and then nothing changes
abbrev pub IsIdle : Option Reply → KeptBuffer → KeptBuffer → Type 0
IsIdle (Some reply) old new = is_updating old.running ≡ true
IsIdle None old new = (is_updating old.running ≡ false) × (new ≡ old)
