-- A call on a source buffer (Media Source Extensions, 3.1 and 3.2): what the buffer replies, and what comes of it.
use Rattle.std.specs.Prelude.{ℕ, [], ◌∷◌}
use Rattle.buffer_state.specs.AllCalls.{CallView}
use Rattle.source_buffers.specs.Slots.{BuffersResult, result_on_buffer}
use Rattle.mse_engine.specs.State.{Core}
use Rattle.mse_engine.specs.Signals.{Tell}
use Rattle.mse_engine.specs.Replies.{call_events, source_after, surroundings_in}
use Rattle.mse_engine.specs.CoreEffects.{CoreEffect}

-- what comes of a result
abbrev pub call_effect : ℕ → CallView → BuffersResult → Core → CoreEffect
call_effect k call result c = record {
  refused = result.reply.refused;
  core = record { source = source_after k result.reply c.source; buffers = result.buffers };
  signals = Tell (call_events k call result.reply) ∷ [];
}

-- a call on the buffer of a number
abbrev pub buffer_effect : ℕ → CallView → Core → CoreEffect
buffer_effect k call c =
    call_effect k call (result_on_buffer k call (surroundings_in k c.source) c.buffers) c
