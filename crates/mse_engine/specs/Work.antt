-- One step of the running work of a source buffer, and a turn of the element by itself.
use Rattle.std.specs.Prelude.{ℕ, ◌==◌, Bool, not, [], length, slice_get, Option, Some, None, option_map, if◌then◌else◌}
use Rattle.mse_calls.specs.AnswerAndState.{AnswerAndState}
use Rattle.mse_calls.specs.declared.events.Event.{Event}
use Rattle.element_seek.specs.Turns.{is_due}
use Rattle.media_element.specs.Queueing.{after_fire, after_own_turn}
use Rattle.source_buffers.specs.Slots.{BuffersResult, buffers_turn}
use Rattle.source_buffers.specs.All.{lowest_running}
use Rattle.source_buffers.specs.State.{running_of_all}
use Rattle.mse_engine.specs.State.{Core, State, core_of}
use Rattle.mse_engine.specs.Scenes.{scene_in}
use Rattle.mse_engine.specs.Signals.{step}
use Rattle.mse_engine.specs.Replies.{source_after, surroundings_in, work_signals}
use Rattle.mse_engine.specs.CoreEffects.{CoreEffect}

-- ---- work

-- what comes of a result
abbrev pub turn_effect : ℕ → BuffersResult → Core → CoreEffect
turn_effect k result c = record {
  refused = None;
  core = record { source = source_after k result.reply c.source; buffers = result.buffers };
  signals = work_signals k result.reply c.source;
}

-- none where nothing runs at the buffer, or it was never made
abbrev pub work_effect : ℕ → Core → Option CoreEffect
work_effect k c =
    option_map (λ result. turn_effect k result c)
    (buffers_turn k (surroundings_in k c.source) c.buffers)

abbrev pub work_result : Option CoreEffect → State → Option State
work_result None st = None
work_result (Some m) st = Some (step m.core m.signals st.element)

abbrev pub after_work : ℕ → State → Option State
after_work k st = work_result (work_effect k (core_of st)) st

-- the lowest buffer at which something runs
abbrev pub running_in : State → Option ℕ
running_in st = lowest_running (running_of_all st.buffers)

-- ---- turns

-- a seek is done, or the end of playback was reached
abbrev pub is_turn_due : State → Bool
is_turn_due st = is_due (scene_in st) st.element.player

-- none where nothing is due
abbrev pub after_element_turn : State → Option State
after_element_turn st =
    if is_turn_due st then Some (step (core_of st) [] (after_own_turn (scene_in st) st.element))
    else None

-- ---- firing

-- The first event of the queue is fired. The source, the buffers and the position stay, so that the level stays too.
abbrev pub without_first : State → State
without_first st = record st { element = after_fire st.element }

-- whether there is one
abbrev pub has_event_in : State → Bool
has_event_in st = not (length st.element.queue == 0)

-- none where the queue is empty
abbrev pub fire_result : State → Option (AnswerAndState Event State)
fire_result st =
    option_map (λ event. record { answer = event; state = without_first st })
    (slice_get st.element.queue 0)
