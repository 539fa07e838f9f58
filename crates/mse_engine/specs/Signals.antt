-- What the element hears in a step, and the end of each step.
use Rattle.std.specs.Prelude.{List, [], ◌∷◌}
use Rattle.mse_base.specs.declared.ticks.Moment.{Moment}
use Rattle.mse_calls.specs.declared.calls.EndKind.{EndKind}
use Rattle.mse_calls.specs.declared.events.Event.{Event}
use Rattle.element_seek.specs.Playing.{after_fail}
use Rattle.element_seek.specs.Seeking.{after_load}
use Rattle.element_seek.specs.Settling.{after_settle}
use Rattle.media_element.specs.State.{ElementState}
use Rattle.media_element.specs.Queueing.{with_events, after_action}
use Rattle.media_element.specs.DurationChange.{after_element_change}
use Rattle.mse_engine.specs.State.{Core, State, source_of}
use Rattle.mse_engine.specs.Scenes.{SourceView, core_view, scene_at}

pub data Signal : Type 0 where
  -- events are queued, in order
  Tell : List Event → Signal
  -- the duration was changed by a call (Media Source Extensions, 2.4.6), so that the position may be after it
  DurationChanged : Moment → Signal
  -- the metadata of all source buffers is there (3.5.7, initialization segment received)
  Loaded : Signal
  -- the stream ended, with an error or without one (2.4.7)
  StreamEnded : EndKind → Signal

-- what the element does where it hears a signal, with what the source and its buffers are after the step
abbrev pub after_signal : SourceView → Signal → ElementState → ElementState
after_signal v (Tell events) e = with_events events e
after_signal v (DurationChanged d) e = after_element_change d (scene_at e.player.position v) e
after_signal v Loaded e = after_action (after_load (scene_at e.player.position v)) e
after_signal v (StreamEnded kind) e = after_action (after_fail kind) e

abbrev pub after_signals : SourceView → List Signal → ElementState → ElementState
after_signals v [] e = e
after_signals v (signal ∷ signals) e = after_signals v signals (after_signal v signal e)

-- the end of each step: the level that the position has now, with its events
abbrev pub after_settling : SourceView → ElementState → ElementState
after_settling v e = after_action (after_settle (scene_at e.player.position v)) e

-- A step leaves the source and its buffers so, and the element, which hears this of it. What the core tells of the
-- element is then so too: the error code and the level come with the signals.
abbrev pub step : Core → List Signal → ElementState → State
step c signals e = record {
  source = source_of c.source;
  buffers = c.buffers;
  element = after_settling (core_view c) (after_signals (core_view c) signals e);
}
