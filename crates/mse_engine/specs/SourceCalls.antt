-- The calls on the media source (Media Source Extensions, 2.2), with their events.
use Rattle.std.specs.Prelude.{ℕ, Bool, List, [], ◌∷◌, ◌++◌, Option, Some, None, if◌then◌else◌}
use Rattle.mse_base.specs.declared.ticks.Moment.{Moment}
use Rattle.mse_types.specs.declared.answer.Container.{Container}
use Rattle.mse_types.specs.declared.answer.TypeAnswer.{TypeAnswer}
use Rattle.mse_types.specs.declared.answer.TypeAnswer.TheVariants.{Supported, Empty, Unsupported}
use Rattle.mse_types.specs.Texts.{type_of}
use Rattle.mse_calls.specs.AnswerAndState.{AnswerAndState}
use Rattle.mse_calls.specs.declared.answers.Name.{Name}
use Rattle.mse_calls.specs.declared.answers.Name.TheVariants.{NotSupported, TypeError}
use Rattle.mse_calls.specs.declared.calls.EndKind.{EndKind}
use Rattle.mse_calls.specs.declared.calls.EndKind.TheVariants.{Plain, Network, Decode}
use Rattle.mse_calls.specs.declared.events.EventKind.TheVariants as kind
use Rattle.mse_calls.specs.declared.events.Target.TheVariants as target
use Rattle.source_state.specs.State.{SourceState}
use Rattle.source_state.specs.Calls.{after_attach, after_set_live, after_clear_live, after_add_buffer, after_remove_buffer, after_set_duration, end_refusal, after_end}
use Rattle.source_state.specs.declared.answers.Added.{Added}
use Rattle.source_state.specs.declared.answers.Added.TheVariants as added
use Rattle.source_state.specs.declared.answers.Removed.{Removed}
use Rattle.source_state.specs.declared.answers.Removed.TheVariants as removed
use Rattle.source_state.specs.declared.answers.Changed.{Changed}
use Rattle.source_state.specs.declared.answers.Changed.TheVariants as changed
use Rattle.source_state.specs.declared.answers.AllBuffers.{AllBuffers}
use Rattle.source_buffers.specs.State.{new_buffer, running_of_all, media_of_all}
use Rattle.source_buffers.specs.Slots.{BuffersResult, removal_result}
use Rattle.source_buffers.specs.All.{all_buffers}
use Rattle.media_element.specs.Queueing.{event_at}
use Rattle.mse_calls.specs.declared.events.Event.{Event}
use Rattle.mse_engine.specs.State.{Core}
use Rattle.mse_engine.specs.Signals.{Signal, Tell, DurationChanged, StreamEnded}
use Rattle.mse_engine.specs.Replies.{buffer_events, first_error, surroundings_in}
use Rattle.mse_engine.specs.CoreEffects.{CoreEffect, refused_effect, effect_leaving, with_state, if_finite, if_made}

-- a call that the source refuses, or after which these signals are heard
abbrev pub answered_by : Option Name → SourceState → List Signal → Core → CoreEffect
answered_by (Some name) s signals c = refused_effect name c
answered_by None s signals c = effect_leaving s signals c

abbrev pub from_source : AnswerAndState (Option Name) SourceState → List Signal → Core → CoreEffect
from_source a signals c = answered_by a.answer a.state signals c

abbrev pub attach_effect : Core → CoreEffect
attach_effect c =
    from_source (after_attach c.source.state)
    (Tell (event_at target.Source kind.SourceOpen ∷ []) ∷ []) c

abbrev pub set_live_effect : Moment → Moment → Core → CoreEffect
set_live_effect start end c =
    if_finite start
    (λ a. if_finite end (λ b. from_source (after_set_live a b c.source.state) [] c) c) c

abbrev pub clear_live_effect : Core → CoreEffect
clear_live_effect c = from_source (after_clear_live c.source.state) [] c

-- ---- the list of source buffers

abbrev pub added_effect : Container → Added → SourceState → Core → CoreEffect
added_effect container (added.Refused name) s c = refused_effect name c
added_effect container (added.Number k) s c = record {
  refused = None;
  core =
      record {
        source = with_state s c.source;
        buffers = c.buffers ++ Some (new_buffer c.source.gap container) ∷ [];
      };
  signals = Tell (event_at target.SourceBuffers kind.AddSourceBuffer ∷ []) ∷ [];
}

abbrev pub add_effect_by : AnswerAndState Added SourceState → Container → Core → CoreEffect
add_effect_by a container c = added_effect container a.answer a.state c

abbrev pub add_effect_of : TypeAnswer → Core → CoreEffect
add_effect_of Empty c = refused_effect TypeError c
add_effect_of Unsupported c = refused_effect NotSupported c
add_effect_of (Supported container) c = add_effect_by (after_add_buffer c.source.state) container c

-- addSourceBuffer
abbrev pub add_effect : List ℕ → Core → CoreEffect
add_effect text c = add_effect_of (type_of text) c

-- it leaves the active list, where it was in it, and then the list of source buffers
abbrev pub inactive_events : Bool → List Event
inactive_events active =
    if active then (event_at target.ActiveSourceBuffers kind.RemoveSourceBuffer ∷ []) else []

abbrev pub removal_events : Bool → List Event
removal_events active =
    inactive_events active ++ event_at target.SourceBuffers kind.RemoveSourceBuffer ∷ []

abbrev pub removed_effect : ℕ → BuffersResult → Removed → SourceState → Core → CoreEffect
removed_effect k result (removed.Refused name) s c = refused_effect name c
removed_effect k result (removed.Gone active) s c = record {
  refused = None;
  core = record { source = with_state s c.source; buffers = result.buffers };
  signals = Tell (buffer_events k result.reply) ∷ Tell (removal_events active) ∷ [];
}

abbrev pub remove_effect_by : ℕ → AnswerAndState Removed SourceState → Core → CoreEffect
remove_effect_by k a c =
    removed_effect k (removal_result k (surroundings_in k c.source) c.buffers) a.answer a.state c

-- removeSourceBuffer: work that runs at the buffer ends
abbrev pub remove_effect : ℕ → Core → CoreEffect
remove_effect k c = if_made k (remove_effect_by k (after_remove_buffer k c.source.state) c) c

-- ---- the duration and the end

-- what the element hears of it
abbrev pub change_signals : Changed → List Signal
change_signals (changed.Refused name) = []
change_signals changed.Same = []
change_signals (changed.To d) = DurationChanged d ∷ []

abbrev pub changed_effect : List Signal → Changed → SourceState → Core → CoreEffect
changed_effect first (changed.Refused name) s c = refused_effect name c
changed_effect first changed.Same s c = effect_leaving s (first ++ change_signals changed.Same) c
changed_effect first (changed.To d) s c =
    effect_leaving s (first ++ change_signals (changed.To d)) c

abbrev pub changed_effect_by : List Signal → AnswerAndState Changed SourceState → Core → CoreEffect
changed_effect_by first a c = changed_effect first a.answer a.state c

-- what the source is told of all its buffers
abbrev pub all_in : Core → AllBuffers
all_in c = all_buffers (running_of_all c.buffers) (media_of_all c.buffers)

-- duration, on setting
abbrev pub set_duration_effect : Moment → Core → CoreEffect
set_duration_effect d c = changed_effect_by [] (after_set_duration d (all_in c) c.source.state) c

-- the element's error code, where the source ends with an error: the first error stays
abbrev pub end_error : EndKind → Bool → ℕ → ℕ
end_error Plain blank error = error
end_error Network blank error = first_error 2 blank error
end_error Decode blank error = first_error 3 blank error

abbrev pub with_end_error : EndKind → CoreEffect → CoreEffect
with_end_error end m = record {
  refused = m.refused;
  core =
      record {
        source = record m.core.source
            { error = end_error end m.core.source.blank m.core.source.error };
        buffers = m.core.buffers;
      };
  signals = m.signals ++ StreamEnded end ∷ [];
}

abbrev pub end_effect_by : Option Name → EndKind → Core → CoreEffect
end_effect_by (Some name) end c = refused_effect name c
end_effect_by None end c =
    with_end_error end
    (changed_effect_by (Tell (event_at target.Source kind.SourceEnded ∷ []) ∷ [])
    (after_end end (all_in c).highest_end c.source.state) c)

-- endOfStream, and the end of stream algorithm (2.4.7)
abbrev pub end_effect : EndKind → Core → CoreEffect
end_effect end c = end_effect_by (end_refusal (all_in c).updating c.source.state) end c
