-- What the engine keeps, and the states that it stands for. Read first `KeptEngine` and `Stands`, then `IsStep` and
-- `IsEngineAnswer`, which say what a call gives, then `IsSteady` and `HasEngineInvariants`, which say what every step keeps.
use Rattle.std.specs.Prelude.{◌≡◌, ℕ, ◌<◌, pos, int_lt, Bool, true, not, List, if◌then◌else◌, length, Option, Some, None, Result, IfOk}
use Rattle.mse_calls.specs.AnswerAndState.{AnswerAndState}
use Rattle.mse_calls.specs.declared.answers.Answer.{Answer}
use Rattle.mse_calls.specs.declared.events.Event.{Event}
use Rattle.mse_engine.specs.declared.engine.Worked.{Worked}
use Rattle.mse_engine.specs.declared.engine.Worked.TheVariants.{Did, Idle}
use Rattle.source_buffers.specs.State.{KeptBuffers, AreSlotsStanding, all_kept_media, media_of_all}
use Rattle.media_element.specs.State.{ElementState}
use Rattle.buffer_state.specs.declared.reply.Reply.{Reply}
use Rattle.mse_calls.specs.Level.{has_metadata}
use Rattle.mse_engine.specs.State.{MediaSource, State, core_source}
use Rattle.mse_engine.specs.Signals.{after_signals, after_settling}
use Rattle.mse_engine.specs.Replies.{is_loading, media_source_after, work_signals}
use Rattle.track_buffers.specs.Buffered.{last_end}
use Rattle.mse_engine.specs.Scenes.{SourceView, start_of_first, scene_with, buffered_in}
use Rattle.mse_calls.specs.Ready.{is_ended}
use Rattle.element_seek.specs.declared.scene.Scene.{Scene}
use Rattle.media_element.specs.Settled.{IsSettled}
use Rattle.mse_engine.specs.declared.scenes.Bounds.{Bounds}
use Rattle.mse_engine.specs.declared.scenes.LoadBounds.{LoadBounds}
use Rattle.mse_base.specs.declared.span.Span.{Span}
use Rattle.source_buffers.specs.All.{AreSlotsWithin, all_steps_left}
use Rattle.mse_engine.specs.Lists.{AreListsSame}
use Rattle.mse_engine.specs.Positions.{IsInsideState}

-- what the code keeps
pub record KeptEngine : Type 0 where
  pub source : MediaSource
  pub buffers : KeptBuffers
  pub element : ElementState

abbrev pub kept_engine : MediaSource → KeptBuffers → ElementState → KeptEngine
kept_engine source buffers element = record { source = source; buffers = buffers; element = element }

-- what the element sees
abbrev pub view_of : MediaSource → KeptBuffers → SourceView
view_of source buffers = record { state = source.state; media = all_kept_media buffers }

-- Many states may be stood for, since many strings may belong to one buffer.
pub record Stands (k : KeptEngine) (st : State) : Type 0 where
  pub source : k.source ≡ st.source
  pub buffers : AreSlotsStanding k.buffers st.buffers
  pub element : k.element ≡ st.element

-- ---- the code and the machine

-- the answer is the one that is meant, and what is kept stands for the state that is meant
pub record IsStep (answer : Answer) (k : KeptEngine)
    (meant : AnswerAndState Answer State) : Type 0 where
  pub answers : answer ≡ meant.answer
  pub stands : Stands k meant.state

-- for every state that was stood for
abbrev pub IsEngineAnswer : {E : Type 0} → KeptEngine → Result Answer E → KeptEngine
    → (State → AnswerAndState Answer State)
    → Type 0
IsEngineAnswer old result new call =
    (st : State) → Stands old st → IfOk result (λ answer. IsStep answer new (call st))

-- the scene of the element, but for what can be sought
abbrev pub kept_scene : KeptEngine → Scene
kept_scene k = scene_with None k.element.player.position (view_of k.source k.buffers)

-- What every step keeps: there is a slot for each buffer that was ever made, each frame ends within the duration, and
-- the element has the level of its position.
pub record IsSteady (k : KeptEngine) : Type 0 where
  pub made : length k.buffers ≡ k.source.state.made
  pub within : AreSlotsWithin k.source.state.duration (all_kept_media k.buffers)
  pub settled : IsSettled (kept_scene k) k.element

-- what is kept stands for some state
pub record IsStanding (k : KeptEngine) : Type 0 where
  pub state : State
  pub stands : Stands k state

-- what is kept stands for a state in which the position lies inside the media, and the lists of the source tell the same
-- as the slots
pub record HasStateInside (k : KeptEngine) : Type 0 where
  pub state : State
  pub stands : Stands k state
  pub position_inside : IsInsideState state
  pub lists : AreListsSame state.source.state (media_of_all state.buffers)

-- what every step of the whole engine keeps
pub record HasEngineInvariants (k : KeptEngine) : Type 0 where
  pub steady : IsSteady k
  pub inside : HasStateInside k

-- ---- the metadata

-- the bounds where the source is ended or not
abbrev pub bounds_at : LoadBounds → Bool → Bounds
bounds_at b ended = if ended then b.ended else b.open

-- those of no range
abbrev pub no_bounds : LoadBounds
no_bounds = record {
  «open» = record { first = None; last = None };
  ended = record { first = None; last = None };
}

-- the bounds are those of the ranges
pub record HasBounds (bounds : Bounds) (rs : List Span) : Type 0 where
  pub first : bounds.first ≡ start_of_first rs
  pub last : bounds.last ≡ last_end rs

-- where the element has a default playback start position, the bounds are those of what it has buffered
abbrev pub IsReadyToLoad : LoadBounds → SourceView → ElementState → Type 0
IsReadyToLoad bounds v e =
    int_lt (pos 0) e.player.default_start ≡ true
    → HasBounds (bounds_at bounds (is_ended v.state.ready)) (buffered_in v)

-- the same where the reply of a step of work brings the metadata, of what is behind it
abbrev pub IsReadyIfLoading : ℕ → Reply → LoadBounds → MediaSource → KeptBuffers → ElementState
    → Type 0
IsReadyIfLoading k r bounds source ks e =
    is_loading k r (not (has_metadata e.player.level)) source.state ≡ true
    → IsReadyToLoad bounds (view_of (media_source_after k r source) ks) e

-- ---- the end of a step

-- the end of a step leaves the element so, and it is settled
pub record IsEndOfStep (source : MediaSource) (ks : KeptBuffers)
    (old new : ElementState) : Type 0 where
  pub element : new ≡ after_settling (view_of source ks) old
  pub settled : IsSettled (kept_scene (kept_engine source ks new)) new

-- what the reply of a step of work brings about at the source, at the element and in the queue, and the end of the step
pub record IsFinished (k : ℕ) (r : Reply) (old new : MediaSource) (ks : KeptBuffers)
    (before after : ElementState) : Type 0 where
  pub source : new ≡ media_source_after k r old
  pub end : IsEndOfStep new ks
      (after_signals (view_of new ks) (work_signals k r (core_source old before)) before) after

-- ---- steps that nobody calls for

-- something was done, and what is kept stands for the state that is meant; or there was nothing to do, and nothing changed
abbrev pub IsWork : Worked → KeptEngine → KeptEngine → Option State → Type 0
IsWork Did old new None = ⊥
IsWork Did old new (Some st) = Stands new st
IsWork Idle old new None = new ≡ old
IsWork Idle old new (Some st) = ⊥

-- the first event of the queue was fired, or there was none
abbrev pub IsFired : Option Event → KeptEngine → KeptEngine → Option (AnswerAndState Event State)
    → Type 0
IsFired None old new None = new ≡ old
IsFired None old new (Some meant) = ⊥
IsFired (Some event) old new None = ⊥
IsFired (Some event) old new (Some meant) = (event ≡ meant.answer) × Stands new meant.state

-- a step of work lowers the number of steps that are left
abbrev pub IsFewerWork : Worked → KeptEngine → KeptEngine → Type 0
IsFewerWork Did old new = all_steps_left new.buffers < all_steps_left old.buffers
IsFewerWork Idle old new = Unit {0}
