-- What the calls of C leave of the session that a handle has.
use Rattle.std.specs.Prelude.{◌≡◌, ◌≢◌, ℕ, pos, true, false, List, [], ◌∷◌, ◌++◌, length, take, drop, Option, Some, None, MatchOption}
use Rattle.call_script.specs.declared.script.StepLine.{StepLine}
use Rattle.call_script.specs.declared.script.StepLine.TheVariants as step
use Rattle.mse_calls.specs.declared.answers.Name.{Name}
use Rattle.mse_calls.specs.declared.answers.Name.TheVariants as name
use Rattle.mse_calls.specs.declared.views.BufferAttributes.{BufferAttributes}
use Rattle.mse_engine.specs.State.{State, opening_state}
use Rattle.mse_engine.specs.Standing.{Stands}
use Rattle.mse_engine.specs.Views.{attributes_in, buffer_attributes_in}
use Rattle.script_run.specs.Writes.{IsWritten, IsFrontWritten}
use Rattle.mse_commands.specs.Works.{script_closing}
use Rattle.live_session.specs.Lives.{IsStepResult, LiveView, no_text, text_view, with_no_text}
use Rattle.live_session.specs.Next.{next_line}
use Rattle.live_session.specs.Steps.{without_front}
use Rattle.live_session.specs.declared.live.StepResult.{StepResult}
use Rattle.live_session.specs.declared.live.StepResult.TheVariants as result
use Rattle.mseplay_c.specs.Looks.{ArePut, IsBufferLookOf, IsLookOf, IsRangeTold, IsTrackTold, ranges_of}
use Rattle.mseplay_c.specs.declared.look.BufferLook.{BufferLook}
use Rattle.mseplay_c.specs.declared.look.Look.{Look}
use Rattle.mseplay_c.specs.declared.look.TickRange.{TickRange}
use Rattle.mseplay_c.specs.declared.look.TrackLook.{TrackLook}

-- ---- numbers

-- the names in their order in docs/SCRIPTS.md; 0 is for a call that was not refused
abbrev pub name_number : Name → ℕ
name_number name.InvalidState = 1
name_number name.NotSupported = 2
name_number name.QuotaExceeded = 3
name_number name.TypeError = 4
name_number name.NotFound = 5
name_number name.NoSuchBuffer = 6
name_number name.NoSuchBytes = 7

abbrev pub refusal_number : StepResult → ℕ
refusal_number (result.Done (Some name)) = name_number name
refusal_number (result.Done None) = 0
refusal_number result.NoStep = 0
refusal_number result.NoBytes = 0
refusal_number result.Memory = 0

-- done, no step, no bytes, no memory
abbrev pub step_status : StepResult → ℕ
step_status (result.Done refused) = 0
step_status result.NoStep = 2
step_status result.NoBytes = 8
step_status result.Memory = 5

-- the kind of a step, and the buffer that it works on
abbrev pub next_numbers : Option StepLine → ℕ × ℕ
next_numbers (Some step.Fire) = (1, 0)
next_numbers (Some (step.Work k)) = (2, k)
next_numbers (Some step.Element) = (3, 0)
next_numbers other = (0, 0)

-- ---- what a call does

-- a session that begins
pub record IsOpened (quota gap : ℕ) (live : LiveView) : Type 0 where
  pub engine : Stands live.session.engine (opening_state quota (pos gap))
  pub no_blobs : live.session.blobs ≡ []
  pub none_forgotten : live.session.forgotten ≡ 0
  pub text : live.sink ≡ no_text
  pub going_on : live.ended ≡ false

-- where there is memory the session is the new one; else it is as before, as it is where it has ended
pub record IsChange (answer : ℕ) (old new changed : LiveView) : Type 0 where
  pub done : answer ≡ 0 → new ≡ changed
  pub not_done : answer ≢ 0 → (answer ≡ 5) × (new ≡ old)
  pub ended : old.ended ≡ true → answer ≡ 5

abbrev pub with_blob : List ℕ → LiveView → LiveView
with_blob bytes live = record live {
  session = record live.session { blobs = live.session.blobs ++ bytes ∷ [] };
}

abbrev pub without_front_blobs : ℕ → LiveView → LiveView
without_front_blobs n live = record live { session = without_front n live.session }

-- the step of a line; a session that has ended prints nothing
abbrev pub IsStepCall : List ℕ → ℕ → ℕ → LiveView → LiveView → Type 0
IsStepCall line answer refused old new =
    (came : StepResult) × (answer ≡ step_status came) × (refused ≡ refusal_number came)
    × (old.ended ≡ false → IsStepResult line came old new)
    × (old.ended ≡ true → (came ≡ result.Memory) × (new ≡ with_no_text old))

-- The room begins with the text, as much as goes in; behind it the room is as it was. `written` is the text's length.
pub record IsInRoom (text : List ℕ) (written : ℕ) (old new : List ℕ) : Type 0 where
  pub count : written ≡ length text
  pub room : new ≡ take (length old) text ++ drop (length text) old

-- the step that a drain does next, told by two numbers; 5 where the session has ended
pub record IsNext (answer buffer before : ℕ) (live : LiveView) : Type 0 where
  pub next : (st : State) → Stands live.session.engine st → live.ended ≡ false
      → (answer, buffer) ≡ next_numbers (next_line st)
  pub ended : live.ended ≡ true → (answer ≡ 5) × (buffer ≡ before)

-- what a page reads of source and element
pub record IsLookCall (answer : ℕ) (live : LiveView) (before now : Look)
    (old new : List TickRange) : Type 0 where
  pub done : (st : State) → Stands live.session.engine st → answer ≡ 0
      → IsLookOf (attributes_in st) now × ArePut IsRangeTold 0 (attributes_in st).buffered old new
  pub not_done : answer ≢ 0 → (answer ≡ 5) × (now ≡ before) × (new ≡ old)
  pub ended : live.ended ≡ true → answer ≡ 5

-- ---- what it does of a buffer

-- what a caller gives for a buffer: a look, and the rooms for its tracks and for its ranges
pub record Rooms : Type 0 where
  pub look : BufferLook
  pub tracks : List TrackLook
  pub ranges : List TickRange

pub record IsBufferTold (found : BufferAttributes) (old new : Rooms) : Type 0 where
  pub look : IsBufferLookOf found new.look
  pub tracks : ArePut IsTrackTold 0 found.view.tracks old.tracks new.tracks
  pub ranges : ArePut IsRangeTold 0 (ranges_of found) old.ranges new.ranges

-- 2 where there is no such buffer
pub record IsBufferLookCall (k answer : ℕ) (live : LiveView) (old new : Rooms) : Type 0 where
  pub done : (st : State) → Stands live.session.engine st → answer ≢ 5
      → MatchOption (buffer_attributes_in k st) (answer ≡ 2)
      (λ found. (answer ≡ 0) × IsBufferTold found old new)
  pub not_done : answer ≢ 0 → (answer ≢ 2 → answer ≡ 5) × (new ≡ old)
  pub ended : live.ended ≡ true → answer ≡ 5

-- ---- the block that closes a script

pub record IsBlock (answer : ℕ) (old new : LiveView) : Type 0 where
  pub done : (st : State) → Stands old.session.engine st → answer ≡ 0
      → IsWritten (script_closing st) (text_view no_text) (text_view new.sink)
  pub not_done : (st : State) → Stands old.session.engine st → old.ended ≡ false → answer ≢ 0
      → (answer ≡ 5) × IsFrontWritten (script_closing st) (text_view no_text) (text_view new.sink)
  pub stays : new ≡ record old { sink = new.sink }
  pub ended : old.ended ≡ true → (answer ≡ 5) × (new.sink ≡ no_text)

-- ---- by a handle

-- A call by a handle. Where the handle has no session, it has none behind the call, and this is all that comes of it.
abbrev pub ByHandle : Option LiveView → Option LiveView → Type 0
    → (LiveView → LiveView → Type 0) → Type 0
ByHandle None new no_session Says = (new ≡ None) × no_session
ByHandle (Some old) new no_session Says = (live : LiveView) × (new ≡ Some live) × Says old live
