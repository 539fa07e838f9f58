-- The lines that close a run.
use Rattle.std.specs.Prelude.{ℕ, Bool, true, false, List, [], ◌∷◌, ◌++◌, map, codes, Option, Some, None}
use Rattle.std.specs.List.{flat_map}
use Rattle.std.specs.Fmt.{decimal}
use Rattle.mse_base.specs.declared.frame.Phase.{Phase}
use Rattle.mse_base.specs.declared.frame.Phase.TheVariants.{Waiting, InInit, InMedia}
use Rattle.mse_base.specs.declared.track.Kind.{Kind}
use Rattle.mse_base.specs.declared.track.Kind.TheVariants.{Video, Audio, Other}
use Rattle.mse_calls.specs.declared.answers.StateView.{StateView}
use Rattle.mse_calls.specs.declared.views.TrackView.{TrackView}
use Rattle.mse_calls.specs.declared.views.BufferView.{BufferView}
use Rattle.mse_calls.specs.declared.views.FaultView.{FaultView}
use Rattle.mse_calls.specs.declared.views.View.{View}
use Rattle.event_text.specs.Words.{line, sign_of}
use Rattle.event_text.specs.Times.{moment_text, ranges_text}
use Rattle.event_text.specs.Answers.{state_text}
use Rattle.event_text.specs.Faults.{fault_line}

abbrev pub phase_text : Phase → List ℕ
phase_text Waiting = codes "waiting"
phase_text InInit = codes "init"
phase_text InMedia = codes "media"

abbrev pub track_kind_text : Kind → List ℕ
track_kind_text Video = codes "video"
track_kind_text Audio = codes "audio"
track_kind_text Other = codes "other"

abbrev pub track_line : ℕ → TrackView → List ℕ
track_line buffer t =
    line
    (codes "track" ∷ decimal buffer ∷ decimal t.id ∷ track_kind_text t.kind ∷ map sign_of t.codec
    ∷ codes "frames" ∷ decimal t.frames ∷ codes "ranges" ∷ ranges_text t.ranges ∷ [])

abbrev pub buffer_line : BufferView → List ℕ
buffer_line b =
    line (codes "buffer" ∷ decimal b.number ∷ codes "phase" ∷ phase_text b.phase
    ∷ codes "held" ∷ decimal b.held ∷ codes "used" ∷ decimal b.used
    ∷ codes "buffered" ∷ ranges_text b.ranges ∷ [])

-- a buffer, and below it its tracks
abbrev pub buffer_lines : BufferView → List ℕ
buffer_lines b = buffer_line b ++ flat_map (track_line b.number) b.tracks

abbrev pub fault_lines : Option FaultView → List ℕ
fault_lines None = []
fault_lines (Some fault) = fault_line fault

-- the state of the source and of the element, where it is asked for
abbrev pub state_lines : StateView → Bool → List ℕ
state_lines state false = []
state_lines state true = line (codes "state" ∷ state_text state ∷ [])

-- the state, the duration, the buffers, and the first fault
abbrev pub closing_text : View → Bool → List ℕ
closing_text view whole =
    state_lines view.state whole
    ++ (line (codes "duration" ∷ moment_text view.state.duration ∷ [])
    ++ (flat_map buffer_lines view.buffers ++ fault_lines view.fault))
