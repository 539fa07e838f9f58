-- What a decoder is given of a file that was appended (docs/SCRIPTS.md, commands).
use Rattle.std.specs.Prelude.{ℕ, ℤ, List, [], ◌++◌, Option, Some, None}
use Rattle.std.specs.List.{flat_map}
use Rattle.event_text.specs.Block.{fault_lines}
use Rattle.track_store.specs.State.{TrackState}
use Rattle.track_buffers.specs.Media.{Media}
use Rattle.source_buffers.specs.State.{in_slot, media_of_all}
use Rattle.mse_engine.specs.State.{State}
use Rattle.feed_lines.specs.Lines.{lines_of_track}
use Rattle.script_run.specs.Text.{line_if_any}

abbrev pub tracks_of : Option Media → List TrackState
tracks_of None = []
tracks_of (Some media) = media.tracks

-- the tracks of the one source buffer, in order of the first initialization segment
abbrev pub tracks_in : State → List TrackState
tracks_in st = tracks_of (in_slot 0 (media_of_all st.buffers))

-- the lines of each track from a time on
abbrev pub feeds_in : ℤ → State → List (List ℕ)
feeds_in at st = flat_map (lines_of_track at) (tracks_in st)

-- and then that of the first fault
abbrev pub feed_closing : ℤ → State → List (List ℕ)
feed_closing at st = feeds_in at st ++ line_if_any (fault_lines st.source.fault)
