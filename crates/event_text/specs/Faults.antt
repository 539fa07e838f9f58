-- The names of faults, by number.
use Rattle.std.specs.Prelude.{ℕ, ◌==◌, if◌then◌else◌, List, [], ◌∷◌, ◌++◌, map, codes}
use Rattle.std.specs.Fmt.{decimal}
use Rattle.mse_calls.specs.declared.views.FaultView.{FaultView}
use Rattle.event_text.specs.Words.{line, sign_of, name_at}

-- violations of a byte stream format
abbrev pub stream_faults : List (List ℕ)
stream_faults =
    codes "SizeZero" ∷ codes "BoxSize" ∷ codes "TooLarge" ∷ codes "MoovPlace" ∷ codes "MoofPlace"
    ∷ codes "NoInit" ∷ codes "InSegment" ∷ codes "OutsideMdat" ∷ codes "Init" ∷ codes "Moof"
    ∷ codes "NoTracks" ∷ codes "Codec" ∷ codes "TracksDiffer" ∷ codes "TimeRange" ∷ codes "Sync"
    ∷ codes "Rate" ∷ codes "Length" ∷ codes "Counts" ∷ []

-- what is wrong in an initialization segment
abbrev pub init_faults : List (List ℕ)
init_faults =
    codes "Size" ∷ codes "Missing" ∷ codes "HasSamples" ∷ codes "NoMvex" ∷ codes "EditList"
    ∷ codes "ZeroTimescale" ∷ codes "DuplicateTrack" ∷ codes "TooManyTracks" ∷ []

-- what is wrong in a movie fragment
abbrev pub moof_faults : List (List ℕ)
moof_faults =
    codes "Size" ∷ codes "NoTraf" ∷ codes "NoTfhd" ∷ codes "NoTfdt" ∷ codes "BaseOffset"
    ∷ codes "UnknownTrack" ∷ codes "TooManySamples" ∷ codes "Place" ∷ []

-- after Missing stands the type of the box that is missing
abbrev pub init_fault_text : ℕ → List ℕ → List ℕ
init_fault_text inner missing =
    name_at init_faults inner ++ (if inner == 2 then 32 ∷ map sign_of missing else [])

-- after Init and Moof stands what is wrong in it
abbrev pub inner_text : FaultView → List ℕ
inner_text f =
    if f.number == 9 then 32 ∷ init_fault_text f.inner f.missing
    else (if f.number == 10 then 32 ∷ name_at moof_faults f.inner else [])

abbrev pub fault_line : FaultView → List ℕ
fault_line f =
    line (codes "fault" ∷ decimal f.number ∷ (name_at stream_faults f.number ++ inner_text f)
    ∷ codes "buffer" ∷ decimal f.buffer ∷ codes "at" ∷ decimal f.offset ∷ [])
