-- What `remux` writes of a classic file (docs/SCRIPTS.md, commands): its pieces as a fragmented file, or its fault.
use Rattle.std.specs.Prelude.{ℕ, List, [], ◌∷◌, ◌++◌, codes, Result, Ok, Err}
use Rattle.std.specs.Fmt.{decimal}
use Rattle.buffer_state.specs.Faults.{init_missing, init_number}
use Rattle.event_text.specs.Faults.{init_fault_text}
use Rattle.event_text.specs.Words.{line}
use Rattle.sample_tables.specs.declared.fault.MovieFault.{MovieFault}
use Rattle.sample_tables.specs.declared.fault.MovieFault.TheVariants.{Box, NoMoov, Fragmented, Moov, Tables, Place, Range, TooMany, NoTracks}
use Rattle.sample_tables.specs.declared.fault.PlacedFault.{PlacedFault}
use Rattle.remux.specs.Pieces.{pieces_of_file}

abbrev pub remux_number : MovieFault → ℕ
remux_number Box = 21
remux_number NoMoov = 22
remux_number Fragmented = 23
remux_number (Moov inner) = 24
remux_number Tables = 25
remux_number Place = 26
remux_number Range = 27
remux_number TooMany = 28
remux_number NoTracks = 29

abbrev pub remux_name : MovieFault → List ℕ
remux_name Box = codes "Box"
remux_name NoMoov = codes "NoMoov"
remux_name Fragmented = codes "Fragmented"
remux_name (Moov inner) = codes "Moov"
remux_name Tables = codes "Tables"
remux_name Place = codes "Place"
remux_name Range = codes "Range"
remux_name TooMany = codes "TooMany"
remux_name NoTracks = codes "NoTracks"

-- after Moov stands what is wrong in it
abbrev pub moov_text : MovieFault → List ℕ
moov_text (Moov inner) = 32 ∷ init_fault_text (init_number inner) (init_missing inner)
moov_text other = []

-- the line of a fault at an offset of the file
abbrev pub remux_fault_line : MovieFault → ℕ → List ℕ
remux_fault_line fault offset =
    line (codes "fault" ∷ decimal (remux_number fault) ∷ (remux_name fault ++ moov_text fault)
    ∷ codes "at" ∷ decimal offset ∷ [])

abbrev pub pieces_or_fault : Result (List (List ℕ)) PlacedFault → List (List ℕ)
pieces_or_fault (Ok pieces) = pieces
pieces_or_fault (Err placed) = remux_fault_line placed.fault placed.offset ∷ []

-- the initialization segment and the media segments, or the line of the fault
abbrev pub remux_pieces : List ℕ → List (List ℕ)
remux_pieces bytes = pieces_or_fault (pieces_of_file bytes)
