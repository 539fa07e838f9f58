-- Snapshots of a parser by their parts.
use Rattle.std.proofs.Common.{◌≡◌, ℕ, List, drop, Option, subst}
use Rattle.mse_base.specs.declared.track.Presentation.{Presentation}
use Rattle.segment_walk.specs.Moves.{WalkState}
use Rattle.segment_walk.specs.Ranges.{mode_of}
use Rattle.segment_stream.specs.declared.progress.ParserPosition.{ParserPosition}
use Rattle.segment_stream.specs.declared.progress.Progress.{Progress}
use Rattle.segment_stream.specs.declared.progress.Tables.{Tables}
use Rattle.segment_stream.specs.Kept.{ParserSnapshot, IsStillBelow}

-- with these bytes of input
abbrev pub snapshot_of : Option Presentation → Progress → Tables → List ℕ → ParserSnapshot
snapshot_of last progress tables bytes = record { last = last; progress = progress; tables = tables; bytes = bytes }

-- the state of the walk at a position, where these bytes are left
abbrev pub walk_state : Option Presentation → ParserPosition → Tables → List ℕ → WalkState
walk_state last position tables rest = record { last = last; mode = mode_of tables.slots.items tables.known.items position.mode; offset = position.offset; rest = rest; failed = position.failed }

-- at the front of the input all its bytes are left
pub rests-at-front : (last : Option Presentation) (p : ParserPosition) (tables : Tables) (from : ℕ) (bytes : List ℕ) (want : ℕ) → from ≡ 0 → IsStillBelow (walk_state last p tables (drop from bytes)) want → IsStillBelow (walk_state last p tables bytes) want
rests-at-front last p tables from bytes want z r = subst (λ n. IsStillBelow (walk_state last p tables (drop n bytes)) want) z r
