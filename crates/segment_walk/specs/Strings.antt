-- What the walk of Moves.antt gives for a whole string, read from its first byte on, where the presentation `last` was
-- left by what came before. It is a device of the proof, as the moves are.
use Rattle.std.specs.Prelude.{ℕ, false, List, drop, Option}
use Rattle.mse_base.specs.declared.frame.Phase.{Phase}
use Rattle.mse_base.specs.declared.frame.Phase.TheVariants.{Waiting, InMedia}
use Rattle.mse_base.specs.declared.track.Presentation.{Presentation}
use Rattle.parser_loop.specs.StringReadings.{StringReading}
use Rattle.parser_loop.specs.Walk.{items_from, state_at, leading_count}
use Rattle.segment_walk.specs.Tables.{SegmentItem}
use Rattle.segment_walk.specs.Moves.{WalkMode, Between, Skipping, Within, WalkState, segments}

-- the walk before the first byte of a string
abbrev pub start : Option Presentation → List ℕ → WalkState
start last b = record { last = last; mode = Between Waiting; offset = 0; rest = b; failed = false }

-- all items of the string
abbrev pub walk_items : Option Presentation → List ℕ → List SegmentItem
walk_items last b = items_from segments (start last b)

-- the walk's state just before the next item of a reading, or at its end where there is none
abbrev pub state_before : StringReading → WalkState
state_before r = state_at segments r.taken (start r.before r.whole)

-- Where the segment parser loop is (Media Source Extensions, append state). A box that is passed over counts from
-- its header on.
abbrev pub phase_of : WalkMode → Phase
phase_of (Between phase) = phase
phase_of (Skipping to left) = to
phase_of (Within o) = InMedia

abbrev pub walk_phase : StringReading → Phase
walk_phase r = phase_of (state_before r).mode

-- how many of the next items are coded frames, up to the first that is none
abbrev pub walk_ready : StringReading → ℕ
walk_ready r = leading_count segments (drop r.taken (walk_items r.before r.whole))

-- The bytes of the string that are held in memory: of a movie fragment all from its moof on, else those from the box
-- at which the next item comes, or which is read and not whole yet, or whose header is not. Behind a fault none are.
abbrev pub walk_held : StringReading → List ℕ
walk_held r = (state_before r).rest
