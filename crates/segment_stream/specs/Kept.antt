-- What the values of the code are to the walk: a device of the proof.
use Rattle.std.specs.Prelude.{◌≡◌, ℕ, zero, suc, ◌<◌, ◌≤◌, ◌^◌, ◌+◌, ◌-◌, All, List, [], ◌∷◌, ◌++◌, take, drop, length, slice_get, slice_index_or, Option, Some, None, is_some, Ok, Err, Bool, true, false, Vec}
use Rattle.std.specs.Global.{Global}
use Rattle.mse_base.specs.declared.track.Presentation.{Presentation}
use Rattle.mse_base.specs.Presentation.{IsPresentation}
use Rattle.bmff_fragment.specs.declared.slot.Slot.{Slot}
use Rattle.bmff_fragment.specs.declared.fault.MoofFault.{MoofFault}
use Rattle.bmff_fragment.specs.Plans.{plan_of}
use Rattle.parser_loop.specs.Walk.{Move, Stop, Give, Lookahead, lookahead_from, with_items, stay_at, kept_with}
use Rattle.mse_base.specs.declared.frame.Phase.TheVariants.{Waiting}
use Rattle.segment_walk.specs.declared.kinds.BoxStep.{BoxStep}
use Rattle.segment_walk.specs.declared.kinds.DataRange.{DataRange}
use Rattle.segment_walk.specs.declared.kinds.Fragment.{Fragment}
use Rattle.segment_walk.specs.declared.kinds.ParserMode.{ParserMode}
use Rattle.segment_walk.specs.declared.kinds.ParserMode.TheVariants as code
use Rattle.segment_walk.specs.declared.kinds.WalkPlace.TheVariants.{AtBox}
use Rattle.segment_walk.specs.Tables.{SegmentItem}
use Rattle.parser_loop.specs.Items.{InitItem, SegmentEnd}
use Rattle.segment_walk.specs.Moves.{WalkState, Between, step_of, frame_of, is_ready, place_offset, state_past, move_of_fault, segments}
use Rattle.segment_walk.specs.Ranges.{AreRangesAscending, mode_of}
use Rattle.input_chunks.specs.Pieces.{pieces_without_first}
use Rattle.std.specs.List.{concat, prefix_len}
use Rattle.segment_stream.specs.declared.progress.Progress.{Progress}
use Rattle.segment_stream.specs.declared.progress.Tables.{Tables}
use Rattle.segment_stream.specs.declared.progress.MoveResult.{MoveResult}
use Rattle.segment_stream.specs.declared.progress.MoveResult.TheVariants as move_result
use Rattle.segment_stream.specs.declared.progress.PendingItem.{PendingItem}
use Rattle.segment_stream.specs.declared.progress.PendingItem.TheVariants as pending

-- A snapshot of the parser: the presentation that was read last, where the parser is, its tables, and the bytes of its
-- input.
pub record ParserSnapshot : Type 0 where
  pub last : Option Presentation
  pub progress : Progress
  pub tables : Tables
  pub bytes : List ℕ

-- with these pieces of input
abbrev pub snapshot : Option Presentation → Progress → Tables → List (List ℕ) → ParserSnapshot
snapshot last progress tables input = record {
  last = last;
  progress = progress;
  tables = tables;
  bytes = concat input;
}

-- the bytes from the place of the parser on
abbrev pub bytes_left : ParserSnapshot → List ℕ
bytes_left s = drop s.progress.from s.bytes

-- how long the string is, of which the input is the end
abbrev pub end_of_input : ParserSnapshot → ℕ
end_of_input s = s.progress.position.offset + (length s.bytes - s.progress.from)

-- the state of the walk at the place of the parser
abbrev pub state_of : ParserSnapshot → WalkState
state_of s = record {
  last = s.last;
  mode = mode_of s.tables.slots.items s.tables.known.items s.progress.position.mode;
  offset = s.progress.position.offset;
  rest = bytes_left s;
  failed = s.progress.position.failed;
}

-- what the parser does next
abbrev pub next_step_of : ParserSnapshot → BoxStep
next_step_of s = step_of (is_some s.last) (state_of s).rest (state_of s).mode

-- the state behind a segment that ends `len` bytes behind this offset, where `bytes` are the bytes from the offset on
abbrev pub state_behind : Option Presentation → ℕ → ℕ → List ℕ → WalkState
state_behind last offset len bytes = record {
  last = last;
  mode = Between Waiting;
  offset = offset + len;
  rest = drop len bytes;
  failed = false;
}

abbrev pub frame_items : List ℕ → ℕ → Option Slot → List SegmentItem
frame_items rest offset None = []
frame_items rest offset (Some slot) = frame_of rest offset slot ∷ []

-- the frames of n slots from i on
abbrev pub frames : List ℕ → ℕ → List Slot → ℕ → ℕ → List SegmentItem
frames rest offset slots i zero = []
frames rest offset slots i (suc n) =
    frame_items rest offset (slice_get slots i) ++ frames rest offset slots (i + 1) n

-- what is kept: the frames that are ready, and the state behind them
abbrev pub kept_of : ParserSnapshot → Lookahead WalkState SegmentItem
kept_of s = record {
  items =
      frames (bytes_left s) s.progress.position.offset s.tables.slots.items s.progress.first
      s.progress.ready;
  state = state_of s;
}

-- what is kept once all was taken ahead that can be
abbrev pub kept_with_lookahead : Lookahead WalkState SegmentItem → Lookahead WalkState SegmentItem
kept_with_lookahead kept = with_items kept.items (lookahead_from segments kept.state)

-- the walk stays there until there are `want` bytes
pub record IsStillBelow (s : WalkState) (want : ℕ) : Type 0 where
  pub still : lookahead_from segments s ≡ stay_at s
  pub waits : (c : List ℕ) → length s.rest + length c < want
      → lookahead_from segments (segments.more s c) ≡ stay_at (segments.more s c)

-- it stays until there are as many bytes as the parser wants
abbrev pub IsStillBelowWant : ParserSnapshot → Type 0
IsStillBelowWant s = IsStillBelow (state_of s) s.progress.want

-- the presentation that was read last, if there is one
abbrev pub IsLast : Option Presentation → Type 0
IsLast None = Unit {0}
IsLast (Some p) = IsPresentation p

-- the data of a slot end behind their start
abbrev pub IsOrdered : Slot → Type 0
IsOrdered slot = slot.start ≤ slot.end

-- what is counted of an open movie fragment is in its tables
pub record IsFragmentCounted (f : Fragment) (tables : Tables) (first ready : ℕ) : Type 0 where
  pub taken : first + ready ≡ f.taken
  pub slots_there : f.taken ≤ length tables.slots.items
  pub few : length tables.slots.items ≤ 2 ^ 20
  pub ordered : All IsOrdered tables.slots.items
  pub known_there : f.known ≤ length tables.known.items
  pub ascending : AreRangesAscending (take f.known tables.known.items)
  pub ended : (d : DataRange) → 0 < f.known
      → ((slice_index_or (take f.known tables.known.items) (f.known - 1) d).start ≤ f.end)
      × ((slice_index_or (take f.known tables.known.items) (f.known - 1) d).end ≤ f.end)
  pub behind : f.end ≤ place_offset f.place
  pub small : f.end ≤ 2 ^ 27

abbrev pub IsCountedIn : ParserMode → Tables → ℕ → ℕ → Type 0
IsCountedIn (code.Between phase) tables first ready = ready ≡ 0
IsCountedIn (code.Skipping to left) tables first ready = ready ≡ 0
IsCountedIn (code.Within f) tables first ready = IsFragmentCounted f tables first ready

-- the slots that are ready end within n bytes
abbrev pub IsSlotEndingBy : ℕ → Option Slot → Type 0
IsSlotEndingBy n None = Unit {0}
IsSlotEndingBy n (Some slot) = slot.end ≤ n

abbrev pub IsEndingBy : ℕ → List Slot → ℕ → ℕ → Type 0
IsEndingBy n slots i zero = Unit {0}
IsEndingBy n slots i (suc m) = IsSlotEndingBy n (slice_get slots i) × IsEndingBy n slots (i + 1) m

-- a place that agrees with the tables and the input
pub record IsConsistent (r : Progress) (tables : Tables) (bytes : List ℕ) : Type 0 where
  pub inside : r.from ≤ length bytes
  pub counts : IsCountedIn r.position.mode tables r.first r.ready
  pub ends : IsEndingBy (length bytes - r.from) tables.slots.items r.first r.ready
  pub small : r.position.offset + (length bytes - r.from) < 2 ^ 62

-- a place that was left behind sees the same of its tables
abbrev pub IsUnchangedSince : ParserMode → ParserMode → Tables → Tables → Type 0
IsUnchangedSince (code.Between phase) now tables new_tables = Unit {0}
IsUnchangedSince (code.Skipping to left) now tables new_tables = Unit {0}
IsUnchangedSince (code.Within f) (code.Between phase) tables new_tables = ⊥
IsUnchangedSince (code.Within f) (code.Skipping to left) tables new_tables = ⊥
IsUnchangedSince (code.Within f) (code.Within g) tables new_tables =
    (new_tables.slots.items ≡ tables.slots.items)
    × (take f.known new_tables.known.items ≡ take f.known tables.known.items)
    × (f.known ≤ g.known)

-- the tables stay what a place in this mode sees of them
abbrev pub AreTablesKept : ParserMode → Tables → Tables → Type 0
AreTablesKept mode tables new_tables = IsUnchangedSince mode mode tables new_tables

-- from one place to a later one, with one presentation and one input
pub record IsLaterSnapshot (before after : ParserSnapshot) : Type 0 where
  pub same : kept_with_lookahead (kept_of after) ≡ kept_with_lookahead (kept_of before)
  pub consistent : IsConsistent after.progress after.tables after.bytes
  pub since :
      IsUnchangedSince before.progress.position.mode after.progress.position.mode before.tables
      after.tables
  pub same_failed : after.progress.position.failed ≡ before.progress.position.failed
  pub total : end_of_input after ≡ end_of_input before
  pub size : segments.size (state_of after) < segments.size (state_of before)

-- the parser has come to another place, with the tables there
abbrev pub moved_to : Progress → Tables → ParserSnapshot → ParserSnapshot
moved_to progress tables s = record {
  last = s.last;
  progress = progress;
  tables = tables;
  bytes = s.bytes;
}

-- of a move, with the tables behind it
abbrev pub IsMoveResult : ParserSnapshot → Tables → MoveResult → Type 0
IsMoveResult before new_tables (move_result.Rest want) =
    IsStillBelow (state_of before) want × (new_tables ≡ before.tables)
IsMoveResult before new_tables (move_result.Go progress) =
    IsLaterSnapshot before (moved_to progress new_tables before)

abbrev pub IsActive : ParserMode → Type 0
IsActive (code.Between phase) = Unit {0}
IsActive (code.Skipping to left) = ⊥
IsActive (code.Within f) = Unit {0}

abbrev pub is_skipping : ParserMode → Bool
is_skipping (code.Between phase) = false
is_skipping (code.Skipping to left) = true
is_skipping (code.Within f) = false

-- the movie fragment of a mode, or an empty one
abbrev pub fragment_in : ParserMode → Fragment
fragment_in (code.Between phase) = record { taken = 0; known = 0; end = 0; place = AtBox 0 }
fragment_in (code.Skipping to left) = record { taken = 0; known = 0; end = 0; place = AtBox 0 }
fragment_in (code.Within f) = f

-- the same place, in another mode
abbrev pub in_mode : Progress → ParserMode → Progress
in_mode r mode = record {
  position = record { mode = mode; offset = r.position.offset; failed = false };
  from = r.from;
  first = r.first;
  ready = r.ready;
  want = 0;
}

-- how many slots behind the next one are ready, where n bytes are there
abbrev pub ready_behind : ℕ → Fragment → Tables → ℕ
ready_behind n f tables =
    prefix_len (is_ready n (take f.known tables.known.items))
    (drop (f.taken + 1) tables.slots.items)

-- the same place in a movie fragment, with the frames of n more slots that are ready
abbrev pub with_taken : Progress → Fragment → ℕ → Progress
with_taken r f n =
    record (in_mode r (code.Within (record f { taken = f.taken + n }))) { ready = r.ready + n }

-- a place where the walk stays, with nothing of the input before it
pub record IsStillAtFront (s : ParserSnapshot) : Type 0 where
  pub front : s.progress.from ≡ 0
  pub consistent : IsConsistent s.progress s.tables s.bytes
  pub rests : IsStillBelowWant s

-- what is found when `more` bytes come
pub record IsFoundWith (before found : ParserSnapshot) (more : List ℕ) : Type 0 where
  pub same : kept_of found ≡ kept_with segments (kept_of before) more
  pub consistent : IsConsistent found.progress found.tables found.bytes
  pub rests : IsStillBelowWant found
  pub total : end_of_input found
      ≤ before.progress.position.offset + length (bytes_left before) + length more

-- the move that gives an item which is no frame
abbrev pub move_of_pending : WalkState → PendingItem → Move WalkState SegmentItem
move_of_pending s pending.Dry = Stop
move_of_pending s (pending.Init p len) = Give (InitItem p s.offset) (state_past s (Some p) len)
move_of_pending s (pending.End end) = Give SegmentEnd (state_past s s.last end)
move_of_pending s (pending.Fault f at) = move_of_fault s f at

-- this item, which is no frame, stands next
abbrev pub IsPendingItem : ParserSnapshot → PendingItem → Type 0
IsPendingItem s item = segments.move (state_of s) ≡ move_of_pending (state_of s) item

-- its bytes are there
abbrev pub HasPendingBytes : ℕ → PendingItem → Type 0
HasPendingBytes n pending.Dry = Unit {0}
HasPendingBytes n (pending.Init p len) = (len ≤ n) × IsPresentation p
HasPendingBytes n (pending.End end) = end ≤ n
HasPendingBytes n (pending.Fault f at) = at ≤ n + 2 ^ 27

-- the slots of a moof, or none where reading gives a fault
abbrev pub IsPlan : Option Presentation → List ℕ → Option (Vec Slot Global) → Type 0
IsPlan None b None = Unit {0}
IsPlan None b (Some v) = ⊥
IsPlan (Some p) b None = (f : MoofFault) × (plan_of p.tracks b ≡ Err f)
IsPlan (Some p) b (Some v) = plan_of p.tracks b ≡ Ok v.items

-- behind a fault no byte is kept, and no frame is ready
abbrev pub IsEmptied : Progress → List ℕ → Type 0
IsEmptied r bytes = r.position.failed ≡ true → (bytes ≡ []) × (r.ready ≡ 0)

-- the pieces that hold the last `n` bytes
abbrev pub last_bytes : ℕ → List (List ℕ) → List (List ℕ)
last_bytes n ps = pieces_without_first (length (concat ps) - n) ps

-- the place before a string
abbrev pub progress_at_start : Progress
progress_at_start = record {
  position = record { mode = code.Between Waiting; offset = 0; failed = false };
  from = 0;
  first = 0;
  ready = 0;
  want = 0;
}
