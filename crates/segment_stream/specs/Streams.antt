-- What contracts see of a stream.
use Rattle.std.specs.Prelude.{◌≡◌, ℕ, ◌+◌, ◌<◌, ◌≤◌, ◌^◌, List, drop, length, Option, Some, None}
use Rattle.std.specs.List.{concat}
use Rattle.input_chunks.specs.Pieces.{pieces_with, pieces_without_last, HasNoEmptyPiece}
use Rattle.parser_loop.specs.StringReadings.{StringReading}
use Rattle.parser_loop.specs.Walk.{Lookahead}
use Rattle.parser_loop.specs.Walk as walk
use Rattle.segment_walk.specs.Moves.{WalkState, segments}
use Rattle.segment_walk.specs.Tables.{SegmentItem}
use Rattle.segment_walk.specs.Strings.{start}
use Rattle.segment_stream.specs.declared.stream.Offered.{Offered}
use Rattle.segment_stream.specs.Kept.{IsStillAtFront, IsEmptied, IsFoundWith, IsLast, ParserSnapshot, kept_of, moved_to, snapshot}

-- A stream: the coded frames that are ready and the state of the walk behind them, the pieces of its input, the
-- length of the string since the last reset, and the bytes that are offered, if there are any.
pub record SegmentView : Type 0 where
  pub kept : Lookahead WalkState SegmentItem
  pub pieces : List (List ℕ)
  pub fed : ℕ
  pub offered : Option (List ℕ)

-- what is kept is that of a reading of a string, just before its next item
abbrev pub IsKeptFor : Lookahead WalkState SegmentItem → StringReading → Type 0
IsKeptFor kept r = walk.Stands segments kept (start r.before r.whole) r.taken

-- The stream stands for a reading: what was fed is the whole string. Many readings may belong to one stream.
pub record Stands (s : SegmentView) (r : StringReading) : Type 0 where
  pub kept : IsKeptFor s.kept r
  pub fed : s.fed ≡ length r.whole

-- it stands for some reading
pub record HasReading (s : SegmentView) : Type 0 where
  pub reading : StringReading
  pub stands : Stands s reading

-- for each reading that it stands for
abbrev pub ForEachReading : SegmentView → (StringReading → Type 0) → Type 0
ForEachReading s p = (r : StringReading) → Stands s r → p r

-- it stands for each reading that it stood for, after a change of it
abbrev pub StandsAfter : SegmentView → (StringReading → StringReading) → SegmentView → Type 0
StandsAfter old change new = ForEachReading old (λ r. Stands new (change r))

-- ---- what the fields are to this

-- the bytes that were pushed last
abbrev pub pushed_last : ℕ → List (List ℕ) → List ℕ
pushed_last n input = drop (length (concat (pieces_without_last n input))) (concat input)

-- the parser where the input is made of these pieces
abbrev pub with_input : List (List ℕ) → ParserSnapshot → ParserSnapshot
with_input input s = snapshot s.last s.progress s.tables input

-- `s` is the parser with the whole input
abbrev pub segment_view : ParserSnapshot → List (List ℕ) → ℕ → Option Offered → SegmentView
segment_view s input fed None = record {
  kept = kept_of s;
  pieces = input;
  fed = fed;
  offered = None;
}
segment_view s input fed (Some o) = record {
  kept = kept_of (with_input (pieces_without_last o.len input) s);
  pieces = pieces_without_last o.len input;
  fed = fed;
  offered = Some (pushed_last o.len input);
}

-- a place where the walk stays, in a string of `fed` bytes
pub record IsStreamAtRest (s : ParserSnapshot) (input : List (List ℕ)) (fed : ℕ) : Type 0 where
  pub rest : IsStillAtFront s
  pub emptied : IsEmptied s.progress s.bytes
  pub readable : IsLast s.last
  pub none_empty : HasNoEmptyPiece input
  pub total : s.progress.position.offset + length s.bytes ≤ fed
  pub few : fed < 2 ^ 62

-- bytes are offered: they were pushed, and what is behind them was found
pub record IsStreamWithOffer (s : ParserSnapshot) (input : List (List ℕ)) (fed : ℕ) (o : Offered)
    : Type 0 where
  pub before :
      IsStreamAtRest (with_input (pieces_without_last o.len input) s)
      (pieces_without_last o.len input) fed
  pub is_pushed : input ≡ pieces_with (pushed_last o.len input) (pieces_without_last o.len input)
  pub len : o.len ≡ length (pushed_last o.len input)
  pub found :
      IsFoundWith (with_input (pieces_without_last o.len input) s)
      (moved_to o.progress s.tables s) (pushed_last o.len input)
  pub found_emptied : IsEmptied o.progress (drop o.progress.from s.bytes)
  pub room : fed + o.len < 2 ^ 62

abbrev pub IsSegmentStream : ParserSnapshot → List (List ℕ) → ℕ → Option Offered → Type 0
IsSegmentStream s input fed None = IsStreamAtRest s input fed
IsSegmentStream s input fed (Some o) = IsStreamWithOffer s input fed o

-- what always holds of the fields, and that the stream stands for some reading
pub record IsStanding (s : ParserSnapshot) (input : List (List ℕ)) (fed : ℕ) (o : Option Offered)
    : Type 0 where
  pub fields : IsSegmentStream s input fed o
  pub stands : HasReading (segment_view s input fed o)
