-- What the code keeps of a mode of the walk: its tables of slots and of data ranges, which come in order.
use Rattle.std.specs.Prelude.{◌≡◌, ◌≤◌, true, List, take}
use Rattle.std.specs.List.Sorted.{IsNonDecreasingBy}
use Rattle.segment_walk.specs.declared.kinds.DataRange.{DataRange}
use Rattle.segment_walk.specs.declared.kinds.Fragment.{Fragment}
use Rattle.segment_walk.specs.declared.kinds.ParserMode.{ParserMode}
use Rattle.segment_walk.specs.declared.kinds.ParserMode.TheVariants as codes
use Rattle.segment_walk.specs.Moves.{Open, is_in_ranges, Between, Skipping, Within}
use Rattle.segment_walk.specs.Moves as walk
use Rattle.bmff_fragment.specs.declared.slot.Slot.{Slot}

-- neither starts nor ends fall
pub record AreRangesAscending (ks : List DataRange) : Type 0 where
  pub starts : IsNonDecreasingBy (λ k. k.start) ks
  pub ends : IsNonDecreasingBy (λ k. k.end) ks

-- each slot that lies inside this range lies inside one of them
abbrev pub IsCoveredRange : List DataRange → DataRange → Type 0
IsCoveredRange known range =
    (s : Slot) → range.start ≤ s.start → s.end ≤ range.end → is_in_ranges known s ≡ true

-- the data ranges that a place of the walk sees come in order
abbrev pub HasAscendingRanges : ParserMode → List DataRange → Type 0
HasAscendingRanges (codes.Between phase) known = Unit {0}
HasAscendingRanges (codes.Skipping to left) known = Unit {0}
HasAscendingRanges (codes.Within f) known = AreRangesAscending (take f.known known)

-- what the code keeps of a movie fragment, with the tables in which its slots and data ranges lie
abbrev pub open_at : List Slot → List DataRange → Fragment → Open
open_at slots known f = record {
  slots = slots;
  taken = f.taken;
  known = take f.known known;
  end = f.end;
  place = f.place;
}

abbrev pub mode_of : List Slot → List DataRange → ParserMode → walk.WalkMode
mode_of slots known (codes.Between phase) = Between phase
mode_of slots known (codes.Skipping to left) = Skipping to left
mode_of slots known (codes.Within f) = Within (open_at slots known f)
