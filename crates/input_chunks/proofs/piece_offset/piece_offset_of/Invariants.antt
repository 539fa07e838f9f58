use Rattle.std.proofs.Common.{◌<◌, ◌-◌, ◌≤◌, length, take}
use Rattle.std.specs.List.{concat}
use Rattle.input_chunks.specs.Ends.{pieces_of}
use Rattle.input_chunks.proofs.piece_offset.piece_offset_of.Given as goal

abbrev pub invariant-search : goal.invariant-search
invariant-search l = record {
  before : length (concat (take l.low (pieces_of l.entries.items))) ≤ l.from;
  behind : l.from < length (concat (take l.high (pieces_of l.entries.items)));
  apart : l.low < l.high;
  within : l.high ≤ length l.entries.items;
}

abbrev pub decreases-search : goal.decreases-search
decreases-search l = l.high - l.low
