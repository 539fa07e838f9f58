-- The segments of a file that is made from a number.
use Rattle.std.specs.Prelude.{ℕ, ◌+◌, List, [], ◌∷◌, map}
use Rattle.std.specs.List.{range_with_len}
use Rattle.bmff_write.specs.Made.{made_traf}
use Rattle.written_back.specs.Segments.{SegmentOut}

-- segment j, counted from 0
abbrev pub made_segment_out : ℕ → SegmentOut
made_segment_out j = record { sequence = j + 1; trafs = made_traf j ∷ [] }

abbrev pub made_segments_out : ℕ → List SegmentOut
made_segments_out n = map made_segment_out (range_with_len 0 n)
