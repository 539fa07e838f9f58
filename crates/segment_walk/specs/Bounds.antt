-- Bounds of headers.
use Rattle.std.specs.Prelude.{◌≤◌, Bool, true, false}
use Rattle.bmff_boxes.specs.declared.box_header.Header.{Header}
use Rattle.bmff_boxes.specs.declared.box_header.Header.TheVariants as head
use Rattle.segment_walk.specs.declared.kinds.TopLevelBox.{TopLevelBox}
use Rattle.segment_walk.specs.declared.kinds.TopLevelBox.TheVariants.{FileType, SegmentType, Movie, MovieFragment, MediaData, Other}

-- a header lies in its box
abbrev pub IsHead : Header → Type 0
IsHead (head.Whole kind start len) = (8 ≤ start) × (start ≤ len)
IsHead head.Short = Unit {0}
IsHead (head.Bad f) = Unit {0}

-- the boxes that stand in no movie fragment
abbrev pub is_segment_start : TopLevelBox → Bool
is_segment_start FileType = true
is_segment_start SegmentType = true
is_segment_start Movie = true
is_segment_start MovieFragment = true
is_segment_start MediaData = false
is_segment_start Other = false
