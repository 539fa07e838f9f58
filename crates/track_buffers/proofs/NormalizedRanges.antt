-- The buffered ranges are normalized.
use Rattle.std.proofs.Common.{ℤ, pos, ◌≤ℤ◌, Bool, List, [], ◌∷◌, map}
use Rattle.std.specs.List.{AllByRecursion}
use Rattle.mse_base.specs.declared.span.Span.{Span}
use Rattle.mse_base.specs.Spans.{IsNormalized}
use Rattle.mse_base.specs.Meets.{meet_of_all}
use Rattle.mse_base.proofs.SharedTicks.{all_normalized}
use Rattle.track_buffers.specs.Media.{Media, HasMediaInvariants}
use Rattle.track_store.specs.Frames.{ranges_of}
use Rattle.track_store.specs.State.{TrackState}
use Rattle.track_buffers.specs.Buffered.{with_common_end, track_ranges, buffered_of}
use Rattle.track_buffers.proofs.SharedRanges.{track_normalized, buffered_is}
use Rattle.track_buffers.proofs.LastRanges.{common_normalized}

each_normalized : (gap : ℤ) (ts : List TrackState) → pos 0 ≤ℤ gap → AllByRecursion IsNormalized (map (λ t. ranges_of gap t.frames) ts)
each_normalized gap [] low = tt
each_normalized gap (t ∷ ts) low = (track_normalized gap t.frames low, each_normalized gap ts low)

-- the ranges of each track are normalized (Media Source Extensions, "track buffer ranges")
pub tracks_normalized : (m : Media) → pos 0 ≤ℤ m.gap → AllByRecursion IsNormalized (track_ranges m)
tracks_normalized m low = each_normalized m.gap m.tracks low

-- The buffered ranges are ascending, none empty, no two overlapping or touching (HTML, "normalized TimeRanges object").
pub buffered_normalized : (ended : Bool) (m : Media) → pos 0 ≤ℤ m.gap → IsNormalized (buffered_of ended m)
buffered_normalized ended m low = (buffered_is ended m low).normalized

-- so are those of what a source buffer keeps
pub steady_normalized : (ended : Bool) (m : Media) (gaps : List ℤ) → HasMediaInvariants m.tracks gaps m.settings m.gap → IsNormalized (buffered_of ended m)
steady_normalized ended m gaps h = buffered_normalized ended m h.gap_from_zero

-- so are those that some normalized lists share, of which the last range may last to a common end: also those of the
-- media element (Media Source Extensions, section on HTMLMediaElement.buffered)
pub shared_normalized : (ended : Bool) (rs : List (List Span)) → AllByRecursion IsNormalized rs → IsNormalized (meet_of_all (with_common_end ended rs))
shared_normalized ended rs h = all_normalized (with_common_end ended rs) (common_normalized ended rs h)
