-- A file of one video track, with one segment a second.
use Rattle.std.specs.Prelude.{ℕ, ◌+◌, ◌*◌, ◌%◌, ◌==◌, pos, List, [], ◌∷◌, ◌++◌, map, replicate}
use Rattle.std.specs.List.{flat_map, range_with_len}
use lib.Chars.{codes}
use Rattle.mse_base.specs.declared.track.Kind.TheVariants.{Video}
use Rattle.bmff_write.specs.declared.track_out.TrackOut.{TrackOut}
use Rattle.bmff_write.specs.declared.traf_out.SampleOut.{SampleOut}
use Rattle.bmff_write.specs.declared.traf_out.TrafOut.{TrafOut}
use Rattle.bmff_write.specs.Movie.{init_bytes}
use Rattle.bmff_write.specs.Fragment.{segment_bytes}

unfoldable pub made_track : TrackOut
made_track = record { id = 1; kind = Video; scale = 90000; codec = codes "avc1"; edits = [] }

-- sample i of segment j; both are counted from 0
unfoldable pub made_sample : ℕ → ℕ → SampleOut
made_sample j i = record {
  duration = 3000;
  sync = i == 0;
  offset = pos 0;
  payload = replicate (8 + (31 * j + 7 * i) % 25) ((i + j) % 256);
}

unfoldable pub made_samples : ℕ → List SampleOut
made_samples j = map (made_sample j) (range_with_len 0 30)

unfoldable pub made_traf : ℕ → TrafOut
made_traf j = record { id = 1; decode = 90000 * j; samples = made_samples j }

abbrev pub made_segment : ℕ → List ℕ
made_segment j = segment_bytes (j + 1) (made_traf j ∷ [])

-- n segments
unfoldable pub made_bytes : ℕ → List ℕ
made_bytes n = init_bytes (made_track ∷ []) ++ flat_map made_segment (range_with_len 0 n)
