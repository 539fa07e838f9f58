-- A file that is made from a number reads back.
use Rattle.std.proofs.Common.{◌≡◌, ◌∙◌, ℕ, zero, suc, ◌+◌, ◌<◌, ◌≤◌, List, [], ◌∷◌, ◌++◌, length, map, Option, length-append, ap, refl, sym, arith}
use Rattle.std.specs.List.{flat_map, range_with_len, AllByRecursion}
use Rattle.mse_base.specs.declared.track.Presentation.{Presentation}
use Rattle.segment_walk.specs.Segments.{items_of_string}
use Rattle.bmff_write.specs.declared.track_out.TrackOut.{TrackOut}
use Rattle.bmff_write.specs.Fits.{IsFittingTrack, IsFittingSample, IsFittingTraf}
use Rattle.bmff_write.specs.Movie.{edts_bytes, stsd_bytes, trak_bytes, traks_bytes, init_bytes}
use Rattle.bmff_write.specs.Made.{made_track, made_sample, made_samples, made_traf, made_segment, made_bytes}
use Rattle.bmff_write.proofs.MadeLaws.{made_writable, made_tracks}
use Rattle.bmff_write.proofs.MovieSizes.{vmhd_size, visual_entry_size, stsd_size, stbl_size, minf_size, mdia_size, trak_size, mvex_size, moov_size}
use Rattle.written_back.specs.Tracks.{track_read}
use Rattle.written_back.specs.Segments.{IsTrafOf, IsSegmentOf, segments_bytes, items_read}
use Rattle.written_back.specs.Made.{made_segment_out, made_segments_out}
use Rattle.written_back.proofs.Written.{init_size, written_plain}

same_bytes : (js : List ℕ) → segments_bytes (map made_segment_out js) ≡ flat_map made_segment js
same_bytes [] = refl
same_bytes (j ∷ js) = ap (λ (xs : List ℕ). made_segment j ++ xs) (same_bytes js)

sample_fits : (j i : ℕ) → IsFittingSample (made_sample j i)
unfolding made_sample
sample_fits j i = record { duration = omega arith; offset = record { sfits = omega arith } }

samples_fit : (j : ℕ) (is : List ℕ) → AllByRecursion IsFittingSample (map (made_sample j) is)
samples_fit j [] = tt
samples_fit j (i ∷ is) = (sample_fits j i, samples_fit j is)

traf_fits : (j : ℕ) → j < 10000 → IsFittingTraf (made_traf j)
unfolding made_traf made_samples
traf_fits j small = record { decode = omega arith; samples = samples_fit j (range_with_len 0 30) }

traf_of_track : (j : ℕ) → j < 10000 → IsTrafOf (track_read made_track ∷ []) (made_traf j)
unfolding made_traf made_track
traf_of_track j small = record { named = refl; fits = traf_fits j small }

segments_of_track : (from n : ℕ) → from + n ≤ 10000 → AllByRecursion (IsSegmentOf (track_read made_track ∷ [])) (map made_segment_out (range_with_len from n))
segments_of_track from zero few = tt
segments_of_track from (suc n) few =
    (record { trafs = made_writable from; each = (traf_of_track from (omega arith), tt) }, segments_of_track (from + 1) n (omega arith))

track_fits : IsFittingTrack made_track
unfolding made_track
track_fits = record { scale = omega arith; codec = refl; edits = tt }

-- an initialization segment of one video track without edits
made_init_size : length (init_bytes (made_track ∷ [])) ≡ 595
unfolding made_track traks_bytes edts_bytes
made_init_size =
    let t : TrackOut = made_track in
    let stsd : List ℕ = stsd_bytes t in
    omega (
      arith,
      init_size (t ∷ []) (stsd ∷ []),
      moov_size (t ∷ []) (stsd ∷ []),
      mvex_size (t ∷ []),
      length-append (trak_bytes t stsd) [],
      trak_size t stsd,
      mdia_size t stsd,
      minf_size t.kind stsd,
      stbl_size stsd,
      stsd_size t,
      visual_entry_size t.codec refl,
      vmhd_size,
    )

pub made_read : (before : Option Presentation) (n : ℕ) → n ≤ 10000 → items_of_string before (made_bytes n) ≡ items_read (made_track ∷ []) 595 (made_segments_out n)
unfolding made_bytes
made_read before n few =
    ap (λ (xs : List ℕ). items_of_string before (init_bytes (made_track ∷ []) ++ xs)) (sym (same_bytes (range_with_len 0 n)))
    ∙ written_plain before (made_track ∷ []) (made_segments_out n) made_tracks (track_fits, tt) (segments_of_track 0 n (omega arith))
    ∙ ap (λ (m : ℕ). items_read (made_track ∷ []) m (made_segments_out n)) made_init_size
