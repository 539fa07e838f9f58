-- What `remux` writes reads back.
use Rattle.std.proofs.Common.{◌≡◌, ℕ, ◌<◌, ◌^◌, List, Option, Ok, ap, sym, subst}
use Rattle.std.specs.List.{All, flat_map}
use Rattle.std.specs.Prelude.{IsOkAnd}
use Rattle.mse_base.specs.declared.track.Presentation.{Presentation}
use Rattle.bmff_boxes.specs.Reading.{◌>>=◌}
use Rattle.segment_walk.specs.Segments.{items_of_string}
use Rattle.sample_tables.specs.declared.media_track.MediaTrack.{MediaTrack}
use Rattle.sample_tables.specs.Movies.{file_tracks}
use Rattle.remux.specs.Pieces.{pieces_of, pieces_of_file}
use Rattle.written_back.specs.Fragments.{items_of_file}
use Rattle.written_back.proofs.Joined.{read_back}
use Rattle.written_back.proofs.Tracks.{file_told}

pieces_are : (file : List ℕ) (tracks : List MediaTrack) → file_tracks file ≡ Ok tracks → pieces_of_file file ≡ Ok (pieces_of file tracks)
unfolding pieces_of_file
pieces_are file tracks e = ap (λ r. r >>= λ ts. Ok (pieces_of file ts)) e

pub remux_reads_back : (before : Option Presentation) (file : List ℕ) (tracks : List MediaTrack) → All (λ byte. byte < 2 ^ 8) file → file_tracks file ≡ Ok tracks → IsOkAnd (pieces_of_file file) (λ pieces. items_of_string before (flat_map (λ piece. piece) pieces) ≡ items_of_file file tracks)
remux_reads_back before file tracks h e =
    let t = file_told file tracks h e in
    subst (λ r. IsOkAnd r (λ pieces. items_of_string before (flat_map (λ piece. piece) pieces) ≡ items_of_file file tracks)) (sym (pieces_are file tracks e)) (read_back before file tracks t.file t.told)
