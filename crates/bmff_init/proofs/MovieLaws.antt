-- Steps of reading a movie box.
use Rattle.std.proofs.Common.{◌≡◌, ℕ, List, [], ◌∷◌, ◌++◌, unwrap_or, Result, Ok, Err, refl, ap, sym, ◌∙◌}
use lib.Chars.{codes}
use Rattle.mse_base.specs.declared.track.TrackInfo.{TrackInfo}
use Rattle.bmff_boxes.specs.Rows.{BoxView, boxes_in, all_of}
use Rattle.bmff_boxes.proofs.RowLaws.{row-nil}
use Rattle.bmff_init.specs.declared.fault.InitFault.{InitFault}
use Rattle.bmff_init.specs.declared.form.Form.{Form}
use Rattle.bmff_init.specs.declared.form.Form.TheVariants.{Classic}
use Rattle.bmff_boxes.specs.Reading.{◌>>=◌}
use Rattle.bmff_init.specs.Movies.{extends_of}
use Rattle.bmff_init.specs.Tracks.{track_of_trak, tracks_of_traks}

-- a classic file has no trex boxes
pub classic-extends : (movie : List BoxView) → Ok (record { duration = 0; trexes = all_of (codes "trex") (boxes_in []) }) ≡ extends_of Classic movie
unfolding extends_of
classic-extends movie = ap (λ o. Ok (record { duration = 0; trexes = all_of (codes "trex") (unwrap_or o []) })) row-nil

tracks-step : (form : Form) (scale : ℕ) (trexes : List (List ℕ)) (before : List TrackInfo) (trak : List ℕ) (traks : List (List ℕ))
    → tracks_of_traks form scale trexes before (trak ∷ traks) ≡ (track_of_trak form scale trexes before trak >>= λ track. tracks_of_traks form scale trexes (before ++ track ∷ []) traks)
unfolding tracks_of_traks
tracks-step form scale trexes before trak traks = refl

tracks-none : (form : Form) (scale : ℕ) (trexes : List (List ℕ)) (before : List TrackInfo) → tracks_of_traks form scale trexes before [] ≡ Ok before
unfolding tracks_of_traks
tracks-none form scale trexes before = refl

-- one more track
pub tracks-go : (form : Form) (scale : ℕ) (trexes : List (List ℕ)) (before : List TrackInfo) (trak : List ℕ) (traks : List (List ℕ)) (track : TrackInfo) (all : Result (List TrackInfo) InitFault)
    → track_of_trak form scale trexes before trak ≡ Ok track → tracks_of_traks form scale trexes before (trak ∷ traks) ≡ all → tracks_of_traks form scale trexes (before ++ track ∷ []) traks ≡ all
tracks-go form scale trexes before trak traks track all e h =
    sym (tracks-step form scale trexes before trak traks ∙ ap (λ r. r >>= λ track. tracks_of_traks form scale trexes (before ++ track ∷ []) traks) e) ∙ h

-- a fault
pub tracks-stop : (form : Form) (scale : ℕ) (trexes : List (List ℕ)) (before : List TrackInfo) (trak : List ℕ) (traks : List (List ℕ)) (fault : InitFault) (all : Result (List TrackInfo) InitFault)
    → track_of_trak form scale trexes before trak ≡ Err fault → tracks_of_traks form scale trexes before (trak ∷ traks) ≡ all → all ≡ Err fault
tracks-stop form scale trexes before trak traks fault all e h =
    sym h ∙ (tracks-step form scale trexes before trak traks ∙ ap (λ r. r >>= λ track. tracks_of_traks form scale trexes (before ++ track ∷ []) traks) e)

-- all tracks
pub tracks-done : (form : Form) (scale : ℕ) (trexes : List (List ℕ)) (before : List TrackInfo) (all : Result (List TrackInfo) InitFault) → tracks_of_traks form scale trexes before [] ≡ all → all ≡ Ok before
tracks-done form scale trexes before all h = sym h ∙ tracks-none form scale trexes before
