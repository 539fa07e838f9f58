-- Laws of the tracks of a movie box, track box by track box.
use Rattle.std.proofs.Common.{◌≡◌, ℕ, true, false, cond, List, [], ◌∷◌, ◌++◌, map, Option, Some, None, unwrap_or, Result, Ok, Err, IfOk, refl, ap, sym, ◌∙◌, append-nil}
use Rattle.std.specs.Str.{bytes_eq}
use Rattle.std.specs.Option.{option_and_then}
use lib.Chars.{codes}
use Rattle.mse_base.specs.declared.track.TrackInfo.{TrackInfo}
use Rattle.bmff_boxes.specs.Children.{payload_of}
use Rattle.bmff_boxes.specs.Rows.{BoxView, row_of, boxes_in, all_of}
use Rattle.bmff_boxes.proofs.RowLaws.{all-here, all-later, row-nil}
use Rattle.sample_tables.specs.declared.fault.MovieFault.TheVariants.{NoTracks}
use Rattle.sample_tables.specs.declared.media_track.MediaTrack.{MediaTrack}
use Rattle.mse_base.specs.Moments.{is_media}
use Rattle.sample_tables.specs.Movies.{media_boxes, track_boxes, tracks_by}

-- a box of another type is passed over
pub other_box : {Y : Type 0} (F : List (List ℕ) → Y) (kind k payload : List ℕ) (bs all : List BoxView) (y : Y) → bytes_eq k kind ≡ false → all ≡ record { kind = k; payload = payload } ∷ bs → F (all_of kind all) ≡ y → F (all_of kind bs) ≡ y
other_box F kind k payload bs all y e h g = ap F (sym (all-later k kind payload bs all e h)) ∙ g

-- a box of the type is the next
pub next_box : {Y : Type 0} (F : List (List ℕ) → Y) (kind k payload : List ℕ) (bs all : List BoxView) (y : Y) → bytes_eq k kind ≡ true → all ≡ record { kind = k; payload = payload } ∷ bs → F (all_of kind all) ≡ y → F (payload ∷ all_of kind bs) ≡ y
next_box F kind k payload bs all y e h g = ap F (sym (all-here k kind payload bs all e h)) ∙ g

-- a track of video or audio
pub media_next : {Y : Type 0} (F : List (TrackInfo × List ℕ) → Y) (info : TrackInfo) (infos : List TrackInfo) (trak : List ℕ) (traks : List (List ℕ)) (y : Y) → is_media info.kind ≡ true → F (media_boxes (info ∷ infos) (trak ∷ traks)) ≡ y → F ((info, trak) ∷ media_boxes infos traks) ≡ y
media_next F info infos trak traks y e h = sym (ap (λ b. F (cond b ((info, trak) ∷ media_boxes infos traks) (media_boxes infos traks))) e) ∙ h

-- a track of another kind
pub media_pass : {Y : Type 0} (F : List (TrackInfo × List ℕ) → Y) (info : TrackInfo) (infos : List TrackInfo) (trak : List ℕ) (traks : List (List ℕ)) (y : Y) → is_media info.kind ≡ false → F (media_boxes (info ∷ infos) (trak ∷ traks)) ≡ y → F (media_boxes infos traks) ≡ y
media_pass F info infos trak traks y e h = sym (ap (λ b. F (cond b ((info, trak) ∷ media_boxes infos traks) (media_boxes infos traks))) e) ∙ h

pub infos_end : (tracks : List MediaTrack) (boxes : List (TrackInfo × List ℕ)) (all : List TrackInfo) → boxes ≡ [] → map (λ t. t.info) tracks ++ map (λ b. b.0) boxes ≡ all → map (λ t. t.info) tracks ≡ all
infos_end tracks boxes all e h =
    sym (ap (λ bs. map (λ (t : MediaTrack). t.info) tracks ++ map (λ (b : TrackInfo × List ℕ). b.0) bs) e ∙ append-nil (map (λ (t : MediaTrack). t.info) tracks)) ∙ h

-- no track is left
pub boxes_none : (infos : List TrackInfo) (traks : List (List ℕ)) → traks ≡ [] → media_boxes infos traks ≡ []
boxes_none [] traks e = refl
boxes_none (i ∷ is) [] e = refl
boxes_none (i ∷ is) (t ∷ ts) e = absurd (cc)

-- the boxes of a movie box that is no row, and of one that is
pub no-boxes : (moov : List ℕ) → option_and_then row_of (payload_of moov) ≡ None → track_boxes moov ≡ []
no-boxes moov e = by (payload_of moov) e
  where
    row : (o : Option (List BoxView)) → o ≡ None → all_of (codes "trak") (unwrap_or o []) ≡ []
    row None e = refl
    row (Some boxes) e = absurd (cc)

    by : (o : Option (List ℕ)) → option_and_then row_of o ≡ None → all_of (codes "trak") (boxes_in (unwrap_or o [])) ≡ []
    by None e = ap (λ o. all_of (codes "trak") (unwrap_or o [])) row-nil
    by (Some p) e = row (row_of p) e

pub some-boxes : (moov : List ℕ) (row : List BoxView) → option_and_then row_of (payload_of moov) ≡ Some row → track_boxes moov ≡ all_of (codes "trak") row
some-boxes moov row e = by (payload_of moov) e
  where
    by : (o : Option (List ℕ)) → option_and_then row_of o ≡ Some row → all_of (codes "trak") (boxes_in (unwrap_or o [])) ≡ all_of (codes "trak") row
    by None e = absurd (cc)
    by (Some p) e = ap (λ o. all_of (codes "trak") (unwrap_or o [])) e

pub if-ok-map : {X E : Type 0} (r : Result X E) (P Q : X → Type 0) → ((x : X) → P x → Q x) → IfOk r P → IfOk r Q
if-ok-map (Ok x) P Q f h = f x h
if-ok-map (Err e) P Q f h = tt

-- no track of video or audio
pub no-tracks : (len : ℕ) (boxes : List (TrackInfo × List ℕ)) → boxes ≡ [] → tracks_by len boxes ≡ Err NoTracks
no-tracks len boxes e = ap (tracks_by len) e
