-- What holds of the tracks that were read.
use Rattle.std.proofs.Common.{◌≡◌, ◌≢◌, ℕ, suc, ◌≤◌, Bool, true, false, not, cond, List, [], ◌∷◌, ◌++◌, length, map, refl, ap, sym, ◌∙◌, arith, subst}
use Rattle.std.specs.List.{AllByRecursion}
use Rattle.mse_base.specs.Moments.{is_media}
use Rattle.mse_base.specs.declared.track.Kind.{Kind}
use Rattle.mse_base.specs.declared.track.Kind.TheVariants.{Video, Audio, Other}
use Rattle.mse_base.specs.declared.track.TrackInfo.{TrackInfo}
use Rattle.mse_base.specs.Presentation.{IsReadable, HasDistinctIds}
use Rattle.sample_tables.specs.declared.media_track.MediaTrack.{MediaTrack}
use Rattle.sample_tables.specs.Movies.{media_boxes, is_empty}
use Rattle.sample_tables.specs.Facts.{IsMediaBox, AreMediaBoxes, AreFileTracks, AreTracksOf}

-- ---- the track boxes of video and audio

other_kind : (k : Kind) → is_media k ≡ true → k ≢ Other
other_kind Video e = λ h. cc
other_kind Audio e = λ h. cc
other_kind Other e = absurd (cc)

boxes_each : (infos : List TrackInfo) (traks : List (List ℕ)) → AllByRecursion IsReadable infos → AllByRecursion IsMediaBox (media_boxes infos traks)
boxes_each [] traks h = tt
boxes_each (i ∷ is) [] h = tt
boxes_each (i ∷ is) (t ∷ ts) h = by (is_media i.kind) refl (boxes_each is ts h.1)
  where
    by : (b : Bool) → is_media i.kind ≡ b → AllByRecursion IsMediaBox (media_boxes is ts) → AllByRecursion IsMediaBox (cond b ((i, t) ∷ media_boxes is ts) (media_boxes is ts))
    by true e r = ((h.0, other_kind i.kind e), r)
    by false e r = r

boxes_few : (infos : List TrackInfo) (traks : List (List ℕ)) → length (media_boxes infos traks) ≤ length infos
boxes_few [] traks = omega arith
boxes_few (i ∷ is) [] = omega arith
boxes_few (i ∷ is) (t ∷ ts) = by (is_media i.kind) (boxes_few is ts)
  where
    by : (b : Bool) → length (media_boxes is ts) ≤ length is → length (cond b ((i, t) ∷ media_boxes is ts) (media_boxes is ts)) ≤ suc (length is)
    by true r = omega arith
    by false r = omega arith

boxes_all : (P : TrackInfo → Type 0) (infos : List TrackInfo) (traks : List (List ℕ)) → AllByRecursion P infos → AllByRecursion P (map (λ b. b.0) (media_boxes infos traks))
boxes_all P [] traks h = tt
boxes_all P (i ∷ is) [] h = tt
boxes_all P (i ∷ is) (t ∷ ts) h = by (is_media i.kind) (boxes_all P is ts h.1)
  where
    by : (b : Bool) → AllByRecursion P (map (λ b. b.0) (media_boxes is ts)) → AllByRecursion P (map (λ b. b.0) (cond b ((i, t) ∷ media_boxes is ts) (media_boxes is ts)))
    by true r = (h.0, r)
    by false r = r

boxes_distinct : (infos : List TrackInfo) (traks : List (List ℕ)) → HasDistinctIds infos → HasDistinctIds (map (λ b. b.0) (media_boxes infos traks))
boxes_distinct [] traks h = tt
boxes_distinct (i ∷ is) [] h = tt
boxes_distinct (i ∷ is) (t ∷ ts) h = by (is_media i.kind) (boxes_distinct is ts h.1)
  where
    by : (b : Bool) → HasDistinctIds (map (λ b. b.0) (media_boxes is ts)) → HasDistinctIds (map (λ b. b.0) (cond b ((i, t) ∷ media_boxes is ts) (media_boxes is ts)))
    by true r = (boxes_all (λ (u : TrackInfo). i.id ≢ u.id) is ts h.0, r)
    by false r = r

-- those of a presentation
pub boxes_are : (infos : List TrackInfo) (traks : List (List ℕ)) → AllByRecursion IsReadable infos → length infos ≤ 64 → HasDistinctIds infos → AreMediaBoxes (media_boxes infos traks)
boxes_are infos traks r f d = record {
  few = omega (arith, boxes_few infos traks, f);
  each = boxes_each infos traks r;
  distinct = boxes_distinct infos traks d;
}

-- a list that is not empty
pub some_there : {X : Type 0} (xs : List X) → not (is_empty xs) ≡ true → 1 ≤ length xs
some_there [] e = absurd (cc)
some_there (x ∷ xs) e = omega arith

-- ---- their tracks

pub length_map : {X Y : Type 0} (f : X → Y) (xs : List X) → length (map f xs) ≡ length xs
length_map f [] = refl
length_map f (x ∷ xs) = ap suc (length_map f xs)

-- the tracks of boxes of which there is one at least
pub file_tracks_are : (len : ℕ) (boxes : List (TrackInfo × List ℕ)) (tracks : List MediaTrack) → AreMediaBoxes boxes → 1 ≤ length boxes → AreTracksOf len boxes tracks → AreFileTracks len tracks
file_tracks_are len boxes tracks b s t =
    let same : length tracks ≡ length boxes = sym (length_map (λ (m : MediaTrack). m.info) tracks) ∙ (ap length t.infos ∙ length_map (λ (x : TrackInfo × List ℕ). x.0) boxes) in
    record {
      some = omega (arith, same, s);
      few = omega (arith, same, b.few);
      each = t.each;
      distinct = subst HasDistinctIds (sym t.infos) b.distinct;
      samples = t.samples;
    }

pub all_push : {X : Type 0} (P : X → Type 0) (xs : List X) (x : X) → AllByRecursion P xs → P x → AllByRecursion P (xs ++ x ∷ [])
all_push P [] x h p = (p, tt)
all_push P (y ∷ ys) x h p = (h.0, all_push P ys x h.1 p)
