-- The tracks of a classic file of bytes.
use Rattle.std.proofs.Common.{◌≡◌, ◌≢◌, ℕ, ◌+◌, ◌-◌, ◌≤◌, ◌^◌, Bool, true, false, not, cond, List, [], ◌∷◌, ◌++◌, length, drop, map, Option, Some, None, Result, Ok, Err, append_assoc, append-nil, refl, ap, sym, ◌∙◌, arith, subst}
use Rattle.std.specs.List.{All, AllByRecursion, slice_range, list_all}
use Rattle.std.specs.Prelude.{unwrap_or}
use Rattle.std.proofs.lemmas.List.Elements.{All-take, All-drop}
use Rattle.std.proofs.lemmas.List.{map-append}
use Rattle.std.proofs.lemmas.List.Sums.{sum_by-cons, sum_by-append}
use lib.Chars.{codes}
use Rattle.mse_base.specs.Presentation.{IsReadable}
use Rattle.mse_base.specs.declared.track.Kind.TheVariants.{Other}
use Rattle.mse_base.specs.declared.track.TrackInfo.{TrackInfo}
use Rattle.mse_base.specs.declared.track.Presentation.{Presentation}
use Rattle.bmff_boxes.specs.Children.{payload_of}
use Rattle.bmff_boxes.specs.Reading.{◌>>=◌, check}
use Rattle.bmff_boxes.specs.Rows.{BoxView, row_of, boxes_in, all_of}
use Rattle.bmff_boxes.proofs.ReadingLaws.{through, checked}
use Rattle.bmff_init.specs.declared.fault.InitFault.{InitFault}
use Rattle.bmff_init.specs.Movies.{movie_of}
use Rattle.bmff_init.proofs.PresentationLaws.{presentation-is}
use Rattle.sample_tables.specs.declared.box_place.BoxPlace.{BoxPlace}
use Rattle.sample_tables.specs.declared.fault.MovieFault.{MovieFault}
use Rattle.sample_tables.specs.declared.fault.MovieFault.TheVariants.{Fragmented, NoTracks}
use Rattle.sample_tables.specs.declared.columns.SampleColumns.{SampleColumns}
use Rattle.sample_tables.specs.declared.track_tables.TrackTables.{TrackTables}
use Rattle.sample_tables.specs.declared.media_track.MediaTrack.{MediaTrack}
use Rattle.sample_tables.specs.declared.totals.Totals.{Totals}
use Rattle.sample_tables.specs.BoxPlaces.{first_place}
use Rattle.sample_tables.specs.Samples.{durations_of, offsets_of, sample_count, columns_of, samples_of}
use Rattle.sample_tables.specs.Rules.{lag_of, is_short_offset, totals_of}
use Rattle.mse_base.specs.Moments.{is_media}
use Rattle.sample_tables.specs.Movies.{in_moov, track_tables, media_track_with, media_track_of, is_empty, media_boxes, tracks_and, media_tracks_of, is_fragmented, track_boxes, tracks_by, movie_tracks, at_place, movie_box_by, file_tracks}
use Rattle.sample_tables.specs.Facts.{IsFileTrack, AreFew, AreFileTracks, IsMediaBox, AreMediaBoxes}
use Rattle.sample_tables.proofs.ConsistentLaws.{complete}
use Rattle.sample_tables.proofs.FactLaws.{boxes_are, some_there, file_tracks_are, all_push}
use Rattle.sample_tables.proofs.TrackLaws.{track_read, track_few, track_facts, range_parts, few_parts}
use Rattle.written_back.proofs.Bytes.{AreBytes, IsByte, IsByteBox, payload_bytes, row_bytes, all_bytes}
use Rattle.written_back.proofs.RunTracks.{IsTold}
use Rattle.written_back.proofs.Samples.{times_below, samples_fit, samples_chain}
use Rattle.written_back.proofs.Scales.{same_ok, IsScaled, presentation_below}
use Rattle.written_back.proofs.Tables.{IsShortTime, IsRead, tables_read}

-- ---- one track

-- what is known of a track that was read
pub record IsKnown (len : ℕ) (before : Totals) (info : TrackInfo) (t : MediaTrack) : Type 0 where
  pub file : IsFileTrack len t
  pub told : IsTold t
  pub few : AreFew before t
  pub named : t.info ≡ info

columns_durations : (r : TrackTables) → (columns_of r.tables).durations ≡ durations_of r.tables.durations
unfolding columns_of
columns_durations r = refl

columns_offsets : (r : TrackTables) → (columns_of r.tables).offsets ≡ offsets_of r.tables.offsets (sample_count r.tables.sizes)
unfolding columns_of
columns_offsets r = refl

known : (len : ℕ) (before : Totals) (info : TrackInfo) (read : TrackTables) (t : MediaTrack) → IsReadable info → info.kind ≢ Other → IsScaled info → IsRead read → media_track_with len before info read ≡ Ok t → IsKnown len before info t
known len before info read t readable media scaled r e =
    let is = track_read len before info read t e in
    let range = range_parts info read.stsd read.tables is.range in
    let few = few_parts before read.tables is.few in
    let c : SampleColumns = columns_of read.tables in
    let whole = complete read.tables is.consistent (omega (arith, few.samples)) in
    let durations : All IsShortTime c.durations = subst (All IsShortTime) (sym (columns_durations read)) r.durations in
    let offsets : list_all is_short_offset c.offsets ≡ true = ap (list_all is_short_offset) (columns_offsets read) ∙ range.offsets in
    let made : MediaTrack = record { info = info; lag = lag_of info; stsd = read.stsd; codec = read.codec; samples = samples_of c } in
    let times = subst (λ (m : MediaTrack). AllByRecursion (λ s. s.decode ≤ 2 ^ 54) m.samples) is.is (times_below c durations whole.few) in
    let told : IsTold made = record {
      scale = scaled;
      codec = r.codec;
      lag = range.lag;
      chain = samples_chain c whole.durations;
      fits = samples_fit c durations whole.durations whole.offsets offsets;
    } in
    record {
      file = track_facts len before info read t is readable media r.described times;
      told = subst IsTold is.is told;
      few = track_few len before info read t is;
      named = sym (ap (λ (m : MediaTrack). m.info) is.is);
    }

moov_ok : {A : Type 0} (r : Result A InitFault) (x : A) → in_moov r ≡ Ok x → r ≡ Ok x
moov_ok (Ok y) x e = cc
moov_ok (Err fault) x e = absurd (cc)

track_known : (len : ℕ) (before : Totals) (info : TrackInfo) (trak : List ℕ) (t : MediaTrack) → IsReadable info → info.kind ≢ Other → IsScaled info → AreBytes trak → media_track_of len before info trak ≡ Ok t → IsKnown len before info t
unfolding media_track_of
track_known len before info trak t readable media scaled bytes e =
    let a = through (in_moov (track_tables trak)) (λ read. media_track_with len before info read) t e in
    known len before info a.value t readable media scaled (tables_read trak a.value bytes (moov_ok (track_tables trak) a.value a.was)) a.then

-- ---- all tracks

-- a track box of bytes
pub record IsGoodBox (b : TrackInfo × List ℕ) : Type 0 where
  pub media : IsMediaBox b
  pub scaled : IsScaled b.0
  pub bytes : AreBytes b.1

pub record AreKnown (len : ℕ) (tracks : List MediaTrack) : Type 0 where
  pub file : AllByRecursion (IsFileTrack len) tracks
  pub told : AllByRecursion IsTold tracks
  pub samples : (totals_of tracks).samples ≤ 2 ^ 22

more_samples : (before : List MediaTrack) (t : MediaTrack) → (totals_of (before ++ t ∷ [])).samples ≡ (totals_of before).samples + length t.samples
more_samples before t = sum_by-append (λ (m : MediaTrack). length m.samples) before (t ∷ []) ∙ ap (λ n. (totals_of before).samples + n) (sum_by-cons (λ (m : MediaTrack). length m.samples) t [] ∙ (omega arith))

abbrev infos_of : List MediaTrack → List TrackInfo
infos_of tracks = map (λ t. t.info) tracks

tracks_known : (len : ℕ) (before : List MediaTrack) (bs : List (TrackInfo × List ℕ)) (tracks : List MediaTrack) → AllByRecursion IsGoodBox bs → AreKnown len before → media_tracks_of len before bs ≡ Ok tracks
    → AreKnown len tracks × (infos_of tracks ≡ infos_of before ++ map (λ b. b.0) bs)
tracks_known len before [] tracks good h e =
    let same = same_ok before tracks e in
    (subst (AreKnown len) same h, sym (ap infos_of same) ∙ sym (append-nil (infos_of before)))
tracks_known len before (b ∷ bs) tracks good h e =
    let a = through (tracks_and len before b) (λ ts. media_tracks_of len ts bs) tracks e in
    let c = through (media_track_of len (totals_of before) b.0 b.1) (λ track. Ok (before ++ track ∷ [])) a.value a.was in
    let one = good.0 in
    let media = one.media in
    let k = track_known len (totals_of before) b.0 b.1 c.value media.0 media.1 one.scaled one.bytes c.was in
    let few = k.few in
    let next : AreKnown len (before ++ c.value ∷ []) = record {
      file = all_push (IsFileTrack len) before c.value h.file k.file;
      told = all_push IsTold before c.value h.told k.told;
      samples = omega (arith, more_samples before c.value, few.samples);
    } in
    let same = same_ok (before ++ c.value ∷ []) a.value c.then in
    let rest = tracks_known len a.value bs tracks good.1 (subst (AreKnown len) same next) a.then in
    let infos : infos_of a.value ≡ infos_of before ++ b.0 ∷ [] =
    sym (ap infos_of same) ∙ (map-append (λ (t : MediaTrack). t.info) before (c.value ∷ []) ∙ ap (λ (i : TrackInfo). infos_of before ++ i ∷ []) k.named) in
    (rest.0, rest.1 ∙ (ap (λ (is : List TrackInfo). is ++ map (λ (x : TrackInfo × List ℕ). x.0) bs) infos ∙ append_assoc (infos_of before) (b.0 ∷ []) (map (λ (x : TrackInfo × List ℕ). x.0) bs)))

-- ---- the track boxes of a movie

both : (infos : List TrackInfo) (traks : List (List ℕ)) → AllByRecursion IsMediaBox (media_boxes infos traks) → AllByRecursion IsScaled infos → AllByRecursion AreBytes traks → AllByRecursion IsGoodBox (media_boxes infos traks)
both [] traks m s h = tt
both (i ∷ is) [] m s h = tt
both (i ∷ is) (t ∷ ts) m s h = by (is_media i.kind) m (λ k. both is ts k s.1 h.1)
  where
    by : (b : Bool) → AllByRecursion IsMediaBox (cond b ((i, t) ∷ media_boxes is ts) (media_boxes is ts)) → (AllByRecursion IsMediaBox (media_boxes is ts) → AllByRecursion IsGoodBox (media_boxes is ts))
        → AllByRecursion IsGoodBox (cond b ((i, t) ∷ media_boxes is ts) (media_boxes is ts))
    by true k rest = (record { media = k.0; scaled = s.0; bytes = h.0 }, rest k.1)
    by false k rest = rest k

boxes_bytes : (moov : List ℕ) → AreBytes moov → AllByRecursion AreBytes (track_boxes moov)
boxes_bytes moov h = by (payload_of moov) (payload_bytes moov)
  where
    row : (o : Option (List BoxView)) → ((r : List BoxView) → o ≡ Some r → AllByRecursion IsByteBox r) → AllByRecursion AreBytes (all_of (codes "trak") (unwrap_or o []))
    row None k = tt
    row (Some r) k = all_bytes (codes "trak") r (k r refl)

    by : (o : Option (List ℕ)) → ((p : List ℕ) → AreBytes moov → o ≡ Some p → AreBytes p) → AllByRecursion AreBytes (all_of (codes "trak") (boxes_in (unwrap_or o [])))
    by None k = row (row_of []) (λ r e. row_bytes [] r (λ i d l. absurd (omega arith)) e)
    by (Some p) k = row (row_of p) (λ r e. row_bytes p r (k p h refl) e)

-- ---- the file

pub record AreTold (len : ℕ) (tracks : List MediaTrack) : Type 0 where
  pub file : AreFileTracks len tracks
  pub told : AllByRecursion IsTold tracks

tracks_by_told : (len : ℕ) (boxes : List (TrackInfo × List ℕ)) (tracks : List MediaTrack) → AreMediaBoxes boxes → AllByRecursion IsGoodBox boxes → tracks_by len boxes ≡ Ok tracks → AreTold len tracks
tracks_by_told len boxes tracks are good e =
    let a = through (check NoTracks (not (is_empty boxes))) (λ _. media_tracks_of len [] boxes) tracks e in
    let some = some_there boxes (checked NoTracks _ _ a.was) in
    let none : AreKnown len [] = record { file = tt; told = tt; samples = omega arith } in
    let k = tracks_known len [] boxes tracks good none a.then in
    let all = k.0 in
    record {
      file = file_tracks_are len boxes tracks are some (record { infos = k.1; each = all.file; samples = all.samples });
      told = all.told;
    }

movie_told : (len : ℕ) (moov : List ℕ) (tracks : List MediaTrack) → AreBytes moov → movie_tracks len moov ≡ Ok tracks → AreTold len tracks
unfolding movie_tracks
movie_told len moov tracks h e =
    let a = through (check Fragmented (not (is_fragmented moov))) (λ _. in_moov (movie_of moov) >>= λ movie. tracks_by len (media_boxes movie.tracks (track_boxes moov))) tracks e in
    let b = through (in_moov (movie_of moov)) (λ movie. tracks_by len (media_boxes movie.tracks (track_boxes moov))) tracks a.then in
    let movie : Presentation = b.value in
    let was = moov_ok (movie_of moov) movie b.was in
    let is = presentation-is _ moov movie was in
    let scaled = presentation_below _ moov movie h was in
    let are = boxes_are movie.tracks (track_boxes moov) is.readable is.few is.distinct in
    tracks_by_told len (media_boxes movie.tracks (track_boxes moov)) tracks are (both movie.tracks (track_boxes moov) are.each scaled (boxes_bytes moov h)) b.then

place_ok : {A : Type 0} (offset : ℕ) (r : Result A MovieFault) (x : A) → at_place offset r ≡ Ok x → r ≡ Ok x
place_ok offset (Ok y) x e = cc
place_ok offset (Err fault) x e = absurd (cc)

pub file_told : (file : List ℕ) (tracks : List MediaTrack) → AreBytes file → file_tracks file ≡ Ok tracks → AreTold (length file) tracks
unfolding file_tracks
file_told file tracks h e =
    let a = through (movie_box_by (length file) (first_place (codes "moov") file)) (λ place. at_place place.start (movie_tracks (length file) (slice_range file place.start place.end))) tracks e in
    let place : BoxPlace = a.value in
    let moov : List ℕ = slice_range file place.start place.end in
    let bytes : AreBytes moov = All-take IsByte (place.end - place.start) (drop place.start file) (All-drop IsByte place.start file h) in
    movie_told (length file) moov tracks bytes (place_ok place.start (movie_tracks (length file) moov) tracks a.then)
