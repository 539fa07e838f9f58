-- What holds of one track that was read.
use Rattle.std.proofs.Common.{◌≡◌, ◌≢◌, ℕ, zero, suc, ◌+◌, ◌-◌, ◌<◌, ◌≤◌, ◌^◌, leb, Bool, true, false, ℤ, pos, ◌≤ℤ◌, int_le, List, [], ◌∷◌, length, get_or, map, sum, sum_by, Result, Ok, Err, refl, ap, sym, ◌∙◌, arith, subst}
use Rattle.std.specs.List.{AllByRecursion, list_all, range_with_len}
use Rattle.std.proofs.lemmas.Bool.Decides.{nat_tests}
use Rattle.std.proofs.lemmas.Int.{ints}
use Rattle.std.proofs.lemmas.List.Sums.{sum_by-cons}
use Rattle.std.proofs.lemmas.List.FromFn.{fill_by_all, length-map-range_with_len}
use Rattle.mse_base.specs.declared.track.Kind.TheVariants.{Other}
use Rattle.mse_base.specs.declared.track.TrackInfo.{TrackInfo}
use Rattle.mse_base.specs.Presentation.{IsReadable}
use Rattle.bmff_boxes.specs.Reading.{◌>>=◌, check, Fails}
use Rattle.bmff_boxes.specs.declared.reading.ReadError.{ReadError}
use Rattle.bmff_boxes.specs.declared.reading.ReadError.TheVariants as memory
use Rattle.sample_tables.specs.declared.fault.MovieFault.{MovieFault}
use Rattle.sample_tables.specs.declared.fault.MovieFault.TheVariants.{Tables, Range, TooMany, Place}
use Rattle.sample_tables.specs.declared.tables.SampleTables.{SampleTables}
use Rattle.sample_tables.specs.declared.columns.SampleColumns.{SampleColumns}
use Rattle.sample_tables.specs.declared.sample.Sample.{Sample}
use Rattle.sample_tables.specs.declared.totals.Totals.{Totals}
use Rattle.sample_tables.specs.declared.media_track.MediaTrack.{MediaTrack}
use Rattle.sample_tables.specs.declared.track_tables.TrackTables.{TrackTables}
use Rattle.sample_tables.specs.Samples.{sample_count, sizes_of, durations_of, offsets_of, sync_of, columns_of, sample_at, samples_of, AreComplete}
use Rattle.sample_tables.specs.Rules.{are_consistent, lag_of, is_short_offset, is_in_range, are_few, are_inside, places_inside}
use Rattle.sample_tables.specs.Movies.{columns_inside, media_track_with}
use Rattle.sample_tables.specs.Facts.{IsDescription, IsSampleIn, IsFileTrack, AreFew}
use Rattle.sample_tables.proofs.RuleLaws.{both_true, sum_cons}
use Rattle.sample_tables.proofs.ConsistentLaws.{length_sizes, complete}

-- what had to pass did
pub checked_then : {B F : Type 0} (fault : F) (passes : Bool) (next : Result B F) (y : B) → (check fault passes >>= λ _. next) ≡ Ok y → (passes ≡ true) × (next ≡ Ok y)
checked_then fault true next y e = (refl, e)
checked_then fault false next y e = absurd (cc)

columns_then : (inside : Bool) (columns : SampleColumns) (f : SampleColumns → MediaTrack) (t : MediaTrack) → ((check Place inside >>= λ _. Ok columns) >>= λ c. Ok (f c)) ≡ Ok t → (inside ≡ true) × (f columns ≡ t)
columns_then true columns f t e = (refl, cc)
columns_then false columns f t e = absurd (cc)

-- ---- what can be written

pub record IsTrackInRange (track : TrackInfo) (stsd : List ℕ) (t : SampleTables) : Type 0 where
  pub numbered : 1 ≤ track.id
  pub below : track.id ≤ 2 ^ 32 - 2
  pub shift : track.media_shift ≤ℤ pos (2 ^ 31 - 1)
  pub lag : lag_of track ≤ 2 ^ 62
  pub short : length stsd ≤ 2 ^ 16
  pub offsets : list_all is_short_offset (offsets_of t.offsets (sample_count t.sizes)) ≡ true

le_of : (a b : ℕ) → leb a b ≡ true → a ≤ b
le_of a b e = grind (arith, nat_tests)

pub range_parts : (track : TrackInfo) (stsd : List ℕ) (t : SampleTables) → is_in_range track stsd t ≡ true → IsTrackInRange track stsd t
unfolding is_in_range
range_parts track stsd t e =
    let a = both_true (leb 1 track.id) _ e in
    let b = both_true (leb track.id (2 ^ 32 - 2)) _ a.1 in
    let c = both_true (int_le track.media_shift (pos (2 ^ 31 - 1))) _ b.1 in
    let d = both_true (leb (lag_of track) (2 ^ 62)) _ c.1 in
    let f = both_true (leb (length stsd) (2 ^ 16)) _ d.1 in
    record {
      numbered = le_of _ _ a.0;
      below = le_of _ _ b.0;
      shift = shift_of track.media_shift c.0;
      lag = le_of _ _ d.0;
      short = le_of _ _ f.0;
      offsets = f.1;
    }
  where
    shift_of : (z : ℤ) → int_le z (pos (2 ^ 31 - 1)) ≡ true → z ≤ℤ pos (2 ^ 31 - 1)
    shift_of z h = grind (arith, ints)

pub record HasFewSamplesAndBytes (before : Totals) (t : SampleTables) : Type 0 where
  pub samples : before.samples + sample_count t.sizes ≤ 2 ^ 22
  pub bytes : before.bytes + sum (sizes_of t.sizes) ≤ 2 ^ 30
  pub each : list_all (λ size. leb size (2 ^ 26)) (sizes_of t.sizes) ≡ true

pub few_parts : (before : Totals) (t : SampleTables) → are_few before t ≡ true → HasFewSamplesAndBytes before t
unfolding are_few
few_parts before t e =
    let a = both_true (leb (before.samples + sample_count t.sizes) (2 ^ 22)) _ e in
    let b = both_true (leb (before.bytes + sum (sizes_of t.sizes)) (2 ^ 30)) _ a.1 in
    record { samples = le_of _ _ a.0; bytes = le_of _ _ b.0; each = b.1 }

-- ---- sums and lengths

sum_map : {X : Type 0} (f : X → ℕ) (xs : List X) → sum (map f xs) ≡ sum_by f xs
sum_map f [] = refl
sum_map f (x ∷ xs) = sum_cons (f x) (map f xs) ∙ (ap (λ n. f x + n) (sum_map f xs) ∙ sym (sum_by-cons f x xs))

map_map : {X Y Z : Type 0} (f : Y → Z) (g : X → Y) (xs : List X) → map f (map g xs) ≡ map (λ x. f (g x)) xs
map_map f g [] = refl
map_map f g (x ∷ xs) = ap (λ ys. f (g x) ∷ ys) (map_map f g xs)

pub length_samples : (c : SampleColumns) → length (samples_of c) ≡ length c.sizes
unfolding samples_of
length_samples c = length-map-range_with_len (sample_at c) 0 (length c.sizes)

pub bytes_samples : (c : SampleColumns) → sum_by (λ s. s.size) (samples_of c) ≡ sum c.sizes
unfolding samples_of
bytes_samples c =
    let n = length c.sizes in
    sym (sum_map (λ (s : Sample). s.size) (map (sample_at c) (range_with_len 0 n)))
    ∙ ap sum (map_map (λ (s : Sample). s.size) (sample_at c) (range_with_len 0 n) ∙ sym (fill_by_all (λ i. get_or c.sizes i 0) c.sizes n 0 refl (λ k h. refl)))

-- ---- each sample

all_at : {X : Type 0} (p : X → Bool) (xs : List X) (i : ℕ) (d : X) → list_all p xs ≡ true → i < length xs → p (get_or xs i d) ≡ true
all_at p [] i d e h = absurd (omega arith)
all_at p (x ∷ xs) zero d e h = (both_true (p x) (list_all p xs) e).0
all_at p (x ∷ xs) (suc i) d e h = all_at p xs i d (both_true (p x) (list_all p xs) e).1 (omega arith)

inside_at : (len : ℕ) (places sizes : List ℕ) (i : ℕ) → are_inside len places sizes ≡ true → i < length places → i < length sizes → get_or places i 0 + get_or sizes i 0 ≤ len
inside_at len [] sizes i e h k = absurd (omega arith)
inside_at len (p ∷ ps) [] i e h k = absurd (omega arith)
inside_at len (p ∷ ps) (s ∷ ss) zero e h k = le_of _ _ (both_true (leb (p + s) len) (are_inside len ps ss) e).0
inside_at len (p ∷ ps) (s ∷ ss) (suc i) e h k = inside_at len ps ss i (both_true (leb (p + s) len) (are_inside len ps ss) e).1 (omega arith) (omega arith)

all_range : {X : Type 0} (P : X → Type 0) (f : ℕ → X) (a n : ℕ) → ((i : ℕ) → a ≤ i → i < a + n → P (f i)) → AllByRecursion P (map f (range_with_len a n))
all_range P f a zero h = tt
all_range P f a (suc n) h = (h a (omega arith) (omega arith), all_range P f (a + 1) n (λ i l k. h i (omega arith) (omega arith)))

both_all : {X : Type 0} (P Q R : X → Type 0) (xs : List X) → ((x : X) → P x → Q x → R x) → AllByRecursion P xs → AllByRecursion Q xs → AllByRecursion R xs
both_all P Q R [] f p q = tt
both_all P Q R (x ∷ xs) f p q = (f x p.0 q.0, both_all P Q R xs f p.1 q.1)

-- inside the file, and short
pub record IsPlaced (len : ℕ) (s : Sample) : Type 0 where
  pub inside : s.place + s.size ≤ len
  pub short : s.size ≤ 2 ^ 26

placed_all : (len : ℕ) (c : SampleColumns) → length c.places ≡ length c.sizes → are_inside len c.places c.sizes ≡ true → list_all (λ size. leb size (2 ^ 26)) c.sizes ≡ true → AllByRecursion (IsPlaced len) (samples_of c)
unfolding samples_of
placed_all len c l e s =
    all_range (IsPlaced len) (sample_at c) 0 (length c.sizes) (λ i a b. record {
      inside = inside_at len c.places c.sizes i e (omega (arith, l)) (omega arith);
      short = le_of _ _ (all_at (λ size. leb size (2 ^ 26)) c.sizes i 0 s (omega arith));
    })

-- ---- the track

columns_sizes : (t : SampleTables) → (columns_of t).sizes ≡ sizes_of t.sizes
unfolding columns_of
columns_sizes t = refl

pub record IsTrackRead (len : ℕ) (before : Totals) (info : TrackInfo) (read : TrackTables) (t : MediaTrack) : Type 0 where
  pub consistent : are_consistent read.tables ≡ true
  pub range : is_in_range info read.stsd read.tables ≡ true
  pub few : are_few before read.tables ≡ true
  pub inside : are_inside len (columns_of read.tables).places (columns_of read.tables).sizes ≡ true
  pub is : record { info = info; lag = lag_of info; stsd = read.stsd; codec = read.codec; samples = samples_of (columns_of read.tables) } ≡ t

pub track_read : (len : ℕ) (before : Totals) (info : TrackInfo) (read : TrackTables) (t : MediaTrack) → media_track_with len before info read ≡ Ok t → IsTrackRead len before info read t
track_read len before info read t e =
    let f : SampleColumns → MediaTrack = λ c. record { info = info; lag = lag_of info; stsd = read.stsd; codec = read.codec; samples = samples_of c } in
    let n3 : Result MediaTrack MovieFault = columns_inside len read.tables >>= λ c. Ok (f c) in
    let n2 : Result MediaTrack MovieFault = check TooMany (are_few before read.tables) >>= λ _. n3 in
    let n1 : Result MediaTrack MovieFault = check Range (is_in_range info read.stsd read.tables) >>= λ _. n2 in
    let a = checked_then Tables (are_consistent read.tables) n1 t e in
    let b = checked_then Range (is_in_range info read.stsd read.tables) n2 t a.1 in
    let d = checked_then TooMany (are_few before read.tables) n3 t b.1 in
    let g = columns_then (are_inside len (columns_of read.tables).places (columns_of read.tables).sizes) (columns_of read.tables) f t d.1 in
    record { consistent = a.0; range = b.0; few = d.0; inside = g.0; is = g.1 }

inside_by : (inside : Bool) (columns c : SampleColumns) → (check Place inside >>= λ _. Ok columns) ≡ Ok c → (inside ≡ true) × (columns ≡ c)
inside_by true columns c e = (refl, cc)
inside_by false columns c e = absurd (cc)

pub columns_complete : (len : ℕ) (t : SampleTables) (c : SampleColumns) → are_consistent t ≡ true → sample_count t.sizes ≤ 2 ^ 22 → columns_inside len t ≡ Ok c → AreComplete c
columns_complete len t c a few e = subst AreComplete (inside_by (are_inside len (columns_of t).places (columns_of t).sizes) (columns_of t) c e).1 (complete t a few)

-- a track of what was read
pub track_made : (len : ℕ) (before : Totals) (info : TrackInfo) (read : TrackTables) (c : SampleColumns) (t : MediaTrack) → are_consistent read.tables ≡ true → is_in_range info read.stsd read.tables ≡ true → are_few before read.tables ≡ true → columns_inside len read.tables ≡ Ok c
    → record { info = info; lag = lag_of info; stsd = read.stsd; codec = read.codec; samples = samples_of c } ≡ t → IsTrackRead len before info read t
track_made len before info read c t a b d e f =
    let g = inside_by (are_inside len (columns_of read.tables).places (columns_of read.tables).sizes) (columns_of read.tables) c e in
    record {
      consistent = a;
      range = b;
      few = d;
      inside = g.0;
      is = ap (λ (cols : SampleColumns). record { info = info; lag = lag_of info; stsd = read.stsd; codec = read.codec; samples = samples_of cols }) g.1 ∙ f;
    }

-- the samples of a track and of those before it
pub track_few : (len : ℕ) (before : Totals) (info : TrackInfo) (read : TrackTables) (t : MediaTrack) → IsTrackRead len before info read t → AreFew before t
track_few len before info read t r =
    let p = few_parts before read.tables r.few in
    let c = columns_of read.tables in
    let same = columns_sizes read.tables in
    let count : length (samples_of c) ≡ sample_count read.tables.sizes = length_samples c ∙ (ap length same ∙ length_sizes read.tables.sizes) in
    let total : sum_by (λ s. s.size) (samples_of c) ≡ sum (sizes_of read.tables.sizes) = bytes_samples c ∙ ap sum same in
    let all : AreFew before (record { info = info; lag = lag_of info; stsd = read.stsd; codec = read.codec; samples = samples_of c }) = record { samples = omega (arith, count, p.samples); bytes = omega (arith, total, p.bytes) } in
    subst (AreFew before) r.is all

-- all that holds of the track
pub track_facts : (len : ℕ) (before : Totals) (info : TrackInfo) (read : TrackTables) (t : MediaTrack) → IsTrackRead len before info read t → IsReadable info → info.kind ≢ Other → IsDescription read.codec read.stsd → AllByRecursion (λ s. s.decode ≤ 2 ^ 54) t.samples → IsFileTrack len t
track_facts len before info read t r readable media described times =
    let p = range_parts info read.stsd read.tables r.range in
    let q = few_parts before read.tables r.few in
    let c = columns_of read.tables in
    let short : list_all (λ size. leb size (2 ^ 26)) c.sizes ≡ true = ap (list_all (λ size. leb size (2 ^ 26))) (columns_sizes read.tables) ∙ q.each in
    let l = complete read.tables r.consistent (omega (arith, q.samples)) in
    let placed = placed_all len c l.places r.inside short in
    let made : MediaTrack = record { info = info; lag = lag_of info; stsd = read.stsd; codec = read.codec; samples = samples_of c } in
    let decoded : AllByRecursion (λ s. s.decode ≤ 2 ^ 54) (samples_of c) = subst (λ (m : MediaTrack). AllByRecursion (λ s. s.decode ≤ 2 ^ 54) m.samples) (sym r.is) times in
    let all : IsFileTrack len made = record {
      media = media;
      numbered = p.numbered;
      below = p.below;
      readable = readable;
      shift = p.shift;
      lag = p.lag;
      described = described;
      short = p.short;
      samples = both_all (λ (s : Sample). s.decode ≤ 2 ^ 54) (IsPlaced len) (IsSampleIn len) (samples_of c) (λ s d w. record { decoded = d; inside = w.inside; short = w.short }) decoded placed;
    } in
    subst (IsFileTrack len) r.is all

-- the columns of tables that were read
pub columns_are : (len : ℕ) (t : SampleTables) (ds : List ℕ) (os : List ℤ) (ys : List Bool) (zs qs ps : List ℕ) → ds ≡ durations_of t.durations → os ≡ offsets_of t.offsets (sample_count t.sizes) → ys ≡ sync_of t.sync (sample_count t.sizes) → zs ≡ sizes_of t.sizes → qs ≡ ps
    → places_inside len (columns_of t).sizes (columns_of t).places ≡ Ok ps → columns_inside len t ≡ Ok (record { durations = ds; offsets = os; sync = ys; sizes = zs; places = qs })
unfolding columns_of
columns_are len t ds os ys zs qs ps d o y z p e =
    let g = places_by (are_inside len (columns_of t).places (columns_of t).sizes) (columns_of t).places ps e in
    let c = columns_of t in
    let made : List ℕ → List ℤ → List Bool → List ℕ → List ℕ → SampleColumns = λ a b f h k. record { durations = a; offsets = b; sync = f; sizes = h; places = k } in
    let same : columns_of t ≡ made ds os ys zs qs =
    ap (λ a. made a c.offsets c.sync c.sizes c.places) (sym d) ∙ (ap (λ a. made ds a c.sync c.sizes c.places) (sym o)
    ∙ (ap (λ a. made ds os a c.sizes c.places) (sym y) ∙ (ap (λ a. made ds os ys a c.places) (sym z) ∙ ap (λ a. made ds os ys zs a) (g.1 ∙ sym p)))) in
    ap (λ b. check Place b >>= λ _. Ok (columns_of t)) g.0 ∙ ap Ok same
  where
    places_by : (inside : Bool) (places qs : List ℕ) → (check Place inside >>= λ _. Ok places) ≡ Ok qs → (inside ≡ true) × (places ≡ qs)
    places_by true places qs e = (refl, cc)
    places_by false places qs e = absurd (cc)

-- and those of tables with a sample outside the file
pub columns_fail : (e : ReadError MovieFault) (len : ℕ) (t : SampleTables) (sizes places : List ℕ) → sizes ≡ (columns_of t).sizes → places ≡ (columns_of t).places → Fails e (places_inside len sizes places) → Fails e (columns_inside len t)
columns_fail memory.OutOfMemory len t sizes places z p f = tt
columns_fail (memory.Fault fault) len t sizes places z p f =
    let same : are_inside len (columns_of t).places (columns_of t).sizes ≡ are_inside len places sizes = sym (ap (λ s. are_inside len places s) z ∙ ap (λ q. are_inside len q (columns_of t).sizes) p) in
    failed (are_inside len (columns_of t).places (columns_of t).sizes) (ap (λ q. check Place q >>= λ _. Ok places) same ∙ f)
  where
    failed : (b : Bool) → (check Place b >>= λ _. Ok places) ≡ Err fault → (check Place b >>= λ _. Ok (columns_of t)) ≡ Err fault
    failed true k = absurd (cc)
    failed false k = let q : Place ≡ fault = cc in ap Err q
