-- Laws of runs.
use Rattle.std.proofs.Common.{◌≡◌, ℕ, suc, ◌+◌, ◌<◌, ◌≤◌, ◌^◌, ltb, leb, Bool, true, false, cond, ◌||◌, int_lt, ℤ, List, [], ◌∷◌, ◌++◌, length, map, sum_by, int_cmp, is_lt, Less, Greater, Equal, refl, ap, ◌∙◌, arith, length-append}
use Rattle.std.specs.List.{AllByRecursion, flat_map}
use Rattle.std.proofs.lemmas.Bool.Decides.{nat_tests}
use Rattle.std.proofs.lemmas.List.Sums.{sum_by-cons, sum_by-append}
use Rattle.mse_base.specs.declared.track.Kind.{Kind}
use Rattle.sample_tables.specs.declared.sample.Sample.{Sample}
use Rattle.sample_tables.specs.declared.media_track.MediaTrack.{MediaTrack}
use Rattle.sample_tables.specs.Facts.{IsSampleIn, IsFileTrack}
use Rattle.remux.specs.declared.runs.RunOfTrack.{RunOfTrack}
use Rattle.remux.proofs.SortLaws.{put, sorted}
use Rattle.remux.specs.Runs.{is_run_start, bytes_of, IsShortRun, is_run_full, is_over_before, runs_from, runs_of, SampleRun, run_value, sample_run, track_runs, run_put, in_order, runs_in_order}

one_sample : (len : ℕ) (s : Sample) → IsSampleIn len s → IsShortRun len (s ∷ [])
one_sample len s h = let short = h.short in record { samples = (h, tt); few = omega arith; short = omega (arith, sum_by-cons (λ (q : Sample). q.size) s []) }

pub bytes_push : (run : List Sample) (s : Sample) → bytes_of (run ++ s ∷ []) ≡ bytes_of run + s.size
bytes_push run s = sum_by-append (λ (q : Sample). q.size) run (s ∷ []) ∙ ap (λ n. bytes_of run + n) (sum_by-cons (λ (q : Sample). q.size) s [] ∙ (omega arith))

all_push : {X : Type 0} (P : X → Type 0) (xs : List X) (x : X) → AllByRecursion P xs → P x → AllByRecursion P (xs ++ x ∷ [])
all_push P [] x h p = (p, tt)
all_push P (y ∷ ys) x h p = (h.0, all_push P ys x h.1 p)

pub neither : (a b : Bool) → (a || b) ≡ false → (a ≡ false) × (b ≡ false)
neither true b e = absurd (cc)
neither false b e = (refl, e)

one_more : (len position : ℕ) (kind : Kind) (run : List Sample) (s : Sample) → IsShortRun len run → IsSampleIn len s → is_over_before kind position run s ≡ false → IsShortRun len (run ++ s ∷ [])
one_more len position kind run s h k e =
    let room = (neither (is_run_start kind position s) (is_run_full run s) e).1 in
    let parts = neither (leb (2 ^ 16) (length run)) (ltb (2 ^ 26) (bytes_of run + s.size)) room in
    let few : length run < 2 ^ 16 = grind (arith, nat_tests, parts.0) in
    let short : bytes_of run + s.size ≤ 2 ^ 26 = grind (arith, nat_tests, parts.1) in
    record {
      samples = all_push (IsSampleIn len) run s h.samples k;
      few = omega (arith, length-append run (s ∷ []));
      short = omega (arith, bytes_push run s);
    }

short_from : (len position : ℕ) (kind : Kind) (run ss : List Sample) → IsShortRun len run → AllByRecursion (IsSampleIn len) ss → AllByRecursion (IsShortRun len) (runs_from kind position run ss)
short_from len position kind run [] h k = (h, tt)
short_from len position kind run (s ∷ ss) h k =
    by (is_over_before kind position run s) refl
    (short_from len (position + 1) kind (s ∷ []) ss (one_sample len s k.0) k.1)
    (λ q. short_from len (position + 1) kind (run ++ s ∷ []) ss q k.1)
  where
    by : (t : Bool) → is_over_before kind position run s ≡ t → AllByRecursion (IsShortRun len) (runs_from kind (position + 1) (s ∷ []) ss) → (IsShortRun len (run ++ s ∷ []) → AllByRecursion (IsShortRun len) (runs_from kind (position + 1) (run ++ s ∷ []) ss))
        → AllByRecursion (IsShortRun len) (cond t (run ∷ runs_from kind (position + 1) (s ∷ []) ss) (runs_from kind (position + 1) (run ++ s ∷ []) ss))
    by true e a b = (h, a)
    by false e a b = b (one_more len position kind run s h k.0 e)

-- no run has too many samples or bytes
pub short_runs : (len : ℕ) (kind : Kind) (ss : List Sample) → AllByRecursion (IsSampleIn len) ss → AllByRecursion (IsShortRun len) (runs_of kind ss)
short_runs len kind [] h = tt
short_runs len kind (s ∷ ss) h = short_from len 1 kind (s ∷ []) ss (one_sample len s h.0) h.1

-- a run with its track
abbrev pub IsShortView : ℕ → SampleRun → Type 0
IsShortView len run = IsShortRun len run.samples

short_views : (len : ℕ) (track : MediaTrack) (runs : List (List Sample)) → AllByRecursion (IsShortRun len) runs → AllByRecursion (IsShortView len) (map (sample_run track) runs)
short_views len track [] h = tt
short_views len track (r ∷ rs) h = (h.0, short_views len track rs h.1)

all_append : {X : Type 0} (P : X → Type 0) (xs ys : List X) → AllByRecursion P xs → AllByRecursion P ys → AllByRecursion P (xs ++ ys)
all_append P [] ys h k = k
all_append P (x ∷ xs) ys h k = (h.0, all_append P xs ys h.1 k)

short_tracks : (len : ℕ) (tracks : List MediaTrack) → AllByRecursion (IsFileTrack len) tracks → AllByRecursion (IsShortView len) (flat_map track_runs tracks)
short_tracks len [] h = tt
short_tracks len (t ∷ ts) h =
    let first = h.0 in
    all_append (IsShortView len) (track_runs t) (flat_map track_runs ts) (short_views len t (runs_of t.info.kind t.samples) (short_runs len t.info.kind t.samples first.samples)) (short_tracks len ts h.1)

put_short : (P : SampleRun → Type 0) (r : SampleRun) (rs : List SampleRun) → P r → AllByRecursion P rs → AllByRecursion P (run_put r rs)
put_short P r [] h k = (h, tt)
put_short P r (n ∷ ns) h k = by (int_lt n.time r.time) (put_short P r ns h k.1)
  where
    by : (t : Bool) → AllByRecursion P (run_put r ns) → AllByRecursion P (cond t (n ∷ run_put r ns) (r ∷ n ∷ ns))
    by true q = (k.0, q)
    by false q = (h, k)

order_short : (P : SampleRun → Type 0) (rs : List SampleRun) → AllByRecursion P rs → AllByRecursion P (in_order rs)
order_short P [] h = tt
order_short P (r ∷ rs) h = put_short P r (in_order rs) h.0 (order_short P rs h.1)

-- each run of the tracks of a file can be written
pub ordered_short : (len : ℕ) (tracks : List MediaTrack) → AllByRecursion (IsFileTrack len) tracks → AllByRecursion (IsShortView len) (runs_in_order tracks)
unfolding runs_in_order
ordered_short len tracks h = order_short (IsShortView len) (flat_map track_runs tracks) (short_tracks len tracks h)

-- ---- how many runs there are

length_from : (kind : Kind) (position : ℕ) (run ss : List Sample) → length (runs_from kind position run ss) ≤ 1 + length ss
length_from kind position run [] = omega arith
length_from kind position run (s ∷ ss) = by (is_over_before kind position run s) (length_from kind (position + 1) (s ∷ []) ss) (length_from kind (position + 1) (run ++ s ∷ []) ss)
  where
    by : (t : Bool) → length (runs_from kind (position + 1) (s ∷ []) ss) ≤ 1 + length ss → length (runs_from kind (position + 1) (run ++ s ∷ []) ss) ≤ 1 + length ss
        → length (cond t (run ∷ runs_from kind (position + 1) (s ∷ []) ss) (runs_from kind (position + 1) (run ++ s ∷ []) ss)) ≤ 1 + length (s ∷ ss)
    by true a b = omega arith
    by false a b = omega arith

length_runs : (kind : Kind) (ss : List Sample) → length (runs_of kind ss) ≤ length ss
length_runs kind [] = omega arith
length_runs kind (s ∷ ss) = let rest = length_from kind 1 (s ∷ []) ss in omega arith

length_map : {X Y : Type 0} (f : X → Y) (xs : List X) → length (map f xs) ≡ length xs
length_map f [] = refl
length_map f (x ∷ xs) = ap suc (length_map f xs)

length_tracks : (tracks : List MediaTrack) → length (flat_map track_runs tracks) ≤ sum_by (λ t. length t.samples) tracks
length_tracks [] = omega arith
length_tracks (t ∷ ts) =
    let rest = length_tracks ts in
    let first = length_runs t.info.kind t.samples in
    omega (arith, rest, first, length-append (track_runs t) (flat_map track_runs ts), length_map (sample_run t) (runs_of t.info.kind t.samples), sum_by-cons (λ (q : MediaTrack). length q.samples) t ts)

length_put : (r : SampleRun) (rs : List SampleRun) → length (run_put r rs) ≡ suc (length rs)
length_put r [] = refl
length_put r (n ∷ ns) = by (int_lt n.time r.time) (length_put r ns)
  where
    by : (t : Bool) → length (run_put r ns) ≡ suc (length ns) → length (cond t (n ∷ run_put r ns) (r ∷ n ∷ ns)) ≡ suc (suc (length ns))
    by true q = ap suc q
    by false q = refl

length_order : (rs : List SampleRun) → length (in_order rs) ≡ length rs
length_order [] = refl
length_order (r ∷ rs) = length_put r (in_order rs) ∙ ap suc (length_order rs)

-- as many as samples at most
pub length_ordered : (tracks : List MediaTrack) → length (runs_in_order tracks) ≤ sum_by (λ t. length t.samples) tracks
unfolding runs_in_order
length_ordered tracks = let few = length_tracks tracks in omega (arith, few, length_order (flat_map track_runs tracks))

-- ---- the runs that the code keeps

abbrev pub is_earlier : RunOfTrack → RunOfTrack → Bool
is_earlier a b = is_lt (int_cmp a.time b.time)

earlier_is : (a b : ℤ) → is_lt (int_cmp a b) ≡ int_lt a b
earlier_is a b = by (int_lt a b) (int_lt b a)
  where
    by : (s t : Bool) → is_lt (cond s Less (cond t Greater Equal)) ≡ s
    by true t = refl
    by false true = refl
    by false false = refl

put_value : (r : RunOfTrack) (rs : List RunOfTrack) → map run_value (put is_earlier r rs) ≡ run_put (run_value r) (map run_value rs)
put_value r [] = refl
put_value r (n ∷ ns) = ap (λ t. map run_value (cond t (n ∷ put is_earlier r ns) (r ∷ n ∷ ns))) (earlier_is n.time r.time) ∙ by (int_lt n.time r.time) (put_value r ns)
  where
    by : (t : Bool) → map run_value (put is_earlier r ns) ≡ run_put (run_value r) (map run_value ns)
        → map run_value (cond t (n ∷ put is_earlier r ns) (r ∷ n ∷ ns)) ≡ cond t (run_value n ∷ run_put (run_value r) (map run_value ns)) (run_value r ∷ run_value n ∷ map run_value ns)
    by true q = ap (λ ws. run_value n ∷ ws) q
    by false q = refl

-- sorting them sorts what they are
pub order_value : (rs : List RunOfTrack) → map run_value (sorted is_earlier rs) ≡ in_order (map run_value rs)
order_value [] = refl
order_value (r ∷ rs) = put_value r (sorted is_earlier rs) ∙ ap (run_put (run_value r)) (order_value rs)
