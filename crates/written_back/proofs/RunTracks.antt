-- The track of each run, and what is known of the run.
use Rattle.std.proofs.Common.{◌≡◌, ◌≢◌, ℕ, ◌+◌, ◌<◌, ◌≤◌, ◌^◌, ◌==◌, Bool, true, false, cond, int_lt, List, [], ◌∷◌, ◌++◌, length, map, Some, ap, refl, ◌∙◌, arith}
use Rattle.std.specs.List.{AllByRecursion, flat_map}
use Rattle.std.specs.Prelude.{find}
use Rattle.std.proofs.lemmas.Bool.Decides.{nat_tests}
use Rattle.mse_base.specs.declared.track.TrackInfo.{TrackInfo}
use Rattle.mse_base.specs.Presentation.{HasDistinctIds}
use Rattle.sample_tables.specs.declared.sample.Sample.{Sample}
use Rattle.sample_tables.specs.declared.media_track.MediaTrack.{MediaTrack}
use Rattle.remux.specs.Runs.{runs_of, SampleRun, first_decode, sample_run, track_runs, run_put, in_order, runs_in_order}
use Rattle.written_back.specs.Fragments.{has_track_number}
use Rattle.written_back.proofs.Chains.{IsFittingInRun, IsChain, IsPart, parts_of}

-- ---- a number names the one track that has it

number_other : (a b : ℕ) → a ≢ b → (a == b) ≡ false
number_other a b h = by (a == b) refl
  where
    same : (a == b) ≡ true → a ≡ b
    same e = grind (arith, nat_tests)

    by : (t : Bool) → (a == b) ≡ t → (a == b) ≡ false
    by true e = absurd (h (same e))
    by false e = e

number_same : (a : ℕ) → (a == a) ≡ true
number_same a = grind (arith, nat_tests)

-- each of these tracks is the one of its number among `tracks`
abbrev pub IsNamed : List MediaTrack → MediaTrack → Type 0
IsNamed tracks t = find (has_track_number t.info.id) tracks ≡ Some t

named_later : (t : MediaTrack) (ts us : List MediaTrack) → AllByRecursion (λ (u : TrackInfo). t.info.id ≢ u.id) (map (λ (m : MediaTrack). m.info) us) → AllByRecursion (IsNamed ts) us → AllByRecursion (IsNamed (t ∷ ts)) us
named_later t ts [] d h = tt
named_later t ts (u ∷ us) d h =
    (ap (λ (b : Bool). cond b (Some t) (find (has_track_number u.info.id) ts)) (number_other t.info.id u.info.id d.0) ∙ h.0, named_later t ts us d.1 h.1)

pub all_named : (tracks : List MediaTrack) → HasDistinctIds (map (λ (m : MediaTrack). m.info) tracks) → AllByRecursion (IsNamed tracks) tracks
all_named [] d = tt
all_named (t ∷ ts) d =
    (ap (λ (b : Bool). cond b (Some t) (find (has_track_number t.info.id) ts)) (number_same t.info.id), named_later t ts ts d.0 (all_named ts d.1))

-- ---- what is known of a track and of a run

-- a track whose samples follow one another from time 0 on
pub record IsTold (t : MediaTrack) : Type 0 where
  pub scale : t.info.scale < 2 ^ 32
  pub codec : length t.codec ≡ 4
  pub lag : t.lag ≤ 2 ^ 62
  pub chain : IsChain 0 t.samples
  pub fits : AllByRecursion IsFittingInRun t.samples

-- a run of one of the tracks
pub record IsRunIn (tracks : List MediaTrack) (run : SampleRun) : Type 0 where
  pub track : MediaTrack
  pub found : find (has_track_number run.id) tracks ≡ Some track
  pub lag : track.lag ≤ 2 ^ 62
  pub decode : run.decode ≡ first_decode run.samples + track.lag
  pub part : IsPart run.samples

views_in : (tracks : List MediaTrack) (t : MediaTrack) (runs : List (List Sample)) → IsNamed tracks t → t.lag ≤ 2 ^ 62 → AllByRecursion IsPart runs → AllByRecursion (IsRunIn tracks) (map (sample_run t) runs)
views_in tracks t [] n l h = tt
views_in tracks t (run ∷ runs) n l h = (record { track = t; found = n; lag = l; decode = refl; part = h.0 }, views_in tracks t runs n l h.1)

track_in : (tracks : List MediaTrack) (t : MediaTrack) → IsNamed tracks t → IsTold t → AllByRecursion (IsRunIn tracks) (track_runs t)
track_in tracks t n h =
    let whole : IsPart t.samples = record { time = 0; chain = h.chain; fits = h.fits } in
    views_in tracks t (runs_of t.info.kind t.samples) n h.lag (parts_of t.info.kind t.samples whole)

all_append : {X : Type 0} (P : X → Type 0) (xs ys : List X) → AllByRecursion P xs → AllByRecursion P ys → AllByRecursion P (xs ++ ys)
all_append P [] ys h k = k
all_append P (x ∷ xs) ys h k = (h.0, all_append P xs ys h.1 k)

tracks_in : (tracks ts : List MediaTrack) → AllByRecursion (IsNamed tracks) ts → AllByRecursion IsTold ts → AllByRecursion (IsRunIn tracks) (flat_map track_runs ts)
tracks_in tracks [] n h = tt
tracks_in tracks (t ∷ ts) n h = all_append (IsRunIn tracks) (track_runs t) (flat_map track_runs ts) (track_in tracks t n.0 h.0) (tracks_in tracks ts n.1 h.1)

all_put : (P : SampleRun → Type 0) (r : SampleRun) (rs : List SampleRun) → P r → AllByRecursion P rs → AllByRecursion P (run_put r rs)
all_put P r [] h k = (h, tt)
all_put P r (n ∷ ns) h k = by (int_lt n.time r.time) (all_put P r ns h k.1)
  where
    by : (t : Bool) → AllByRecursion P (run_put r ns) → AllByRecursion P (cond t (n ∷ run_put r ns) (r ∷ n ∷ ns))
    by true q = (k.0, q)
    by false q = (h, k)

all_ordered : (P : SampleRun → Type 0) (rs : List SampleRun) → AllByRecursion P rs → AllByRecursion P (in_order rs)
all_ordered P [] h = tt
all_ordered P (r ∷ rs) h = all_put P r (in_order rs) h.0 (all_ordered P rs h.1)

pub runs_in : (tracks : List MediaTrack) → HasDistinctIds (map (λ (m : MediaTrack). m.info) tracks) → AllByRecursion IsTold tracks → AllByRecursion (IsRunIn tracks) (runs_in_order tracks)
unfolding runs_in_order
runs_in tracks d h = all_ordered (IsRunIn tracks) (flat_map track_runs tracks) (tracks_in tracks tracks (all_named tracks d) h)
