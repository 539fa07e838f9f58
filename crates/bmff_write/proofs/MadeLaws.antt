-- What is made can be written.
use Rattle.std.proofs.Common.{◌≡◌, ℕ, zero, suc, ◌+◌, ◌*◌, ◌%◌, ◌≤◌, List, [], ◌∷◌, ◌++◌, length, map, add-one, append-nil, sym, ap, ◌∙◌, arith}
use Rattle.std.specs.List.{range_with_len}
use Rattle.std.specs.List.{flat_map}
use Rattle.std.proofs.lemmas.List.{length-replicate, map-id}
use Rattle.std.proofs.lemmas.Grind.{flat_map-append}
use Rattle.std.proofs.lemmas.List.FromFn.{length-map-range_with_len, map-range_with_len_more, sum_by-map-range_with_len_more}
use Rattle.bmff_write.specs.declared.traf_out.SampleOut.{SampleOut}
use Rattle.bmff_write.specs.Tracks.{payload_len, AreTrafsOut, AreTracksOut}
use Rattle.bmff_write.specs.Made.{made_track, made_sample, made_samples, made_traf}

sample_below : (j i : ℕ) → length (made_sample j i).payload ≤ 32
unfolding made_sample
sample_below j i =
    let e = length-replicate (8 + (31 * j + 7 * i) % 25) ((i + j) % 256) in
    omega (arith, e)

samples_below : (j n : ℕ) → payload_len (map (made_sample j) (range_with_len 0 n)) ≤ 32 * n
samples_below j zero = omega arith
samples_below j (suc n) =
    let e = rw add-one at (sum_by-map-range_with_len_more (λ (s : SampleOut). length s.payload) (made_sample j) 0 n n (omega arith)) in
    omega (arith, e, samples_below j n, sample_below j n)

traf_count : (j : ℕ) → length (made_traf j).samples ≡ 30
unfolding made_traf made_samples
traf_count j = length-map-range_with_len (made_sample j) 0 30

traf_payload : (j : ℕ) → payload_len (made_traf j).samples ≤ 960
unfolding made_traf made_samples
traf_payload j = samples_below j 30

pub made_writable : (j : ℕ) → AreTrafsOut (made_traf j ∷ [])
made_writable j = record {
  some = omega arith;
  few = omega arith;
  samples = omega (arith, traf_count j);
  payload = omega (arith, traf_payload j);
}

pub made_tracks : AreTracksOut (made_track ∷ [])
unfolding made_track
made_tracks = record {
  some = omega arith;
  few = omega arith;
  each = (record { media = λ e. cc; numbered = omega arith; below = omega arith; timed = omega arith; edited = tt }, tt);
  distinct = (tt, tt);
}

-- one more number
range_more : (n : ℕ) → range_with_len 0 (n + 1) ≡ range_with_len 0 n ++ n ∷ []
range_more n =
    sym (map-id (range_with_len 0 (n + 1)))
    ∙ map-range_with_len_more (λ (i : ℕ). i) 0 n n (omega arith)
    ∙ ap (λ (xs : List ℕ). xs ++ n ∷ []) (map-id (range_with_len 0 n))

-- one more segment
pub segments_more : (f : ℕ → List ℕ) (n : ℕ)
    → flat_map f (range_with_len 0 (n + 1)) ≡ flat_map f (range_with_len 0 n) ++ f n
segments_more f n =
    ap (flat_map f) (range_more n)
    ∙ flat_map-append f (range_with_len 0 n) (n ∷ [])
    ∙ ap (λ (y : List ℕ). flat_map f (range_with_len 0 n) ++ y) (append-nil (f n))
