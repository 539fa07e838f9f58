-- The samples that the tables of a track tell.
use Rattle.std.proofs.Common.{◌≡◌, ℕ, zero, suc, ◌+◌, ◌*◌, ◌-◌, ◌<◌, ◌≤◌, ◌^◌, Bool, true, ℤ, pos, negsuc, ◌≤ℤ◌, int_le, List, [], ◌∷◌, length, get_or, take, map, sum, refl, sym, arith}
use Rattle.std.specs.List.{All, AllByRecursion, list_all, range_with_len}
use Rattle.std.specs.Prelude.{FitsSigned, slice_index, slice_index_or}
use Rattle.std.specs.Int.{w32}
use Rattle.std.proofs.lemmas.Int.{ints}
use Rattle.std.proofs.lemmas.List.Elements.{All-take, All-head, All-tail, All-get_or}
use Rattle.sample_tables.specs.declared.columns.SampleColumns.{SampleColumns}
use Rattle.sample_tables.specs.declared.sample.Sample.{Sample}
use Rattle.sample_tables.specs.Samples.{sample_at, samples_of}
use Rattle.sample_tables.specs.Rules.{is_short_offset}
use Rattle.sample_tables.proofs.RuleLaws.{both_true, sum_cons}
use Rattle.sample_tables.proofs.ColumnLaws.{sum_more}
use Rattle.written_back.proofs.Chains.{IsChain, IsFittingInRun, fits_short}
use Rattle.written_back.proofs.Tables.{IsShortTime}

-- ---- decode times

pub sum_below : (xs : List ℕ) → All IsShortTime xs → sum xs ≤ length xs * 2 ^ 32
sum_below [] h = omega arith
sum_below (x ∷ xs) h =
    let first = All-head IsShortTime x xs h in
    let rest = sum_below xs (All-tail IsShortTime x xs h) in
    omega (arith, first, rest, sum_cons x xs)

take_below : (i n : ℕ) (xs : List ℕ) → i ≤ n → length (take i xs) ≤ n
take_below zero n xs h = omega arith
take_below (suc i) n [] h = omega arith
take_below (suc i) zero (x ∷ xs) h = absurd (omega arith)
take_below (suc i) (suc n) (x ∷ xs) h = let rest = take_below i n xs (omega arith) in omega (arith, rest)

time_below : (c : SampleColumns) (i : ℕ) → All IsShortTime c.durations → i ≤ 2 ^ 22 → sum (take i c.durations) ≤ 2 ^ 54
time_below c i h few =
    let count = take_below i (2 ^ 22) c.durations few in
    let total = sum_below (take i c.durations) (All-take IsShortTime i c.durations h) in
    omega (arith, count, total)

-- ---- each sample

all_range : {X : Type 0} (P : X → Type 0) (f : ℕ → X) (a n : ℕ) → ((i : ℕ) → a ≤ i → i < a + n → P (f i)) → AllByRecursion P (map f (range_with_len a n))
all_range P f a zero h = tt
all_range P f a (suc n) h = (h a (omega arith) (omega arith), all_range P f (a + 1) n (λ i l k. h i (omega arith) (omega arith)))

pub times_below : (c : SampleColumns) → All IsShortTime c.durations → length c.sizes ≤ 2 ^ 22 → AllByRecursion (λ (s : Sample). s.decode ≤ 2 ^ 54) (samples_of c)
unfolding samples_of
times_below c h few = all_range (λ (s : Sample). s.decode ≤ 2 ^ 54) (sample_at c) 0 (length c.sizes) (λ i a b. time_below c i h (omega arith))

at_all : {X : Type 0} (p : X → Bool) (xs : List X) (i : ℕ) (d : X) → list_all p xs ≡ true → i < length xs → p (get_or xs i d) ≡ true
at_all p [] i d e h = absurd (omega arith)
at_all p (x ∷ xs) zero d e h = (both_true (p x) (list_all p xs) e).0
at_all p (x ∷ xs) (suc i) d e h = at_all p xs i d (both_true (p x) (list_all p xs) e).1 (omega arith)

offset_fits : (z : ℤ) → is_short_offset z ≡ true → FitsSigned w32 z
offset_fits z e =
    let parts = both_true (int_le (negsuc (2 ^ 31 - 1)) z) (int_le z (pos (2 ^ 31 - 1))) e in
    let low : negsuc (2 ^ 31 - 1) ≤ℤ z = at_least z parts.0 in
    let high : z ≤ℤ pos (2 ^ 31 - 1) = at_most z parts.1 in
    fits_short z low high
  where
    at_least : (y : ℤ) → int_le (negsuc (2 ^ 31 - 1)) y ≡ true → negsuc (2 ^ 31 - 1) ≤ℤ y
    at_least y h = grind (arith, ints)

    at_most : (y : ℤ) → int_le y (pos (2 ^ 31 - 1)) ≡ true → y ≤ℤ pos (2 ^ 31 - 1)
    at_most y h = grind (arith, ints)

pub samples_fit : (c : SampleColumns) → All IsShortTime c.durations → length c.durations ≡ length c.sizes → length c.offsets ≡ length c.sizes → list_all is_short_offset c.offsets ≡ true → AllByRecursion IsFittingInRun (samples_of c)
unfolding samples_of
samples_fit c h d o e =
    all_range IsFittingInRun (sample_at c) 0 (length c.sizes) (λ i a b. record {
      duration = All-get_or IsShortTime c.durations i 0 (omega (arith, d)) h;
      offset = offset_fits (slice_index_or c.offsets i (pos 0)) (at_all is_short_offset c.offsets i (pos 0) e (omega (arith, o)));
    })

-- ---- they follow one another

chain_from : (c : SampleColumns) (i n time : ℕ) → i + n ≤ length c.durations → time ≡ sum (take i c.durations) → IsChain time (map (sample_at c) (range_with_len i n))
chain_from c i zero time h e = tt
chain_from c i (suc n) time h e =
    let more = sum_more c.durations i (omega arith) in
    (sym e, chain_from c (i + 1) n (time + slice_index c.durations i) (omega arith) (omega (arith, more, e)))

pub samples_chain : (c : SampleColumns) → length c.durations ≡ length c.sizes → IsChain 0 (samples_of c)
unfolding samples_of
samples_chain c d = chain_from c 0 (length c.sizes) 0 (omega (arith, d)) refl
