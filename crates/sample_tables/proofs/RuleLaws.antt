-- Laws of the tests of tables, entry by entry.
use Rattle.std.proofs.Common.{◌≡◌, ℕ, zero, suc, ◌+◌, ◌-◌, ◌*◌, ◌/◌, ◌%◌, ◌<◌, ◌≤◌, ◌^◌, ltb, leb, eqb, ◌&&◌, ◌||◌, Bool, true, false, pos, List, [], ◌∷◌, ◌++◌, length, get_or, drop, replicate, sum, refl, ap, sym, ◌∙◌, arith}
use Rattle.std.specs.List.{list_all}
use Rattle.std.proofs.lemmas.List.{at_drop_more, at_drop_all}
use Rattle.std.proofs.lemmas.List.Folds.{list_all-append, sum_by-replicate}
use Rattle.std.proofs.lemmas.List.Sums.{sum_by-cons, sum_by-append}
use Rattle.std.proofs.lemmas.Bool.Decides.{nat_tests}
use Rattle.std.proofs.Math.Nat.{mul-add-div}
use Rattle.mse_base.specs.Time.{SECOND}
use Rattle.sample_tables.specs.declared.entries.OffsetRun.{OffsetRun}
use Rattle.sample_tables.specs.declared.entries.ChunkRun.{ChunkRun}
use Rattle.sample_tables.specs.Samples.{offsets_by, chunk_behind, chunk_counts}
use Rattle.sample_tables.specs.Rules.{are_numbers, are_chunk_runs, is_short_offset}

-- an element of a list as it is read there
abbrev pub IsReadAt : {X : Type 0} → List X → ℕ → X → Type 0
IsReadAt xs i x = x ≡ get_or xs i x

-- the next element and those behind it
pub drop_next : {X Y : Type 0} (F : List X → Y) (xs : List X) (i : ℕ) (x : X) → i < length xs → x ≡ get_or xs i x → F (drop i xs) ≡ F (x ∷ drop (i + 1) xs)
drop_next F xs i x h e = at_drop_more F xs i x h ∙ ap (λ y. F (y ∷ drop (i + 1) xs)) (sym e)

-- ---- numbers of samples

pub numbers_next : (numbers : List ℕ) (before n i k : ℕ) → i < length numbers → k ≡ get_or numbers i k → are_numbers before n (drop i numbers) ≡ (ltb before k && (leb k n && are_numbers k n (drop (i + 1) numbers)))
numbers_next numbers before n i k h e = drop_next (are_numbers before n) numbers i k h e

pub numbers_end : (numbers : List ℕ) (before n i : ℕ) → length numbers ≤ i → are_numbers before n (drop i numbers) ≡ true
numbers_end numbers before n i h = at_drop_all (are_numbers before n) numbers i h

-- ---- runs of chunks

pub runs_next : (runs : List ChunkRun) (before chunks i : ℕ) (r : ChunkRun) → i < length runs → r ≡ get_or runs i r → are_chunk_runs before chunks (drop i runs) ≡ (ltb before r.first && (leb r.first chunks && (leb 1 r.samples && are_chunk_runs r.first chunks (drop (i + 1) runs))))
runs_next runs before chunks i r h e = drop_next (are_chunk_runs before chunks) runs i r h e

pub runs_end : (runs : List ChunkRun) (before chunks i : ℕ) → length runs ≤ i → are_chunk_runs before chunks (drop i runs) ≡ true
runs_end runs before chunks i h = at_drop_all (are_chunk_runs before chunks) runs i h

-- what a step of a test of three parts and the rest gives
pub and_false_1 : (a b : Bool) → a ≡ false → (a && b) ≡ false
and_false_1 a b e = ap (λ t. t && b) e

pub and_false_2 : (a b : Bool) → b ≡ false → (a && b) ≡ false
and_false_2 true b e = e
and_false_2 false b e = refl

pub and_true : (a b : Bool) → a ≡ true → (a && b) ≡ b
and_true a b e = ap (λ t. t && b) e

pub both_true : (a b : Bool) → (a && b) ≡ true → (a ≡ true) × (b ≡ true)
both_true true b e = (refl, e)
both_true false b e = absurd (cc)

-- the parts of a run of chunks that passed
pub record IsChunkRun (before chunks : ℕ) (r : ChunkRun) (rs : List ChunkRun) : Type 0 where
  pub above : before < r.first
  pub there : r.first ≤ chunks
  pub some : 1 ≤ r.samples
  pub rest : are_chunk_runs r.first chunks rs ≡ true

pub chunk_run_parts : (before chunks : ℕ) (r : ChunkRun) (rs : List ChunkRun) → are_chunk_runs before chunks (r ∷ rs) ≡ true → IsChunkRun before chunks r rs
chunk_run_parts before chunks r rs e =
    let a = both_true (ltb before r.first) (leb r.first chunks && (leb 1 r.samples && are_chunk_runs r.first chunks rs)) e in
    let b = both_true (leb r.first chunks) (leb 1 r.samples && are_chunk_runs r.first chunks rs) a.1 in
    let c = both_true (leb 1 r.samples) (are_chunk_runs r.first chunks rs) b.1 in
    record {
      above = grind (arith, nat_tests, a.0);
      there = grind (arith, nat_tests, b.0);
      some = grind (arith, nat_tests, c.0);
      rest = c.1;
    }

-- the chunk behind a run is above its first
pub behind_above : (first chunks : ℕ) (rs : List ChunkRun) → first ≤ chunks → are_chunk_runs first chunks rs ≡ true → first + 1 ≤ chunk_behind chunks rs
behind_above first chunks [] h e = omega arith
behind_above first chunks (r ∷ rs) h e = let p = chunk_run_parts first chunks r rs e in omega (arith, p.above)

pub behind_below : (first chunks : ℕ) (rs : List ChunkRun) → are_chunk_runs first chunks rs ≡ true → chunk_behind chunks rs ≤ chunks + 1
behind_below first chunks [] e = omega arith
behind_below first chunks (r ∷ rs) e = let p = chunk_run_parts first chunks r rs e in omega (arith, p.there)

-- ---- sums

pub sum_cons : (x : ℕ) (xs : List ℕ) → sum (x ∷ xs) ≡ x + sum xs
sum_cons x xs = sum_by-cons (λ y. y) x xs

pub sum_append : (xs ys : List ℕ) → sum (xs ++ ys) ≡ sum xs + sum ys
sum_append xs ys = sum_by-append (λ y. y) xs ys

pub sum_replicate : (n x : ℕ) → sum (replicate n x) ≡ n * x
sum_replicate n x = sum_by-replicate (λ y. y) n x

-- ---- composition offsets

or_true : (b : Bool) → (b || true) ≡ true
or_true true = refl
or_true false = refl

all_same : {X : Type 0} (p : X → Bool) (n : ℕ) (x : X) (t : Bool) → p x ≡ t → list_all p (replicate n x) ≡ (eqb n 0 || p x) → (p x && list_all p (replicate n x)) ≡ p x
all_same p n x true e r = ap (λ b. b && list_all p (replicate n x)) e ∙ (r ∙ (ap (λ b. eqb n 0 || b) e ∙ (or_true (eqb n 0) ∙ sym e)))
all_same p n x false e r = ap (λ b. b && list_all p (replicate n x)) e ∙ sym e

not_zero : (n : ℕ) → 0 < n → eqb n 0 ≡ false
not_zero n h = grind (arith, nat_tests)

pub all_replicate : {X : Type 0} (p : X → Bool) (n : ℕ) (x : X) → list_all p (replicate n x) ≡ (eqb n 0 || p x)
all_replicate p zero x = refl
all_replicate p (suc n) x = all_same p n x (p x) refl (all_replicate p n x) ∙ sym (ap (λ b. b || p x) (not_zero (suc n) (omega arith)))

pub short_next : (runs : List OffsetRun) (i : ℕ) (d : OffsetRun) → i < length runs
    → list_all is_short_offset (offsets_by (drop i runs)) ≡ ((eqb (get_or runs i d).count 0 || is_short_offset (get_or runs i d).offset) && list_all is_short_offset (offsets_by (drop (i + 1) runs)))
short_next runs i d h =
    let r = get_or runs i d in
    at_drop_more (λ rs. list_all is_short_offset (offsets_by rs)) runs i d h
    ∙ (list_all-append is_short_offset (replicate r.count r.offset) (offsets_by (drop (i + 1) runs))
    ∙ ap (λ t. t && list_all is_short_offset (offsets_by (drop (i + 1) runs))) (all_replicate is_short_offset r.count r.offset))

pub or_second : (n : ℕ) (b : Bool) → (eqb n 0 || b) ≡ true → 0 < n → b ≡ true
or_second zero b e h = absurd (omega arith)
or_second (suc n) b e h = sym (ap (λ t. t || b) (not_zero (suc n) h)) ∙ e

-- ---- sums and tests of equal elements

pub total_next : (chunks : ℕ) (r : ChunkRun) (rs : List ChunkRun) → sum (chunk_counts chunks (r ∷ rs)) ≡ (chunk_behind chunks rs - r.first) * r.samples + sum (chunk_counts chunks rs)
total_next chunks r rs = sum_append (replicate (chunk_behind chunks rs - r.first) r.samples) (chunk_counts chunks rs) ∙ ap (λ n. n + sum (chunk_counts chunks rs)) (sum_replicate (chunk_behind chunks rs - r.first) r.samples)

pub short_sizes : (n size : ℕ) → list_all (λ s. leb s (2 ^ 26)) (replicate n size) ≡ (eqb n 0 || leb size (2 ^ 26))
short_sizes n size = all_replicate (λ s. leb s (2 ^ 26)) n size

pub short_zeros : (n : ℕ) → list_all is_short_offset (replicate n (pos 0)) ≡ true
short_zeros n = all_replicate is_short_offset n (pos 0) ∙ or_true (eqb n 0)

-- ---- the lag

pub lag_is : (shift scale : ℕ) → shift / SECOND * scale + shift % SECOND * scale / SECOND ≡ shift * scale / SECOND
lag_is shift scale =
    let parts : SECOND * (shift / SECOND) + shift % SECOND ≡ shift = omega arith in
    let all : SECOND * (shift / SECOND * scale) + shift % SECOND * scale ≡ shift * scale = regroup SECOND (shift / SECOND) (shift % SECOND) shift scale parts in
    sym (ap (λ n. n / SECOND) (sym all) ∙ mul-add-div (omega arith) (shift / SECOND * scale) (shift % SECOND * scale))
  where
    regroup : (s q r n scale : ℕ) → s * q + r ≡ n → s * (q * scale) + r * scale ≡ n * scale
    regroup s q r n scale e = rw (← e) (omega arith)
