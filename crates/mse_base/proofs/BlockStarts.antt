-- How many spans come before rows, after a row changed.
use Rattle.std.proofs.Common.{◌≡◌, ◌∙◌, ◌⊎◌, inl, inr, ℕ, zero, suc, ◌+◌, ◌*◌, ◌/◌, ◌<◌, ◌≤◌, ◌^◌, List, [], ◌∷◌, ◌++◌, length, take, set, remove, refl, sym, ap, arith, slice_index, length-append}
use Rattle.std.proofs.lemmas.List.{length-set, length-take, length_push, get_or-take, get_or_append_left, get_or_push}
use Rattle.mse_base.specs.declared.span.Span.{Span}
use Rattle.mse_base.specs.Rows.{row_items, start, row, split_row, AreStarts}

-- ---- the start of a row

pub start_at_most : (rows : List (List Span)) (k : ℕ) → start rows k ≤ length (row_items rows)
start_at_most rows zero = omega arith
start_at_most [] (suc k) = omega arith
start_at_most (r ∷ rows) (suc k) = omega (arith, length-append r (row_items rows), start_at_most rows k)

-- there is a row where fewer than all spans come before it
pub row_there : (rows : List (List Span)) (k : ℕ) → start rows k < length (row_items rows) → k < length rows
row_there [] zero l = l
row_there [] (suc k) l = absurd (omega arith)
row_there (r ∷ rows) zero l = omega arith
row_there (r ∷ rows) (suc k) l = omega (arith, row_there rows k (omega (arith, length-append r (row_items rows))))

start_past : (rows : List (List Span)) (b k : ℕ) → b < length rows → b < k → start rows b + length (row rows b) ≤ start rows k
start_past rows b zero l m = absurd (omega arith)
start_past [] b (suc k) l m = absurd (omega arith)
start_past (r ∷ rows) zero (suc k) l m = omega arith
start_past (r ∷ rows) (suc b) (suc k) l m = omega (arith, start_past rows b k (omega arith) (omega arith))

-- ---- a row in the place of another

pub start_set_front : (rows : List (List Span)) (b k : ℕ) (y : List Span) → k ≤ b → start (set rows b y) k ≡ start rows k
start_set_front rows b zero y l = refl
start_set_front [] b (suc k) y l = refl
start_set_front (r ∷ rows) zero (suc k) y l = absurd (omega arith)
start_set_front (r ∷ rows) (suc b) (suc k) y l = ap (λ n. length r + n) (start_set_front rows b k y (omega arith))

start_set_behind : (rows : List (List Span)) (b k : ℕ) (y : List Span) → b < length rows → b < k → start (set rows b y) k + length (row rows b) ≡ start rows k + length y
start_set_behind rows b zero y l m = absurd (omega arith)
start_set_behind [] b (suc k) y l m = absurd (omega arith)
start_set_behind (r ∷ rows) zero (suc k) y l m = omega arith
start_set_behind (r ∷ rows) (suc b) (suc k) y l m = omega (arith, start_set_behind rows b k y (omega arith) (omega arith))

-- ---- a row taken out, and one cut in two

pub start_remove_front : (rows : List (List Span)) (b k : ℕ) → k ≤ b → start (remove rows b) k ≡ start rows k
start_remove_front rows b zero l = refl
start_remove_front [] zero (suc k) l = refl
start_remove_front [] (suc b) (suc k) l = refl
start_remove_front (r ∷ rows) zero (suc k) l = absurd (omega arith)
start_remove_front (r ∷ rows) (suc b) (suc k) l = ap (λ n. length r + n) (start_remove_front rows b k (omega arith))

pub start_split_front : (rows : List (List Span)) (b s k : ℕ) → k ≤ b → start (split_row rows b s) k ≡ start rows k
start_split_front rows b s zero l = refl
start_split_front [] b s (suc k) l = refl
start_split_front (r ∷ rows) zero s (suc k) l = absurd (omega arith)
start_split_front (r ∷ rows) (suc b) s (suc k) l = ap (λ n. length r + n) (start_split_front rows b s k (omega arith))

-- ---- the numbers

before_or : (g n : ℕ) → (g < n) ⊎ (n ≤ g)
before_or g n = grind arith

group_or : (g b : ℕ) → ((g < b / 32) × (32 * (g + 1) ≤ b)) ⊎ ((b / 32 ≤ g) × (b < 32 * (g + 1)))
group_or g b = grind arith

-- those before row b, where the rows before it stay
pub starts_kept : (old new : List ℕ) (rows : List (List Span)) (b : ℕ) → b ≤ length rows → new ≡ take (b / 32) old → ((g : ℕ) → g < length old → 32 * (g + 1) ≤ b → slice_index old g ≡ start rows (32 * (g + 1))) → AreStarts new rows
starts_kept old new rows b l e f =
    let n = length-take (b / 32) old in
    rw e (record {
      within = omega (arith, n, l);
      each = λ g m. get_or-take (b / 32) old g 0 (omega (arith, m, n)) ∙ f g (omega (arith, m, n)) (omega (arith, m, n));
    })

-- one more is counted
pub starts_counted : (old new : List ℕ) (rows : List (List Span)) (count : ℕ) → AreStarts old rows → new ≡ old ++ count ∷ [] → 32 * (length old + 1) ≤ length rows → count ≡ start rows (32 * (length old + 1)) → AreStarts new rows
starts_counted old new rows count a e l f =
    let n = length_push old count in
    rw e (record {
      within = omega (arith, n, l);
      each = λ g m. elim (before_or g (length old)) as (λ _. slice_index (old ++ count ∷ []) g ≡ start rows (32 * (g + 1))) [
        | inl p ↦ get_or_append_left old (count ∷ []) 0 g p ∙ a.each g p
        | inr p ↦ let z : g ≡ length old = omega (arith, m, n) in rw z (get_or_push old count 0 (length old) refl ∙ f)
      ];
    })

-- a span more in row b
pub starts_raised : (old new : List ℕ) (rows : List (List Span)) (b : ℕ) (y : List Span) → AreStarts old rows → b < length rows → length y ≡ length (row rows b) + 1 → length new ≡ length old → ((g : ℕ) → g < b / 32 → slice_index new g ≡ slice_index old g) → ((g : ℕ) → b / 32 ≤ g → g < length old → slice_index new g ≡ slice_index old g + 1) → AreStarts new (set rows b y)
starts_raised old new rows b y a l n e f h = record {
  within = omega (arith, a.within, e, length-set rows b y);
  each = λ g m.
      let before : g < length old = omega (arith, m, e) in
      elim (group_or g b) as (λ _. slice_index new g ≡ start (set rows b y) (32 * (g + 1))) [
        | inl p ↦ f g p.0 ∙ a.each g before ∙ sym (start_set_front rows b (32 * (g + 1)) y p.1)
        | inr p ↦ omega (arith, h g p.0 before, a.each g before, start_set_behind rows b (32 * (g + 1)) y l p.1, n)
      ];
}

-- a span less
pub starts_lowered : (old new : List ℕ) (rows : List (List Span)) (b : ℕ) (y : List Span) → AreStarts old rows → b < length rows → length y + 1 ≡ length (row rows b) → length new ≡ length old → ((g : ℕ) → g < b / 32 → slice_index new g ≡ slice_index old g) → ((g : ℕ) → b / 32 ≤ g → g < length old → slice_index new g + 1 ≡ slice_index old g) → AreStarts new (set rows b y)
starts_lowered old new rows b y a l n e f h = record {
  within = omega (arith, a.within, e, length-set rows b y);
  each = λ g m.
      let before : g < length old = omega (arith, m, e) in
      elim (group_or g b) as (λ _. slice_index new g ≡ start (set rows b y) (32 * (g + 1))) [
        | inl p ↦ f g p.0 ∙ a.each g before ∙ sym (start_set_front rows b (32 * (g + 1)) y p.1)
        | inr p ↦ omega (arith, h g p.0 before, a.each g before, start_set_behind rows b (32 * (g + 1)) y l p.1, n)
      ];
}

-- as many as before
pub starts_same : (starts : List ℕ) (rows : List (List Span)) (b : ℕ) (y : List Span) → AreStarts starts rows → b < length rows → length y ≡ length (row rows b) → AreStarts starts (set rows b y)
starts_same starts rows b y a l n = record {
  within = omega (arith, a.within, length-set rows b y);
  each = λ g m.
      elim (group_or g b) as (λ _. slice_index starts g ≡ start (set rows b y) (32 * (g + 1))) [
        | inl p ↦ a.each g m ∙ sym (start_set_front rows b (32 * (g + 1)) y p.1)
        | inr p ↦ omega (arith, a.each g m, start_set_behind rows b (32 * (g + 1)) y l p.1, n)
      ];
}

-- the numbers can be raised, and those behind a row with a span can be lowered
pub start_fits : (starts : List ℕ) (rows : List (List Span)) (g : ℕ) → AreStarts starts rows → length (row_items rows) + 1 < 2 ^ 64 → g < length starts → slice_index starts g + 1 < 2 ^ 64
start_fits starts rows g a n l = omega (arith, a.each g l, start_at_most rows (32 * (g + 1)), n)

pub start_some : (starts : List ℕ) (rows : List (List Span)) (b g : ℕ) → AreStarts starts rows → b < length rows → 0 < length (row rows b) → b / 32 ≤ g → g < length starts → 0 < slice_index starts g
start_some starts rows b g a l n m k = omega (arith, a.each g k, start_past rows b (32 * (g + 1)) l (omega (arith, m)), n)
