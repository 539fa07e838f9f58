-- How many spans in rows end before a time.
use Rattle.std.proofs.Common.{◌≡◌, ℕ, ℤ, ◌+◌, ◌-◌, ◌*◌, ◌<◌, ◌≤◌, ◌≤ℤ◌, ◌<ℤ◌, List, length, get_or, take, drop, ap, subst, arith}
use Rattle.std.specs.List.{AllByRecursion}
use Rattle.std.proofs.lemmas.List.{drop_all}
use Rattle.mse_base.specs.declared.span.Span.{Span}
use Rattle.mse_base.specs.Spans.{IsNormalized}
use Rattle.mse_base.specs.Rows.{row_items, start, row, AreDense}
use Rattle.mse_base.proofs.RangeLookUps.{below_more, above_from}
use Rattle.mse_base.proofs.InRows.{row_within, start_all, start_more, few_rows}

-- the first span of row m ends before t
pub below_row : (rows : List (List Span)) (m : ℕ) (x : Span) (t : ℤ) → IsNormalized (row_items rows) → start rows m < length (row_items rows) → x ≡ get_or (row_items rows) (start rows m) x → x.end <ℤ t → AllByRecursion (λ r. r.end <ℤ t) (take (start rows (m + 1 - 1) + 1) (row_items rows))
below_row rows m x t n l at e = let z : m + 1 - 1 ≡ m = omega arith in rw z (below_more (row_items rows) (start rows m) x t n l at e)

-- none behind the last row
pub above_all : (rows : List (List Span)) (b : ℕ) (t : ℤ) → b ≡ length rows → AllByRecursion (λ r. t ≤ℤ r.end) (drop (start rows b) (row_items rows))
above_all rows b t e = rw (drop_all (start rows b) (row_items rows) (omega (arith, start_all rows b e))) tt

-- span m of row b ends before t
pub below_in : (rows : List (List Span)) (b m : ℕ) (x : Span) (t : ℤ) → IsNormalized (row_items rows) → b < length rows → m < length (row rows b) → x ≡ get_or (row_items rows) (start rows b + m) x → x.end <ℤ t → AllByRecursion (λ r. r.end <ℤ t) (take (start rows b + (m + 1)) (row_items rows))
below_in rows b m x t n l k at e =
    let z : start rows b + (m + 1) ≡ start rows b + m + 1 = omega arith in
    rw z (below_more (row_items rows) (start rows b + m) x t n (omega (arith, row_within rows b l)) at e)

-- and does not
pub above_in : (rows : List (List Span)) (b m : ℕ) (x : Span) (t : ℤ) → IsNormalized (row_items rows) → b < length rows → m < length (row rows b) → x ≡ get_or (row_items rows) (start rows b + m) x → t ≤ℤ x.end → AllByRecursion (λ r. t ≤ℤ r.end) (drop (start rows b + m) (row_items rows))
above_in rows b m x t n l k at e = above_from (row_items rows) (start rows b + m) x t n (omega (arith, row_within rows b l)) at e

-- all of row b, with those behind it
pub above_row : (rows : List (List Span)) (b n : ℕ) (t : ℤ) → b < length rows → n ≡ length (row rows b) → AllByRecursion (λ r. t ≤ℤ r.end) (drop (start rows (b + 1)) (row_items rows)) → AllByRecursion (λ r. t ≤ℤ r.end) (drop (start rows b + n) (row_items rows))
above_row rows b n t l e h =
    let z : start rows (b + 1) ≡ start rows b + n = omega (arith, start_more rows b l) in
    subst (λ k. AllByRecursion (λ r. t ≤ℤ r.end) (drop k (row_items rows))) z h

-- where neighbours were made one and no block was free, one is now
pub some_free : (old rows : List (List Span)) (total free : ℕ) → AreDense rows → row_items rows ≡ row_items old → free + length rows ≡ total → 2 * length (row_items old) + 514 ≤ 513 * total → 0 < free
some_free old rows total free d e n k = omega (arith, few_rows rows d, ap length e)
