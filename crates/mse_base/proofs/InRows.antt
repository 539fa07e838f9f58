-- Spans in rows.
use Rattle.std.proofs.Common.{◌≡◌, ◌∙◌, ℕ, zero, suc, ◌+◌, ◌-◌, ◌*◌, ◌<◌, ◌≤◌, List, [], ◌∷◌, ◌++◌, length, get_or, set, take, drop, refl, sym, ap, subst, arith, insert, remove, append_assoc, append-nil, length-append, length-drop}
use Rattle.std.proofs.lemmas.List.{get_or_append_left, get_or-append-add, set-append_left, set-append_right, length-set, length-take-le, take-append-drop}
use Rattle.std.proofs.lemmas.List.Edits.{insert-append_left, insert-append_right, remove-append_left, remove-append_right, length-insert, length-remove}
use Rattle.mse_base.specs.declared.span.Span.{Span}
use Rattle.mse_base.specs.Rows.{row_items, start, row, split_row, merge_rows, AreFilled, AreEmpty, AreDense}

pub row_is : (rows : List (List Span)) (b : ℕ) (r : List Span) → b < length rows → r ≡ get_or rows b r → r ≡ row rows b
row_is [] b r l e = absurd (omega arith)
row_is (q ∷ rows) zero r l e = e
row_is (q ∷ rows) (suc b) r l e = row_is rows b r (omega arith) e

pub joined_set_insert : (rows : List (List Span)) (b i : ℕ) (x : Span) → b < length rows → i ≤ length (row rows b) → row_items (set rows b (insert (row rows b) i x)) ≡ insert (row_items rows) (start rows b + i) x
joined_set_insert [] b i x l k = absurd (omega arith)
joined_set_insert (r ∷ rows) zero i x l k = let z : 0 + i ≡ i = omega arith in rw z (sym (insert-append_left r (row_items rows) i x k))
joined_set_insert (r ∷ rows) (suc b) i x l k =
    let n : (length r + start rows b + i) - length r ≡ start rows b + i = omega arith in
    ap (λ xs. r ++ xs) (joined_set_insert rows b i x (omega arith) k ∙ ap (λ n. insert (row_items rows) n x) (sym n)) ∙ sym (insert-append_right r (row_items rows) (length r) (length r + start rows b + i) x refl (omega arith))

pub joined_set_remove : (rows : List (List Span)) (b i : ℕ) → b < length rows → i < length (row rows b) → row_items (set rows b (remove (row rows b) i)) ≡ remove (row_items rows) (start rows b + i)
joined_set_remove [] b i l k = absurd (omega arith)
joined_set_remove (r ∷ rows) zero i l k = let z : 0 + i ≡ i = omega arith in rw z (sym (remove-append_left r (row_items rows) i k))
joined_set_remove (r ∷ rows) (suc b) i l k =
    let n : (length r + start rows b + i) - length r ≡ start rows b + i = omega arith in
    ap (λ xs. r ++ xs) (joined_set_remove rows b i (omega arith) k ∙ ap (λ n. remove (row_items rows) n) (sym n)) ∙ sym (remove-append_right r (row_items rows) (length r) (length r + start rows b + i) refl (omega arith))

pub joined_set_set : (rows : List (List Span)) (b i : ℕ) (x : Span) → b < length rows → i < length (row rows b) → row_items (set rows b (set (row rows b) i x)) ≡ set (row_items rows) (start rows b + i) x
joined_set_set [] b i x l k = absurd (omega arith)
joined_set_set (r ∷ rows) zero i x l k = let z : 0 + i ≡ i = omega arith in rw z (sym (set-append_left r (row_items rows) i x k))
joined_set_set (r ∷ rows) (suc b) i x l k =
    let n : (length r + start rows b + i) - length r ≡ start rows b + i = omega arith in
    ap (λ xs. r ++ xs) (joined_set_set rows b i x (omega arith) k ∙ ap (λ n. set (row_items rows) n x) (sym n)) ∙ sym (set-append_right r (row_items rows) (length r) (length r + start rows b + i) x refl (omega arith))

pub joined_one : (rows : List (List Span)) (b i : ℕ) → b < length rows → length (row rows b) ≡ 1 → i ≡ 0 → row_items (remove rows b) ≡ remove (row_items rows) (start rows b + i)
joined_one [] b i l h e = absurd (omega arith)
joined_one ([] ∷ rows) zero i l h e = absurd (omega arith)
joined_one ((x ∷ []) ∷ rows) zero i l h e = let z : 0 + i ≡ 0 = omega arith in rw z refl
joined_one ((x ∷ y ∷ r) ∷ rows) zero i l h e = absurd (omega arith)
joined_one (r ∷ rows) (suc b) i l h e =
    let n : (length r + start rows b + i) - length r ≡ start rows b + i = omega arith in
    ap (λ xs. r ++ xs) (joined_one rows b i (omega arith) h e ∙ ap (λ n. remove (row_items rows) n) (sym n)) ∙ sym (remove-append_right r (row_items rows) (length r) (length r + start rows b + i) refl (omega arith))

pub get_at : (rows : List (List Span)) (b i : ℕ) (d : Span) → b < length rows → i < length (row rows b) → get_or (row_items rows) (start rows b + i) d ≡ get_or (row rows b) i d
get_at [] b i d l k = absurd (omega arith)
get_at (r ∷ rows) zero i d l k = let z : 0 + i ≡ i = omega arith in ap (λ n. get_or (r ++ row_items rows) n d) z ∙ get_or_append_left r (row_items rows) d i k
get_at (r ∷ rows) (suc b) i d l k =
    let z : length r + start rows b + i ≡ length r + (start rows b + i) = omega arith in
    ap (λ n. get_or (r ++ row_items rows) n d) z ∙ get_or-append-add r (row_items rows) (start rows b + i) d ∙ get_at rows b i d (omega arith) k

pub row_within : (rows : List (List Span)) (b : ℕ) → b < length rows → start rows b + length (row rows b) ≤ length (row_items rows)
row_within [] b l = absurd (omega arith)
row_within (r ∷ rows) zero l = omega (arith, length-append r (row_items rows))
row_within (r ∷ rows) (suc b) l = omega (arith, length-append r (row_items rows), row_within rows b (omega arith))

pub start_more : (rows : List (List Span)) (b : ℕ) → b < length rows → start rows (b + 1) ≡ start rows b + length (row rows b)
start_more [] b l = absurd (omega arith)
start_more (r ∷ rows) zero l = omega arith
start_more (r ∷ rows) (suc b) l = let z : suc b + 1 ≡ suc (b + 1) = omega arith in rw z (omega (arith, start_more rows b (omega arith)))

pub start_all : (rows : List (List Span)) (b : ℕ) → b ≡ length rows → start rows b ≡ length (row_items rows)
start_all [] zero e = refl
start_all [] (suc b) e = refl
start_all (r ∷ rows) zero e = absurd (omega arith)
start_all (r ∷ rows) (suc b) e = omega (arith, start_all rows b (omega arith), length-append r (row_items rows))

pub start_within : (rows : List (List Span)) (b : ℕ) → b ≤ length rows → start rows b ≤ length (row_items rows)
start_within rows zero l = omega arith
start_within [] (suc b) l = omega arith
start_within (r ∷ rows) (suc b) l = omega (arith, length-append r (row_items rows), start_within rows b (omega arith))

pub rows_behind : (rows : List (List Span)) (b : ℕ) → b < length rows → start rows b + length (row rows b) < length (row_items rows) → b + 1 < length rows
rows_behind [] b l k = absurd (omega arith)
rows_behind (r ∷ []) zero l k = absurd (omega (arith, length-append r []))
rows_behind (r ∷ q ∷ rows) zero l k = omega arith
rows_behind (r ∷ rows) (suc b) l k = omega (arith, rows_behind rows b (omega arith) (omega (arith, length-append r (row_items rows))))

-- ---- a row cut in two

pub joined_split : (rows : List (List Span)) (b s : ℕ) → row_items (split_row rows b s) ≡ row_items rows
joined_split [] b s = refl
joined_split (r ∷ rows) zero s = sym (append_assoc (take s r) (drop s r) (row_items rows)) ∙ ap (λ xs. xs ++ row_items rows) (take-append-drop s r)
joined_split (r ∷ rows) (suc b) s = ap (λ xs. r ++ xs) (joined_split rows b s)

pub split_is : (rows : List (List Span)) (b s : ℕ) → b < length rows → insert (set rows b (take s (row rows b))) (suc b) (drop s (row rows b)) ≡ split_row rows b s
split_is [] b s l = absurd (omega arith)
split_is (r ∷ rows) zero s l = refl
split_is (r ∷ rows) (suc b) s l = ap (λ qs. r ∷ qs) (split_is rows b s (omega arith))

pub length_split : (rows : List (List Span)) (b s : ℕ) → b < length rows → length (split_row rows b s) ≡ length rows + 1
length_split [] b s l = absurd (omega arith)
length_split (r ∷ rows) zero s l = omega arith
length_split (r ∷ rows) (suc b) s l = omega (arith, length_split rows b s (omega arith))

pub left_row : (rows : List (List Span)) (b s : ℕ) → b < length rows → row (split_row rows b s) b ≡ take s (row rows b)
left_row [] b s l = absurd (omega arith)
left_row (r ∷ rows) zero s l = refl
left_row (r ∷ rows) (suc b) s l = left_row rows b s (omega arith)

pub right_row : (rows : List (List Span)) (b s : ℕ) → b < length rows → row (split_row rows b s) (suc b) ≡ drop s (row rows b)
right_row [] b s l = absurd (omega arith)
right_row (r ∷ rows) zero s l = refl
right_row (r ∷ rows) (suc b) s l = right_row rows b s (omega arith)

pub left_start : (rows : List (List Span)) (b s : ℕ) → start (split_row rows b s) b ≡ start rows b
left_start [] b s = refl
left_start (r ∷ rows) zero s = refl
left_start (r ∷ rows) (suc b) s = ap (λ n. length r + n) (left_start rows b s)

pub right_start : (rows : List (List Span)) (b s : ℕ) → b < length rows → s ≤ length (row rows b) → start (split_row rows b s) (suc b) ≡ start rows b + s
right_start [] b s l k = absurd (omega arith)
right_start (r ∷ rows) zero s l k = omega (arith, length-take-le s r k)
right_start (r ∷ rows) (suc b) s l k = omega (arith, right_start rows b s (omega arith) k)

pub filled_set : (rows : List (List Span)) (b : ℕ) (y : List Span) → AreFilled rows → 0 < length y → AreFilled (set rows b y)
filled_set [] b y a p = a
filled_set (r ∷ rows) zero y a p = (p, a.1)
filled_set (r ∷ rows) (suc b) y a p = (a.0, filled_set rows b y a.1 p)

pub filled_row : (rows : List (List Span)) (b : ℕ) → AreFilled rows → b < length rows → 0 < length (row rows b)
filled_row [] b a l = absurd (omega arith)
filled_row (r ∷ rows) zero a l = a.0
filled_row (r ∷ rows) (suc b) a l = filled_row rows b a.1 (omega arith)

pub filled_less : (rows : List (List Span)) (b : ℕ) → AreFilled rows → AreFilled (remove rows b)
filled_less [] zero a = a
filled_less [] (suc b) a = a
filled_less (r ∷ rows) zero a = a.1
filled_less (r ∷ rows) (suc b) a = (a.0, filled_less rows b a.1)

filled_left : (rows : List (List Span)) (b s : ℕ) (y : List Span) → AreFilled rows → b < length rows → s < length (row rows b) → 0 < length y → AreFilled (set (split_row rows b s) b y)
filled_left [] b s y a l k p = absurd (omega arith)
filled_left (r ∷ rows) zero s y a l k p = let n = length-drop s r in (p, (omega arith, a.1))
filled_left (r ∷ rows) (suc b) s y a l k p = (a.0, filled_left rows b s y a.1 (omega arith) k p)

filled_right : (rows : List (List Span)) (b s : ℕ) (y : List Span) → AreFilled rows → b < length rows → 0 < s → s ≤ length (row rows b) → 0 < length y → AreFilled (set (split_row rows b s) (suc b) y)
filled_right [] b s y a l z k p = absurd (omega arith)
filled_right (r ∷ rows) zero s y a l z k p = let n = length-take-le s r k in (omega arith, (p, a.1))
filled_right (r ∷ rows) (suc b) s y a l z k p = (a.0, filled_right rows b s y a.1 (omega arith) z k p)

-- a row was cut in two, and a span put into one of the parts
pub record IsSpanPutByCut (rows new : List (List Span)) (k : ℕ) (x : Span) : Type 0 where
  pub spans : row_items new ≡ insert (row_items rows) k x
  pub filled : AreFilled new
  pub len : length new ≡ length rows + 1

pub apart_left : (rows mid new : List (List Span)) (b i s : ℕ) (x : Span) → mid ≡ split_row rows b s → new ≡ set mid b (insert (row mid b) i x) → b < length rows → AreFilled rows → s < length (row rows b) → i < s → IsSpanPutByCut rows new (start rows b + i) x
apart_left rows mid new b i s x e f l a k m =
    let cut = split_row rows b s in
    let n = length-take-le s (row rows b) (omega arith) in
    let g = left_row rows b s l in
    let long = length_split rows b s l in
    let y : length (insert (row cut b) i x) ≡ s + 1 = rw g (omega (arith, length-insert (take s (row rows b)) i x (omega arith))) in
    rw (f, e) (record {
      spans = joined_set_insert cut b i x (omega arith) (rw g (omega arith)) ∙ ap (λ xs. insert xs (start cut b + i) x) (joined_split rows b s) ∙ ap (λ n. insert (row_items rows) (n + i) x) (left_start rows b s);
      filled = filled_left rows b s (insert (row cut b) i x) a l k (omega arith);
      len = length-set cut b (insert (row cut b) i x) ∙ long;
    })

pub apart_right : (rows mid new : List (List Span)) (b i s : ℕ) (x : Span) → mid ≡ split_row rows b s → new ≡ set mid (b + 1) (insert (row mid (b + 1)) (i - s) x) → b < length rows → AreFilled rows → 0 < s → s ≤ i → i ≤ length (row rows b) → IsSpanPutByCut rows new (start rows b + i) x
apart_right rows mid new b i s x e f l a p k w =
    let cut = split_row rows b s in
    let z : b + 1 ≡ suc b = omega arith in
    let g = right_row rows b s l in
    let d = length-drop s (row rows b) in
    let long = length_split rows b s l in
    let v : start cut (suc b) + (i - s) ≡ start rows b + i = omega (arith, right_start rows b s l (omega arith)) in
    let y : 0 < length (insert (row cut (suc b)) (i - s) x) = rw g (omega (arith, length-insert (drop s (row rows b)) (i - s) x (omega arith))) in
    rw (f, e, z) (record {
      spans = joined_set_insert cut (suc b) (i - s) x (omega arith) (rw g (omega arith)) ∙ ap (λ xs. insert xs (start cut (suc b) + (i - s)) x) (joined_split rows b s) ∙ ap (λ n. insert (row_items rows) n x) v;
      filled = filled_right rows b s (insert (row cut (suc b)) (i - s) x) a l p (omega arith) y;
      len = length-set cut (suc b) (insert (row cut (suc b)) (i - s) x) ∙ long;
    })

-- ---- two rows as one

row_before : (rows : List (List Span)) (b : ℕ) → row (remove rows (suc b)) b ≡ row rows b
row_before [] b = refl
row_before (r ∷ rows) zero = refl
row_before (r ∷ rows) (suc b) = row_before rows b

-- the row that is left in front of one that was taken out
pub front_row : (rows new : List (List Span)) (b : ℕ) (x : List Span) → new ≡ remove rows (b + 1) → b + 1 < length rows → x ≡ get_or new b x → x ≡ row rows b
front_row rows new b x e l at =
    let z : b + 1 ≡ suc b = omega arith in
    let n = length-remove rows (b + 1) l in
    row_is new b x (omega (arith, ap length e)) at ∙ ap (λ q. row q b) e ∙ ap (λ k. row (remove rows k) b) z ∙ row_before rows b

pub merge_is : (rows : List (List Span)) (b : ℕ) → suc b < length rows → set (remove rows (suc b)) b (row rows b ++ row rows (suc b)) ≡ merge_rows rows b
merge_is [] b l = absurd (omega arith)
merge_is (r ∷ []) b l = absurd (omega arith)
merge_is (r ∷ s ∷ rows) zero l = refl
merge_is (r ∷ s ∷ rows) (suc b) l = ap (λ qs. r ∷ qs) (merge_is (s ∷ rows) b (omega arith))

pub joined_merge : (rows : List (List Span)) (b : ℕ) → row_items (merge_rows rows b) ≡ row_items rows
joined_merge [] b = refl
joined_merge (r ∷ []) b = refl
joined_merge (r ∷ s ∷ rows) zero = append_assoc r s (row_items rows)
joined_merge (r ∷ s ∷ rows) (suc b) = ap (λ xs. r ++ xs) (joined_merge (s ∷ rows) b)

pub length_merge : (rows : List (List Span)) (b : ℕ) → suc b < length rows → length (merge_rows rows b) + 1 ≡ length rows
length_merge [] b l = absurd (omega arith)
length_merge (r ∷ []) b l = absurd (omega arith)
length_merge (r ∷ s ∷ rows) zero l = omega arith
length_merge (r ∷ s ∷ rows) (suc b) l = omega (arith, length_merge (s ∷ rows) b (omega arith))

pub filled_merge : (rows : List (List Span)) (b : ℕ) → AreFilled rows → AreFilled (merge_rows rows b)
filled_merge [] b a = a
filled_merge (r ∷ []) b a = a
filled_merge (r ∷ s ∷ rows) zero a = (omega (arith, a.0, length-append r s), a.1.1)
filled_merge (r ∷ s ∷ rows) (suc b) a = (a.0, filled_merge (s ∷ rows) b a.1)

dense_first : (r s : List Span) (rows : List (List Span)) → AreDense (s ∷ rows) → AreDense ((r ++ s) ∷ rows)
dense_first r s [] d = tt
dense_first r s (q ∷ rows) d = (omega (arith, d.0, length-append r s), d.1)

pub dense_merge : (rows : List (List Span)) (b : ℕ) → suc b < length rows → AreDense (drop (suc b) rows) → AreDense (drop b (merge_rows rows b))
dense_merge [] b l d = absurd (omega arith)
dense_merge (r ∷ []) b l d = absurd (omega arith)
dense_merge (r ∷ s ∷ rows) zero l d = dense_first r s rows d
dense_merge (r ∷ s ∷ rows) (suc b) l d = dense_merge (s ∷ rows) b (omega arith) d

pub dense_more : (rows : List (List Span)) (b : ℕ) → suc b < length rows → 512 < length (row rows b) + length (row rows (suc b)) → AreDense (drop (suc b) rows) → AreDense (drop b rows)
dense_more [] b l k d = absurd (omega arith)
dense_more (r ∷ []) b l k d = absurd (omega arith)
dense_more (r ∷ s ∷ rows) zero l k d = (k, d)
dense_more (r ∷ s ∷ rows) (suc b) l k d = dense_more (s ∷ rows) b (omega arith) k d

pub dense_last : (rows : List (List Span)) (b : ℕ) → length rows ≤ b + 1 → AreDense (drop b rows)
dense_last [] zero l = tt
dense_last [] (suc b) l = tt
dense_last (r ∷ []) zero l = tt
dense_last (r ∷ s ∷ rows) zero l = absurd (omega arith)
dense_last (r ∷ rows) (suc b) l = dense_last rows b (omega arith)

-- a step from the back: rows b - 2 and b - 1 cannot be one, or are made one
pub gathered_none : (rows : List (List Span)) (b : ℕ) → 1 < b → b ≤ length rows → 512 < length (row rows (b - 1 - 1)) + length (row rows (b - 1 - 1 + 1)) → AreDense (drop (b - 1) rows) → AreDense (drop (b - 1 - 1) rows)
gathered_none rows b p l k d =
    let z : suc (b - 1 - 1) ≡ b - 1 = omega arith in
    let y : b - 1 - 1 + 1 ≡ suc (b - 1 - 1) = omega arith in
    dense_more rows (b - 1 - 1) (omega arith) (subst (λ n. 512 < length (row rows (b - 1 - 1)) + length (row rows n)) y k) (subst (λ n. AreDense (drop n rows)) (sym z) d)

pub record AreRowsMerged (rows new : List (List Span)) (b : ℕ) : Type 0 where
  pub within : b - 1 ≤ length new
  pub spans : row_items new ≡ row_items rows
  pub filled : AreFilled new
  pub dense : AreDense (drop (b - 1 - 1) new)
  pub len : length new + 1 ≡ length rows

pub gathered : (rows new : List (List Span)) (b : ℕ) → 1 < b → b ≤ length rows → new ≡ merge_rows rows (b - 1 - 1) → AreFilled rows → AreDense (drop (b - 1) rows) → AreRowsMerged rows new b
gathered rows new b p l e a d =
    let z : suc (b - 1 - 1) ≡ b - 1 = omega arith in
    let n = length_merge rows (b - 1 - 1) (omega arith) in
    rw e (record {
      within = omega arith;
      spans = joined_merge rows (b - 1 - 1);
      filled = filled_merge rows (b - 1 - 1) a;
      dense = dense_merge rows (b - 1 - 1) (omega arith) (subst (λ n. AreDense (drop n rows)) (sym z) d);
      len = n;
    })

-- there are few rows where no two neighbours can be one
few_from : (r : List Span) (rows : List (List Span)) → AreDense (r ∷ rows) → 513 * length (r ∷ rows) + length r ≤ 2 * length (row_items (r ∷ rows)) + 513
few_from r [] d = omega (arith, length-append r (row_items []))
few_from r (s ∷ rows) d = omega (arith, d.0, length-append r (row_items (s ∷ rows)), few_from s rows d.1)

pub few_rows : (rows : List (List Span)) → AreDense rows → 513 * length rows ≤ 2 * length (row_items rows) + 513
few_rows [] d = omega arith
few_rows (r ∷ rows) d = omega (arith, few_from r rows d)

pub merged_is : (rows new : List (List Span)) (b : ℕ) (left right both : List Span) → b + 1 < length rows → new ≡ remove rows (b + 1) → left ≡ row rows b → right ≡ row rows (b + 1) → both ≡ left ++ right → set new b both ≡ merge_rows rows b
merged_is rows new b left right both l e f g h =
    let z : b + 1 ≡ suc b = omega arith in
    ap (λ q. set q b both) (e ∙ ap (λ k. remove rows k) z) ∙ ap (set (remove rows (suc b)) b) (h ∙ ap (λ q. q ++ right) f ∙ ap (λ q. row rows b ++ q) (g ∙ ap (row rows) z)) ∙ merge_is rows b (omega arith)

-- ---- the pool

pub empty_push : (pool : List (List Span)) (y : List Span) → AreEmpty pool → y ≡ [] → AreEmpty (pool ++ y ∷ [])
empty_push [] y a e = (e, a)
empty_push (p ∷ pool) y a e = (a.0, empty_push pool y a.1 e)

pub empty_last : (pool : List (List Span)) (y : List Span) → AreEmpty (pool ++ y ∷ []) → AreEmpty pool × (y ≡ [])
empty_last [] y a = (tt, a.0)
empty_last (p ∷ pool) y a = let k = empty_last pool y a.1 in ((a.0, k.0), k.1)

pub one_more : (xs : List (List Span)) (x : List Span) → length (xs ++ x ∷ []) ≡ length xs + 1
one_more xs x = omega (arith, length-append xs (x ∷ []))

pub joined_take : (rows : List (List Span)) (b : ℕ) → b < length rows → row_items (take (b + 1) rows) ≡ row_items (take b rows) ++ row rows b
joined_take [] b l = absurd (omega arith)
joined_take (r ∷ rows) zero l = append-nil r
joined_take (r ∷ rows) (suc b) l = let z : suc b + 1 ≡ suc (b + 1) = omega arith in rw z (ap (λ xs. r ++ xs) (joined_take rows b (omega arith)) ∙ sym (append_assoc r (row_items (take b rows)) (row rows b)))
