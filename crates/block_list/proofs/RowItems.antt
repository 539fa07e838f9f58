-- Lists in rows.
use Rattle.std.proofs.Common.{◌≡◌, ◌∙◌, ℕ, zero, suc, ◌+◌, ◌-◌, ◌*◌, ◌<◌, ◌≤◌, List, [], ◌∷◌, ◌++◌, length, get_or, set, take, drop, refl, sym, ap, arith, eqb, false, insert, remove, append_assoc, length-append, length-drop}
use Rattle.std.proofs.lemmas.List.{get_or_append_left, get_or-append-add, set-append_left, set-append_right, length-set, take-set-le, drop-set-lt, drop_all, length-take-le, take-append-drop}
use Rattle.std.proofs.lemmas.List.Edits.{insert-append_left, insert-append_right, remove-append_left, remove-append_right, length-insert, length-remove, insert_end}
use Rattle.std.proofs.lemmas.Bool.Decides.{nat_tests}
use Rattle.mse_base.specs.Rows.{row_items, start, row, split_row, AreEmpty}
use Rattle.block_list.specs.Rows.{used_room, AreShort}

pub row_is : {T : Type 0} (rows : List (List T)) (b : ℕ) (r : List T) → b < length rows → r ≡ get_or rows b r → r ≡ row rows b
row_is [] b r l e = absurd (omega arith)
row_is (q ∷ rows) zero r l e = e
row_is (q ∷ rows) (suc b) r l e = row_is rows b r (omega arith) e

pub joined_set_insert : {T : Type 0} (rows : List (List T)) (b i : ℕ) (x : T) → b < length rows → i ≤ length (row rows b) → row_items (set rows b (insert (row rows b) i x)) ≡ insert (row_items rows) (start rows b + i) x
joined_set_insert [] b i x l k = absurd (omega arith)
joined_set_insert (r ∷ rows) zero i x l k = let z : 0 + i ≡ i = omega arith in rw z (sym (insert-append_left r (row_items rows) i x k))
joined_set_insert (r ∷ rows) (suc b) i x l k =
    let n : (length r + start rows b + i) - length r ≡ start rows b + i = omega arith in
    ap (λ xs. r ++ xs) (joined_set_insert rows b i x (omega arith) k ∙ ap (λ n. insert (row_items rows) n x) (sym n)) ∙ sym (insert-append_right r (row_items rows) (length r) (length r + start rows b + i) x refl (omega arith))

pub joined_set_remove : {T : Type 0} (rows : List (List T)) (b i : ℕ) → b < length rows → i < length (row rows b) → row_items (set rows b (remove (row rows b) i)) ≡ remove (row_items rows) (start rows b + i)
joined_set_remove [] b i l k = absurd (omega arith)
joined_set_remove (r ∷ rows) zero i l k = let z : 0 + i ≡ i = omega arith in rw z (sym (remove-append_left r (row_items rows) i k))
joined_set_remove (r ∷ rows) (suc b) i l k =
    let n : (length r + start rows b + i) - length r ≡ start rows b + i = omega arith in
    ap (λ xs. r ++ xs) (joined_set_remove rows b i (omega arith) k ∙ ap (λ n. remove (row_items rows) n) (sym n)) ∙ sym (remove-append_right r (row_items rows) (length r) (length r + start rows b + i) refl (omega arith))

pub joined_split : {T : Type 0} (rows : List (List T)) (b s : ℕ) → row_items (split_row rows b s) ≡ row_items rows
joined_split [] b s = refl
joined_split (r ∷ rows) zero s = sym (append_assoc (take s r) (drop s r) (row_items rows)) ∙ ap (λ xs. xs ++ row_items rows) (take-append-drop s r)
joined_split (r ∷ rows) (suc b) s = ap (λ xs. r ++ xs) (joined_split rows b s)

pub split_is : {T : Type 0} (rows : List (List T)) (b s : ℕ) → b < length rows → insert (set rows b (take s (row rows b))) (suc b) (drop s (row rows b)) ≡ split_row rows b s
split_is [] b s l = absurd (omega arith)
split_is (r ∷ rows) zero s l = refl
split_is (r ∷ rows) (suc b) s l = ap (λ qs. r ∷ qs) (split_is rows b s (omega arith))

pub length_split : {T : Type 0} (rows : List (List T)) (b s : ℕ) → b < length rows → length (split_row rows b s) ≡ length rows + 1
length_split [] b s l = absurd (omega arith)
length_split (r ∷ rows) zero s l = omega arith
length_split (r ∷ rows) (suc b) s l = omega (arith, length_split rows b s (omega arith))

-- the two parts, and where they begin
pub left_row : {T : Type 0} (rows : List (List T)) (b s : ℕ) → b < length rows → row (split_row rows b s) b ≡ take s (row rows b)
left_row [] b s l = absurd (omega arith)
left_row (r ∷ rows) zero s l = refl
left_row (r ∷ rows) (suc b) s l = left_row rows b s (omega arith)

pub right_row : {T : Type 0} (rows : List (List T)) (b s : ℕ) → b < length rows → row (split_row rows b s) (suc b) ≡ drop s (row rows b)
right_row [] b s l = absurd (omega arith)
right_row (r ∷ rows) zero s l = refl
right_row (r ∷ rows) (suc b) s l = right_row rows b s (omega arith)

pub left_start : {T : Type 0} (rows : List (List T)) (b s : ℕ) → start (split_row rows b s) b ≡ start rows b
left_start [] b s = refl
left_start (r ∷ rows) zero s = refl
left_start (r ∷ rows) (suc b) s = ap (λ n. length r + n) (left_start rows b s)

pub right_start : {T : Type 0} (rows : List (List T)) (b s : ℕ) → b < length rows → s ≤ length (row rows b) → start (split_row rows b s) (suc b) ≡ start rows b + s
right_start [] b s l k = absurd (omega arith)
right_start (r ∷ rows) zero s l k = omega (arith, length-take-le s r k)
right_start (r ∷ rows) (suc b) s l k = omega (arith, right_start rows b s (omega arith) k)

-- ---- lengths of rows

pub short_set : {T : Type 0} (half : ℕ) (rows : List (List T)) (b : ℕ) (y : List T) → AreShort half rows → 0 < length y → length y ≤ 2 * half → AreShort half (set rows b y)
short_set half [] b y a p q = a
short_set half (r ∷ rows) zero y a p q = ((p, q), a.1)
short_set half (r ∷ rows) (suc b) y a p q = (a.0, short_set half rows b y a.1 p q)

pub short_row : {T : Type 0} (half : ℕ) (rows : List (List T)) (b : ℕ) → AreShort half rows → b < length rows → (0 < length (row rows b)) × (length (row rows b) ≤ 2 * half)
short_row half [] b a l = absurd (omega arith)
short_row half (r ∷ rows) zero a l = a.0
short_row half (r ∷ rows) (suc b) a l = short_row half rows b a.1 (omega arith)

pub short_left : {T : Type 0} (half : ℕ) (rows : List (List T)) (b s : ℕ) (y : List T) → AreShort half rows → b < length rows → s < length (row rows b) → 0 < length y → length y ≤ 2 * half → AreShort half (set (split_row rows b s) b y)
short_left half [] b s y a l k p q = absurd (omega arith)
short_left half (r ∷ rows) zero s y a l k p q = let n = length-drop s r in ((p, q), ((omega arith, omega (arith, a.0.1)), a.1))
short_left half (r ∷ rows) (suc b) s y a l k p q = (a.0, short_left half rows b s y a.1 (omega arith) k p q)

pub short_right : {T : Type 0} (half : ℕ) (rows : List (List T)) (b s : ℕ) (y : List T) → AreShort half rows → b < length rows → 0 < s → s ≤ length (row rows b) → 0 < length y → length y ≤ 2 * half → AreShort half (set (split_row rows b s) (suc b) y)
short_right half [] b s y a l z k p q = absurd (omega arith)
short_right half (r ∷ rows) zero s y a l z k p q = let n = length-take-le s r k in ((omega arith, omega (arith, a.0.1)), ((p, q), a.1))
short_right half (r ∷ rows) (suc b) s y a l z k p q = (a.0, short_right half rows b s y a.1 (omega arith) z k p q)

-- ---- what is held of the pool

used_cons : {T : Type 0} (half : ℕ) (r : List T) (rows : List (List T)) → 0 < length rows → used_room half (r ∷ rows) ≡ (length r - half) + used_room half rows
used_cons half r [] l = absurd (omega arith)
used_cons half r (q ∷ rows) l = refl

pub used_set : {T : Type 0} (half : ℕ) (rows : List (List T)) (b k : ℕ) (y : List T) → b < length rows → length y ≤ length (row rows b) + k → used_room half (set rows b y) ≤ used_room half rows + k
used_set half [] b k y l h = absurd (omega arith)
used_set half (r ∷ []) zero k y l h = h
used_set half (r ∷ q ∷ rows) zero k y l h = omega arith
used_set half (r ∷ []) (suc b) k y l h = absurd (omega arith)
used_set half (r ∷ q ∷ rows) (suc b) k y l h = omega (arith, used_cons half r (set (q ∷ rows) b y) (omega (arith, length-set (q ∷ rows) b y)), used_set half (q ∷ rows) b k y (omega arith) h)

-- a full row cut at 64, or the last one at 64 or more, and one item more in the left part
pub used_left : {T : Type 0} (half : ℕ) (rows : List (List T)) (b s : ℕ) (y : List T) → b < length rows → length (row rows b) ≡ 2 * half → half ≤ s → s ≤ 2 * half → (suc b < length rows → s ≡ half) → length y ≡ s + 1 → used_room half (set (split_row rows b s) b y) + half ≤ used_room half rows + 1
used_left half [] b s y l f m n e h = absurd (omega arith)
used_left half (r ∷ []) zero s y l f m n e h = omega (arith, length-drop s r)
used_left half (r ∷ q ∷ rows) zero s y l f m n e h = let z : s ≡ half = e (omega arith) in omega (arith, length-drop s r, z)
used_left half (r ∷ []) (suc b) s y l f m n e h = absurd (omega arith)
used_left half (r ∷ q ∷ rows) (suc b) s y l f m n e h =
    let long = length_split (q ∷ rows) b s (omega arith) in
    omega (arith, used_cons half r (set (split_row (q ∷ rows) b s) b y) (omega (arith, length-set (split_row (q ∷ rows) b s) b y)), used_left half (q ∷ rows) b s y (omega arith) f m n (λ k. e (omega arith)) h)

pub used_right : {T : Type 0} (half : ℕ) (rows : List (List T)) (b s : ℕ) (y : List T) → b < length rows → length (row rows b) ≡ 2 * half → half ≤ s → s ≤ 2 * half → (suc b < length rows → s ≡ half) → length y + s ≡ 2 * half + 1 → used_room half (set (split_row rows b s) (suc b) y) + half ≤ used_room half rows + 1
used_right half [] b s y l f m n e h = absurd (omega arith)
used_right half (r ∷ []) zero s y l f m n e h = omega (arith, length-take-le s r (omega arith))
used_right half (r ∷ q ∷ rows) zero s y l f m n e h = let z : s ≡ half = e (omega arith) in omega (arith, length-take-le s r (omega arith), z)
used_right half (r ∷ []) (suc b) s y l f m n e h = absurd (omega arith)
used_right half (r ∷ q ∷ rows) (suc b) s y l f m n e h =
    let long = length_split (q ∷ rows) b s (omega arith) in
    omega (arith, used_cons half r (set (split_row (q ∷ rows) b s) (suc b) y) (omega (arith, length-set (split_row (q ∷ rows) b s) (suc b) y)), used_right half (q ∷ rows) b s y (omega arith) f m n (λ k. e (omega arith)) h)

-- ---- the rest

pub joined_append : {T : Type 0} (xs ys : List (List T)) → row_items (xs ++ ys) ≡ row_items xs ++ row_items ys
joined_append [] ys = refl
joined_append (x ∷ xs) ys = ap (λ zs. x ++ zs) (joined_append xs ys) ∙ sym (append_assoc x (row_items xs) (row_items ys))

pub start_more : {T : Type 0} (rows : List (List T)) (b : ℕ) → b < length rows → start rows (b + 1) ≡ start rows b + length (row rows b)
start_more [] b l = absurd (omega arith)
start_more (r ∷ rows) zero l = omega arith
start_more (r ∷ rows) (suc b) l = let z : suc b + 1 ≡ suc (b + 1) = omega arith in rw z (omega (arith, start_more rows b (omega arith)))

pub start_all : {T : Type 0} (rows : List (List T)) (b : ℕ) → b ≡ length rows → start rows b ≡ length (row_items rows)
start_all [] zero e = refl
start_all [] (suc b) e = refl
start_all (r ∷ rows) zero e = absurd (omega arith)
start_all (r ∷ rows) (suc b) e = omega (arith, start_all rows b (omega arith), length-append r (row_items rows))

pub joined_one : {T : Type 0} (rows : List (List T)) (b i : ℕ) → b < length rows → length (row rows b) ≡ 1 → i ≡ 0 → row_items (remove rows b) ≡ remove (row_items rows) (start rows b + i)
joined_one [] b i l h e = absurd (omega arith)
joined_one ([] ∷ rows) zero i l h e = absurd (omega arith)
joined_one ((x ∷ []) ∷ rows) zero i l h e = let z : 0 + i ≡ 0 = omega arith in rw z refl
joined_one ((x ∷ y ∷ r) ∷ rows) zero i l h e = absurd (omega arith)
joined_one (r ∷ rows) (suc b) i l h e =
    let n : (length r + start rows b + i) - length r ≡ start rows b + i = omega arith in
    ap (λ xs. r ++ xs) (joined_one rows b i (omega arith) h e ∙ ap (λ n. remove (row_items rows) n) (sym n)) ∙ sym (remove-append_right r (row_items rows) (length r) (length r + start rows b + i) refl (omega arith))

pub short_less : {T : Type 0} (half : ℕ) (rows : List (List T)) (b : ℕ) → AreShort half rows → AreShort half (remove rows b)
short_less half [] zero a = a
short_less half [] (suc b) a = a
short_less half (r ∷ rows) zero a = a.1
short_less half (r ∷ rows) (suc b) a = (a.0, short_less half rows b a.1)

pub short_push : {T : Type 0} (half : ℕ) (rows : List (List T)) (y : List T) → AreShort half rows → 0 < length y → length y ≤ 2 * half → AreShort half (rows ++ y ∷ [])
short_push half [] y a p q = ((p, q), a)
short_push half (r ∷ rows) y a p q = (a.0, short_push half rows y a.1 p q)

pub used_bound : {T : Type 0} (half : ℕ) (rows : List (List T)) → AreShort half rows → used_room half rows ≤ half * length rows + half
used_bound half [] a = omega arith
used_bound half (r ∷ []) a = omega (arith, a.0.1)
used_bound half (r ∷ q ∷ rows) a = omega (arith, a.0.1, used_bound half (q ∷ rows) a.1)

used_first : {T : Type 0} (half : ℕ) (q : List T) (rows : List (List T)) → length q ≤ 2 * half → used_room half (q ∷ rows) ≤ used_room half rows + half
used_first half q [] l = omega arith
used_first half q (r ∷ rows) l = omega arith

pub used_less : {T : Type 0} (half : ℕ) (rows : List (List T)) (b : ℕ) → AreShort half rows → b < length rows → used_room half (remove rows b) ≤ used_room half rows + half
used_less half [] b a l = absurd (omega arith)
used_less half (r ∷ []) zero a l = omega arith
used_less half (r ∷ q ∷ rows) zero a l = omega arith
used_less half (r ∷ []) (suc b) a l = absurd (omega arith)
used_less half (r ∷ q ∷ []) (suc zero) a l = omega (arith, a.0.1)
used_less half (r ∷ q ∷ []) (suc (suc b)) a l = absurd (omega arith)
used_less half (r ∷ q ∷ s ∷ rows) (suc b) a l = omega (arith, used_cons half r (remove (q ∷ s ∷ rows) b) (omega (arith, length-remove (q ∷ s ∷ rows) b (omega arith))), used_less half (q ∷ s ∷ rows) b a.1 (omega arith))

-- a new last row behind a full one
pub used_push : {T : Type 0} (half : ℕ) (rows : List (List T)) (y : List T) → length y ≡ 1 → ((b : ℕ) → suc b ≡ length rows → length (row rows b) ≡ 2 * half) → used_room half (rows ++ y ∷ []) + half ≤ used_room half rows + 1
used_push half [] y e f = omega arith
used_push half (r ∷ []) y e f = omega (arith, f 0 (omega arith))
used_push half (r ∷ q ∷ rows) y e f = omega (arith, used_push half (q ∷ rows) y e (λ b h. f (suc b) (omega arith)))

pub empty_push : {T : Type 0} (pool : List (List T)) (y : List T) → AreEmpty pool → y ≡ [] → AreEmpty (pool ++ y ∷ [])
empty_push [] y a e = (e, a)
empty_push (p ∷ pool) y a e = (a.0, empty_push pool y a.1 e)

pub empty_last : {T : Type 0} (pool : List (List T)) (y : List T) → AreEmpty (pool ++ y ∷ []) → AreEmpty pool × (y ≡ [])
empty_last [] y a = (tt, a.0)
empty_last (p ∷ pool) y a = let k = empty_last pool y a.1 in ((a.0, k.0), k.1)

pub insert_last : {T : Type 0} (rows : List (List T)) (n : ℕ) (x : T) → n + 1 ≡ length rows → insert (row_items rows) (start rows n + length (row rows n)) x ≡ row_items rows ++ x ∷ []
insert_last rows n x e =
    let z : start rows n + length (row rows n) ≡ length (row_items rows) = omega (arith, start_more rows n (omega arith), start_all rows (n + 1) e) in
    ap (λ k. insert (row_items rows) k x) z ∙ insert_end (row_items rows) x

take_split : {T : Type 0} (rows : List (List T)) (b s : ℕ) → take b (split_row rows b s) ≡ take b rows
take_split [] b s = refl
take_split (r ∷ rows) zero s = refl
take_split (r ∷ rows) (suc b) s = ap (λ qs. r ∷ qs) (take_split rows b s)

drop_split : {T : Type 0} (rows : List (List T)) (b s : ℕ) → drop (b + 2) (split_row rows b s) ≡ drop (b + 1) rows
drop_split [] b s = drop_all (b + 2) [] (omega arith) ∙ sym (drop_all (b + 1) [] (omega arith))
drop_split (r ∷ rows) zero s = refl
drop_split (r ∷ rows) (suc b) s =
    let z : suc b + 2 ≡ suc (b + 2) = omega arith in
    let w : suc b + 1 ≡ suc (b + 1) = omega arith in
    ap (λ n. drop n (r ∷ split_row rows b s)) z ∙ drop_split rows b s ∙ ap (λ n. drop n (r ∷ rows)) (sym w)

-- an item that is put in: the row that it comes into, and its place among all
pub record Addition (T : Type 0) : Type 0 where
  pub row : ℕ
  pub place : ℕ
  pub item : T

-- what the rows are after an item is put into a full one that is cut
pub record IsAddedByCut {T : Type 0} (half : ℕ) (rows new : List (List T)) (added : Addition T) : Type 0 where
  pub front : take added.row new ≡ take added.row rows
  pub rest : drop (added.row + 2) new ≡ drop (added.row + 1) rows
  pub items : row_items new ≡ insert (row_items rows) added.place added.item
  pub short : AreShort half new
  pub used_room : used_room half new + half ≤ used_room half rows + 1
  pub len : length new ≡ length rows + 1

pub apart_left : {T : Type 0} (half : ℕ) (rows : List (List T)) (b i s : ℕ) (x : T) → b < length rows → length (row rows b) ≡ 2 * half → AreShort half rows → i < s → s ≡ half → IsAddedByCut half rows (set (split_row rows b s) b (insert (row (split_row rows b s) b) i x)) (record { row = b; place = start rows b + i; item = x })
apart_left half rows b i s x l h a k m =
    let mid = split_row rows b s in
    let e = left_row rows b s l in
    let n = length-take-le s (row rows b) (omega arith) in
    let long = length_split rows b s l in
    let y : length (insert (row mid b) i x) ≡ s + 1 = rw e (omega (arith, length-insert (take s (row rows b)) i x (omega arith))) in
    record {
      items = joined_set_insert mid b i x (omega arith) (rw e (omega arith)) ∙ ap (λ xs. insert xs (start mid b + i) x) (joined_split rows b s) ∙ ap (λ n. insert (row_items rows) (n + i) x) (left_start rows b s);
      short = short_left half rows b s (insert (row mid b) i x) a l (omega arith) (omega arith) (omega arith);
      used_room = used_left half rows b s (insert (row mid b) i x) l h (omega arith) (omega arith) (λ _. m) y;
      len = length-set mid b (insert (row mid b) i x) ∙ long;
      front = take-set-le b mid b (insert (row mid b) i x) (omega arith) ∙ take_split rows b s;
      rest = drop-set-lt (b + 2) mid b (insert (row mid b) i x) (omega arith) ∙ drop_split rows b s;
    }

pub apart_right : {T : Type 0} (half : ℕ) (rows : List (List T)) (b i s : ℕ) (x : T) → b < length rows → length (row rows b) ≡ 2 * half → AreShort half rows → s ≤ i → i ≤ length (row rows b) → 0 < half → half ≤ s → s ≤ 2 * half → (suc b < length rows → s ≡ half) → IsAddedByCut half rows (set (split_row rows b s) (b + 1) (insert (row (split_row rows b s) (b + 1)) (i - s) x)) (record { row = b; place = start rows b + i; item = x })
apart_right half rows b i s x l h a k w o m n u =
    let mid = split_row rows b s in
    let z : b + 1 ≡ suc b = omega arith in
    let e = right_row rows b s l in
    let d = length-drop s (row rows b) in
    let long = length_split rows b s l in
    let v : start mid (suc b) + (i - s) ≡ start rows b + i = omega (arith, right_start rows b s l (omega arith)) in
    let y : length (insert (row mid (suc b)) (i - s) x) + s ≡ 2 * half + 1 = rw e (omega (arith, length-insert (drop s (row rows b)) (i - s) x (omega arith))) in
    rw z (record {
      items = joined_set_insert mid (suc b) (i - s) x (omega arith) (rw e (omega arith)) ∙ ap (λ xs. insert xs (start mid (suc b) + (i - s)) x) (joined_split rows b s) ∙ ap (λ n. insert (row_items rows) n x) v;
      short = short_right half rows b s (insert (row mid (suc b)) (i - s) x) a l (omega arith) (omega arith) (omega arith) (omega arith);
      used_room = used_right half rows b s (insert (row mid (suc b)) (i - s) x) l h m n u y;
      len = length-set mid (suc b) (insert (row mid (suc b)) (i - s) x) ∙ long;
      front = take-set-le b mid (suc b) (insert (row mid (suc b)) (i - s) x) (omega arith) ∙ take_split rows b s;
      rest = drop-set-lt (b + 2) mid (suc b) (insert (row mid (suc b)) (i - s) x) (omega arith) ∙ drop_split rows b s;
    })

pub split_last : (b n : ℕ) → suc b < n → eqb (b + 1) n ≡ false
split_last b n l = grind (arith, nat_tests)

pub one_gone : {T : Type 0} (r : List T) (i : ℕ) → length r ≤ 1 → i < length r → remove r i ≡ []
one_gone [] i l k = absurd (omega arith)
one_gone (x ∷ []) zero l k = refl
one_gone (x ∷ []) (suc i) l k = absurd (omega arith)
one_gone (x ∷ y ∷ r) i l k = absurd (omega arith)

-- whole rows go, the last one first
pub less_rows : {T : Type 0} (rows : List (List T)) (k to : ℕ) → k < to → to ≤ length rows → remove (take (suc k) rows ++ drop to rows) k ≡ take k rows ++ drop to rows
less_rows [] k to l h = absurd (omega arith)
less_rows (r ∷ rows) zero zero l h = absurd (omega arith)
less_rows (r ∷ rows) zero (suc to) l h = refl
less_rows (r ∷ rows) (suc k) zero l h = absurd (omega arith)
less_rows (r ∷ rows) (suc k) (suc to) l h = ap (λ qs. r ∷ qs) (less_rows rows k to (omega arith) (omega arith))

pub less_items : {T : Type 0} (rows : List (List T)) (k : ℕ) (r : List T) → k < length rows → r ≡ get_or rows k r → length (row_items (remove rows k)) + length r ≡ length (row_items rows)
less_items [] k r l e = absurd (omega arith)
less_items (q ∷ rows) zero r l e = omega (arith, ap length e, length-append q (row_items rows))
less_items (q ∷ rows) (suc k) r l e = omega (arith, less_items rows k r (omega arith) e, length-append q (row_items (remove rows k)), length-append q (row_items rows))

row_within : {T : Type 0} (rows : List (List T)) (b : ℕ) → b < length rows → start rows b + length (row rows b) ≤ length (row_items rows)
row_within [] b l = absurd (omega arith)
row_within (r ∷ rows) zero l = omega (arith, length-append r (row_items rows))
row_within (r ∷ rows) (suc b) l = omega (arith, length-append r (row_items rows), row_within rows b (omega arith))

pub inserted : {T : Type 0} (rows : List (List T)) (b i : ℕ) (x : T) → b < length rows → i ≤ length (row rows b) → length (insert (row_items rows) (start rows b + i) x) ≡ length (row_items rows) + 1
inserted rows b i x l k = length-insert (row_items rows) (start rows b + i) x (omega (arith, row_within rows b l))

pub removed : {T : Type 0} (rows : List (List T)) (b i : ℕ) → b < length rows → i < length (row rows b) → length (remove (row_items rows) (start rows b + i)) + 1 ≡ length (row_items rows)
removed rows b i l k = length-remove (row_items rows) (start rows b + i) (omega (arith, row_within rows b l))

-- ---- one item

pub get_at : {T : Type 0} (rows : List (List T)) (b i : ℕ) (d : T) → b < length rows → i < length (row rows b) → get_or (row_items rows) (start rows b + i) d ≡ get_or (row rows b) i d
get_at [] b i d l k = absurd (omega arith)
get_at (r ∷ rows) zero i d l k = let z : 0 + i ≡ i = omega arith in ap (λ n. get_or (r ++ row_items rows) n d) z ∙ get_or_append_left r (row_items rows) d i k
get_at (r ∷ rows) (suc b) i d l k =
    let z : length r + start rows b + i ≡ length r + (start rows b + i) = omega arith in
    ap (λ n. get_or (r ++ row_items rows) n d) z ∙ get_or-append-add r (row_items rows) (start rows b + i) d ∙ get_at rows b i d (omega arith) k

pub joined_set_set : {T : Type 0} (rows : List (List T)) (b i : ℕ) (x : T) → b < length rows → i < length (row rows b) → row_items (set rows b (set (row rows b) i x)) ≡ set (row_items rows) (start rows b + i) x
joined_set_set [] b i x l k = absurd (omega arith)
joined_set_set (r ∷ rows) zero i x l k = let z : 0 + i ≡ i = omega arith in rw z (sym (set-append_left r (row_items rows) i x k))
joined_set_set (r ∷ rows) (suc b) i x l k =
    let n : (length r + start rows b + i) - length r ≡ start rows b + i = omega arith in
    ap (λ xs. r ++ xs) (joined_set_set rows b i x (omega arith) k ∙ ap (λ n. set (row_items rows) n x) (sym n)) ∙ sym (set-append_right r (row_items rows) (length r) (length r + start rows b + i) x refl (omega arith))
