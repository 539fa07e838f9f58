-- Where rows start, after items came or went.
use Rattle.std.proofs.Common.{◌≡◌, ◌∙◌, ◌⊎◌, inl, inr, ℕ, zero, suc, ◌+◌, ◌-◌, ◌<◌, ◌≤◌, List, [], ◌∷◌, ◌++◌, length, get_or, set, take, drop, refl, sym, ap, arith, length-append}
use Rattle.std.proofs.lemmas.List.{take-append-le, drop-append-le, take-take, drop_more, take_more, take_more_set, drop-set-lt, drop_all}
use Rattle.mse_base.specs.Rows.{row_items, start, row}
use Rattle.block_list.specs.Starts.{starts_from, starts_of, plus_each, AreStartsUpTo}
use Rattle.block_list.proofs.RowItems.{start_more, start_all}
use Rattle.block_list.proofs.RemovedStretch.{gone_front, gone_back, gone_count, row_count}

pub length_starts : {T : Type 0} (n : ℕ) (rows : List (List T)) → length (starts_from n rows) ≡ length rows
length_starts n [] = refl
length_starts n (r ∷ rows) = ap suc (length_starts (n + length r) rows)

pub start_at : {T : Type 0} (n : ℕ) (rows : List (List T)) (b d : ℕ) → b < length rows → get_or (starts_from n rows) b d ≡ n + start rows b
start_at n [] b d l = absurd (omega arith)
start_at n (r ∷ rows) zero d l = omega arith
start_at n (r ∷ rows) (suc b) d l = omega (arith, start_at (n + length r) rows b d (omega arith))

pub drop_starts : {T : Type 0} (n : ℕ) (rows : List (List T)) (b : ℕ) → b ≤ length rows → drop b (starts_from n rows) ≡ starts_from (n + start rows b) (drop b rows)
drop_starts n rows zero l = let z : n ≡ n + 0 = omega arith in ap (λ k. starts_from k rows) z
drop_starts n [] (suc b) l = absurd (omega arith)
drop_starts n (r ∷ rows) (suc b) l =
    let z : (n + length r) + start rows b ≡ n + (length r + start rows b) = omega arith in
    drop_starts (n + length r) rows b (omega arith) ∙ ap (λ k. starts_from k (drop b rows)) z

pub take_starts : {T : Type 0} (n : ℕ) (rows : List (List T)) (b : ℕ) → take b (starts_from n rows) ≡ starts_from n (take b rows)
take_starts n rows zero = refl
take_starts n [] (suc b) = refl
take_starts n (r ∷ rows) (suc b) = ap (λ ns. n ∷ ns) (take_starts (n + length r) rows b)

head_of : {A : Type 0} (x y : A) (xs ys : List A) → x ∷ xs ≡ y ∷ ys → x ≡ y
head_of x y xs ys e = cc

tail_of : {A : Type 0} (x y : A) (xs ys : List A) → x ∷ xs ≡ y ∷ ys → xs ≡ ys
tail_of x y xs ys e = cc

-- rows of which the last alone differ
pub same_starts : {T : Type 0} (n : ℕ) (xs ys : List (List T)) → length xs ≡ length ys → take (length xs - 1) xs ≡ take (length xs - 1) ys → starts_from n xs ≡ starts_from n ys
same_starts n [] [] l e = refl
same_starts n [] (y ∷ ys) l e = absurd (omega arith)
same_starts n (x ∷ xs) [] l e = absurd (omega arith)
same_starts n (x ∷ []) (y ∷ []) l e = refl
same_starts n (x ∷ []) (y ∷ z ∷ ys) l e = absurd (omega arith)
same_starts n (x ∷ w ∷ xs) (y ∷ []) l e = absurd (omega arith)
same_starts n (x ∷ w ∷ xs) (y ∷ z ∷ ys) l e =
    let k : suc (suc (length xs)) - 1 ≡ suc (length xs) = omega arith in
    let j : suc (length xs) - 1 ≡ length xs = omega arith in
    let f : x ∷ take (length xs) (w ∷ xs) ≡ y ∷ take (length xs) (z ∷ ys) = ap (λ m. take m (x ∷ w ∷ xs)) (sym k) ∙ e ∙ ap (λ m. take m (y ∷ z ∷ ys)) k in
    let rest = ap (λ m. take m (w ∷ xs)) j ∙ tail_of _ _ _ _ f ∙ ap (λ m. take m (z ∷ ys)) (sym j) in
    ap (λ r. n ∷ starts_from (n + length r) (w ∷ xs)) (head_of _ _ _ _ f) ∙ ap (λ ns. n ∷ ns) (same_starts (n + length y) (w ∷ xs) (z ∷ ys) (omega arith) rest)

-- a row more
pub more_starts : {T : Type 0} (n : ℕ) (xs ys : List (List T)) → length ys ≡ length xs + 1 → take (length xs) ys ≡ take (length xs) xs → starts_from n ys ≡ starts_from n xs ++ (n + length (row_items xs)) ∷ []
more_starts n xs [] l e = absurd (omega arith)
more_starts n [] (y ∷ []) l e = let z : n ≡ n + 0 = omega arith in ap (λ k. k ∷ []) z
more_starts n [] (y ∷ z ∷ ys) l e = absurd (omega arith)
more_starts n (x ∷ xs) (y ∷ ys) l e =
    let z : (n + length x) + length (row_items xs) ≡ n + length (x ++ row_items xs) = omega (arith, length-append x (row_items xs)) in
    ap (λ r. n ∷ starts_from (n + length r) ys) (head_of _ _ _ _ e) ∙ ap (λ ns. n ∷ ns) (more_starts (n + length x) xs ys (omega arith) (tail_of _ _ _ _ e)) ∙ ap (λ k. (n ∷ starts_from (n + length x) xs) ++ k ∷ []) z

pub start_rest : {T : Type 0} (rows : List (List T)) (b : ℕ) → b ≤ length rows → start rows b + length (row_items (drop b rows)) ≡ length (row_items rows)
start_rest rows zero l = omega arith
start_rest [] (suc b) l = absurd (omega arith)
start_rest (r ∷ rows) (suc b) l = omega (arith, start_rest rows b (omega arith), length-append r (row_items rows))

pub start_front : {T : Type 0} (xs ys : List (List T)) (b : ℕ) → b ≤ length xs → b ≤ length ys → take b xs ≡ take b ys → start xs b ≡ start ys b
start_front xs ys zero k l e = refl
start_front [] ys (suc b) k l e = absurd (omega arith)
start_front (x ∷ xs) [] (suc b) k l e = absurd (omega arith)
start_front (x ∷ xs) (y ∷ ys) (suc b) k l e = ap (λ r. length r + start xs b) (head_of _ _ _ _ e) ∙ ap (λ m. length y + m) (start_front xs ys b (omega arith) (omega arith) (tail_of _ _ _ _ e))

pub start_before : {T : Type 0} (rows : List (List T)) (b c : ℕ) → b < c → c ≤ length rows → start rows b + length (row rows b) ≤ start rows c
start_before [] b c l k = absurd (omega arith)
start_before (r ∷ rows) b zero l k = absurd (omega arith)
start_before (r ∷ rows) zero (suc c) l k = omega arith
start_before (r ∷ rows) (suc b) (suc c) l k = omega (arith, start_before rows b c (omega arith) (omega arith))

pub starts_set : {T : Type 0} (n : ℕ) (rows : List (List T)) (b : ℕ) (y : List T) → length y ≡ length (row rows b) → starts_from n (set rows b y) ≡ starts_from n rows
starts_set n [] b y l = refl
starts_set n (r ∷ rows) zero y l = ap (λ k. n ∷ starts_from (n + k) rows) l
starts_set n (r ∷ rows) (suc b) y l = ap (λ ns. n ∷ ns) (starts_set (n + length r) rows b y l)

pub some_rows : {T : Type 0} (rows : List (List T)) (k : ℕ) → k < length (row_items rows) → 0 < length rows
some_rows [] k l = absurd (omega arith)
some_rows (r ∷ rows) k l = omega arith

pub first_start : {T : Type 0} (rows : List (List T)) → get_or (starts_of rows) 0 0 ≡ 0
first_start [] = refl
first_start (r ∷ rows) = refl

one_more : (b n : ℕ) → (b + 1 < n) ⊎ (n ≤ b + 1)
one_more b n = grind arith

-- the block of an item is the last that starts with no item behind it
pub item_in : {T : Type 0} (rows : List (List T)) (b k : ℕ) → b < length rows → k < length (row_items rows) → (b + 1 < length rows → k < start rows (b + 1)) → k < start rows b + length (row rows b)
item_in rows b k l all h = elim (one_more b (length rows)) as (λ _. k < start rows b + length (row rows b)) [
  | inl more ↦ omega (arith, h more, start_more rows b l)
  | inr less ↦ let e : b + 1 ≡ length rows = omega arith in omega (arith, start_all rows (b + 1) e, start_more rows b l, all)
]

-- ---- starts as they are kept

plus_get : (x : ℕ) (us : List ℕ) (b d : ℕ) → b < length us → get_or (plus_each x us) b d ≡ get_or us b d + x
plus_get x [] b d l = absurd (omega arith)
plus_get x (u ∷ us) zero d l = refl
plus_get x (u ∷ us) (suc b) d l = plus_get x us b d (omega arith)

-- a start that is kept too great
pub kept_high : (ks us : List ℕ) (s x b d : ℕ) → s ≤ b → b < length ks → b < length us → drop s ks ≡ plus_each x (drop s us) → get_or ks b d ≡ get_or us b d + x
kept_high ks us zero x b d o k l e = ap (λ ns. get_or ns b d) e ∙ plus_get x us b d l
kept_high [] us (suc s) x b d o k l e = absurd (omega arith)
kept_high (k ∷ ks) [] (suc s) x b d o m l e = absurd (omega arith)
kept_high (k ∷ ks) (u ∷ us) (suc s) x zero d o m l e = absurd (omega arith)
kept_high (k ∷ ks) (u ∷ us) (suc s) x (suc b) d o m l e = kept_high ks us s x b d (omega arith) (omega arith) (omega arith) e

-- a start that is settled
pub kept_low : (ks us : List ℕ) (s b d : ℕ) → b < s → b < length ks → b < length us → take s ks ≡ take s us → get_or ks b d ≡ get_or us b d
kept_low ks us zero b d o k l e = absurd (omega arith)
kept_low [] us (suc s) b d o k l e = absurd (omega arith)
kept_low (k ∷ ks) [] (suc s) b d o m l e = absurd (omega arith)
kept_low (k ∷ ks) (u ∷ us) (suc s) zero d o m l e = head_of _ _ _ _ e
kept_low (k ∷ ks) (u ∷ us) (suc s) (suc b) d o m l e = kept_low ks us s b d (omega arith) (omega arith) (omega arith) (tail_of _ _ _ _ e)

pub written_front : (ks us : List ℕ) (b x : ℕ) → b < length ks → b < length us → x ≡ get_or us b x → take b ks ≡ take b us → take (b + 1) (set ks b x) ≡ take (b + 1) us
written_front ks us b x k l at f =
    take_more_set ks b x k ∙ ap (λ ns. ns ++ x ∷ []) f ∙ ap (λ m. take b us ++ m ∷ []) at ∙ sym (take_more us b x l)

lower_split : (ks us : List ℕ) (b x d : ℕ) → b < length ks → b < length us → drop b ks ≡ plus_each x (drop b us) → get_or ks b d ∷ drop (b + 1) ks ≡ (get_or us b d + x) ∷ plus_each x (drop (b + 1) us)
lower_split ks us b x d k l e = sym (drop_more ks b d k) ∙ e ∙ ap (plus_each x) (drop_more us b d l)

pub lower_rest : (ks us : List ℕ) (b x y : ℕ) → b < length ks → b < length us → drop b ks ≡ plus_each x (drop b us) → drop (b + 1) (set ks b y) ≡ plus_each x (drop (b + 1) us)
lower_rest ks us b x y k l e = drop-set-lt (b + 1) ks b y (omega arith) ∙ tail_of _ _ _ _ (lower_split ks us b x y k l e)

set_here : (ks : List ℕ) (i y : ℕ) → i < length ks → drop i (set ks i y) ≡ y ∷ drop (i + 1) ks
set_here [] i y l = absurd (omega arith)
set_here (k ∷ ks) zero y l = refl
set_here (k ∷ ks) (suc i) y l = let z : suc i + 1 ≡ suc (i + 1) = omega arith in set_here ks i y (omega arith) ∙ ap (λ n. y ∷ drop n (k ∷ ks)) (sym z)

set_before : (ks : List ℕ) (i y : ℕ) → take i (set ks i y) ≡ take i ks
set_before ks zero y = refl
set_before [] (suc i) y = refl
set_before (k ∷ ks) (suc i) y = ap (λ ns. k ∷ ns) (set_before ks i y)

pub raise_front : (ks us : List ℕ) (b m y : ℕ) → b ≤ m → take m ks ≡ take m us → take b (set ks b y) ≡ take b us
raise_front ks us b m y l e = set_before ks b y ∙ sym (take-take b m ks l) ∙ ap (take b) e ∙ take-take b m us l

pub raise_rest : (ks us : List ℕ) (b m x y : ℕ) → m ≡ b + 1 → b < length ks → b < length us → y ≡ get_or us b y + x → drop m ks ≡ plus_each x (drop m us) → drop b (set ks b y) ≡ plus_each x (drop b us)
raise_rest ks us b m x y z k l at e =
    set_here ks b y k ∙ ap (λ n. y ∷ drop n ks) (sym z) ∙ ap (λ ns. y ∷ ns) e ∙ ap (λ n. y ∷ plus_each x (drop n us)) z ∙ ap (λ h. h ∷ plus_each x (drop (b + 1) us)) at ∙ sym (ap (plus_each x) (drop_more us b y l))

pub none_behind : (ks us : List ℕ) (b x : ℕ) → length ks ≤ b → length us ≤ b → drop b ks ≡ plus_each x (drop b us)
none_behind ks us b x l m = drop_all b ks l ∙ sym (ap (plus_each x) (drop_all b us m))

plus_append : (x : ℕ) (us vs : List ℕ) → plus_each x (us ++ vs) ≡ plus_each x us ++ plus_each x vs
plus_append x [] vs = refl
plus_append x (u ∷ us) vs = ap (λ ns. (u + x) ∷ ns) (plus_append x us vs)

pub kept_more : (ks us vs : List ℕ) (s x n : ℕ) → AreStartsUpTo ks s x us → vs ≡ us ++ n ∷ [] → AreStartsUpTo (ks ++ (n + x) ∷ []) s x vs
kept_more ks us vs s x n h e = rw e (record {
  long = omega (arith, length-append ks ((n + x) ∷ []), length-append us (n ∷ []), h.long);
  within = omega (arith, length-append us (n ∷ []), h.within);
  front = take-append-le s ks ((n + x) ∷ []) (omega (arith, h.long, h.within)) ∙ h.front ∙ sym (take-append-le s us (n ∷ []) h.within);
  rest = drop-append-le s ks ((n + x) ∷ []) (omega (arith, h.long, h.within)) ∙ ap (λ ns. ns ++ (n + x) ∷ []) h.rest ∙ sym (plus_append x (drop s us) (n ∷ [])) ∙ ap (plus_each x) (sym (drop-append-le s us (n ∷ []) h.within));
  none = λ z. absurd (omega (arith, length-append us (n ∷ []), h.within));
})

plus_twice : (x y : ℕ) (us : List ℕ) → plus_each x (plus_each y us) ≡ plus_each (y + x) us
plus_twice x y [] = refl
plus_twice x y (u ∷ us) =
    let z : (u + y) + x ≡ u + (y + x) = omega arith in
    ap (λ n. n ∷ plus_each x (plus_each y us)) z ∙ ap (λ ns. (u + (y + x)) ∷ ns) (plus_twice x y us)

shifted : {T : Type 0} (n x : ℕ) (rows : List (List T)) → starts_from (n + x) rows ≡ plus_each x (starts_from n rows)
shifted n x [] = refl
shifted n x (r ∷ rows) =
    let z : (n + x) + length r ≡ (n + length r) + x = omega arith in
    ap (λ k. (n + x) ∷ starts_from k rows) z ∙ ap (λ ns. (n + x) ∷ ns) (shifted (n + length r) x rows)

-- ---- a removal

ranks_in_order : {T : Type 0} (rows : List (List T)) (fb fi tb ti : ℕ) → fb ≤ tb → tb < length rows → fi < length (row rows fb) → (fb ≡ tb → fi ≤ ti) → start rows fb + fi ≤ start rows tb + ti
ranks_in_order [] fb fi tb ti o l k h = absurd (omega arith)
ranks_in_order (r ∷ rows) zero fi zero ti o l k h = omega (arith, h refl)
ranks_in_order (r ∷ rows) zero fi (suc tb) ti o l k h = omega arith
ranks_in_order (r ∷ rows) (suc fb) fi zero ti o l k h = absurd (omega arith)
ranks_in_order (r ∷ rows) (suc fb) fi (suc tb) ti o l k h = omega (arith, ranks_in_order rows fb fi tb ti (omega arith) (omega arith) k (λ e. h (ap suc e)))

pub few_left : {T : Type 0} (old : List (List T)) (new : List T) (fb fi tb ti : ℕ) → fb ≤ tb → tb < length old → fi < length (row old fb) → ti ≤ length (row old tb) → (fb ≡ tb → fi ≤ ti) → new ≡ take (start old fb + fi) (row_items old) ++ drop (start old tb + ti) (row_items old) → length new ≤ length (row_items old)
few_left old new fb fi tb ti o l i j h e =
    omega (arith, gone_count (row_items old) new (start old fb + fi) (start old tb + ti) (ranks_in_order old fb fi tb ti o l i h) (omega (arith, row_count old tb l)) e)

pub front_left : {T : Type 0} (ks one : List ℕ) (old new : List (List T)) (b rest behind : ℕ) → length ks ≡ length old → take behind ks ≡ take behind (starts_of old) → one ≡ take rest ks ++ drop behind ks → b ≤ rest → rest ≤ behind → rest ≤ length old → take b new ≡ take b old → take b one ≡ take b (starts_of new)
front_left ks one old new b rest behind n e f o p l h =
    gone_front ks one b rest behind o (omega arith) f ∙ sym (take-take b behind ks (omega arith)) ∙ ap (take b) e ∙ take-take b behind (starts_of old) (omega arith) ∙ take_starts 0 old b ∙ ap (starts_from 0) (sym h) ∙ sym (take_starts 0 new b)

-- what is kept behind a removal is too great by what went, and by what it was
pub rest_left : {T : Type 0} (ks one two : List ℕ) (old new : List (List T)) (rest behind x gone : ℕ) → length ks ≡ length old → drop behind ks ≡ plus_each x (drop behind (starts_of old)) → one ≡ take rest ks ++ drop behind ks → drop rest two ≡ drop rest one → rest ≤ length new → rest ≤ length old → behind ≤ length old → drop rest new ≡ drop behind old → length (row_items old) ≡ length (row_items new) + gone → drop rest two ≡ plus_each (gone + x) (drop rest (starts_of new))
rest_left ks one two old new rest behind x gone n e f h l m k r t =
    let same = ap (λ rows. length (row_items rows)) r in
    let z : 0 + start old behind ≡ (0 + start new rest) + gone = omega (arith, start_rest old behind k, start_rest new rest l) in
    let there = drop_starts 0 old behind k ∙ ap (λ j. starts_from j (drop behind old)) z ∙ ap (starts_from ((0 + start new rest) + gone)) (sym r) ∙ shifted (0 + start new rest) gone (drop rest new) ∙ ap (plus_each gone) (sym (drop_starts 0 new rest l)) in
    h ∙ gone_back ks one rest behind rest behind (omega arith) (omega arith) (omega arith) f ∙ e ∙ ap (plus_each x) there ∙ plus_twice x gone (drop rest (starts_of new))

here_or_none : (b n : ℕ) → (b < n) ⊎ (n ≤ b)
here_or_none b n = grind arith

-- the excess is what the first start that is not settled has beyond the true one
pub kept_rest : (ks us : List ℕ) (b x y count : ℕ) → length ks ≡ length us → drop b ks ≡ plus_each x (drop b us) → (b < length us → get_or us b 0 ≡ count) → (b < length ks → get_or ks b 0 ≡ count + y) → drop b ks ≡ plus_each y (drop b us)
kept_rest ks us b x y count n e c h = elim (here_or_none b (length us)) as (λ _. drop b ks ≡ plus_each y (drop b us)) [
  | inl here ↦ let same : x ≡ y = omega (arith, kept_high ks us b x b 0 (omega arith) (omega arith) here e, c here, h (omega arith)) in e ∙ ap (λ k. plus_each k (drop b us)) same
  | inr none ↦ none_behind ks us b y (omega arith) none
]
