-- The greatest ends of blocks, and their running ends.
use Rattle.std.proofs.Common.{◌≡◌, ◌∙◌, ℕ, zero, suc, ℤ, ◌+◌, ◌-◌, ◌<◌, ◌≤◌, ◌≤ℤ◌, cond, Bool, true, false, ◌||◌, List, [], ◌∷◌, ◌++◌, length, get_or, set, take, drop, insert, Option, Some, None, refl, sym, ap, subst, inl, inr, ◌⊎◌, arith, fold, map, int_le}
use Rattle.std.specs.Int.{int_max}
use Rattle.std.specs.List.{AllByRecursion, list_any}
use Rattle.std.specs.Option.{option_eq}
use Rattle.std.specs.Ordering.{int_eq}
use Rattle.std.proofs.lemmas.Int.{ints}
use Rattle.std.proofs.lemmas.List.{drop_more, drop_all, drop-drop, take_more, take-append-drop, take_more_set, drop-set-lt, append_assoc, append-nil, map-append}
use Rattle.std.proofs.lemmas.List.Sums.{fold-append}
use Rattle.mse_base.specs.Moments.{greater_of, greatest, greatest_of_two}
use Rattle.mse_base.specs.Rows.{row_items, row}
use Rattle.track_index.specs.declared.entry.OrderEntry.{OrderEntry}
use Rattle.track_index.specs.declared.known.Known.{Known}
use Rattle.track_index.specs.Order.{end_of, is_in_entry, is_ended, last_that, or_else}
use Rattle.track_index.specs.Known.{is_sync, greatest_end, known_of}
use Rattle.track_index.specs.Tops.{running_ends, tops_of, AreTopsFrom}

-- ---- the later of two ends

max_assoc : (a b c : ℤ) → int_max (int_max a b) c ≡ int_max a (int_max b c)
max_assoc a b c = grind (arith, ints)

max_comm : (a b : ℤ) → int_max a b ≡ int_max b a
max_comm a b = grind (arith, ints)

pub later_assoc : (a b c : Option ℤ) → greatest_of_two (greatest_of_two a b) c ≡ greatest_of_two a (greatest_of_two b c)
later_assoc None b c = refl
later_assoc (Some a) None c = refl
later_assoc (Some a) (Some b) None = refl
later_assoc (Some a) (Some b) (Some c) = ap (λ z. Some z) (max_assoc a b c)

pub later_comm : (a b : Option ℤ) → greatest_of_two a b ≡ greatest_of_two b a
later_comm None None = refl
later_comm None (Some b) = refl
later_comm (Some a) None = refl
later_comm (Some a) (Some b) = ap (λ z. Some z) (max_comm a b)

later_none : (a : Option ℤ) → greatest_of_two a None ≡ a
later_none None = refl
later_none (Some a) = refl

pub greater_is : (a : Option ℤ) (t : ℤ) → greater_of a t ≡ greatest_of_two a (Some t)
greater_is None t = refl
greater_is (Some s) t = refl

fold_later : (a : Option ℤ) (ts : List ℤ) → fold greater_of a ts ≡ greatest_of_two a (greatest ts)
fold_later a [] = sym (later_none a)
fold_later a (t ∷ ts) =
    fold_later (greater_of a t) ts ∙ ap (λ z. greatest_of_two z (greatest ts)) (greater_is a t) ∙ later_assoc a (Some t) (greatest ts) ∙ ap (greatest_of_two a) (sym (fold_later (Some t) ts))

pub greatest-append : (xs ys : List OrderEntry) → greatest_end (xs ++ ys) ≡ greatest_of_two (greatest_end xs) (greatest_end ys)
greatest-append xs ys =
    ap greatest (map-append end_of xs ys) ∙ fold-append greater_of None (map end_of xs) (map end_of ys) ∙ fold_later (greatest_end xs) (map end_of ys)

pub greatest_more : (os : List OrderEntry) (i : ℕ) (x : OrderEntry) → i < length os → x ≡ get_or os i x → greatest_of_two (greatest_end (take i os)) (Some (end_of x)) ≡ greatest_end (take (i + 1) os)
greatest_more os i x l at =
    sym (greatest-append (take i os) (x ∷ [])) ∙ ap greatest_end (ap (λ z. take i os ++ z ∷ []) at ∙ sym (take_more os i x l))

-- one item more among some
pub greatest_with : (xs ys : List OrderEntry) (x : OrderEntry) → greatest_of_two (greatest_end (xs ++ ys)) (Some (end_of x)) ≡ greatest_end (xs ++ x ∷ ys)
greatest_with xs ys x =
    let a = greatest_end xs in let b = greatest_end ys in let c = Some (end_of x) in
    let here : greatest_end (x ∷ ys) ≡ greatest_of_two (Some (end_of x)) (greatest_end ys) = greatest-append (x ∷ []) ys in
    ap (λ z. greatest_of_two z (Some (end_of x))) (greatest-append xs ys) ∙ later_assoc (greatest_end xs) (greatest_end ys) (Some (end_of x)) ∙ ap (greatest_of_two (greatest_end xs)) (later_comm (greatest_end ys) (Some (end_of x)) ∙ sym here) ∙ sym (greatest-append xs (x ∷ ys))

or_turn : (a b c : Bool) → ((a || b) || c) ≡ (a || (c || b))
or_turn true b c = refl
or_turn false true true = refl
or_turn false true false = refl
or_turn false false true = refl
or_turn false false false = refl

or_assoc : (a b c : Bool) → ((a || b) || c) ≡ (a || (b || c))
or_assoc true b c = refl
or_assoc false b c = refl

pub any-append : {X : Type 0} (p : X → Bool) (xs ys : List X) → list_any p (xs ++ ys) ≡ (list_any p xs || list_any p ys)
any-append p [] ys = refl
any-append p (x ∷ xs) ys = ap (λ b. p x || b) (any-append p xs ys) ∙ sym (or_assoc (p x) (list_any p xs) (list_any p ys))

pub any_with : {X : Type 0} (p : X → Bool) (xs ys : List X) (x : X) → (list_any p (xs ++ ys) || p x) ≡ list_any p (xs ++ x ∷ ys)
any_with p xs ys x = ap (λ b. b || p x) (any-append p xs ys) ∙ or_turn (list_any p xs) (list_any p ys) (p x) ∙ sym (any-append p xs (x ∷ ys))

pub known_with : (known : Known) (xs ys : List OrderEntry) (x : OrderEntry) (end : Option ℤ) (sync : Bool) → known ≡ known_of (xs ++ ys) → end ≡ greatest_of_two known.end (Some (end_of x)) → sync ≡ (known.sync || x.sync) → record { end = end; sync = sync } ≡ known_of (xs ++ x ∷ ys)
known_with known xs ys x end sync k e s =
    let a : end ≡ greatest_end (xs ++ x ∷ ys) = e ∙ ap (λ (z : Known). greatest_of_two z.end (Some (end_of x))) k ∙ greatest_with xs ys x in
    let b : sync ≡ list_any is_sync (xs ++ x ∷ ys) = s ∙ ap (λ (z : Known). z.sync || x.sync) k ∙ any_with is_sync xs ys x in
    ap (λ z. record { end = z; sync = sync }) a ∙ ap (λ z. record { end = greatest_end (xs ++ x ∷ ys); sync = z }) b

-- ---- what the running ends are

pub length_running_ends : (best : Option ℤ) (rows : List (List OrderEntry)) → length (running_ends best rows) ≡ length rows
length_running_ends best [] = refl
length_running_ends best (r ∷ rows) = ap suc (length_running_ends (greatest_of_two best (greatest_end r)) rows)

top_is : (best : Option ℤ) (rows : List (List OrderEntry)) (i : ℕ) (d : Option ℤ) → i < length rows → get_or (running_ends best rows) i d ≡ greatest_of_two best (greatest_end (row_items (take (suc i) rows)))
top_is best [] i d l = absurd (omega arith)
top_is best (r ∷ rows) zero d l = ap (λ q. greatest_of_two best (greatest_end q)) (sym (append-nil r))
top_is best (r ∷ rows) (suc i) d l =
    top_is (greatest_of_two best (greatest_end r)) rows i d (omega arith) ∙ later_assoc best (greatest_end r) (greatest_end (row_items (take (suc i) rows))) ∙ ap (greatest_of_two best) (sym (greatest-append r (row_items (take (suc i) rows))))

pub top_at : (ts : List (Option ℤ)) (rows : List (List OrderEntry)) (b : ℕ) (d : Option ℤ) → ts ≡ tops_of rows → 0 < b → b ≤ length rows → get_or ts (b - 1) d ≡ greatest_end (row_items (take b rows))
top_at ts rows zero d e p l = absurd (omega arith)
top_at ts rows (suc b) d e p l = let k : suc b - 1 ≡ b = omega arith in ap (λ n. get_or ts n d) k ∙ ap (λ q. get_or q b d) e ∙ top_is None rows b d (omega arith)

pub top_of : (ts : List (Option ℤ)) (rows : List (List OrderEntry)) (b : ℕ) (r : Option ℤ) → ts ≡ tops_of rows → b ≤ length rows → (b ≡ 0 → r ≡ None) → (0 < b → r ≡ get_or ts (b - 1) r) → r ≡ greatest_end (row_items (take b rows))
top_of ts rows zero r e l z p = z refl
top_of ts rows (suc b) r e l z p = p (omega arith) ∙ top_at ts rows (suc b) r e (omega arith) l

-- ---- the ends after rows changed

row_drop : (rows : List (List OrderEntry)) (i : ℕ) → i < length rows → drop i rows ≡ row rows i ∷ drop (i + 1) rows
row_drop [] i l = absurd (omega arith)
row_drop (r ∷ rows) zero l = refl
row_drop (r ∷ rows) (suc i) l = let z : suc i + 1 ≡ suc (i + 1) = omega arith in row_drop rows i (omega arith) ∙ ap (λ n. row rows i ∷ drop n (r ∷ rows)) (sym z)

drop_running_ends : (best : Option ℤ) (rows : List (List OrderEntry)) (i : ℕ) (d : Option ℤ) → i < length rows → drop (suc i) (running_ends best rows) ≡ running_ends (get_or (running_ends best rows) i d) (drop (suc i) rows)
drop_running_ends best [] i d l = absurd (omega arith)
drop_running_ends best (r ∷ rows) zero d l = refl
drop_running_ends best (r ∷ rows) (suc i) d l = drop_running_ends (greatest_of_two best (greatest_end r)) rows i d (omega arith)

same_at : (xs ys : List (Option ℤ)) (n i : ℕ) (d : Option ℤ) → take n xs ≡ take n ys → i < n → i < length xs → i < length ys → get_or xs i d ≡ get_or ys i d
same_at xs ys zero i d e l p q = absurd (omega arith)
same_at [] ys (suc n) i d e l p q = absurd (omega arith)
same_at (x ∷ xs) [] (suc n) i d e l p q = absurd (omega arith)
same_at (x ∷ xs) (y ∷ ys) (suc n) zero d e l p q = cc
same_at (x ∷ xs) (y ∷ ys) (suc n) (suc i) d e l p q = let f : take n xs ≡ take n ys = cc in same_at xs ys n i d f (omega arith) (omega arith) (omega arith)

-- the ends up to a place and the running ends from there on
pub follow_init : (ts : List (Option ℤ)) (rows : List (List OrderEntry)) (n : ℕ) (best : Option ℤ) → (n ≡ 0 → best ≡ None) → (0 < n → best ≡ get_or ts (n - 1) best) → n ≤ length rows → length ts ≡ length rows → take n ts ≡ take n (tops_of rows) → take n ts ++ running_ends best (drop n rows) ≡ tops_of rows
follow_init ts rows zero best z p l m h = ap (λ b. running_ends b rows) (z refl)
follow_init ts rows (suc n) best z p l m h =
    let k : suc n - 1 ≡ n = omega arith in
    let long = length_running_ends None rows in
    let b : best ≡ get_or (tops_of rows) n best = p (omega arith) ∙ ap (λ i. get_or ts i best) k ∙ same_at ts (tops_of rows) (suc n) n best h (omega arith) (omega arith) (omega arith) in
    ap (λ c. take (suc n) ts ++ running_ends c (drop (suc n) rows)) b ∙ ap (λ zs. zs ++ running_ends (get_or (tops_of rows) n best) (drop (suc n) rows)) h
    ∙ ap (λ zs. take (suc n) (tops_of rows) ++ zs) (sym (drop_running_ends None rows n best (omega arith))) ∙ take-append-drop (suc n) (tops_of rows)

head_same : (s t : Option ℤ) (ss ts : List (Option ℤ)) → s ∷ ss ≡ t ∷ ts → s ≡ t
head_same s t ss ts e = cc

tail_same : (s t : Option ℤ) (ss ts : List (Option ℤ)) → s ∷ ss ≡ t ∷ ts → ss ≡ ts
tail_same s t ss ts e = cc

-- from a place on the ends are the running ends of the rows from there on, behind some end
abbrev AreTopsAlignedFrom : ℕ → List (Option ℤ) → List (List OrderEntry) → Type 0
AreTopsAlignedFrom i ts rows = AreTopsFrom i ts i rows

same_time : (x y : ℤ) → int_eq x y ≡ true → x ≡ y
same_time x y e = grind (arith, ints)

pub same_end : (a b : Option ℤ) → option_eq int_eq a b ≡ true → a ≡ b
same_end None None e = refl
same_end None (Some y) e = cc
same_end (Some x) None e = cc
same_end (Some x) (Some y) e = ap Some (same_time x y e)

-- an end that stays as it is: all behind it do too
pub follow_stop : (best : Option ℤ) (ts : List (Option ℤ)) (rows : List (List OrderEntry)) (i : ℕ) (top : Option ℤ) → i < length rows → i < length ts → top ≡ greatest_of_two best (greatest_end (row rows i)) → get_or ts i top ≡ top → AreTopsAlignedFrom i ts rows → take i ts ++ running_ends best (drop i rows) ≡ tops_of rows → ts ≡ tops_of rows
follow_stop best ts rows i top l m new same h inv =
    let b = h.0 in
    let x = row rows i in
    let entries = row_drop rows i l in
    let there : drop i ts ≡ get_or ts i top ∷ drop (i + 1) ts = drop_more ts i top m in
    let runs : get_or ts i top ∷ drop (i + 1) ts ≡ greatest_of_two b (greatest_end x) ∷ running_ends (greatest_of_two b (greatest_end x)) (drop (i + 1) rows) = sym there ∙ h.1 ∙ ap (running_ends b) entries in
    let now : greatest_of_two b (greatest_end x) ≡ greatest_of_two best (greatest_end x) = sym (head_same _ _ _ _ runs) ∙ same ∙ new in
    let all : drop i ts ≡ running_ends best (drop i rows) = h.1 ∙ ap (running_ends b) entries ∙ ap (λ z. z ∷ running_ends z (drop (i + 1) rows)) now ∙ sym (ap (running_ends best) entries) in
    sym (take-append-drop i ts) ∙ ap (λ zs. take i ts ++ zs) all ∙ inv

-- an end that is written
pub follow_front : (best : Option ℤ) (ts : List (Option ℤ)) (rows : List (List OrderEntry)) (i : ℕ) (top : Option ℤ) → i < length rows → i < length ts → top ≡ greatest_of_two best (greatest_end (row rows i)) → take i ts ++ running_ends best (drop i rows) ≡ tops_of rows → take (i + 1) (set ts i top) ++ running_ends top (drop (i + 1) rows) ≡ tops_of rows
follow_front best ts rows i top l m new inv =
    let entries = row_drop rows i l in
    ap (λ zs. zs ++ running_ends top (drop (i + 1) rows)) (take_more_set ts i top m) ∙ append_assoc (take i ts) (top ∷ []) (running_ends top (drop (i + 1) rows))
    ∙ ap (λ z. take i ts ++ (z ∷ running_ends z (drop (i + 1) rows))) new ∙ ap (λ zs. take i ts ++ running_ends best zs) (sym entries) ∙ inv

runs_set : (ts : List (Option ℤ)) (rows : List (List OrderEntry)) (i n : ℕ) (top : Option ℤ) → i < n → AreTopsAlignedFrom n ts rows → AreTopsAlignedFrom n (set ts i top) rows
runs_set ts rows i n top l h = (h.0, drop-set-lt n ts i top l ∙ h.1)

runs_next : (ts : List (Option ℤ)) (rows : List (List OrderEntry)) (i : ℕ) → i < length rows → i < length ts → AreTopsAlignedFrom i ts rows → AreTopsAlignedFrom (i + 1) ts rows
runs_next ts rows i l m h =
    let b = h.0 in
    let x = row rows i in
    let there : drop i ts ≡ get_or ts i None ∷ drop (i + 1) ts = drop_more ts i None m in
    let runs : get_or ts i None ∷ drop (i + 1) ts ≡ greatest_of_two b (greatest_end x) ∷ running_ends (greatest_of_two b (greatest_end x)) (drop (i + 1) rows) = sym there ∙ h.1 ∙ ap (running_ends b) (row_drop rows i l) in
    (greatest_of_two b (greatest_end x), tail_same _ _ _ _ runs)

-- the ends that were not looked at yet, from a place on or from where the rows stayed
abbrev pub AreUnseenTops : ℕ → ℕ → List (Option ℤ) → List (List OrderEntry) → Type 0
AreUnseenTops to i ts rows = (i ≤ to → AreTopsAlignedFrom to ts rows) × (to ≤ i → AreTopsAlignedFrom i ts rows)

same_place : (ts : List (Option ℤ)) (rows : List (List OrderEntry)) (m n : ℕ) → m ≡ n → AreTopsAlignedFrom m ts rows → AreTopsAlignedFrom n ts rows
same_place ts rows m n e h = subst (λ (k : ℕ). AreTopsAlignedFrom k ts rows) e h

pub unseen_init : (ts : List (Option ℤ)) (rows : List (List OrderEntry)) (from to : ℕ) → from ≤ to → AreTopsFrom to ts to rows → AreUnseenTops to from ts rows
unseen_init ts rows from to l h = (λ _. h, λ k. same_place ts rows to from (omega arith) h)

next_cases : (to i : ℕ) → (to ≤ i) ⊎ (i + 1 ≤ to)
next_cases to i = grind arith

pub unseen_next : (ts : List (Option ℤ)) (rows : List (List OrderEntry)) (to i : ℕ) (top : Option ℤ) → i < length rows → i < length ts → AreUnseenTops to i ts rows → AreUnseenTops to (i + 1) (set ts i top) rows
unseen_next ts rows to i top l m h = (
  λ k. runs_set ts rows i to top (omega arith) (h.0 (omega arith)),
  λ k. elim (next_cases to i) as (λ _. AreTopsAlignedFrom (i + 1) (set ts i top) rows) [
    | inl low ↦ runs_set ts rows i (i + 1) top (omega arith) (runs_next ts rows i l m (h.1 low))
    | inr high ↦ runs_set ts rows i (i + 1) top (omega arith) (same_place ts rows to (i + 1) (omega arith) (h.0 (omega arith)))
  ],
)

pub follow_end : (best : Option ℤ) (ts : List (Option ℤ)) (rows : List (List OrderEntry)) (i : ℕ) → length ts ≤ i → length ts ≡ length rows → take i ts ++ running_ends best (drop i rows) ≡ tops_of rows → ts ≡ tops_of rows
follow_end best ts rows i l same inv =
    let none : drop i rows ≡ [] = drop_all i rows (omega arith) in
    sym (take-append-drop i ts) ∙ ap (λ zs. take i ts ++ zs) (drop_all i ts l ∙ sym (ap (running_ends best) none)) ∙ inv

-- ---- an end more or less

pub take_insert : {A : Type 0} (xs : List A) (i : ℕ) (x : A) → i ≤ length xs → take i (insert xs i x) ≡ take i xs
take_insert xs zero x l = refl
take_insert [] (suc i) x l = absurd (omega arith)
take_insert (y ∷ ys) (suc i) x l = ap (λ zs. y ∷ zs) (take_insert ys i x (omega arith))

pub drop_insert : {A : Type 0} (xs : List A) (i n m : ℕ) (x : A) → i ≤ length xs → i ≤ m → n ≡ m + 1 → drop n (insert xs i x) ≡ drop m xs
drop_insert xs zero n m x l k e = let z : n ≡ suc m = omega arith in ap (λ j. drop j (x ∷ xs)) z
drop_insert [] (suc i) n m x l k e = absurd (omega arith)
drop_insert (y ∷ ys) (suc i) n zero x l k e = absurd (omega arith)
drop_insert (y ∷ ys) (suc i) n (suc m) x l k e = let z : n ≡ suc (m + 1) = omega arith in ap (λ j. drop j (y ∷ insert ys i x)) z ∙ drop_insert ys i (m + 1) m x (omega arith) (omega arith) refl

pub take_taken : {A : Type 0} (xs ys : List A) (b : ℕ) → b ≤ length xs → take b (take b xs ++ ys) ≡ take b xs
take_taken xs ys zero l = refl
take_taken [] ys (suc b) l = absurd (omega arith)
take_taken (x ∷ xs) ys (suc b) l = ap (λ zs. x ∷ zs) (take_taken xs ys b (omega arith))

-- what is left from a place on after k items went before it
pub drop_taken : {A : Type 0} (xs : List A) (b k n m : ℕ) → b + k ≤ length xs → b ≤ n → m ≡ n + k → drop n (take b xs ++ drop (b + k) xs) ≡ drop m xs
drop_taken xs zero k n m l h e = let z : 0 + k + n ≡ m = omega arith in drop-drop n (0 + k) xs ∙ ap (λ j. drop j xs) z
drop_taken [] (suc b) k n m l h e = absurd (omega arith)
drop_taken (x ∷ xs) (suc b) k zero m l h e = absurd (omega arith)
drop_taken (x ∷ xs) (suc b) k (suc n) m l h e =
    let z : suc b + k ≡ suc (b + k) = omega arith in
    let w : m ≡ suc (n + k) = omega arith in
    ap (λ j. drop (suc n) (take (suc b) (x ∷ xs) ++ drop j (x ∷ xs))) z ∙ drop_taken xs b k n (n + k) (omega arith) (omega arith) refl ∙ ap (λ j. drop j (x ∷ xs)) (sym w)

-- the ends of rows of which those from a place on stayed
pub runs_kept : (ts us : List (Option ℤ)) (old rows : List (List OrderEntry)) (b n : ℕ) → ts ≡ tops_of old → b < length old → drop n rows ≡ drop (b + 1) old → AreTopsFrom (b + 1) ts n rows
runs_kept ts us old rows b n e l r =
    let z : b + 1 ≡ suc b = omega arith in
    (get_or (tops_of old) b None, ap (drop (b + 1)) e ∙ ap (λ k. drop k (tops_of old)) z ∙ drop_running_ends None old b None l ∙ ap (λ k. running_ends (get_or (tops_of old) b None) (drop k old)) (sym z) ∙ ap (running_ends (get_or (tops_of old) b None)) (sym r))

take_running_ends : (best : Option ℤ) (rows : List (List OrderEntry)) (n : ℕ) → take n (running_ends best rows) ≡ running_ends best (take n rows)
take_running_ends best rows zero = refl
take_running_ends best [] (suc n) = refl
take_running_ends best (r ∷ rows) (suc n) = ap (λ ts. greatest_of_two best (greatest_end r) ∷ ts) (take_running_ends (greatest_of_two best (greatest_end r)) rows n)

pub front_kept : (ts : List (Option ℤ)) (old rows : List (List OrderEntry)) (b : ℕ) → ts ≡ tops_of old → take b rows ≡ take b old → take b ts ≡ take b (tops_of rows)
front_kept ts old rows b e f = ap (take b) e ∙ take_running_ends None old b ∙ ap (running_ends None) (sym f) ∙ sym (take_running_ends None rows b)

-- the last end, made anew from all that stands before it
last_from : (best : Option ℤ) (ts : List (Option ℤ)) (rows : List (List OrderEntry)) (b : ℕ) (top : Option ℤ) → suc b ≡ length ts → length rows ≡ length ts → take b ts ≡ take b (running_ends best rows) → top ≡ greatest_of_two best (greatest_end (row_items rows)) → set ts b top ≡ running_ends best rows
last_from best [] rows b top l m f e = absurd (omega arith)
last_from best (t ∷ ts) [] b top l m f e = absurd (omega arith)
last_from best (t ∷ []) (r ∷ []) zero top l m f e = ap (λ z. z ∷ []) (e ∙ ap (λ q. greatest_of_two best (greatest_end q)) (append-nil r))
last_from best (t ∷ []) (r ∷ s ∷ rows) zero top l m f e = absurd (omega arith)
last_from best (t ∷ u ∷ ts) (r ∷ rows) zero top l m f e = absurd (omega arith)
last_from best (t ∷ ts) (r ∷ rows) (suc b) top l m f e =
    let next = greatest_of_two best (greatest_end r) in
    let rest = last_from next ts rows b top (omega arith) (omega arith) (tail_same _ _ _ _ f) (e ∙ ap (greatest_of_two best) (greatest-append r (row_items rows)) ∙ sym (later_assoc best (greatest_end r) (greatest_end (row_items rows)))) in
    ap (λ z. z ∷ set ts b top) (head_same _ _ _ _ f) ∙ ap (λ zs. next ∷ zs) rest

-- the last of the ends is that of all entries
pub last_top : (ts : List (Option ℤ)) (rows : List (List OrderEntry)) (b : ℕ) (top : Option ℤ) → b + 1 ≡ length ts → length rows ≡ length ts → take b ts ≡ take b (tops_of rows) → top ≡ greatest_end (row_items rows) → set ts b top ≡ tops_of rows
last_top ts rows b top l m f e = last_from None ts rows b top (omega arith) m f e

-- ---- what has ended

max_ended : (t a b : ℤ) → int_le (int_max a b) t ≡ true → (int_le a t ≡ true) × (int_le b t ≡ true)
max_ended t a b e = (grind (arith, ints), grind (arith, ints))

later_ended : (t : ℤ) (a : Option ℤ) (b : ℤ) → is_ended t (greatest_of_two a (Some b)) ≡ true → (is_ended t a ≡ true) × (int_le b t ≡ true)
later_ended t None b e = (refl, e)
later_ended t (Some a) b e = max_ended t a b e

ended_first : (t : ℤ) (a : ℤ) (b : Option ℤ) → is_ended t (greatest_of_two (Some a) b) ≡ true → (int_le a t ≡ true) × (is_ended t b ≡ true)
ended_first t a None e = (e, refl)
ended_first t a (Some b) e = max_ended t a b e

not_covered : (t : ℤ) (o : OrderEntry) → int_le (end_of o) t ≡ true → is_in_entry t o ≡ false
not_covered t o e = grind (arith, ints)

-- where the greatest end is not after a time no entry holds it
pub none_covers : (t : ℤ) (os : List OrderEntry) → is_ended t (greatest_end os) ≡ true → AllByRecursion (λ o. is_in_entry t o ≡ false) os
none_covers t [] e = tt
none_covers t (o ∷ os) e =
    let p = ended_first t (end_of o) (greatest_end os) (ap (is_ended t) (sym (greatest-append (o ∷ []) os)) ∙ e) in
    (not_covered t o p.0, none_covers t os p.1)

max_both : (t a b : ℤ) → a ≤ℤ t → int_le b t ≡ true → int_le (int_max a b) t ≡ true
max_both t a b l e = grind (arith, ints)

both_ended : (t a : ℤ) (b : Option ℤ) → a ≤ℤ t → is_ended t b ≡ true → is_ended t (greatest_of_two (Some a) b) ≡ true
both_ended t a None l e = grind (arith, ints)
both_ended t a (Some b) l e = max_both t a b l e

ends_by : (t : ℤ) (o : OrderEntry) → o.pts ≤ℤ t → is_in_entry t o ≡ false → end_of o ≤ℤ t
ends_by t o l e = grind (arith, ints)

neither : (r : Option OrderEntry) (b : Bool) (o : OrderEntry) → or_else r (cond b (Some o) None) ≡ None → (r ≡ None) × (b ≡ false)
neither None true o e = absurd cc
neither None false o e = (refl, refl)
neither (Some p) b o e = absurd cc

-- where all begin by a time and none holds it all end by it
all_ended : (t : ℤ) (os : List OrderEntry) → AllByRecursion (λ o. o.pts ≤ℤ t) os → last_that (is_in_entry t) os ≡ None → is_ended t (greatest_end os) ≡ true
all_ended t [] h e = refl
all_ended t (o ∷ os) h e =
    let n = neither (last_that (is_in_entry t) os) (is_in_entry t o) o e in
    ap (is_ended t) (greatest-append (o ∷ []) os) ∙ both_ended t (end_of o) (greatest_end os) (ends_by t o h.0 n.1) (all_ended t os h.1 n.0)

or_found : (r rest : Option OrderEntry) → (r ≡ None → ⊥) → or_else r rest ≡ r
or_found None rest h = absurd (h refl)
or_found (Some x) rest h = refl

open_not : (b : Bool) → b ≡ true → b ≡ false → ⊥
open_not b e f = cc

-- where all begin by a time and one ends after it one holds it
pub found_in : (t : ℤ) (os : List OrderEntry) (rest : Option OrderEntry) → AllByRecursion (λ o. o.pts ≤ℤ t) os → is_ended t (greatest_end os) ≡ false → or_else (last_that (is_in_entry t) os) rest ≡ last_that (is_in_entry t) os
found_in t os rest h e = or_found (last_that (is_in_entry t) os) rest (λ n. open_not (is_ended t (greatest_end os)) (all_ended t os h n) e)
