-- Places that count their entries, and the ends of runs that find the place of an entry.
use Rattle.std.proofs.Common.{◌≡◌, ◌∙◌, ◌+◌, ◌-◌, ◌<◌, ◌≤◌, ◌++◌, ◌∷◌, [], ℕ, zero, suc, min, Bool, true, false, cond, nat_lt, List, length, get_or, slice_get, set, take, replicate, Some, inl, inr, refl, sym, ap, subst, arith, leb, leb-true}
use Rattle.std.specs.Prelude.{option_map, sum_by}
use Rattle.std.specs.Option.{option_map_or}
use Rattle.std.specs.List.{All, AllByRecursion, flat_map}
use Rattle.std.specs.List.Sorted.{IsNonDecreasingBy, IsPartitionPoint}
use Rattle.std.proofs.lemmas.Bool.{cases_lt}
use Rattle.std.proofs.lemmas.Bool.Decides.{nat_tests}
use Rattle.std.proofs.lemmas.List.{append-nil, length-append, length-replicate, get_or-replicate, replicate_more, append_assoc}
use Rattle.std.proofs.lemmas.List.Concat.{flat_map-append}
use Rattle.std.proofs.lemmas.List.Elements.{All-from_recursion, recursion_from_All, All-push, All-set}
use Rattle.std.proofs.lemmas.List.Sorted.{IsNonDecreasingBy-short}
use Rattle.std.proofs.lemmas.List.Sums.{sum_by-cons, sum_by-append}
use Rattle.std.proofs.lemmas.Option.{slice_get_read, slice_get-get_or}
use Rattle.mse_calls.specs.declared.calls.Piece.{Piece}
use Rattle.mse_calls.specs.declared.entry.Entry.{Entry}
use Rattle.run_journal.specs.AnsweredCalls.{AnsweredCall}
use Rattle.run_journal.specs.declared.entry_place.EntryPlace.{EntryPlace}
use Rattle.run_journal.specs.declared.places.RunEnd.{RunEnd}
use Rattle.run_journal.specs.declared.entry_place.EntryPlace.TheVariants.{Work, Element}
use Rattle.run_journal.specs.EntryPlaces.{count_of, entry_at, entries_at, IsPlaceInside}
use Rattle.run_journal.specs.PlacesView.{end_at, run_ends_from, all_but_last, run_end_of, IsRunWith, AreCounted}

-- ---- lists

pub slice_get-before : {X : Type 0} (xs ys : List X) (i : ℕ) → i < length xs → slice_get (xs ++ ys) i ≡ slice_get xs i
slice_get-before [] ys i lt = absurd (omega (arith, lt))
slice_get-before (x ∷ xs) ys zero lt = refl
slice_get-before (x ∷ xs) ys (suc i) lt = slice_get-before xs ys i (omega (arith, lt))

get-past : {X : Type 0} (xs ys : List X) (n m k : ℕ) → length xs ≡ n → m ≡ n + k → slice_get (xs ++ ys) m ≡ slice_get ys k
get-past [] ys n m k e h = let z : m ≡ k = omega arith in ap (slice_get ys) z
get-past (x ∷ xs) ys n zero k e h = absurd (omega arith)
get-past (x ∷ xs) ys n (suc m) k e h = get-past xs ys (n - 1) m k (omega arith) (omega arith)

get-inside : {X : Type 0} (n m : ℕ) (y : X) (zs : List X) → m < n → slice_get (replicate n y ++ zs) m ≡ Some y
get-inside n m y zs lt =
    let len : length (replicate n y) ≡ n = length-replicate n y in
    slice_get-before (replicate n y) zs m (omega arith) ∙ slice_get_read (replicate n y) n m y (sym len) lt (sym (get_or-replicate n m y y lt))

abbrev rest_of : {X : Type 0} → List X → List X
rest_of [] = []
rest_of (x ∷ xs) = xs

head-same : {X : Type 0} (x y : X) (xs ys : List X) → x ∷ xs ≡ y ∷ ys → y ≡ x
head-same {X} x y xs ys e = sym (ap (λ (zs : List X). get_or zs 0 x) e)

rest-same : {X : Type 0} (x y : X) (xs ys : List X) → x ∷ xs ≡ y ∷ ys → xs ≡ ys
rest-same x y xs ys e = ap rest_of e

each-weaker : {X : Type 0} (P Q : X → Type 0) → ((x : X) → P x → Q x) → (xs : List X) → AllByRecursion P xs → AllByRecursion Q xs
each-weaker P Q f [] h = tt
each-weaker P Q f (x ∷ xs) h = (f x h.0, each-weaker P Q f xs h.1)

each-pick : {X : Type 0} (P : X → Type 0) (b : Bool) (x : X) (xs : List X) → P x → AllByRecursion P xs → AllByRecursion P (cond b (x ∷ xs) xs)
each-pick P true x xs p h = (p, h)
each-pick P false x xs p h = h

each-front : {X : Type 0} (P : X → Type 0) (xs ys : List X) → AllByRecursion P (xs ++ ys) → AllByRecursion P xs
each-front P [] ys h = tt
each-front P (x ∷ xs) ys h = (h.0, each-front P xs ys h.1)

pick-append : {X : Type 0} (b : Bool) (x : X) (xs ys : List X) → cond b (x ∷ (xs ++ ys)) (xs ++ ys) ≡ cond b (x ∷ xs) xs ++ ys
pick-append true x xs ys = refl
pick-append false x xs ys = refl

-- a list that has a last element is those before it and that one
pub split-last : {X : Type 0} (xs : List X) (x : X) → slice_get xs (length xs - 1) ≡ Some x → xs ≡ take (length xs - 1) xs ++ x ∷ []
split-last [] x e = absurd cc
split-last (z ∷ []) x e = let k : z ≡ x = cc in ap (λ y. y ∷ []) k
split-last (z ∷ w ∷ ws) x e =
    let i : length (z ∷ w ∷ ws) - 1 ≡ suc (length (w ∷ ws) - 1) = omega arith in
    let rest = split-last (w ∷ ws) x (sym (ap (slice_get (z ∷ w ∷ ws)) i) ∙ e) in
    ap (λ ys. z ∷ ys) rest ∙ sym (ap (λ k. take k (z ∷ w ∷ ws) ++ x ∷ []) i)

pub set-last : {X : Type 0} (xs : List X) (x y : X) (i : ℕ) → i ≡ length xs → set (xs ++ x ∷ []) i y ≡ xs ++ y ∷ []
set-last [] x y i e = rw e refl
set-last (z ∷ zs) x y zero e = absurd (omega arith)
set-last (z ∷ zs) x y (suc i) e = ap (λ ws. z ∷ ws) (set-last zs x y i (omega arith))

-- ---- ends of runs

-- each end is behind the entries and places before
late : (xs : List EntryPlace) (e p : ℕ) → AllByRecursion (λ r. (e ≤ r.entries) × (p + 1 ≤ r.places)) (run_ends_from e p xs)
late [] e p = tt
late (x ∷ xs) e p =
    let rest = late xs (e + count_of x) (p + 1) in
    each-pick (λ r. (e ≤ r.entries) × (p + 1 ≤ r.places)) (nat_lt 1 (count_of x)) (end_at (e + count_of x) (p + 1)) (run_ends_from (e + count_of x) (p + 1) xs)
    (omega arith, omega arith)
    (each-weaker (λ r. (e + count_of x ≤ r.entries) × (p + 1 + 1 ≤ r.places)) (λ r. (e ≤ r.entries) × (p + 1 ≤ r.places))
    (λ r h. (omega (arith, h.0), omega (arith, h.1))) (run_ends_from (e + count_of x) (p + 1) xs) rest)

sorted-cons : (r : RunEnd) (rs : List RunEnd) → AllByRecursion (λ s. r.entries ≤ s.entries) rs → IsNonDecreasingBy (λ s. s.entries) rs → IsNonDecreasingBy (λ s. s.entries) (r ∷ rs)
sorted-cons r rs low up zero zero d le lt = omega arith
sorted-cons r rs low up zero (suc j) d le lt = All-from_recursion (λ s. r.entries ≤ s.entries) rs low j d (omega arith)
sorted-cons r rs low up (suc i) zero d le lt = absurd (omega (arith, le))
sorted-cons r rs low up (suc i) (suc j) d le lt = up i j d (omega arith) (omega arith)

sorted-pick : (b : Bool) (r : RunEnd) (rs : List RunEnd) → AllByRecursion (λ s. r.entries ≤ s.entries) rs → IsNonDecreasingBy (λ s. s.entries) rs → IsNonDecreasingBy (λ s. s.entries) (cond b (r ∷ rs) rs)
sorted-pick true r rs low up = sorted-cons r rs low up
sorted-pick false r rs low up = up

-- the ends come in order
pub sorted-ends : (xs : List EntryPlace) (e p : ℕ) → IsNonDecreasingBy (λ r. r.entries) (run_ends_from e p xs)
sorted-ends [] e p = IsNonDecreasingBy-short (λ r. r.entries) [] (omega arith)
sorted-ends (x ∷ xs) e p =
    let rest : AllByRecursion (λ r. (e + count_of x ≤ r.entries) × (p + 1 + 1 ≤ r.places)) (run_ends_from (e + count_of x) (p + 1) xs) = late xs (e + count_of x) (p + 1) in
    sorted-pick (nat_lt 1 (count_of x)) (end_at (e + count_of x) (p + 1)) (run_ends_from (e + count_of x) (p + 1) xs)
    (each-weaker (λ r. (e + count_of x ≤ r.entries) × (p + 1 + 1 ≤ r.places)) (λ r. (end_at (e + count_of x) (p + 1)).entries ≤ r.entries)
    (λ r h. h.0) (run_ends_from (e + count_of x) (p + 1) xs) rest)
    (sorted-ends xs (e + count_of x) (p + 1))

end-same : (e f p q : ℕ) → e ≡ f → p ≡ q → end_at e p ≡ end_at f q
end-same e f p q h k = rw (h, k) refl

-- one more place
pub ends-push : (xs : List EntryPlace) (x : EntryPlace) (e p : ℕ)
    → run_ends_from e p (xs ++ x ∷ []) ≡ run_ends_from e p xs ++ cond (nat_lt 1 (count_of x)) (end_at (e + sum_by count_of (xs ++ x ∷ [])) (p + length (xs ++ x ∷ [])) ∷ []) []
ends-push [] x e p =
    let s : sum_by count_of (x ∷ []) ≡ count_of x + sum_by count_of [] = sum_by-cons count_of x [] in
    ap (λ r. cond (nat_lt 1 (count_of x)) (r ∷ []) []) (end-same (e + count_of x) (e + sum_by count_of (x ∷ [])) (p + 1) (p + length (x ∷ [])) (omega arith) (omega arith))
ends-push (y ∷ ys) x e p =
    let more : List EntryPlace = ys ++ x ∷ [] in
    let s : sum_by count_of (y ∷ more) ≡ count_of y + sum_by count_of more = sum_by-cons count_of y more in
    let place = end_at (e + count_of y) (p + 1) in
    let front = run_ends_from (e + count_of y) (p + 1) ys in
    let same = end-same (e + count_of y + sum_by count_of more) (e + sum_by count_of (y ∷ more)) (p + 1 + length more) (p + length (y ∷ more)) (omega arith) (omega arith) in
    let rest = ends-push ys x (e + count_of y) (p + 1) ∙ ap (λ r. front ++ cond (nat_lt 1 (count_of x)) (r ∷ []) []) same in
    ap (λ rs. cond (nat_lt 1 (count_of y)) (place ∷ rs) rs) rest
    ∙ pick-append (nat_lt 1 (count_of y)) place front (cond (nat_lt 1 (count_of x)) (end_at (e + sum_by count_of (y ∷ more)) (p + length (y ∷ more)) ∷ []) [])

-- ---- the place of an entry

-- the value of each place, as often as it counts
abbrev pub spread : {E : Type 0} → (EntryPlace → E) → List EntryPlace → List E
spread f xs = flat_map (λ place. replicate (count_of place) (f place)) xs

-- the last of ends behind a beginning
abbrev last_of : RunEnd → List RunEnd → RunEnd
last_of r [] = r
last_of r (a ∷ ups) = last_of a ups

-- how many places are before the first of ends, or another number
abbrev first_stop : List RunEnd → ℕ → ℕ
first_stop [] n = n
first_stop (b ∷ downs) n = b.places

-- between the end of a run and the stop behind it there is the place of an entry, m entries from where the places begin
pub record IsPlaced {E : Type 0} (f : EntryPlace → E) (xs : List EntryPlace) (p i m : ℕ) (begin : RunEnd) (stop : ℕ) : Type 0 where
  pub place : ℕ
  pub inside : place < length xs
  pub begun : begin.entries ≤ i
  pub goes : begin.places < stop
  pub at : begin.places + min (i - begin.entries) (stop - 1 - begin.places) ≡ p + place
  pub entry : slice_get (spread f xs) m ≡ option_map f (slice_get xs place)

placed-first : {E : Type 0} (f : EntryPlace → E) (x : EntryPlace) (xs : List EntryPlace) (e p m i stop : ℕ)
    → i ≡ e + m → m < count_of x → p < stop → min m (stop - 1 - p) ≡ 0 → IsPlaced f (x ∷ xs) p i m (end_at e p) stop
placed-first f x xs e p m i stop ie lt goes none =
    let at : p + min (i - e) (stop - 1 - p) ≡ p + 0 = omega arith in
    record {
      place = 0;
      inside = omega arith;
      begun = let h : e ≤ i = omega arith in h;
      goes = goes;
      at = at;
      entry = get-inside (count_of x) m (f x) (spread f xs) lt;
    }

placed-later : {E : Type 0} (f : EntryPlace → E) (x : EntryPlace) (xs : List EntryPlace) (p i m : ℕ) (begin : RunEnd) (stop : ℕ)
    → count_of x ≤ m → IsPlaced f xs (p + 1) i (m - count_of x) begin stop → IsPlaced f (x ∷ xs) p i m begin stop
placed-later f x xs p i m begin stop le h =
    let n : m ≡ count_of x + (m - count_of x) = omega arith in
    record {
      place = suc h.place;
      inside = omega (arith, h.inside);
      begun = h.begun;
      goes = h.goes;
      at = omega (arith, h.at);
      entry = get-past (replicate (count_of x) (f x)) (spread f xs) (count_of x) m (m - count_of x) (length-replicate (count_of x) (f x)) n ∙ h.entry;
    }

placed-back : {E : Type 0} (f : EntryPlace → E) (xs : List EntryPlace) (e p i m stop : ℕ)
    → IsPlaced f xs (p + 1) i m (end_at (e + 1) (p + 1)) stop → IsPlaced f xs (p + 1) i m (end_at e p) stop
placed-back f xs e p i m stop h =
    let begun : e + 1 ≤ i = h.begun in
    let goes : p + 1 < stop = h.goes in
    let at : p + 1 + min (i - (e + 1)) (stop - 1 - (p + 1)) ≡ p + 1 + h.place = h.at in
    let here : p + min (i - e) (stop - 1 - p) ≡ p + 1 + h.place = omega arith in
    record {
      place = h.place;
      inside = h.inside;
      begun = let k : e ≤ i = omega arith in k;
      goes = let k : p < stop = omega arith in k;
      at = here;
      entry = h.entry;
    }

-- the entry has the first place
in-first : {E : Type 0} (f : EntryPlace → E) (x : EntryPlace) (xs : List EntryPlace) (rest ups downs : List RunEnd) (e p m i total : ℕ) (b : Bool)
    → nat_lt 1 (count_of x) ≡ b → i ≡ e + m → total ≡ p + length (x ∷ xs) → m < count_of x
    → AllByRecursion (λ r. (e + count_of x ≤ r.entries) × (p + 1 + 1 ≤ r.places)) rest
    → cond b (end_at (e + count_of x) (p + 1) ∷ rest) rest ≡ ups ++ downs
    → AllByRecursion (λ r. r.entries ≤ i) ups → IsPlaced f (x ∷ xs) p i m (last_of (end_at e p) ups) (first_stop downs total)
in-first f x xs rest [] [] e p m i total true nb ie te lt late ends up = absurd cc
in-first f x xs rest [] (c ∷ cs) e p m i total true nb ie te lt late ends up =
    let same : c ≡ end_at (e + count_of x) (p + 1) = head-same (end_at (e + count_of x) (p + 1)) c rest cs ends in
    let stop : c.places ≡ p + 1 = ap (λ (r : RunEnd). r.places) same in
    placed-first f x xs e p m i c.places ie lt (omega arith) (omega arith)
in-first f x xs rest (a ∷ ups) downs e p m i total true nb ie te lt late ends up =
    let same : a ≡ end_at (e + count_of x) (p + 1) = head-same (end_at (e + count_of x) (p + 1)) a rest (ups ++ downs) ends in
    let entries : a.entries ≡ e + count_of x = ap (λ (r : RunEnd). r.entries) same in
    let low : a.entries ≤ i = up.0 in
    absurd (omega arith)
in-first f x xs rest [] [] e p m i total false nb ie te lt late ends up =
    let one : count_of x ≤ 1 = grind (arith, nat_tests) in
    placed-first f x xs e p m i total ie lt (omega arith) (omega arith)
in-first f x xs rest [] (c ∷ cs) e p m i total false nb ie te lt late ends up =
    let one : count_of x ≤ 1 = grind (arith, nat_tests) in
    let behind = subst (AllByRecursion (λ r. (e + count_of x ≤ r.entries) × (p + 1 + 1 ≤ r.places))) ends late in
    let stop : p + 1 + 1 ≤ c.places = behind.0.1 in
    placed-first f x xs e p m i c.places ie lt (omega arith) (omega arith)
in-first f x xs rest (a ∷ ups) downs e p m i total false nb ie te lt late ends up =
    let behind = subst (AllByRecursion (λ r. (e + count_of x ≤ r.entries) × (p + 1 + 1 ≤ r.places))) ends late in
    let high : e + count_of x ≤ a.entries = behind.0.0 in
    let low : a.entries ≤ i = up.0 in
    absurd (omega arith)

-- the entry has a later place, which is found behind the first
abbrev FoundBehind : {E : Type 0} → (EntryPlace → E) → List EntryPlace → List RunEnd → ℕ → ℕ → ℕ → ℕ → RunEnd → Type 0
FoundBehind f xs rest p i m total begin =
    (ups downs : List RunEnd) → rest ≡ ups ++ downs → AllByRecursion (λ r. r.entries ≤ i) ups → AllByRecursion (λ r. i < r.entries) downs
    → IsPlaced f xs p i m (last_of begin ups) (first_stop downs total)

in-later : {E : Type 0} (f : EntryPlace → E) (x : EntryPlace) (xs : List EntryPlace) (rest ups downs : List RunEnd) (e p m i total : ℕ) (b : Bool)
    → nat_lt 1 (count_of x) ≡ b → 1 ≤ count_of x → i ≡ e + m → count_of x ≤ m
    → FoundBehind f xs rest (p + 1) i (m - count_of x) total (end_at (e + count_of x) (p + 1))
    → cond b (end_at (e + count_of x) (p + 1) ∷ rest) rest ≡ ups ++ downs
    → AllByRecursion (λ r. r.entries ≤ i) ups → AllByRecursion (λ r. i < r.entries) downs
    → IsPlaced f (x ∷ xs) p i m (last_of (end_at e p) ups) (first_stop downs total)
in-later f x xs rest [] [] e p m i total true nb some ie le found ends up down = absurd cc
in-later f x xs rest [] (c ∷ cs) e p m i total true nb some ie le found ends up down =
    let same : c ≡ end_at (e + count_of x) (p + 1) = head-same (end_at (e + count_of x) (p + 1)) c rest cs ends in
    let entries : c.entries ≡ e + count_of x = ap (λ (r : RunEnd). r.entries) same in
    let high : i < c.entries = down.0 in
    absurd (omega arith)
in-later f x xs rest (a ∷ ups) downs e p m i total true nb some ie le found ends up down =
    let same : a ≡ end_at (e + count_of x) (p + 1) = head-same (end_at (e + count_of x) (p + 1)) a rest (ups ++ downs) ends in
    let behind = found ups downs (rest-same (end_at (e + count_of x) (p + 1)) a rest (ups ++ downs) ends) up.1 down in
    placed-later f x xs p i m (last_of a ups) (first_stop downs total) le
    (subst (λ r. IsPlaced f xs (p + 1) i (m - count_of x) (last_of r ups) (first_stop downs total)) (sym same) behind)
in-later f x xs rest [] downs e p m i total false nb some ie le found ends up down =
    let one : count_of x ≡ 1 = grind (arith, nat_tests) in
    let behind = found [] downs ends tt down in
    placed-later f x xs p i m (end_at e p) (first_stop downs total) le
    (placed-back f xs e p i (m - count_of x) (first_stop downs total)
    (subst (λ n. IsPlaced f xs (p + 1) i (m - count_of x) (end_at (e + n) (p + 1)) (first_stop downs total)) one behind))
in-later f x xs rest (a ∷ ups) downs e p m i total false nb some ie le found ends up down =
    placed-later f x xs p i m (last_of a ups) (first_stop downs total) le (found (a ∷ ups) downs ends up down)

placed-in : {E : Type 0} (f : EntryPlace → E) (xs : List EntryPlace) (last : EntryPlace) (ups downs : List RunEnd) (e p m i total : ℕ)
    → i ≡ e + m → total ≡ p + length (xs ++ last ∷ []) → AllByRecursion (λ x. 1 ≤ count_of x) xs
    → run_ends_from e p xs ≡ ups ++ downs → AllByRecursion (λ r. r.entries ≤ i) ups → AllByRecursion (λ r. i < r.entries) downs
    → m < sum_by count_of (xs ++ last ∷ []) → IsPlaced f (xs ++ last ∷ []) p i m (last_of (end_at e p) ups) (first_stop downs total)
placed-in f [] last [] [] e p m i total ie te counted ends up down lt =
    let s : sum_by count_of (last ∷ []) ≡ count_of last + sum_by count_of [] = sum_by-cons count_of last [] in
    placed-first f last [] e p m i total ie (omega arith) (omega arith) (omega arith)
placed-in f [] last [] (b ∷ downs) e p m i total ie te counted ends up down lt = absurd cc
placed-in f [] last (a ∷ ups) downs e p m i total ie te counted ends up down lt = absurd cc
placed-in f (x ∷ xs) last ups downs e p m i total ie te counted ends up down lt =
    let some : 1 ≤ count_of x = counted.0 in
    let s : sum_by count_of (x ∷ (xs ++ last ∷ [])) ≡ count_of x + sum_by count_of (xs ++ last ∷ []) = sum_by-cons count_of x (xs ++ last ∷ []) in
    let rest = run_ends_from (e + count_of x) (p + 1) xs in
    elim (cases_lt m (count_of x)) as (λ _. IsPlaced f (x ∷ (xs ++ last ∷ [])) p i m (last_of (end_at e p) ups) (first_stop downs total)) [
      | inl q ↦ in-first f x (xs ++ last ∷ []) rest ups downs e p m i total (nat_lt 1 (count_of x)) refl ie te q (late xs (e + count_of x) (p + 1)) ends up
      | inr q ↦ in-later f x (xs ++ last ∷ []) rest ups downs e p m i total (nat_lt 1 (count_of x)) refl some ie q
          (λ ups2 downs2 ends2 up2 down2. placed-in f xs last ups2 downs2 (e + count_of x) (p + 1) (m - count_of x) i total (omega arith) (omega arith) counted.1 ends2 up2 down2 (omega arith))
          ends up down
    ]

-- ---- the ends up to an entry, and those behind

pub record AreEndsAround (rs : List RunEnd) (n i : ℕ) : Type 0 where
  pub before : List RunEnd
  pub behind : List RunEnd
  pub whole : rs ≡ before ++ behind
  pub count : length before ≡ n
  pub up : AllByRecursion (λ r. r.entries ≤ i) before
  pub down : AllByRecursion (λ r. i < r.entries) behind

above : (a i : ℕ) → leb a i ≡ false → i < a
above a i e = grind (arith, nat_tests)

pub ends-around : (rs : List RunEnd) (n i : ℕ) → n ≤ length rs
    → ((k : ℕ) (d : RunEnd) → 0 ≤ k → k < n → leb (get_or rs k d).entries i ≡ true)
    → ((k : ℕ) (d : RunEnd) → n ≤ k → k < length rs → leb (get_or rs k d).entries i ≡ false) → AreEndsAround rs n i
ends-around rs zero i le up down =
    record {
      before = [];
      behind = rs;
      whole = refl;
      count = refl;
      up = tt;
      down = recursion_from_All (λ r. i < r.entries) rs (λ k d lt. above (get_or rs k d).entries i (down k d (omega arith) lt));
    }
ends-around [] (suc n) i le up down = absurd (omega (arith, le))
ends-around (r ∷ rs) (suc n) i le up down =
    let rest = ends-around rs n i (omega (arith, le)) (λ k d z lt. up (suc k) d (omega arith) (omega arith)) (λ k d z lt. down (suc k) d (omega arith) (omega arith)) in
    let low : r.entries ≤ i = leb-true r.entries i (up 0 r (omega arith) (omega arith)) in
    record {
      before = r ∷ rest.before;
      behind = rest.behind;
      whole = ap (λ ss. r ∷ ss) rest.whole;
      count = ap suc rest.count;
      up = (low, rest.up);
      down = rest.down;
    }

begin-at : (d z : RunEnd) (ups downs : List RunEnd) (n : ℕ) → length ups ≡ n → get_or (d ∷ (ups ++ downs)) n z ≡ last_of d ups
begin-at d z [] downs n e = rw (sym e) refl
begin-at d z (a ∷ ups) downs zero e = absurd (omega (arith, e))
begin-at d z (a ∷ ups) downs (suc n) e = begin-at a z ups downs n (omega (arith, e))

stop-at : (ups downs : List RunEnd) (n total : ℕ) → length ups ≡ n → option_map_or (λ r. r.places) (slice_get (ups ++ downs) n) total ≡ first_stop downs total
stop-at [] [] n total e = refl
stop-at [] (b ∷ downs) n total e = rw (sym e) refl
stop-at (a ∷ ups) downs zero total e = absurd (omega (arith, e))
stop-at (a ∷ ups) downs (suc n) total e = stop-at ups downs n total (omega (arith, e))

placed-whole : {E : Type 0} (f : EntryPlace → E) (xs : List EntryPlace) (last : EntryPlace) (rs : List RunEnd) (n i : ℕ)
    → All (λ x. 1 ≤ count_of x) (xs ++ last ∷ []) → rs ≡ run_ends_from 0 0 xs → AreEndsAround rs n i → i < sum_by count_of (xs ++ last ∷ [])
    → IsPlaced f (xs ++ last ∷ []) 0 i i (get_or (end_at 0 0 ∷ rs) n (end_at 0 0)) (option_map_or (λ r. r.places) (slice_get rs n) (length (xs ++ last ∷ [])))
placed-whole f xs last rs n i counted is around lt =
    let all = recursion_from_All (λ x. 1 ≤ count_of x) (xs ++ last ∷ []) counted in
    let here = placed-in f xs last around.before around.behind 0 0 i i (length (xs ++ last ∷ [])) (omega arith) (omega arith) (each-front (λ x. 1 ≤ count_of x) xs (last ∷ []) all) (sym is ∙ around.whole) around.up around.down lt in
    let total : ℕ = length (xs ++ last ∷ []) in
    let begin = ap (λ (ss : List RunEnd). get_or (end_at 0 0 ∷ ss) n (end_at 0 0)) around.whole ∙ begin-at (end_at 0 0) (end_at 0 0) around.before around.behind n around.count in
    let stop = ap (λ (ss : List RunEnd). option_map_or (λ r. r.places) (slice_get ss n) total) around.whole ∙ stop-at around.before around.behind n total around.count in
    rw (begin, stop) here

some-place : (xs : List EntryPlace) (i : ℕ) → i < sum_by count_of xs → 0 < length xs
some-place [] i lt = absurd (omega (arith, lt))
some-place (x ∷ xs) i lt = omega arith

-- the last place of some
last-place : (xs : List EntryPlace) → 0 < length xs → slice_get xs (length xs - 1) ≡ Some (get_or xs (length xs - 1) Element)
last-place xs lt = slice_get-get_or xs (length xs - 1) Element (omega arith)

-- what the code finds is the place of the entry
pub placed : {E : Type 0} (f : EntryPlace → E) (list : List EntryPlace) (rs : List RunEnd) (len n i : ℕ) (begin : RunEnd) (stop : ℕ)
    → AreCounted list rs len → i < sum_by count_of list → n ≤ length rs
    → IsPartitionPoint (λ r. leb r.entries i ≡ true) (λ r. leb r.entries i ≡ false) rs n
    → begin ≡ get_or (end_at 0 0 ∷ rs) n (end_at 0 0) → stop ≡ option_map_or (λ r. r.places) (slice_get rs n) (length list) → IsPlaced f list 0 i i begin stop
placed f list rs len n i begin stop counted lt le point begin_is stop_is =
    let last : EntryPlace = get_or list (length list - 1) Element in
    let e : list ≡ all_but_last list ++ last ∷ [] = split-last list last (last-place list (some-place list i lt)) in
    let here = placed-whole f (all_but_last list) last rs n i (subst (λ (ks : List EntryPlace). All (λ x. 1 ≤ count_of x) ks) e counted.counted) counted.ends (ends-around rs n i le point.0 point.1) (subst (λ (ks : List EntryPlace). i < sum_by count_of ks) e lt) in
    rw (begin_is, stop_is)
    (subst (λ (ks : List EntryPlace). IsPlaced f ks 0 i i (get_or (end_at 0 0 ∷ rs) n (end_at 0 0)) (option_map_or (λ r. r.places) (slice_get rs n) (length ks))) (sym e) here)

-- the same of lists that are borrowed
pub placed-by : {E : Type 0} (f : EntryPlace → E) (list : List EntryPlace) (rs rs1 rs2 rs3 : List RunEnd) (len n i m : ℕ) (begin : RunEnd) (stop : ℕ)
    → AreCounted list rs len → i < sum_by count_of list → rs1 ≡ rs → rs2 ≡ rs → rs3 ≡ rs → m ≡ length list → n ≤ length rs1
    → (IsNonDecreasingBy (λ r. r.entries) rs1 → IsPartitionPoint (λ r. leb r.entries i ≡ true) (λ r. leb r.entries i ≡ false) rs1 n)
    → begin ≡ get_or (end_at 0 0 ∷ rs2) n (end_at 0 0) → stop ≡ option_map_or (λ r. r.places) (slice_get rs3 n) m → IsPlaced f list 0 i i begin stop
placed-by f list rs rs1 rs2 rs3 len n i m begin stop counted lt e1 e2 e3 em le point begin_is stop_is =
    let sorted = subst (IsNonDecreasingBy (λ (r : RunEnd). r.entries)) (sym (e1 ∙ counted.ends)) (sorted-ends (all_but_last list) 0 0) in
    placed f list rs len n i begin stop counted lt (subst (λ (ss : List RunEnd). n ≤ length ss) e1 le)
    (subst (λ (ss : List RunEnd). IsPartitionPoint (λ r. leb r.entries i ≡ true) (λ r. leb r.entries i ≡ false) ss n) e1 (point sorted))
    (begin_is ∙ ap (λ (ss : List RunEnd). get_or (end_at 0 0 ∷ ss) n (end_at 0 0)) e2)
    (stop_is ∙ ap (λ (ss : List RunEnd). option_map_or (λ r. r.places) (slice_get ss n) m) e3 ∙ ap (λ (k : ℕ). option_map_or (λ (r : RunEnd). r.places) (slice_get rs n) k) em)

-- ---- one more entry

one-more : {E : Type 0} (n : ℕ) (y : E) → n ≡ 1 → replicate n y ++ [] ≡ y ∷ []
one-more n y e = rw e refl

pub spread-push : {E : Type 0} (f : EntryPlace → E) (xs : List EntryPlace) (x : EntryPlace) → count_of x ≡ 1 → spread f (xs ++ x ∷ []) ≡ spread f xs ++ f x ∷ []
spread-push f xs x one = flat_map-append (λ place. replicate (count_of place) (f place)) xs (x ∷ []) ∙ ap (λ ys. spread f xs ++ ys) (one-more (count_of x) (f x) one)

-- a last place that counts one more
pub spread-join : {E : Type 0} (f : EntryPlace → E) (xs : List EntryPlace) (last run : EntryPlace) → f run ≡ f last → count_of run ≡ count_of last + 1
    → spread f (xs ++ run ∷ []) ≡ spread f (xs ++ last ∷ []) ++ f last ∷ []
spread-join {E} f xs last run same more =
    let n : ℕ = count_of last in
    let y : E = f last in
    let grown : replicate (count_of run) (f run) ++ [] ≡ (replicate n y ++ []) ++ y ∷ [] = rw (more, same) (append-nil (replicate (n + 1) y) ∙ sym (replicate_more n y) ∙ ap (λ ys. ys ++ y ∷ []) (sym (append-nil (replicate n y)))) in
    flat_map-append (λ place. replicate (count_of place) (f place)) xs (run ∷ [])
    ∙ ap (λ ys. spread f xs ++ ys) grown
    ∙ sym (append_assoc (spread f xs) (replicate n y ++ []) (y ∷ []))
    ∙ ap (λ ys. ys ++ y ∷ []) (sym (flat_map-append (λ place. replicate (count_of place) (f place)) xs (last ∷ [])))

pub count-push : (xs : List EntryPlace) (x : EntryPlace) → sum_by count_of (xs ++ x ∷ []) ≡ sum_by count_of xs + count_of x
count-push xs x =
    let s : sum_by count_of (x ∷ []) ≡ count_of x + sum_by count_of [] = sum_by-cons count_of x [] in
    let t : sum_by count_of (xs ++ x ∷ []) ≡ sum_by count_of xs + sum_by count_of (x ∷ []) = sum_by-append count_of xs (x ∷ []) in
    omega arith

-- how many entries there are
pub spread-count : {E : Type 0} (f : EntryPlace → E) (xs : List EntryPlace) → length (spread f xs) ≡ sum_by count_of xs
spread-count f [] = refl
spread-count f (x ∷ xs) =
    let s : sum_by count_of (x ∷ xs) ≡ count_of x + sum_by count_of xs = sum_by-cons count_of x xs in
    let rest = spread-count f xs in
    let n : length (replicate (count_of x) (f x)) ≡ count_of x = length-replicate (count_of x) (f x) in
    let t = length-append (replicate (count_of x) (f x)) (spread f xs) in
    omega arith

-- ---- places that count, with one more entry

take-before : {X : Type 0} (xs ys : List X) (n : ℕ) → n ≡ length xs → take n (xs ++ ys) ≡ xs
take-before [] ys n e = rw e refl
take-before (x ∷ xs) ys zero e = absurd (omega arith)
take-before (x ∷ xs) ys (suc n) e = ap (λ zs. x ∷ zs) (take-before xs ys n (omega arith))

all_but_last-push : (xs : List EntryPlace) (x : EntryPlace) → all_but_last (xs ++ x ∷ []) ≡ xs
all_but_last-push xs x = take-before xs (x ∷ []) (length (xs ++ x ∷ []) - 1) (omega (arith, length-append xs (x ∷ [])))

set-run : (list : List EntryPlace) (last run : EntryPlace) → slice_get list (length list - 1) ≡ Some last → set list (length list - 1) run ≡ all_but_last list ++ run ∷ []
set-run list last run at =
    let e : list ≡ all_but_last list ++ last ∷ [] = split-last list last at in
    let n : length list - 1 ≡ length (all_but_last list) = omega (arith, ap length e, length-append (all_but_last list) (last ∷ [])) in
    ap (λ (ks : List EntryPlace). set ks (length list - 1) run) e ∙ set-last (all_but_last list) last run (length list - 1) n

ends-all_but_last : (list : List EntryPlace) → run_ends_from 0 0 list ≡ run_ends_from 0 0 (all_but_last list) ++ run_end_of (slice_get list (length list - 1)) (end_at (sum_by count_of list) (length list))
ends-all_but_last [] = refl
ends-all_but_last (x ∷ xs) =
    let list : List EntryPlace = x ∷ xs in
    let last : EntryPlace = get_or list (length list - 1) Element in
    let at : slice_get list (length list - 1) ≡ Some last = last-place list (omega arith) in
    let e : list ≡ all_but_last list ++ last ∷ [] = split-last list last at in
    let whole : List EntryPlace = all_but_last list ++ last ∷ [] in
    let same = end-same (0 + sum_by count_of whole) (sum_by count_of whole) (0 + length whole) (length whole) (omega arith) (omega arith) in
    ap (λ (ks : List EntryPlace). run_ends_from 0 0 ks) e ∙ ends-push (all_but_last list) last 0 0
    ∙ ap (λ (r : RunEnd). run_ends_from 0 0 (all_but_last list) ++ run_end_of (Some last) r) same
    ∙ ap (λ (ks : List EntryPlace). run_ends_from 0 0 (all_but_last list) ++ run_end_of (Some last) (end_at (sum_by count_of ks) (length ks))) (sym e)
    ∙ ap (λ o. run_ends_from 0 0 (all_but_last list) ++ run_end_of o (end_at (sum_by count_of list) (length list))) (sym at)

pub counted-pushed : (list : List EntryPlace) (rs ss : List RunEnd) (len : ℕ) (place : EntryPlace) → AreCounted list rs len → count_of place ≡ 1
    → ss ≡ rs ++ run_end_of (slice_get list (length list - 1)) (end_at len (length list)) → AreCounted (list ++ place ∷ []) ss (len + 1)
counted-pushed list rs ss len place counted one is =
    let s = count-push list place in
    let n : len ≡ sum_by count_of list = counted.sum in
    record {
      counted = All-push (λ p. 1 ≤ count_of p) list place counted.counted (omega arith);
      ends = is ∙ ap (λ (qs : List RunEnd). qs ++ run_end_of (slice_get list (length list - 1)) (end_at len (length list))) counted.ends
          ∙ ap (λ (k : ℕ). run_ends_from 0 0 (all_but_last list) ++ run_end_of (slice_get list (length list - 1)) (end_at k (length list))) n
          ∙ sym (ends-all_but_last list) ∙ ap (λ (ks : List EntryPlace). run_ends_from 0 0 ks) (sym (all_but_last-push list place));
      sum = omega arith;
    }

run-counts : (last place run : EntryPlace) → IsRunWith (Some last) place run → count_of run ≡ count_of last + 1
run-counts last place run w =
    let e : last ≡ Work w.k w.count = cc in
    rw (w.run_is, e) refl

run-entry : (calls : List AnsweredCall) (pieces : List Piece) (last place run : EntryPlace) → IsRunWith (Some last) place run → entry_at calls pieces run ≡ entry_at calls pieces last
run-entry calls pieces last place run w =
    let e : last ≡ Work w.k w.count = cc in
    rw (w.run_is, e) refl

next-entry : (calls : List AnsweredCall) (pieces : List Piece) (last place run : EntryPlace) → IsRunWith (Some last) place run → entry_at calls pieces place ≡ entry_at calls pieces last
next-entry calls pieces last place run w =
    let e : last ≡ Work w.k w.count = cc in
    rw (w.next_is, e) refl

pub counted-joined : (list : List EntryPlace) (rs : List RunEnd) (len : ℕ) (last place run : EntryPlace) → AreCounted list rs len
    → slice_get list (length list - 1) ≡ Some last → IsRunWith (Some last) place run → AreCounted (set list (length list - 1) run) rs (len + 1)
counted-joined list rs len last place run counted at w =
    let e : list ≡ all_but_last list ++ last ∷ [] = split-last list last at in
    let f : set list (length list - 1) run ≡ all_but_last list ++ run ∷ [] = set-run list last run at in
    let more = run-counts last place run w in
    let s = ap (sum_by count_of) e ∙ count-push (all_but_last list) last in
    let t = ap (sum_by count_of) f ∙ count-push (all_but_last list) run in
    let n : len ≡ sum_by count_of list = counted.sum in
    record {
      counted = All-set (λ p. 1 ≤ count_of p) list (length list - 1) run (omega arith) counted.counted;
      ends = counted.ends ∙ ap (λ (ks : List EntryPlace). run_ends_from 0 0 ks) (sym (ap all_but_last f ∙ all_but_last-push (all_but_last list) run));
      sum = omega arith;
    }

pub entries-joined : (calls : List AnsweredCall) (pieces : List Piece) (list : List EntryPlace) (last place run : EntryPlace)
    → slice_get list (length list - 1) ≡ Some last → IsRunWith (Some last) place run
    → entries_at calls pieces (set list (length list - 1) run) ≡ entries_at calls pieces list ++ entry_at calls pieces place ∷ []
entries-joined calls pieces list last place run at w =
    let e : list ≡ all_but_last list ++ last ∷ [] = split-last list last at in
    ap (entries_at calls pieces) (set-run list last run at)
    ∙ spread-join (entry_at calls pieces) (all_but_last list) last run (run-entry calls pieces last place run w) (run-counts last place run w)
    ∙ ap (λ (x : Entry). entries_at calls pieces (all_but_last list ++ last ∷ []) ++ x ∷ []) (sym (next-entry calls pieces last place run w))
    ∙ ap (λ (ks : List EntryPlace). entries_at calls pieces ks ++ entry_at calls pieces place ∷ []) (sym e)

run-inside : (calls : List AnsweredCall) (pieces : List Piece) (last place run : EntryPlace) → IsRunWith (Some last) place run → IsPlaceInside calls pieces run
run-inside calls pieces last place run w = rw w.run_is tt

pub inside-joined : (calls : List AnsweredCall) (pieces : List Piece) (list : List EntryPlace) (last place run : EntryPlace)
    → IsRunWith (Some last) place run → All (IsPlaceInside calls pieces) list → All (IsPlaceInside calls pieces) (set list (length list - 1) run)
inside-joined calls pieces list last place run w all = All-set (IsPlaceInside calls pieces) list (length list - 1) run (run-inside calls pieces last place run w) all
