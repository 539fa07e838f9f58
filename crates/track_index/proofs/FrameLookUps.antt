-- Look-ups of frames in blocks.
use Rattle.std.proofs.Common.{◌≡◌, ◌∙◌, ℕ, zero, suc, ◌+◌, ◌<◌, ◌≤◌, Bool, true, false, not, cond, List, [], ◌∷◌, length, get_or, take, drop, Some, None, slice_get, find, refl, sym, ap, subst, arith, nat_eq, nat_lt}
use Rattle.std.specs.List.{AllByRecursion, position, position_or_len}
use Rattle.std.proofs.lemmas.Bool.Decides.{nat_tests}
use Rattle.std.proofs.lemmas.List.{drop_more, drop_all}
use Rattle.std.proofs.lemmas.List.Folds.{find_at}
use Rattle.track_store.specs.declared.store.Stored.{Stored}
use Rattle.track_store.specs.Frames.{IsAscending, has_serial, frame_at, from_sync}
use Rattle.track_index.proofs.RemovedRuns.{each_frame}

-- ---- the place of a serial

other_low : (n m : ℕ) → n < m → nat_eq n m ≡ false
other_low n m l = grind (arith, nat_tests)

other_high : (n m : ℕ) → m < n → nat_eq n m ≡ false
other_high n m l = grind (arith, nat_tests)

pub pos_suc : (p : Stored → Bool) (x : Stored) (xs : List Stored) (n : ℕ) → p x ≡ false → position_or_len p xs ≡ n → position_or_len p (x ∷ xs) ≡ suc n
pos_suc p x xs n e h = let z : 1 + n ≡ suc n = omega arith in ap (λ b. cond (not b) (1 + position_or_len p xs) 0) e ∙ ap (λ k. 1 + k) h ∙ z

pos_here : (p : Stored → Bool) (xs : List Stored) (i : ℕ) (d : Stored) → i < length xs → p (get_or xs i d) ≡ true → AllByRecursion (λ f. p f ≡ false) (take i xs) → position_or_len p xs ≡ i
pos_here p [] i d l e h = absurd (omega arith)
pos_here p (x ∷ xs) zero d l e h = ap (λ b. cond (not b) (1 + position_or_len p xs) 0) e
pos_here p (x ∷ xs) (suc i) d l e h = pos_suc p x xs i h.0 (pos_here p xs i d (omega arith) e h.1)

pos_none : (p : Stored → Bool) (xs : List Stored) → AllByRecursion (λ f. p f ≡ false) xs → position_or_len p xs ≡ length xs
pos_none p [] h = refl
pos_none p (x ∷ xs) h = pos_suc p x xs (length xs) h.0 (pos_none p xs h.1)

is_less : (a b : ℕ) → a < b → nat_lt a b ≡ true
is_less a b h = grind (arith, nat_tests)

not_less : (a b : ℕ) → b ≤ a → nat_lt a b ≡ false
not_less a b h = grind (arith, nat_tests)

pub position_at : (p : Stored → Bool) (xs : List Stored) (i : ℕ) → position_or_len p xs ≡ i → i < length xs → position p xs ≡ Some i
position_at p xs i e l = ap (λ n. cond (nat_lt n (length xs)) (Some n) None) e ∙ ap (λ b. cond b (Some i) None) (is_less i (length xs) l)

pub position_none : (p : Stored → Bool) (xs : List Stored) → AllByRecursion (λ f. p f ≡ false) xs → position p xs ≡ None
position_none p xs h = ap (λ n. cond (nat_lt n (length xs)) (Some n) None) (pos_none p xs h) ∙ ap (λ b. cond b (Some (length xs)) None) (not_less (length xs) (length xs) (omega arith))

same_of : (n m : ℕ) → n ≡ m → nat_eq n m ≡ true
same_of n m e = grind (arith, nat_tests)

below_not : (n : ℕ) (fs : List Stored) → AllByRecursion (λ f. f.serial < n) fs → AllByRecursion (λ f. has_serial n f ≡ false) fs
below_not n fs h = each_frame (λ f. f.serial < n) (λ f. has_serial n f ≡ false) fs (λ f l. other_low f.serial n l) h

pub serial_found : (n : ℕ) (fs : List Stored) (i : ℕ) (x : Stored) → i < length fs → x ≡ get_or fs i x → x.serial ≡ n → AllByRecursion (λ f. f.serial < n) (take i fs) → Some i ≡ position (has_serial n) fs
serial_found n fs i x l at e h =
    let own : has_serial n (get_or fs i x) ≡ true = subst (λ (z : Stored). has_serial n z ≡ true) at (same_of x.serial n e) in
    sym (position_at (has_serial n) fs i (pos_here (has_serial n) fs i x l own (below_not n (take i fs) h)) l)

each_whole : (P : Stored → Type 0) (fs : List Stored) (i : ℕ) → AllByRecursion P (take i fs) → AllByRecursion P (drop i fs) → AllByRecursion P fs
each_whole P fs zero h k = k
each_whole P [] (suc i) h k = h
each_whole P (f ∷ fs) (suc i) h k = (h.0, each_whole P fs i h.1 k)

ascending_drop : (fs : List Stored) (i : ℕ) → IsAscending fs → IsAscending (drop i fs)
ascending_drop fs zero h = h
ascending_drop [] (suc i) h = h
ascending_drop (f ∷ fs) (suc i) h = ascending_drop fs i h.1

apart : (a b : ℕ) → (a ≡ b → ⊥) → b ≤ a → b < a
apart a b e l = grind (arith, nat_tests)

pub serial_other : (n : ℕ) (fs : List Stored) (i : ℕ) (x : Stored) → IsAscending fs → i < length fs → x ≡ get_or fs i x → (x.serial ≡ n → ⊥) → AllByRecursion (λ f. f.serial < n) (take i fs) → AllByRecursion (λ f. n ≤ f.serial) (drop i fs) → None ≡ position (has_serial n) fs
serial_other n fs i x u l at e h k =
    let m : drop i fs ≡ x ∷ drop (i + 1) fs = drop_more fs i x l ∙ ap (λ z. z ∷ drop (i + 1) fs) (sym at) in
    let a = subst IsAscending m (ascending_drop fs i u) in
    let b = subst (λ (gs : List Stored). AllByRecursion (λ f. n ≤ f.serial) gs) m k in
    let high : n < x.serial = apart x.serial n e b.0 in
    let rest = subst (λ (gs : List Stored). AllByRecursion (λ f. has_serial n f ≡ false) gs) (sym m) (other_high x.serial n high, each_frame (λ g. x.serial < g.serial) (λ f. has_serial n f ≡ false) (drop (i + 1) fs) (λ f g. other_high f.serial n (omega arith)) a.0) in
    sym (position_none (has_serial n) fs (each_whole (λ f. has_serial n f ≡ false) fs i (below_not n (take i fs) h) rest))

pub serial_past : (n : ℕ) (fs : List Stored) (i : ℕ) → length fs ≤ i → AllByRecursion (λ f. f.serial < n) (take i fs) → None ≡ position (has_serial n) fs
serial_past n fs i l h = sym (position_none (has_serial n) fs (each_whole (λ f. has_serial n f ≡ false) fs i (below_not n (take i fs) h) (rw (drop_all i fs l) tt)))

past_length : {X : Type 0} (xs : List X) (i : ℕ) → length xs ≤ i → slice_get xs i ≡ None
past_length [] zero l = refl
past_length [] (suc i) l = refl
past_length (x ∷ xs) zero l = absurd (omega arith)
past_length (x ∷ xs) (suc i) l = past_length xs i (omega arith)

frame_cases : (fs : List Stored) (n : ℕ) (b : Bool) → nat_lt n (length fs) ≡ b → frame_at fs (cond b (Some n) None) ≡ slice_get fs n
frame_cases fs n true e = refl
frame_cases fs n false e = let l : length fs ≤ n = grind (arith, nat_tests) in sym (past_length fs n l)

-- the frame at the place of a serial is the one that has it
pub frame_position : (p : Stored → Bool) (fs : List Stored) → frame_at fs (position p fs) ≡ find p fs
frame_position p fs = frame_cases fs (position_or_len p fs) (nat_lt (position_or_len p fs) (length fs)) refl ∙ sym (find_at p fs)

-- ---- the run of a frame

pub rest_frame : (fs : List Stored) (i : ℕ) (x : Stored) → i < length fs → x ≡ get_or fs i x → drop i fs ≡ x ∷ drop (i + 1) fs
rest_frame fs i x l at = drop_more fs i x l ∙ ap (λ z. z ∷ drop (i + 1) fs) (sym at)

pub run_stops : (fs : List Stored) (i : ℕ) (x : Stored) → i < length fs → x ≡ get_or fs i x → x.frame.sync ≡ true → from_sync (drop i fs) ≡ drop i fs
run_stops fs i x l at e =
    let m = rest_frame fs i x l at in
    ap from_sync m ∙ ap (λ b. cond b (x ∷ drop (i + 1) fs) (from_sync (drop (i + 1) fs))) e ∙ sym m

pub run_goes : (fs : List Stored) (i n : ℕ) (x : Stored) → i < length fs → x ≡ get_or fs i x → x.frame.sync ≡ false → n ≡ i + 1 → from_sync (drop n fs) ≡ from_sync (drop i fs)
run_goes fs i n x l at e z = ap (λ k. from_sync (drop k fs)) z ∙ sym (ap (λ b. cond b (x ∷ drop (i + 1) fs) (from_sync (drop (i + 1) fs))) e) ∙ ap from_sync (sym (rest_frame fs i x l at))

pub run_ends : (fs : List Stored) (i : ℕ) → length fs ≤ i → from_sync (drop i fs) ≡ drop i fs
run_ends fs i l = let m : drop i fs ≡ [] = drop_all i fs l in ap from_sync m ∙ sym m
