-- Joining a span to one of the last two ranges.
use Rattle.std.proofs.Common.{◌≡◌, ◌∙◌, ℕ, zero, suc, ℤ, pos, ◌+ℤ◌, ◌+◌, ◌<◌, ◌<ℤ◌, ◌≤ℤ◌, true, false, List, [], ◌∷◌, ◌++◌, length, get_or, set, take, drop, remove, add-one, refl, sym, ap, subst, arith, int_lt, length-append, length-drop}
use Rattle.std.specs.Int.{int_min, int_max}
use Rattle.std.specs.List.{AllByRecursion}
use Rattle.std.proofs.lemmas.Int.{ints}
use Rattle.std.proofs.lemmas.List.{drop_all, length-take-le}
use Rattle.std.proofs.lemmas.List.Edits.{get_or-remove_above}
use Rattle.mse_base.specs.declared.span.Span.{Span}
use Rattle.mse_base.specs.Bridging.{ranges_with_lasting, ranges_with, span_round, IsRanges, is_empty, is_far_before}
use Rattle.mse_base.proofs.JoinedSpans.{step_joins, none_behind, far_behind, joined_here}
use Rattle.mse_base.proofs.Places.{far_to_place, join_in_skips}

not_lt : (a b : ℤ) → b ≤ℤ a → int_lt a b ≡ false
not_lt a b h = grind (arith, ints)

lasts : (s : Span) → is_empty s ≡ false → s.start <ℤ s.end
lasts s e = grind (arith, ints)

first_start : (a b : ℤ) → b ≤ℤ a → int_min a b ≡ b
first_start a b h = grind (arith, ints)

-- the least span round two, of which one begins no later
pub round_later : (s r : Span) (end : ℤ) → r.start ≤ℤ s.start → end ≡ int_max s.end r.end → record { start = r.start; end = end } ≡ span_round s r
round_later s r end h e =
    let make : ℤ → ℤ → Span = λ a b. record { start = a; end = b } in
    ap (make r.start) e ∙ ap (λ a. make a (int_max s.end r.end)) (sym (first_start s.start r.start h))

not_ahead : (gap : ℤ) (s r : Span) → pos 0 ≤ℤ gap → s.start <ℤ s.end → r.start ≤ℤ s.start → is_far_before gap s r ≡ false
not_ahead gap s r g l b = not_lt (s.end +ℤ gap) r.start (omega (arith, ints))

-- the ranges before a place at which one begins no later than a span
whole_from : (gap : ℤ) (xs : List Span) (i : ℕ) (s r : Span) → pos 0 ≤ℤ gap → is_empty s ≡ false → IsRanges gap xs → i < length xs → r ≡ get_or xs i r → r.start ≤ℤ s.start → take i xs ++ ranges_with_lasting gap s (drop i xs) ≡ ranges_with gap xs s
whole_from gap xs i s r g e h l at b = join_in_skips gap s xs i g e h (far_to_place gap s r xs i h l at b)

-- the last range becomes longer
pub late_joined : (gap : ℤ) (xs : List Span) (i : ℕ) (s r n : Span) → pos 0 ≤ℤ gap → is_empty s ≡ false → IsRanges gap xs → i + 1 ≡ length xs → r ≡ get_or xs i r → r.start ≤ℤ s.start → is_far_before gap r s ≡ false → n ≡ span_round s r → set xs i n ≡ ranges_with gap xs s
late_joined gap xs i s r n g e h k at b far is =
    let l : i < length xs = omega arith in
    joined_here gap xs i s r n (ranges_with gap xs s) l at (not_ahead gap s r g (lasts s e) b) far is (none_behind gap n xs i (omega arith)) (whole_from gap xs i s r g e h l at b)

all_more : (P : Span → Type 0) (xs : List Span) (i : ℕ) (x : Span) → i < length xs → x ≡ get_or xs i x → AllByRecursion P (take i xs) → P x → AllByRecursion P (take (suc i) xs)
all_more P [] i x l at a p = absurd (omega arith)
all_more P (y ∷ xs) zero x l at a p = (subst P at p, tt)
all_more P (y ∷ xs) (suc i) x l at a p = (a.0, all_more P xs i x (omega arith) at a.1 p)

-- a range more comes behind the last
pub late_put : (gap : ℤ) (xs : List Span) (i n : ℕ) (s r : Span) → pos 0 ≤ℤ gap → is_empty s ≡ false → IsRanges gap xs → i + 1 ≡ n → n ≡ length xs → r ≡ get_or xs i r → r.start ≤ℤ s.start → is_far_before gap r s ≡ true → take n xs ++ s ∷ drop n xs ≡ ranges_with gap xs s
late_put gap xs i n s r g e h k m at b far =
    let l : i < length xs = omega arith in
    let z : suc i ≡ n = omega arith in
    let none : drop n xs ≡ [] = drop_all n xs (omega arith) in
    let all = subst (λ (j : ℕ). AllByRecursion (λ q. is_far_before gap q s ≡ true) (take j xs)) z (all_more (λ q. is_far_before gap q s ≡ true) xs i r l at (far_to_place gap s r xs i h l at b) far) in
    ap (λ ys. take n xs ++ s ∷ ys) none ∙ ap (λ ys. take n xs ++ ranges_with_lasting gap s ys) (sym none) ∙ join_in_skips gap s xs n g e h all

-- the range before the last becomes longer, and does not reach the last
pub before_joined : (gap : ℤ) (xs : List Span) (i j : ℕ) (s r n q : Span) → pos 0 ≤ℤ gap → is_empty s ≡ false → IsRanges gap xs → i + 1 ≡ j → j + 1 ≡ length xs → r ≡ get_or xs i r → q ≡ get_or xs j q → r.start ≤ℤ s.start → is_far_before gap r s ≡ false → n ≡ span_round s r → is_far_before gap n q ≡ true → set xs i n ≡ ranges_with gap xs s
before_joined gap xs i j s r n q g e h k m at to b far is apart =
    let l : i < length xs = omega arith in
    joined_here gap xs i s r n (ranges_with gap xs s) l at (not_ahead gap s r g (lasts s e) b) far is (far_behind gap n q xs (i + 1) (omega arith) (subst (λ (a : ℕ). q ≡ get_or xs a q) (sym k) to) apart) (whole_from gap xs i s r g e h l at b)

-- the last of two neighbours begins later
later_last : (gap : ℤ) (xs : List Span) (i : ℕ) (r q : Span) → pos 0 ≤ℤ gap → IsRanges gap xs → i + 1 < length xs → r ≡ get_or xs i r → q ≡ get_or xs (suc i) q → (r.start ≤ℤ q.start) × (q.start <ℤ q.end)
later_last gap [] i r q g h l at to = absurd (omega arith)
later_last gap (x ∷ []) i r q g h l at to = absurd (omega arith)
later_last gap (x ∷ y ∷ xs) zero r q g h l at to =
    let own = h.0 in
    let next = h.1.0 in
    let last = h.2.0 in
    let a : x.start ≤ℤ y.start = omega (arith, ints) in
    (subst (λ (z : Span). z.start ≤ℤ q.start) (sym at) (subst (λ (z : Span). x.start ≤ℤ z.start) (sym to) a), subst (λ (z : Span). z.start <ℤ z.end) (sym to) last)
later_last gap (x ∷ y ∷ xs) (suc i) r q g h l at to = later_last gap (y ∷ xs) i r q g h.2 (omega arith) at to

-- the last goes, and the one before has another in its place
two_as_one : (xs : List Span) (i : ℕ) (m : Span) → suc (suc i) ≡ length xs → take (suc i) (set xs i m) ++ drop (suc (suc i)) (set xs i m) ≡ set (take i xs ++ drop (suc i) xs) i m
two_as_one [] i m l = absurd (omega arith)
two_as_one (x ∷ []) i m l = absurd (omega arith)
two_as_one (x ∷ y ∷ []) zero m l = refl
two_as_one (x ∷ y ∷ z ∷ xs) zero m l = absurd (omega arith)
two_as_one (x ∷ y ∷ xs) (suc i) m l = ap (λ ys. x ∷ ys) (two_as_one (y ∷ xs) i m (omega arith))

-- the last two become one
pub before_closed : (gap : ℤ) (xs ys zs : List Span) (i j : ℕ) (s r n q m : Span) → pos 0 ≤ℤ gap → is_empty s ≡ false → IsRanges gap xs → i + 1 ≡ j → j + 1 ≡ length xs → r ≡ get_or xs i r → q ≡ get_or xs j q → r.start ≤ℤ s.start → is_far_before gap r s ≡ false → n ≡ span_round s r → is_far_before gap n q ≡ false → m ≡ span_round n q → ys ≡ set xs i m → zs ≡ take j ys ++ drop (j + 1) ys → zs ≡ ranges_with gap xs s
before_closed gap xs ys zs i j s r n q m g e h k w at to b far is near both one two =
    let l : i < length xs = omega arith in
    let z : suc i ≡ j = omega arith in
    let zz : suc (suc i) ≡ j + 1 = omega arith in
    let us = take i xs ++ drop (i + 1) xs in
    let vs : us ≡ remove xs i = ap (λ a. take i xs ++ drop a xs) (add-one i) in
    let long : length us + 1 ≡ length xs = omega (arith, length-append (take i xs) (drop (i + 1) xs), length-take-le i xs (omega arith), length-drop (i + 1) xs) in
    let there : q ≡ get_or xs (suc i) q = subst (λ (a : ℕ). q ≡ get_or xs a q) (sym z) to in
    let here : q ≡ get_or us i q = there ∙ ap (λ a. get_or xs a q) (sym (add-one i)) ∙ sym (get_or-remove_above xs i q i (omega arith) l) ∙ ap (λ ts. get_or ts i q) (sym vs) in
    let step = step_joins gap xs us i s r (ranges_with gap xs s) l at (not_ahead gap s r g (lasts s e) b) far refl (whole_from gap xs i s r g e h l at b) in
    let whole = subst (λ (a : Span). take i us ++ ranges_with_lasting gap a (drop i us) ≡ ranges_with gap xs s) (sym is) step in
    let later = later_last gap xs i r q g h (omega arith) at there in
    let begins : n.start ≡ r.start = ap (λ (a : Span). a.start) is ∙ first_start s.start r.start b in
    let low = later.0 in
    let lasting = later.1 in
    let behind : is_far_before gap q n ≡ false = not_lt (q.end +ℤ gap) n.start (omega (arith, ints)) in
    let all = joined_here gap us i n q m (ranges_with gap xs s) (omega arith) here near behind both (none_behind gap m us i (omega arith)) whole in
    two ∙ ap (λ a. take a ys ++ drop (j + 1) ys) (sym z) ∙ ap (λ a. take (suc i) ys ++ drop a ys) (sym zz) ∙ ap (λ ts. take (suc i) ts ++ drop (suc (suc i)) ts) one ∙ two_as_one xs i m (omega arith) ∙ ap (λ ts. set ts i m) (sym vs) ∙ all
