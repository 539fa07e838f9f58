-- Joining a span to ranges.
use Rattle.std.proofs.Common.{◌≡◌, ◌∙◌, ℕ, ℤ, pos, ◌+ℤ◌, ◌+◌, ◌<◌, ◌≤◌, ◌<ℤ◌, ◌≤ℤ◌, Bool, true, false, cond, ◌||◌, ◌&&◌, not, List, [], ◌∷◌, ◌++◌, length, get_or, set, take, drop, add-one, refl, sym, ap, arith, int_le, int_lt}
use Rattle.std.specs.List.{AllByRecursion}
use Rattle.std.proofs.lemmas.Int.{ints}
use Rattle.std.proofs.lemmas.List.{drop_more, drop_all, take_at, drop_at, length-take-le, set_split}
use Rattle.mse_base.specs.declared.span.Span.{Span}
use Rattle.mse_base.specs.Bridging.{ranges_with_lasting, ranges_with, ranges_with_all, bridged_ranges, span_round, is_near, is_near_any, IsRanges, is_empty, is_far_before}

-- the loop's step where a range is joined
pub step_joins : (gap : ℤ) (xs ys : List Span) (i : ℕ) (s r : Span) (whole : List Span) → i < length xs → r ≡ get_or xs i r → is_far_before gap s r ≡ false → is_far_before gap r s ≡ false → ys ≡ take i xs ++ drop (i + 1) xs → take i xs ++ ranges_with_lasting gap s (drop i xs) ≡ whole → take i ys ++ ranges_with_lasting gap (span_round s r) (drop i ys) ≡ whole
step_joins gap xs ys i s r whole low at before after cut w =
    let n = length-take-le i xs (omega arith) in
    let t : take i ys ≡ take i xs = ap (take i) cut ∙ take_at (take i xs) (drop (i + 1) xs) i n in
    let d : drop i ys ≡ drop (i + 1) xs = ap (drop i) cut ∙ drop_at (take i xs) (drop (i + 1) xs) i n in
    let m : drop i xs ≡ r ∷ drop (i + 1) xs = drop_more xs i r low ∙ ap (λ y. y ∷ drop (i + 1) xs) (sym at) in
    let one : ranges_with_lasting gap s (drop i xs) ≡ ranges_with_lasting gap (span_round s r) (drop (i + 1) xs) =
    ap (ranges_with_lasting gap s) m ∙ ap (λ b. cond b (s ∷ r ∷ drop (i + 1) xs) (cond (is_far_before gap r s) (r ∷ ranges_with_lasting gap s (drop (i + 1) xs)) (ranges_with_lasting gap (span_round s r) (drop (i + 1) xs)))) before
    ∙ ap (λ b. cond b (r ∷ ranges_with_lasting gap s (drop (i + 1) xs)) (ranges_with_lasting gap (span_round s r) (drop (i + 1) xs))) after in
    rw (t, d, ← one) w

-- nothing stands behind a place, or what begins more than the gap after the span
pub none_behind : (gap : ℤ) (s : Span) (xs : List Span) (i : ℕ) → length xs ≤ i + 1 → ranges_with_lasting gap s (drop (i + 1) xs) ≡ s ∷ drop (i + 1) xs
none_behind gap s xs i l = rw (drop_all (i + 1) xs l) refl

pub far_behind : (gap : ℤ) (s q : Span) (xs : List Span) (i : ℕ) → i < length xs → q ≡ get_or xs i q → is_far_before gap s q ≡ true → ranges_with_lasting gap s (drop i xs) ≡ s ∷ drop i xs
far_behind gap s q xs i low at far =
    let m : drop i xs ≡ q ∷ drop (i + 1) xs = drop_more xs i q low ∙ ap (λ y. y ∷ drop (i + 1) xs) (sym at) in
    rw m (ap (λ b. cond b (s ∷ q ∷ drop (i + 1) xs) (cond (is_far_before gap q s) (q ∷ ranges_with_lasting gap s (drop (i + 1) xs)) (ranges_with_lasting gap (span_round s q) (drop (i + 1) xs)))) far)

-- the loop ends with the range joined in its place
pub joined_here : (gap : ℤ) (xs : List Span) (i : ℕ) (s r n : Span) (whole : List Span) → i < length xs → r ≡ get_or xs i r → is_far_before gap s r ≡ false → is_far_before gap r s ≡ false → n ≡ span_round s r → ranges_with_lasting gap n (drop (i + 1) xs) ≡ n ∷ drop (i + 1) xs → take i xs ++ ranges_with_lasting gap s (drop i xs) ≡ whole → set xs i n ≡ whole
joined_here gap xs i s r n whole low at before after is last w =
    let m : drop i xs ≡ r ∷ drop (i + 1) xs = drop_more xs i r low ∙ ap (λ y. y ∷ drop (i + 1) xs) (sym at) in
    let one : ranges_with_lasting gap s (drop i xs) ≡ ranges_with_lasting gap (span_round s r) (drop (i + 1) xs) =
    ap (ranges_with_lasting gap s) m ∙ ap (λ b. cond b (s ∷ r ∷ drop (i + 1) xs) (cond (is_far_before gap r s) (r ∷ ranges_with_lasting gap s (drop (i + 1) xs)) (ranges_with_lasting gap (span_round s r) (drop (i + 1) xs)))) before
    ∙ ap (λ b. cond b (r ∷ ranges_with_lasting gap s (drop (i + 1) xs)) (ranges_with_lasting gap (span_round s r) (drop (i + 1) xs))) after in
    set_split xs i n low ∙ ap (λ k. take i xs ++ n ∷ drop k xs) (sym (add-one i)) ∙ ap (λ ys. take i xs ++ ys) (sym last ∙ ap (λ z. ranges_with_lasting gap z (drop (i + 1) xs)) is ∙ sym one) ∙ w

hull_cases : (gap t a b c d : ℤ) (u v : Bool) → int_lt c a ≡ u → int_lt d b ≡ v → a <ℤ b → c <ℤ d → int_lt (b +ℤ gap) c ≡ false → int_lt (d +ℤ gap) a ≡ false → (int_le (cond u c a) t && int_lt t (cond v b d +ℤ gap)) ≡ ((int_le a t && int_lt t (b +ℤ gap)) || (int_le c t && int_lt t (d +ℤ gap)))
hull_cases gap t a b c d true true e f k l g h = grind (arith, ints)
hull_cases gap t a b c d true false e f k l g h = grind (arith, ints)
hull_cases gap t a b c d false true e f k l g h = grind (arith, ints)
hull_cases gap t a b c d false false e f k l g h = grind (arith, ints)

near_full : (gap t : ℤ) (s : Span) → is_empty s ≡ false → is_near gap t s ≡ (int_le s.start t && int_lt t (s.end +ℤ gap))
near_full gap t s e = ap (λ b. not b && (int_le s.start t && int_lt t (s.end +ℤ gap))) e

not_empty : (s : Span) → is_empty s ≡ false → s.start <ℤ s.end
not_empty s e = grind (arith, ints)

hull_full : (s r : Span) → is_empty s ≡ false → is_empty (span_round s r) ≡ false
hull_full s r a = grind (arith, ints)

near_hull : (gap t : ℤ) (s r : Span) → is_empty s ≡ false → is_empty r ≡ false → is_far_before gap s r ≡ false → is_far_before gap r s ≡ false → is_near gap t (span_round s r) ≡ (is_near gap t s || is_near gap t r)
near_hull gap t s r a b c d =
    near_full gap t (span_round s r) (hull_full s r a)
    ∙ hull_cases gap t s.start s.end r.start r.end (int_lt r.start s.start) (int_lt r.end s.end) refl refl (not_empty s a) (not_empty r b) c d
    ∙ ap (λ x. x || (int_le r.start t && int_lt t (r.end +ℤ gap))) (sym (near_full gap t s a)) ∙ ap (λ x. is_near gap t s || x) (sym (near_full gap t r b))

full : (r : Span) → r.start <ℤ r.end → is_empty r ≡ false
full r h = grind (arith, ints)

or_swap : (a b c : Bool) → (a || (b || c)) ≡ (b || (a || c))
or_swap true true c = refl
or_swap true false c = refl
or_swap false b c = refl

or_assoc : (a b c : Bool) → ((a || b) || c) ≡ (a || (b || c))
or_assoc true b c = refl
or_assoc false b c = refl

times-step : (gap t : ℤ) (s r : Span) (rs : List Span) (before after : Bool) → is_far_before gap s r ≡ before → is_far_before gap r s ≡ after → is_empty s ≡ false → is_empty r ≡ false → is_near_any gap t (ranges_with_lasting gap s rs) ≡ (is_near gap t s || is_near_any gap t rs) → is_near_any gap t (ranges_with_lasting gap (span_round s r) rs) ≡ (is_near gap t (span_round s r) || is_near_any gap t rs) → is_near_any gap t (cond before (s ∷ r ∷ rs) (cond after (r ∷ ranges_with_lasting gap s rs) (ranges_with_lasting gap (span_round s r) rs))) ≡ (is_near gap t s || (is_near gap t r || is_near_any gap t rs))
times-step gap t s r rs true after a b c d one two = refl
times-step gap t s r rs false true a b c d one two = ap (λ x. is_near gap t r || x) one ∙ or_swap (is_near gap t r) (is_near gap t s) (is_near_any gap t rs)
times-step gap t s r rs false false a b c d one two = two ∙ ap (λ x. x || is_near_any gap t rs) (near_hull gap t s r c d a b) ∙ or_assoc (is_near gap t s) (is_near gap t r) (is_near_any gap t rs)

times_merged : (gap t : ℤ) (s : Span) (rs : List Span) → is_empty s ≡ false → IsRanges gap rs → is_near_any gap t (ranges_with_lasting gap s rs) ≡ (is_near gap t s || is_near_any gap t rs)
times_merged gap t s [] e h = refl
times_merged gap t s (r ∷ rs) e h = times-step gap t s r rs (is_far_before gap s r) (is_far_before gap r s) refl refl e (full r h.0) (times_merged gap t s rs e h.2) (times_merged gap t (span_round s r) rs (hull_full s r e) h.2)

all_later : (gap n m : ℤ) (rs : List Span) → n <ℤ m → AllByRecursion (λ q. (m +ℤ gap) <ℤ q.start) rs → AllByRecursion (λ q. (n +ℤ gap) <ℤ q.start) rs
all_later gap n m [] l h = h
all_later gap n m (r ∷ rs) l h = (let first = h.0 in omega (arith, ints), all_later gap n m rs l h.1)

all-step : (gap n : ℤ) (s r : Span) (rs : List Span) (before after : Bool) → n <ℤ s.start → n <ℤ r.start → AllByRecursion (λ q. n <ℤ q.start) rs → AllByRecursion (λ q. n <ℤ q.start) (ranges_with_lasting gap s rs) → AllByRecursion (λ q. n <ℤ q.start) (ranges_with_lasting gap (span_round s r) rs) → AllByRecursion (λ q. n <ℤ q.start) (cond before (s ∷ r ∷ rs) (cond after (r ∷ ranges_with_lasting gap s rs) (ranges_with_lasting gap (span_round s r) rs)))
all-step gap n s r rs true after l k h one two = (l, (k, h))
all-step gap n s r rs false true l k h one two = (k, one)
all-step gap n s r rs false false l k h one two = two

hull_after : (n : ℤ) (s r : Span) → n <ℤ s.start → n <ℤ r.start → n <ℤ (span_round s r).start
hull_after n s r l k = grind (arith, ints)

all_merged : (gap n : ℤ) (s : Span) (rs : List Span) → n <ℤ s.start → AllByRecursion (λ q. n <ℤ q.start) rs → AllByRecursion (λ q. n <ℤ q.start) (ranges_with_lasting gap s rs)
all_merged gap n s [] l h = (l, tt)
all_merged gap n s (r ∷ rs) l h = all-step gap n s r rs (is_far_before gap s r) (is_far_before gap r s) l h.0 h.1 (all_merged gap n s rs l h.1) (all_merged gap n (span_round s r) rs (hull_after n s r l h.0) h.1)

lasts : (s : Span) → is_empty s ≡ false → s.start <ℤ s.end
lasts s e = grind (arith, ints)

lt_of : (a b : ℤ) → int_lt a b ≡ true → a <ℤ b
lt_of a b e = grind (arith, ints)

ranges-step : (gap : ℤ) (s r : Span) (rs : List Span) (before after : Bool) → pos 0 ≤ℤ gap → is_far_before gap s r ≡ before → is_far_before gap r s ≡ after → is_empty s ≡ false → IsRanges gap (r ∷ rs) → IsRanges gap (ranges_with_lasting gap s rs) → IsRanges gap (ranges_with_lasting gap (span_round s r) rs) → IsRanges gap (cond before (s ∷ r ∷ rs) (cond after (r ∷ ranges_with_lasting gap s rs) (ranges_with_lasting gap (span_round s r) rs)))
ranges-step gap s r rs true after g a b c h one two =
    let apart = lt_of (s.end +ℤ gap) r.start a in
    let own = h.0 in
    let far : s.end <ℤ r.end = omega (arith, ints) in
    (lasts s c, (apart, all_later gap s.end r.end rs far h.1), h)
ranges-step gap s r rs false true g a b c h one two = (h.0, all_merged gap (r.end +ℤ gap) s rs (lt_of (r.end +ℤ gap) s.start b) h.1, one)
ranges-step gap s r rs false false g a b c h one two = two

ranges_merged : (gap : ℤ) (s : Span) (rs : List Span) → pos 0 ≤ℤ gap → is_empty s ≡ false → IsRanges gap rs → IsRanges gap (ranges_with_lasting gap s rs)
ranges_merged gap s [] g e h = (lasts s e, tt, tt)
ranges_merged gap s (r ∷ rs) g e h = ranges-step gap s r rs (is_far_before gap s r) (is_far_before gap r s) g refl refl e h (ranges_merged gap s rs g e h.2) (ranges_merged gap (span_round s r) rs g (hull_full s r e) h.2)

ranges_by : (gap : ℤ) (b : Bool) (s : Span) (rs : List Span) → pos 0 ≤ℤ gap → is_empty s ≡ b → IsRanges gap rs → IsRanges gap (cond b rs (ranges_with_lasting gap s rs))
ranges_by gap true s rs g e h = h
ranges_by gap false s rs g e h = ranges_merged gap s rs g e h

-- ranges stay ranges where a span is joined in
pub ranges_join_in : (gap : ℤ) (rs : List Span) (s : Span) → pos 0 ≤ℤ gap → IsRanges gap rs → IsRanges gap (ranges_with gap rs s)
ranges_join_in gap rs s g h = ranges_by gap (is_empty s) s rs g refl h

near_none : (gap t : ℤ) (s : Span) → is_empty s ≡ true → is_near gap t s ≡ false
near_none gap t s e = ap (λ b. not b && (int_le s.start t && int_lt t (s.end +ℤ gap))) e

times_by : (gap : ℤ) (b : Bool) (t : ℤ) (s : Span) (rs : List Span) → is_empty s ≡ b → IsRanges gap rs → is_near_any gap t (cond b rs (ranges_with_lasting gap s rs)) ≡ (is_near gap t s || is_near_any gap t rs)
times_by gap true t s rs e h = ap (λ x. x || is_near_any gap t rs) (sym (near_none gap t s e))
times_by gap false t s rs e h = times_merged gap t s rs e h

-- the ticks after a span is joined in
pub times_join_in : (gap t : ℤ) (rs : List Span) (s : Span) → IsRanges gap rs → is_near_any gap t (ranges_with gap rs s) ≡ (is_near gap t s || is_near_any gap t rs)
times_join_in gap t rs s h = times_by gap (is_empty s) t s rs refl h

pub ranges_joined_to : (gap : ℤ) (rs spans : List Span) → pos 0 ≤ℤ gap → IsRanges gap rs → IsRanges gap (ranges_with_all gap rs spans)
ranges_joined_to gap rs [] g h = h
ranges_joined_to gap rs (s ∷ spans) g h = ranges_joined_to gap (ranges_with gap rs s) spans g (ranges_join_in gap rs s g h)

pub ranges_bridged : (gap : ℤ) (spans : List Span) → pos 0 ≤ℤ gap → IsRanges gap (bridged_ranges gap spans)
ranges_bridged gap spans g = ranges_joined_to gap [] spans g tt

or_none : (a : Bool) → a ≡ (a || false)
or_none true = refl
or_none false = refl

or_turn : (a b c : Bool) → ((a || b) || c) ≡ (b || (a || c))
or_turn true true c = refl
or_turn true false c = refl
or_turn false b c = refl

-- the ticks after some spans are joined in
pub times_joined_to : (gap t : ℤ) (rs spans : List Span) → pos 0 ≤ℤ gap → IsRanges gap rs → is_near_any gap t (ranges_with_all gap rs spans) ≡ (is_near_any gap t rs || is_near_any gap t spans)
times_joined_to gap t rs [] g h = or_none (is_near_any gap t rs)
times_joined_to gap t rs (s ∷ spans) g h =
    times_joined_to gap t (ranges_with gap rs s) spans g (ranges_join_in gap rs s g h) ∙ ap (λ x. x || is_near_any gap t spans) (times_by gap (is_empty s) t s rs refl h) ∙ or_turn (is_near gap t s) (is_near_any gap t rs) (is_near_any gap t spans)

pub times_bridged : (gap t : ℤ) (spans : List Span) → pos 0 ≤ℤ gap → is_near_any gap t (bridged_ranges gap spans) ≡ is_near_any gap t spans
times_bridged gap t spans g = times_joined_to gap t [] spans g tt

length-step : (before after : Bool) (s r h : Span) (rs xs ys : List Span) → length xs ≤ length rs + 1 → length ys ≤ length rs + 1 → length (cond before (s ∷ r ∷ rs) (cond after (r ∷ xs) ys)) ≤ length (r ∷ rs) + 1
length-step true after s r h rs xs ys a b = omega arith
length-step false true s r h rs xs ys a b = omega arith
length-step false false s r h rs xs ys a b = omega arith

length_merged : (gap : ℤ) (s : Span) (rs : List Span) → length (ranges_with_lasting gap s rs) ≤ length rs + 1
length_merged gap s [] = omega arith
length_merged gap s (r ∷ rs) = length-step (is_far_before gap s r) (is_far_before gap r s) s r s rs _ _ (length_merged gap s rs) (length_merged gap (span_round s r) rs)

length_by : (b : Bool) (rs xs : List Span) → length xs ≤ length rs + 1 → length (cond b rs xs) ≤ length rs + 1
length_by true rs xs h = omega arith
length_by false rs xs h = h

pub length_join_in : (gap : ℤ) (rs : List Span) (s : Span) → length (ranges_with gap rs s) ≤ length rs + 1
length_join_in gap rs s = length_by (is_empty s) rs (ranges_with_lasting gap s rs) (length_merged gap s rs)

pub length_joined_to : (gap : ℤ) (rs spans : List Span) → length (ranges_with_all gap rs spans) ≤ length rs + length spans
length_joined_to gap rs [] = omega arith
length_joined_to gap rs (s ∷ spans) =
    let rest = length_joined_to gap (ranges_with gap rs s) spans in
    let one = length_join_in gap rs s in
    omega arith

-- there are never more ranges than spans
pub length_bridged : (gap : ℤ) (spans : List Span) → length (bridged_ranges gap spans) ≤ length spans
length_bridged gap spans = let h = length_joined_to gap [] spans in omega arith
