-- Taking a hole out of ranges, and filling it again.
use Rattle.std.proofs.Common.{◌≡◌, ◌∙◌, ℤ, pos, ◌+ℤ◌, ◌-ℤ◌, ◌<ℤ◌, ◌≤ℤ◌, Bool, true, false, cond, ◌||◌, List, [], ◌∷◌, ◌++◌, refl, sym, ap, subst, inl, inr, ◌⊎◌, arith, int_lt}
use Rattle.std.specs.List.{AllByRecursion}
use Rattle.std.proofs.lemmas.Int.{ints}
use Rattle.std.specs.Int.{int_min, int_max}
use Rattle.mse_base.specs.declared.span.Span.{Span}
use Rattle.mse_base.specs.Bridging.{bridged_ranges, ranges_with_all, is_near, is_near_any, IsRanges, span_between, ranges_without}
use Rattle.mse_base.proofs.JoinedSpans.{ranges_bridged, ranges_joined_to, times_bridged, times_joined_to}
use Rattle.mse_base.proofs.Extended.{IsIn, same_near, near_holder, near_by, near_parts, near_is, far_off, end_open, start_open}

or_assoc : (a b c : Bool) → ((a || b) || c) ≡ (a || (b || c))
or_assoc true b c = refl
or_assoc false b c = refl

pub nears-append : (gap t : ℤ) (xs ys : List Span) → is_near_any gap t (xs ++ ys) ≡ (is_near_any gap t xs || is_near_any gap t ys)
nears-append gap t [] ys = refl
nears-append gap t (x ∷ xs) ys = ap (λ b. is_near gap t x || b) (nears-append gap t xs ys) ∙ sym (or_assoc (is_near gap t x) (is_near_any gap t xs) (is_near_any gap t ys))

neither : (a b : Bool) → a ≡ false → b ≡ false → (a || b) ≡ false
neither a b e f = ap (λ x. x || b) e ∙ f

or_right : (a b : Bool) → b ≡ true → (a || b) ≡ true
or_right true b e = refl
or_right false b e = e

or_left : (a b : Bool) → a ≡ true → (a || b) ≡ true
or_left a b e = ap (λ x. x || b) e

or_cases : {P : Type 0} (a b : Bool) → (a || b) ≡ true → (a ≡ true → P) → (b ≡ true → P) → P
or_cases true b e f g = f refl
or_cases false b e f g = g e

span : ℤ → ℤ → Span
span x y = record { start = x; end = y }

if_off : (gap t : ℤ) (c : Bool) (s : Span) → is_near gap t s ≡ false → is_near_any gap t (cond c (s ∷ []) []) ≡ false
if_off gap t true s e = neither (is_near gap t s) false e refl
if_off gap t false s e = refl

part_off : (gap t x y : ℤ) → (t <ℤ x) ⊎ ((y +ℤ gap) ≤ℤ t) → is_near_any gap t (span_between x y) ≡ false
part_off gap t x y h = if_off gap t (int_lt x y) (record { start = x; end = y }) (far_off gap t (record { start = x; end = y }) h)

lesser_low : (x a : ℤ) → int_min x a ≤ℤ a
lesser_low x a = grind (arith, ints)

lesser_own : (x a : ℤ) → int_min x a ≤ℤ x
lesser_own x a = grind (arith, ints)

greater_high : (x b : ℤ) → b ≤ℤ int_max x b
greater_high x b = grind (arith, ints)

greater_own : (x b : ℤ) → x ≤ℤ int_max x b
greater_own x b = grind (arith, ints)

lesser_above : (t x a : ℤ) → t <ℤ x → t <ℤ a → t <ℤ int_min x a
lesser_above t x a h k = grind (arith, ints)

greater_below : (t x b : ℤ) → x ≤ℤ t → b ≤ℤ t → int_max x b ≤ℤ t
greater_below t x b h k = grind (arith, ints)

greater_under : (t x b : ℤ) → x <ℤ t → b <ℤ t → int_max x b <ℤ t
greater_under t x b h k = grind (arith, ints)

-- no tick of the hole is left
pub hole_empty : (gap t a b : ℤ) (rs : List Span) → (a +ℤ gap) ≤ℤ t → t <ℤ b → is_near_any gap t (ranges_without a b rs) ≡ false
hole_empty gap t a b [] l h = refl
hole_empty gap t a b (r ∷ rs) l h =
    let low = lesser_low r.end a in
    let high = greater_high r.start b in
    let first = part_off gap t r.start (int_min r.end a) (inr (omega (arith, ints))) in
    let second = part_off gap t (int_max r.start b) r.end (inl (omega (arith, ints))) in
    nears-append gap t (span_between r.start (int_min r.end a)) _ ∙ neither _ _ first (nears-append gap t (span_between (int_max r.start b) r.end) (ranges_without a b rs) ∙ neither _ _ second (hole_empty gap t a b rs l h))

if_of : {P : Type 0} (gap t : ℤ) (c : Bool) (s : Span) → is_near_any gap t (cond c (s ∷ []) []) ≡ true → (is_near gap t s ≡ true → P) → P
if_of gap t true s e f = or_cases (is_near gap t s) false e f (λ k. absurd cc)
if_of gap t false s e f = absurd cc

-- what is left was there
pub carved_less : (gap t a b : ℤ) (rs : List Span) → is_near_any gap t (ranges_without a b rs) ≡ true → is_near_any gap t rs ≡ true
carved_less gap t a b [] e = e
carved_less gap t a b (r ∷ rs) e =
    let one = span_between r.start (int_min r.end a) in
    let two = span_between (int_max r.start b) r.end in
    or_cases (is_near_any gap t one) (is_near_any gap t (two ++ ranges_without a b rs)) (sym (nears-append gap t one (two ++ ranges_without a b rs)) ∙ e)
    (λ k. if_of gap t (int_lt r.start (int_min r.end a)) (record { start = r.start; end = int_min r.end a }) k
    (λ n. let p = near_parts gap t (record { start = r.start; end = int_min r.end a }) n in
    let p0 = p.0 in let p1 = p.1 in let p2 = p.2 in let own = lesser_own r.end a in
    or_left (is_near gap t r) (is_near_any gap t rs) (near_is gap t r (omega (arith, ints)) p1 (omega (arith, ints)))))
    (λ k. or_cases (is_near_any gap t two) (is_near_any gap t (ranges_without a b rs)) (sym (nears-append gap t two (ranges_without a b rs)) ∙ k)
    (λ m. if_of gap t (int_lt (int_max r.start b) r.end) (record { start = int_max r.start b; end = r.end }) m
    (λ n. let p = near_parts gap t (record { start = int_max r.start b; end = r.end }) n in
    let p0 = p.0 in let p1 = p.1 in let p2 = p.2 in let own = greater_own r.start b in
    or_left (is_near gap t r) (is_near_any gap t rs) (near_is gap t r (omega (arith, ints)) (omega (arith, ints)) p2)))
    (λ m. or_right (is_near gap t r) (is_near_any gap t rs) (carved_less gap t a b rs m)))

if_all : (P : Span → Type 0) (c : Bool) (s : Span) (ys : List Span) → P s → AllByRecursion P ys → AllByRecursion P (cond c (s ∷ []) [] ++ ys)
if_all P true s ys p h = (p, h)
if_all P false s ys p h = h

all_carved : (n a b : ℤ) (rs : List Span) → AllByRecursion (λ q. n <ℤ q.start) rs → AllByRecursion (λ q. n <ℤ q.start) (ranges_without a b rs)
all_carved n a b [] h = tt
all_carved n a b (r ∷ rs) h =
    let first = h.0 in
    let own = greater_own r.start b in
    if_all (λ q. n <ℤ q.start) (int_lt r.start (int_min r.end a)) (record { start = r.start; end = int_min r.end a }) _ first
    (if_all (λ q. n <ℤ q.start) (int_lt (int_max r.start b) r.end) (record { start = int_max r.start b; end = r.end }) (ranges_without a b rs) (omega (arith, ints)) (all_carved n a b rs h.1))

lt_of : (a b : ℤ) → int_lt a b ≡ true → a <ℤ b
lt_of a b e = grind (arith, ints)

if_ranges : (gap x y : ℤ) (c : Bool) (ys : List Span) → int_lt x y ≡ c → AllByRecursion (λ q. (y +ℤ gap) <ℤ q.start) ys → IsRanges gap ys → IsRanges gap (cond c (record { start = x; end = y } ∷ []) [] ++ ys)
if_ranges gap x y true ys e h k = (lt_of x y e, h, k)
if_ranges gap x y false ys e h k = k

all_later : (n m : ℤ) (rs : List Span) → n ≤ℤ m → AllByRecursion (λ q. m <ℤ q.start) rs → AllByRecursion (λ q. n <ℤ q.start) rs
all_later n m [] l h = h
all_later n m (r ∷ rs) l h = (let first = h.0 in omega (arith, ints), all_later n m rs l h.1)

-- what is left are ranges
pub ranges_carved : (gap a b : ℤ) (rs : List Span) → pos 0 ≤ℤ gap → (a +ℤ gap) <ℤ b → IsRanges gap rs → IsRanges gap (ranges_without a b rs)
ranges_carved gap a b [] g w h = tt
ranges_carved gap a b (r ∷ rs) g w h =
    let rest = ranges_carved gap a b rs g w h.2 in
    let later = all_carved (r.end +ℤ gap) a b rs h.1 in
    let low = lesser_low r.end a in
    let own = lesser_own r.end a in
    let high = greater_high r.start b in
    let right = if_ranges gap (int_max r.start b) r.end (int_lt (int_max r.start b) r.end) (ranges_without a b rs) refl later rest in
    let after = if_all (λ q. (int_min r.end a +ℤ gap) <ℤ q.start) (int_lt (int_max r.start b) r.end) (record { start = int_max r.start b; end = r.end }) (ranges_without a b rs) (omega (arith, ints)) (all_later (int_min r.end a +ℤ gap) (r.end +ℤ gap) (ranges_without a b rs) (omega (arith, ints)) later) in
    if_ranges gap r.start (int_min r.end a) (int_lt r.start (int_min r.end a)) _ refl after right

is_lt : (a b : ℤ) → a <ℤ b → int_lt a b ≡ true
is_lt a b h = grind (arith, ints)

if_on : (gap t x y : ℤ) → x <ℤ y → x ≤ℤ t → t <ℤ (y +ℤ gap) → is_near_any gap t (span_between x y) ≡ true
if_on gap t x y a b c = ap (λ d. is_near_any gap t (cond d (record { start = x; end = y } ∷ []) [])) (is_lt x y a) ∙ or_left (is_near gap t (record { start = x; end = y })) false (near_is gap t (record { start = x; end = y }) a b c)

-- what stays of a range that begins before the hole, and of one that ends after it
left_one : (gap t a : ℤ) (r : Span) → is_near gap t r ≡ true → t <ℤ (a +ℤ gap) → r.start <ℤ a → is_near_any gap t (span_between r.start (int_min r.end a)) ≡ true
left_one gap t a r e l s =
    let p = near_parts gap t r e in
    let p0 = p.0 in
    let p2 = p.2 in
    let near_end = lesser_above (t -ℤ gap) r.end a (omega (arith, ints)) (omega (arith, ints)) in
    if_on gap t r.start (int_min r.end a) (lesser_above r.start r.end a p0 s) p.1 (omega (arith, ints))

right_one : (gap t b : ℤ) (r : Span) → is_near gap t r ≡ true → b ≤ℤ t → b <ℤ r.end → is_near_any gap t (span_between (int_max r.start b) r.end) ≡ true
right_one gap t b r e l s =
    let p = near_parts gap t r e in
    if_on gap t (int_max r.start b) r.end (greater_under r.end r.start b p.0 s) (greater_below t r.start b p.1 l) p.2

in_first : (gap t a b : ℤ) (r : Span) (rs : List Span) → is_near_any gap t (span_between r.start (int_min r.end a)) ≡ true → is_near_any gap t (ranges_without a b (r ∷ rs)) ≡ true
in_first gap t a b r rs e = nears-append gap t (span_between r.start (int_min r.end a)) _ ∙ or_left _ _ e

in_second : (gap t a b : ℤ) (r : Span) (rs : List Span) → is_near_any gap t (span_between (int_max r.start b) r.end) ≡ true → is_near_any gap t (ranges_without a b (r ∷ rs)) ≡ true
in_second gap t a b r rs e = nears-append gap t (span_between r.start (int_min r.end a)) _ ∙ or_right _ _ (nears-append gap t (span_between (int_max r.start b) r.end) (ranges_without a b rs) ∙ or_left _ _ e)

in_rest : (gap t a b : ℤ) (r : Span) (rs : List Span) → is_near_any gap t (ranges_without a b rs) ≡ true → is_near_any gap t (ranges_without a b (r ∷ rs)) ≡ true
in_rest gap t a b r rs e = nears-append gap t (span_between r.start (int_min r.end a)) _ ∙ or_right _ _ (nears-append gap t (span_between (int_max r.start b) r.end) (ranges_without a b rs) ∙ or_right _ _ e)

kept_left : (gap t a b : ℤ) (rs : List Span) (r : Span) → IsIn r rs → is_near gap t r ≡ true → t <ℤ (a +ℤ gap) → r.start <ℤ a → is_near_any gap t (ranges_without a b rs) ≡ true
kept_left gap t a b [] r i e l s = absurd i
kept_left gap t a b (x ∷ rs) r (inl same) e l s = in_first gap t a b x rs (subst (λ (z : Span). is_near_any gap t (span_between z.start (int_min z.end a)) ≡ true) same (left_one gap t a r e l s))
kept_left gap t a b (x ∷ rs) r (inr i) e l s = in_rest gap t a b x rs (kept_left gap t a b rs r i e l s)

kept_right : (gap t a b : ℤ) (rs : List Span) (r : Span) → IsIn r rs → is_near gap t r ≡ true → b ≤ℤ t → b <ℤ r.end → is_near_any gap t (ranges_without a b rs) ≡ true
kept_right gap t a b [] r i e l s = absurd i
kept_right gap t a b (x ∷ rs) r (inl same) e l s = in_second gap t a b x rs (subst (λ (z : Span). is_near_any gap t (span_between (int_max z.start b) z.end) ≡ true) same (right_one gap t b r e l s))
kept_right gap t a b (x ∷ rs) r (inr i) e l s = in_rest gap t a b x rs (kept_right gap t a b rs r i e l s)

-- the spans that end by a, and those that begin from b on
ends_off : (gap t a : ℤ) (xs : List Span) → AllByRecursion (λ s. s.end ≤ℤ a) xs → (a +ℤ gap) ≤ℤ t → is_near_any gap t xs ≡ false
ends_off gap t a [] h l = refl
ends_off gap t a (x ∷ xs) h l = let first = h.0 in neither _ _ (far_off gap t x (inr (omega (arith, ints)))) (ends_off gap t a xs h.1 l)

begins_off : (gap t b : ℤ) (ys : List Span) → AllByRecursion (λ s. b ≤ℤ s.start) ys → t <ℤ b → is_near_any gap t ys ≡ false
begins_off gap t b [] h l = refl
begins_off gap t b (y ∷ ys) h l = let first = h.0 in neither _ _ (far_off gap t y (inl (omega (arith, ints)))) (begins_off gap t b ys h.1 l)

each_in : (P : Span → Type 0) (rs : List Span) (r : Span) → AllByRecursion P rs → IsIn r rs → P r
each_in P [] r h i = absurd i
each_in P (x ∷ rs) r h (inl same) = subst P (sym same) h.0
each_in P (x ∷ rs) r h (inr i) = each_in P rs r h.1 i

true_false : (b : Bool) → b ≡ true → b ≡ false → ⊥
true_false true e f = cc
true_false false e f = cc

between : (u m : ℤ) → (u <ℤ m) ⊎ (m ≤ℤ u)
between u m = grind (arith, ints)

-- the ranges agree with the spans but in the hole
abbrev pub AreSameOutside : ℤ → ℤ → ℤ → List Span → List Span → Type 0
AreSameOutside gap a b rs spans = (t : ℤ) → (t <ℤ (a +ℤ gap)) ⊎ (b ≤ℤ t) → is_near_any gap t rs ≡ is_near_any gap t spans

-- left of the hole what ends by it is still there
pub left_holds : (gap t a b : ℤ) (rs xs spans : List Span) → pos 0 ≤ℤ gap → (a +ℤ gap) <ℤ b → IsRanges gap rs → AreSameOutside gap a b rs spans → ((u : ℤ) → is_near_any gap u xs ≡ true → is_near_any gap u spans ≡ true) → AllByRecursion (λ s. s.end ≤ℤ a) xs → t <ℤ (a +ℤ gap) → is_near_any gap t xs ≡ true → is_near_any gap t (ranges_without a b rs) ≡ true
left_holds gap t a b rs xs spans g w h same sub ends l e =
    let r = near_holder gap t rs (same t (inl l) ∙ sub t e) in
    let p = near_parts gap t r.0 r.2 in
    let p1 = p.1 in
    elim (between r.0.start a) as (λ _. is_near_any gap t (ranges_without a b rs) ≡ true) [
      | inl begins ↦ kept_left gap t a b rs r.0 r.1 r.2 l begins
      | inr late ↦
          let s = near_holder gap t xs e in
          let q = near_parts gap t s.0 s.2 in
          let q0 = q.0 in
          let q2 = q.2 in
          let by = each_in (λ s. s.end ≤ℤ a) xs s.0 ends s.1 in
          let u = r.0.start -ℤ pos 1 in
          let there : is_near_any gap u xs ≡ true = near_by gap u xs s.0 s.1 (near_is gap u s.0 q0 (omega (arith, ints)) (omega (arith, ints))) in
          absurd (true_false _ (same u (inl (omega (arith, ints))) ∙ sub u there) (start_open gap rs r.0 g h r.1))
    ]

pub right_holds : (gap t a b : ℤ) (rs ys spans : List Span) → pos 0 ≤ℤ gap → (a +ℤ gap) <ℤ b → IsRanges gap rs → AreSameOutside gap a b rs spans → ((u : ℤ) → is_near_any gap u ys ≡ true → is_near_any gap u spans ≡ true) → AllByRecursion (λ s. b ≤ℤ s.start) ys → b ≤ℤ t → is_near_any gap t ys ≡ true → is_near_any gap t (ranges_without a b rs) ≡ true
right_holds gap t a b rs ys spans g w h same sub begins l e =
    let r = near_holder gap t rs (same t (inr l) ∙ sub t e) in
    let p = near_parts gap t r.0 r.2 in
    let p2 = p.2 in
    elim (between b r.0.end) as (λ _. is_near_any gap t (ranges_without a b rs) ≡ true) [
      | inl lasts ↦ kept_right gap t a b rs r.0 r.1 r.2 l lasts
      | inr early ↦
          let s = near_holder gap t ys e in
          let q = near_parts gap t s.0 s.2 in
          let q0 = q.0 in
          let q1 = q.1 in
          let by = each_in (λ s. b ≤ℤ s.start) ys s.0 begins s.1 in
          let u = r.0.end +ℤ gap in
          let there : is_near_any gap u ys ≡ true = near_by gap u ys s.0 s.1 (near_is gap u s.0 q0 (omega (arith, ints)) (omega (arith, ints))) in
          absurd (true_false _ (same u (inr (omega (arith, ints))) ∙ sub u there) (end_open gap rs r.0 g h r.1))
    ]

both_true : (a b : Bool) → (a ≡ true → b ≡ true) → (b ≡ true → a ≡ true) → a ≡ b
both_true true b f g = sym (f refl)
both_true false true f g = g refl
both_true false false f g = refl

-- X: what is left; x, m, y: the spans before, in and after the hole
three : (gap t : ℤ) (xs ms ys : List Span) → is_near_any gap t (xs ++ (ms ++ ys)) ≡ (is_near_any gap t xs || (is_near_any gap t ms || is_near_any gap t ys))
three gap t xs ms ys = nears-append gap t xs (ms ++ ys) ∙ ap (λ b. is_near_any gap t xs || b) (nears-append gap t ms ys)

-- the ticks after the hole is filled again
filled_times : (gap t a b : ℤ) (rs xs ms ys : List Span) → pos 0 ≤ℤ gap → (a +ℤ gap) <ℤ b → IsRanges gap rs → AreSameOutside gap a b rs (xs ++ (ms ++ ys)) → AllByRecursion (λ s. s.end ≤ℤ a) xs → AllByRecursion (λ s. b ≤ℤ s.start) ys → (is_near_any gap t (ranges_without a b rs) || is_near_any gap t ms) ≡ is_near_any gap t (xs ++ (ms ++ ys))
filled_times gap t a b rs xs ms ys g w h same ends begins =
    let all = three gap t xs ms ys in
    let more : is_near_any gap t (ranges_without a b rs) ≡ true → (t <ℤ (a +ℤ gap)) ⊎ (b ≤ℤ t) → is_near_any gap t (xs ++ (ms ++ ys)) ≡ true = λ e out. sym (same t out) ∙ carved_less gap t a b rs e in
    let in_ms : is_near_any gap t ms ≡ true → is_near_any gap t (xs ++ (ms ++ ys)) ≡ true = λ e. all ∙ or_right _ _ (or_left _ _ e) in
    elim (between t (a +ℤ gap)) as (λ _. (is_near_any gap t (ranges_without a b rs) || is_near_any gap t ms) ≡ is_near_any gap t (xs ++ (ms ++ ys))) [
      | inl low ↦
          let off : is_near_any gap t ys ≡ false = begins_off gap t b ys begins (omega (arith, ints)) in
          both_true _ _
          (λ e. or_cases (is_near_any gap t (ranges_without a b rs)) (is_near_any gap t ms) e (λ k. more k (inl low)) in_ms)
          (λ e. or_cases (is_near_any gap t xs) (is_near_any gap t ms || is_near_any gap t ys) (sym all ∙ e)
          (λ k. or_left _ _ (left_holds gap t a b rs xs (xs ++ (ms ++ ys)) g w h same (λ u n. three gap u xs ms ys ∙ or_left _ _ n) ends low k))
          (λ k. or_cases (is_near_any gap t ms) (is_near_any gap t ys) k (λ m. or_right (is_near_any gap t (ranges_without a b rs)) (is_near_any gap t ms) m) (λ m. absurd (true_false _ m off))))
      | inr high ↦
          let off : is_near_any gap t xs ≡ false = ends_off gap t a xs ends high in
          elim (between t b) as (λ _. (is_near_any gap t (ranges_without a b rs) || is_near_any gap t ms) ≡ is_near_any gap t (xs ++ (ms ++ ys))) [
            | inl inside ↦
                let gone : is_near_any gap t (ranges_without a b rs) ≡ false = hole_empty gap t a b rs high inside in
                let none : is_near_any gap t ys ≡ false = begins_off gap t b ys begins inside in
                both_true _ _
                (λ e. or_cases (is_near_any gap t (ranges_without a b rs)) (is_near_any gap t ms) e (λ k. absurd (true_false _ k gone)) in_ms)
                (λ e. or_cases (is_near_any gap t xs) (is_near_any gap t ms || is_near_any gap t ys) (sym all ∙ e)
                (λ k. absurd (true_false _ k off))
                (λ k. or_cases (is_near_any gap t ms) (is_near_any gap t ys) k (λ m. or_right (is_near_any gap t (ranges_without a b rs)) (is_near_any gap t ms) m) (λ m. absurd (true_false _ m none))))
            | inr past ↦
                both_true _ _
                (λ e. or_cases (is_near_any gap t (ranges_without a b rs)) (is_near_any gap t ms) e (λ k. more k (inr past)) in_ms)
                (λ e. or_cases (is_near_any gap t xs) (is_near_any gap t ms || is_near_any gap t ys) (sym all ∙ e)
                (λ k. absurd (true_false _ k off))
                (λ k. or_cases (is_near_any gap t ms) (is_near_any gap t ys) k (λ m. or_right (is_near_any gap t (ranges_without a b rs)) (is_near_any gap t ms) m)
                (λ m. or_left _ _ (right_holds gap t a b rs ys (xs ++ (ms ++ ys)) g w h same (λ u n. three gap u xs ms ys ∙ or_right _ _ (or_right _ _ n)) begins past m))))
          ]
    ]

-- the ranges of spans, made from ranges that agree but in a hole: what lies in the hole is taken out, and the spans there are joined in
pub filled : (gap a b : ℤ) (rs xs ms ys : List Span) → pos 0 ≤ℤ gap → (a +ℤ gap) <ℤ b → IsRanges gap rs → AreSameOutside gap a b rs (xs ++ (ms ++ ys)) → AllByRecursion (λ s. s.end ≤ℤ a) xs → AllByRecursion (λ s. b ≤ℤ s.start) ys → ranges_with_all gap (ranges_without a b rs) ms ≡ bridged_ranges gap (xs ++ (ms ++ ys))
filled gap a b rs xs ms ys g w h same ends begins =
    let left = ranges_carved gap a b rs g w h in
    same_near gap _ _ g (ranges_joined_to gap (ranges_without a b rs) ms g left) (ranges_bridged gap (xs ++ (ms ++ ys)) g)
    (λ t. times_joined_to gap t (ranges_without a b rs) ms g left ∙ filled_times gap t a b rs xs ms ys g w h same ends begins ∙ sym (times_bridged gap t (xs ++ (ms ++ ys)) g))
