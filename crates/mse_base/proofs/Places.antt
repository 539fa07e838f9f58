-- Ranges from a place on.
use Rattle.std.proofs.Common.{◌≡◌, ◌∙◌, ℕ, zero, suc, ℤ, pos, ◌+ℤ◌, ◌-ℤ◌, ◌+◌, ◌<◌, ◌≤◌, ◌<ℤ◌, ◌≤ℤ◌, Bool, true, false, cond, List, [], ◌∷◌, ◌++◌, length, get_or, set, take, drop, refl, sym, ap, subst, arith, int_lt, Option, Some, None, add-one, ◌⊎◌, inl, inr}
use Rattle.std.specs.List.{AllByRecursion}
use Rattle.std.specs.Option.{option_to_list}
use Rattle.std.proofs.lemmas.Int.{ints}
use Rattle.std.specs.Int.{int_min, int_max}
use Rattle.mse_base.proofs.TickLemmas.{tick_none}
use Rattle.mse_base.proofs.RangeLookUps.{each_at}
use Rattle.std.proofs.lemmas.List.{drop_more, take_at, drop_at, length-take-le, length-append, append_assoc, set_split, take-append-drop}
use Rattle.mse_base.specs.Time.{IsTick, tick}
use Rattle.mse_base.specs.declared.span.Span.{Span}
use Rattle.mse_base.specs.Bridging.{ranges_with_lasting, ranges_with, span_round, IsRanges, is_empty, is_far_before, span_between, ranges_without}

lt_of : (a b : ℤ) → int_lt a b ≡ true → a <ℤ b
lt_of a b e = grind (arith, ints)

is_lt : (a b : ℤ) → a <ℤ b → int_lt a b ≡ true
is_lt a b h = grind (arith, ints)

not_lt : (a b : ℤ) → b ≤ℤ a → int_lt a b ≡ false
not_lt a b h = grind (arith, ints)

-- ranges that end more than the gap before a span begins
pub far_all : (gap t : ℤ) (s : Span) (rs : List Span) → t ≡ (s.start -ℤ gap) → AllByRecursion (λ r. r.end <ℤ t) rs → AllByRecursion (λ r. is_far_before gap r s ≡ true) rs
far_all gap t s [] e h = tt
far_all gap t s (r ∷ rs) e h = let first = h.0 in (is_lt (r.end +ℤ gap) s.start (omega (arith, ints)), far_all gap t s rs e h.1)

-- those before a range that begins no later than a span
pub far_to_place : (gap : ℤ) (s x : Span) (rs : List Span) (i : ℕ) → IsRanges gap rs → i < length rs → x ≡ get_or rs i x → x.start ≤ℤ s.start → AllByRecursion (λ r. is_far_before gap r s ≡ true) (take i rs)
far_to_place gap s x [] i h l at b = absurd (omega arith)
far_to_place gap s x (r ∷ rs) zero h l at b = tt
far_to_place gap s x (r ∷ rs) (suc i) h l at b =
    let far : (r.end +ℤ gap) <ℤ x.start = subst (λ (z : Span). (r.end +ℤ gap) <ℤ z.start) (sym at) (each_at (λ q. (r.end +ℤ gap) <ℤ q.start) rs i x (omega arith) h.1) in
    (is_lt (r.end +ℤ gap) s.start (omega (arith, ints)), far_to_place gap s x rs i h.2 (omega arith) at b)

cond_two : {A : Type 0} (a b : Bool) (x y z : A) → a ≡ false → b ≡ true → cond a x (cond b y z) ≡ y
cond_two a b x y z e f = ap (λ c. cond c x (cond b y z)) e ∙ ap (λ c. cond c y z) f

full : (s : Span) → is_empty s ≡ false → s.start <ℤ s.end
full s e = grind (arith, ints)

-- a span goes past the ranges that end more than the gap before it
pub merged_skips : (gap : ℤ) (s : Span) (rs : List Span) (i : ℕ) → pos 0 ≤ℤ gap → is_empty s ≡ false → IsRanges gap rs → AllByRecursion (λ r. is_far_before gap r s ≡ true) (take i rs) → ranges_with_lasting gap s rs ≡ take i rs ++ ranges_with_lasting gap s (drop i rs)
merged_skips gap s rs zero g e h a = refl
merged_skips gap s [] (suc i) g e h a = refl
merged_skips gap s (r ∷ rs) (suc i) g e h a =
    let lasts = full s e in
    let own = h.0 in
    let far = lt_of (r.end +ℤ gap) s.start a.0 in
    let not_before : is_far_before gap s r ≡ false = not_lt (s.end +ℤ gap) r.start (omega (arith, ints)) in
    cond_two (is_far_before gap s r) (is_far_before gap r s) (s ∷ r ∷ rs) (r ∷ ranges_with_lasting gap s rs) (ranges_with_lasting gap (span_round s r) rs) not_before a.0 ∙ ap (λ ys. r ∷ ys) (merged_skips gap s rs i g e h.2 a.1)

pub join_in_skips : (gap : ℤ) (s : Span) (rs : List Span) (i : ℕ) → pos 0 ≤ℤ gap → is_empty s ≡ false → IsRanges gap rs → AllByRecursion (λ r. is_far_before gap r s ≡ true) (take i rs) → take i rs ++ ranges_with_lasting gap s (drop i rs) ≡ ranges_with gap rs s
join_in_skips gap s rs i g e h a = sym (merged_skips gap s rs i g e h a) ∙ ap (λ b. cond b rs (ranges_with_lasting gap s rs)) (sym e)

pub ranges_drop : (gap : ℤ) (rs : List Span) (i : ℕ) → IsRanges gap rs → IsRanges gap (drop i rs)
ranges_drop gap rs zero h = h
ranges_drop gap [] (suc i) h = h
ranges_drop gap (r ∷ rs) (suc i) h = ranges_drop gap rs i h.2

le_or : (a b : ℤ) → (a ≤ℤ b) ⊎ (b <ℤ a)
le_or a b = grind (arith, ints)

part_none : (x y : ℤ) → y ≤ℤ x → span_between x y ≡ []
part_none x y h = ap (λ b. cond b (record { start = x; end = y } ∷ []) []) (not_lt x y h)

part_own : (r : Span) (y : ℤ) → r.start <ℤ r.end → y ≡ r.end → span_between r.start y ≡ r ∷ []
part_own r y h e = ap (λ z. span_between r.start z) e ∙ ap (λ b. cond b (r ∷ []) []) (is_lt r.start r.end h)

part_whole : (r : Span) (x : ℤ) → r.start <ℤ r.end → x ≡ r.start → span_between x r.end ≡ r ∷ []
part_whole r x h e = ap (λ z. span_between z r.end) e ∙ ap (λ b. cond b (r ∷ []) []) (is_lt r.start r.end h)

lesser_first : (x a : ℤ) → x <ℤ a → int_min x a ≡ x
lesser_first x a h = ap (λ b. cond b a x) (not_lt a x (omega (arith, ints)))

lesser_low : (x a : ℤ) → int_min x a ≤ℤ a
lesser_low x a = grind (arith, ints)

greater_high : (x b : ℤ) → b ≤ℤ int_max x b
greater_high x b = grind (arith, ints)

greater_first : (x b : ℤ) → b ≤ℤ x → int_max x b ≡ x
greater_first x b h = grind (arith, ints)

-- a hole is past the ranges that end before it
pub carved_skips : (gap low b : ℤ) (hole : Span) (rs : List Span) (i : ℕ) → pos 0 ≤ℤ gap → low ≡ hole.start → (low -ℤ gap) <ℤ b → IsRanges gap rs → AllByRecursion (λ r. is_far_before gap r hole ≡ true) (take i rs) → take i rs ++ ranges_without (low -ℤ gap) b (drop i rs) ≡ ranges_without (low -ℤ gap) b rs
carved_skips gap low b hole rs zero g s w h a = refl
carved_skips gap low b hole [] (suc i) g s w h a = refl
carved_skips gap low b hole (r ∷ rs) (suc i) g s w h a =
    let far = lt_of (r.end +ℤ gap) hole.start a.0 in
    let own = h.0 in
    let high = greater_high r.start b in
    let one = part_own r (int_min r.end (low -ℤ gap)) own (lesser_first r.end (low -ℤ gap) (omega (arith, ints))) in
    let two = part_none (int_max r.start b) r.end (omega (arith, ints)) in
    ap (λ ys. r ∷ ys) (carved_skips gap low b hole rs i g s w h.2 a.1)
    ∙ ap (λ ys. r ∷ (ys ++ ranges_without (low -ℤ gap) b rs)) (sym two) ∙ ap (λ ys. ys ++ (span_between (int_max r.start b) r.end ++ ranges_without (low -ℤ gap) b rs)) (sym one)

-- and before those that begin after it
pub carved_after : (gap a b : ℤ) (rs : List Span) → a <ℤ b → IsRanges gap rs → AllByRecursion (λ q. b ≤ℤ q.start) rs → ranges_without a b rs ≡ rs
carved_after gap a b [] w h l = refl
carved_after gap a b (r ∷ rs) w h l =
    let first = l.0 in
    let own = h.0 in
    let low = lesser_low r.end a in
    let one = part_none r.start (int_min r.end a) (omega (arith, ints)) in
    let two = part_whole r (int_max r.start b) own (greater_first r.start b first) in
    ap (λ ys. ys ++ (span_between (int_max r.start b) r.end ++ ranges_without a b rs)) one ∙ ap (λ ys. ys ++ ranges_without a b rs) two ∙ ap (λ ys. r ∷ ys) (carved_after gap a b rs w h.2 l.1)

begins_later : (gap b : ℤ) (r : Span) (rs : List Span) → pos 0 ≤ℤ gap → b ≤ℤ r.end → AllByRecursion (λ q. (r.end +ℤ gap) <ℤ q.start) rs → AllByRecursion (λ q. b ≤ℤ q.start) rs
begins_later gap b r [] g l h = tt
begins_later gap b r (q ∷ rs) g l h = (let first = h.0 in omega (arith, ints), begins_later gap b r rs g l h.1)

whole_list : (i : ℕ) (rs : List Span) → take i rs ++ drop i rs ≡ rs
whole_list i rs = take-append-drop i rs

-- the loop ends at a range that begins after the hole
pub carved_end : (gap a b : ℤ) (rs whole : List Span) (i : ℕ) (r : Span) → pos 0 ≤ℤ gap → a <ℤ b → i < length rs → r ≡ get_or rs i r → int_lt r.start b ≡ false → IsRanges gap (drop i rs) → take i rs ++ ranges_without a b (drop i rs) ≡ whole → rs ≡ whole
carved_end gap a b rs whole i r g w l at e h inv =
    let m : drop i rs ≡ r ∷ drop (i + 1) rs = drop_more rs i r l ∙ ap (λ z. z ∷ drop (i + 1) rs) (sym at) in
    let k = subst (λ (ys : List Span). IsRanges gap ys) m h in
    let own = k.0 in
    let past : b ≤ℤ r.start = grind (arith, ints) in
    let all = carved_after gap a b (r ∷ drop (i + 1) rs) w k (past, begins_later gap b r (drop (i + 1) rs) g (omega (arith, ints)) k.1) in
    sym (whole_list i rs) ∙ ap (λ ys. take i rs ++ ys) (m ∙ sym all ∙ ap (ranges_without a b) (sym m)) ∙ inv

-- the spans before and after a step of the loop, the places in both that it is at, what is left of the range behind the
-- hole, and what shall come out
pub record CarveStep : Type 0 where
  pub before : List Span
  pub after : List Span
  pub place : ℕ
  pub next : ℕ
  pub right : List Span
  pub whole : List Span

-- the loop's step: what was left of the range stands in its place
pub record IsCarveStep (gap a b : ℤ) (s : CarveStep) : Type 0 where
  pub items : take s.next s.after ++ (s.right ++ ranges_without a b (drop s.next s.after)) ≡ s.whole
  pub rest : drop s.next s.after ≡ drop (s.place + 1) s.before
  pub ranges : IsRanges gap (drop s.next s.after)
  pub within : s.next ≤ length s.after

pub carved_step : (gap a b : ℤ) (rs ys whole : List Span) (i : ℕ) (r : Span) (left right : List Span) (j : ℕ) → i < length rs → r ≡ get_or rs i r → IsRanges gap (drop i rs) → take i rs ++ ranges_without a b (drop i rs) ≡ whole → left ≡ span_between r.start (int_min r.end a) → right ≡ span_between (int_max r.start b) r.end → ys ≡ take i rs ++ (left ++ drop (i + 1) rs) → j ≡ i + length left → IsCarveStep gap a b (record { before = rs; after = ys; place = i; next = j; right = right; whole = whole })
carved_step gap a b rs ys whole i r left right j l at h inv p q cut place =
    let m : drop i rs ≡ r ∷ drop (i + 1) rs = drop_more rs i r l ∙ ap (λ z. z ∷ drop (i + 1) rs) (sym at) in
    let k = subst (λ (ys : List Span). IsRanges gap ys) m h in
    let n : length (take i rs ++ left) ≡ j = length-append (take i rs) left ∙ ap (λ k. k + length left) (length-take-le i rs (omega arith)) ∙ sym place in
    let c : ys ≡ (take i rs ++ left) ++ drop (i + 1) rs = cut ∙ sym (append_assoc (take i rs) left (drop (i + 1) rs)) in
    let t : take j ys ≡ take i rs ++ left = ap (take j) c ∙ take_at (take i rs ++ left) (drop (i + 1) rs) j n in
    let s : drop j ys ≡ drop (i + 1) rs = ap (drop j) c ∙ drop_at (take i rs ++ left) (drop (i + 1) rs) j n in
    let all : take i rs ++ (left ++ (right ++ ranges_without a b (drop (i + 1) rs))) ≡ whole =
    ap (λ zs. take i rs ++ (zs ++ (right ++ ranges_without a b (drop (i + 1) rs)))) p ∙ ap (λ zs. take i rs ++ (span_between r.start (int_min r.end a) ++ (zs ++ ranges_without a b (drop (i + 1) rs)))) q ∙ ap (λ zs. take i rs ++ ranges_without a b zs) (sym m) ∙ inv in
    let long : length ys ≡ length (take i rs ++ left) + length (drop (i + 1) rs) = ap length c ∙ length-append (take i rs ++ left) (drop (i + 1) rs) in
    record {
      items = ap (λ zs. zs ++ (right ++ ranges_without a b (drop j ys))) t ∙ append_assoc (take i rs) left (right ++ ranges_without a b (drop j ys)) ∙ ap (λ zs. take i rs ++ (left ++ (right ++ ranges_without a b zs))) s ∙ all;
      rest = s;
      ranges = subst (λ (zs : List Span). IsRanges gap zs) (sym s) k.2;
      within = omega arith;
    }

part_some : (x y : ℤ) (s : Span) (c : Bool) → int_lt x y ≡ c → s ∷ [] ≡ cond c (record { start = x; end = y } ∷ []) [] → x <ℤ y
part_some x y s true e f = lt_of x y e
part_some x y s false e f = absurd cc

-- where the range goes on after the hole, no other has a tick in it
pub carved_split : (gap a b : ℤ) (rs ys whole : List Span) (i : ℕ) (r : Span) (left : List Span) (right : Span) (j : ℕ) → pos 0 ≤ℤ gap → a <ℤ b → i < length rs → r ≡ get_or rs i r → IsRanges gap (drop i rs) → take i rs ++ ranges_without a b (drop i rs) ≡ whole → left ≡ span_between r.start (int_min r.end a) → right ∷ [] ≡ span_between (int_max r.start b) r.end → ys ≡ take i rs ++ (left ++ drop (i + 1) rs) → j ≡ i + length left → take j ys ++ right ∷ drop j ys ≡ whole
carved_split gap a b rs ys whole i r left right j g w l at h inv p q cut place =
    let step = carved_step gap a b rs ys whole i r left (right ∷ []) j l at h inv p q cut place in
    let m : drop i rs ≡ r ∷ drop (i + 1) rs = drop_more rs i r l ∙ ap (λ z. z ∷ drop (i + 1) rs) (sym at) in
    let k = subst (λ (ys : List Span). IsRanges gap ys) m h in
    let some = part_some (int_max r.start b) r.end right (int_lt (int_max r.start b) r.end) refl q in
    let high = greater_high r.start b in
    let later : AllByRecursion (λ q. b ≤ℤ q.start) (drop j ys) = subst (λ (zs : List Span). AllByRecursion (λ q. b ≤ℤ q.start) zs) (sym step.rest) (begins_later gap b r (drop (i + 1) rs) g (omega (arith, ints)) k.1) in
    ap (λ zs. take j ys ++ right ∷ zs) (sym (carved_after gap a b (drop j ys) w step.ranges later)) ∙ step.items

pub no_left : (start end low gap : ℤ) → pos 0 ≤ℤ gap → IsTick start → IsTick low → tick (low -ℤ gap) ≡ None → span_between start (int_min end (low -ℤ gap)) ≡ []
no_left start end low gap g a b e =
    let cap = lesser_low end (low -ℤ gap) in
    part_none start (int_min end (low -ℤ gap)) (elim (le_or (low -ℤ gap) start) as (λ _. int_min end (low -ℤ gap) ≤ℤ start) [
      | inl h ↦ omega (arith, ints)
      | inr h ↦ absurd (tick_none (low -ℤ gap) e (let a0 = a.0 in let b1 = b.1 in (omega (arith, ints), omega (arith, ints))))
    ])

pub no_right : (start end high gap : ℤ) → pos 0 ≤ℤ gap → IsTick end → IsTick high → tick (high +ℤ gap) ≡ None → span_between (int_max start (high +ℤ gap)) end ≡ []
no_right start end high gap g a b e =
    let cap = greater_high start (high +ℤ gap) in
    part_none (int_max start (high +ℤ gap)) end (elim (le_or end (high +ℤ gap)) as (λ _. end ≤ℤ int_max start (high +ℤ gap)) [
      | inl h ↦ omega (arith, ints)
      | inr h ↦ absurd (tick_none (high +ℤ gap) e (let a1 = a.1 in let b0 = b.0 in (omega (arith, ints), omega (arith, ints))))
    ])

pub set_whole : (rs : List Span) (i : ℕ) (s : Span) (p : Option Span) → i < length rs → p ≡ Some s → set rs i s ≡ take i rs ++ (option_to_list p ++ drop (i + 1) rs)
set_whole rs i s p l e = set_split rs i s l ∙ ap (λ o. take i rs ++ (option_to_list o ++ drop (suc i) rs)) (sym e) ∙ ap (λ k. take i rs ++ (option_to_list p ++ drop k rs)) (sym (add-one i))
