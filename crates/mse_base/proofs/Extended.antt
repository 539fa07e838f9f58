-- Ranges, each longer by the gap, are sets of ticks.
use Rattle.std.proofs.Common.{◌≡◌, ◌∙◌, ℕ, zero, suc, ℤ, pos, negsuc, ◌+ℤ◌, ◌-ℤ◌, ◌<ℤ◌, ◌≤ℤ◌, Bool, true, false, ◌||◌, ◌&&◌, not, List, [], ◌∷◌, map, refl, sym, ap, subst, inl, inr, ◌⊎◌, arith, int_le, int_lt}
use Rattle.std.specs.List.{AllByRecursion}
use Rattle.std.proofs.lemmas.Int.{ints}
use Rattle.mse_base.specs.declared.span.Span.{Span}
use Rattle.mse_base.proofs.Neighbours.{near_gap, gap_near}
use Rattle.mse_base.specs.Spans.{has_tick, has_tick_in, IsFirstStartAfter, IsNormalized, IsBridged, IsBridging}
use Rattle.mse_base.specs.Bridging.{bridged_ranges, is_near, is_near_any, IsRanges, is_empty}
use Rattle.mse_base.proofs.Unique.{unique}
use Rattle.mse_base.proofs.JoinedSpans.{ranges_bridged, times_bridged}

-- an element of a list
abbrev pub IsIn : {X : Type 0} → X → List X → Type 0
IsIn x [] = ⊥
IsIn x (y ∷ ys) = (x ≡ y) ⊎ IsIn x ys

abbrev longer : ℤ → Span → Span
longer gap s = record { start = s.start; end = s.end +ℤ gap }

after_all : (n : ℤ) (rs : List Span) (gap : ℤ) → AllByRecursion (λ q. n <ℤ q.start) rs → IsFirstStartAfter n (map (longer gap) rs)
after_all n [] gap h = tt
after_all n (r ∷ rs) gap h = h.0

normalized_longer : (gap : ℤ) (rs : List Span) → pos 0 ≤ℤ gap → IsRanges gap rs → IsNormalized (map (longer gap) rs)
normalized_longer gap [] g h = tt
normalized_longer gap (r ∷ rs) g h =
    let own = h.0 in
    let lasts : r.start <ℤ (r.end +ℤ gap) = omega (arith, ints) in
    (lasts, after_all (r.end +ℤ gap) rs gap h.1, normalized_longer gap rs g h.2)

full : (r : Span) → r.start <ℤ r.end → is_empty r ≡ false
full r h = grind (arith, ints)

pub near_lasting : (gap t : ℤ) (r : Span) → r.start <ℤ r.end → is_near gap t r ≡ (int_le r.start t && int_lt t (r.end +ℤ gap))
near_lasting gap t r h = ap (λ b. not b && (int_le r.start t && int_lt t (r.end +ℤ gap))) (full r h)

covers_longer : (gap t : ℤ) (rs : List Span) → IsRanges gap rs → has_tick_in (map (longer gap) rs) t ≡ is_near_any gap t rs
covers_longer gap t [] h = refl
covers_longer gap t (r ∷ rs) h = ap (λ b. b || has_tick_in (map (longer gap) rs) t) (sym (near_lasting gap t r h.0)) ∙ ap (λ b. is_near gap t r || b) (covers_longer gap t rs h.2)

same_end : (a b g : ℤ) → (a +ℤ g) ≡ (b +ℤ g) → a ≡ b
same_end a b g e = omega (arith, ints)

same_span : (x y : Span) → x.start ≡ y.start → x.end ≡ y.end → x ≡ y
same_span x y s f =
    let make : ℤ → ℤ → Span = λ a b. record { start = a; end = b } in
    ap (λ a. make a x.end) s ∙ ap (make y.start) f

abbrev head_of : Span → List Span → Span
head_of d [] = d
head_of d (x ∷ xs) = x

abbrev tail_of : List Span → List Span
tail_of [] = []
tail_of (x ∷ xs) = xs

same_longer : (gap : ℤ) (xs ys : List Span) → map (longer gap) xs ≡ map (longer gap) ys → xs ≡ ys
same_longer gap [] [] e = refl
same_longer gap [] (y ∷ ys) e = cc
same_longer gap (x ∷ xs) [] e = cc
same_longer gap (x ∷ xs) (y ∷ ys) e =
    let one : longer gap x ≡ longer gap y = ap (head_of (longer gap x)) e in
    let rest : map (longer gap) xs ≡ map (longer gap) ys = ap tail_of e in
    let s : x.start ≡ y.start = ap (λ (z : Span). z.start) one in
    let f : x.end ≡ y.end = same_end x.end y.end gap (ap (λ (z : Span). z.end) one) in
    ap (λ z. z ∷ xs) (same_span x y s f) ∙ ap (λ zs. y ∷ zs) (same_longer gap xs ys rest)

-- ranges of the same ticks are one list
pub same_near : (gap : ℤ) (xs ys : List Span) → pos 0 ≤ℤ gap → IsRanges gap xs → IsRanges gap ys → ((t : ℤ) → is_near_any gap t xs ≡ is_near_any gap t ys) → xs ≡ ys
same_near gap xs ys g p q same = same_longer gap xs ys (unique (map (longer gap) xs) (map (longer gap) ys) (normalized_longer gap xs g p) (normalized_longer gap ys g q) (λ t. covers_longer gap t xs p ∙ same t ∙ sym (covers_longer gap t ys q)))

after_ranges : (e gap : ℤ) (rs : List Span) → pos 0 ≤ℤ gap → AllByRecursion (λ q. (e +ℤ gap) <ℤ q.start) rs → IsFirstStartAfter e rs
after_ranges e gap [] g h = tt
after_ranges e gap (r ∷ rs) g h = let first = h.0 in omega (arith, ints)

pub normalized_ranges : (gap : ℤ) (rs : List Span) → pos 0 ≤ℤ gap → IsRanges gap rs → IsNormalized rs
normalized_ranges gap [] g h = tt
normalized_ranges gap (r ∷ rs) g h = (h.0, after_ranges r.end gap rs g h.1, normalized_ranges gap rs g h.2)

-- the span that has a tick
or_cases : {P : Type 0} (a b : Bool) → (a || b) ≡ true → (a ≡ true → P) → (b ≡ true → P) → P
or_cases true b e f g = f refl
or_cases false b e f g = g e

pub holder : (rs : List Span) (p : Span → Bool) (c : List Span → Bool) → c [] ≡ false → ((s : Span) (ss : List Span) → c (s ∷ ss) ≡ (p s || c ss)) → c rs ≡ true → (r : Span) × IsIn r rs × (p r ≡ true)
holder [] p c none more e = absurd cc
holder (r ∷ rs) p c none more e =
    or_cases (p r) (c rs) (sym (more r rs) ∙ e) (λ k. (r, inl refl, k)) (λ k. let found = holder rs p c none more k in (found.0, inr found.1, found.2))

pub near_holder : (gap t : ℤ) (rs : List Span) → is_near_any gap t rs ≡ true → (r : Span) × IsIn r rs × (is_near gap t r ≡ true)
near_holder gap t rs e = holder rs (is_near gap t) (is_near_any gap t) refl (λ s ss. refl) e

pub cover_holder : (t : ℤ) (rs : List Span) → has_tick_in rs t ≡ true → (r : Span) × IsIn r rs × (has_tick r t ≡ true)
cover_holder t rs e = holder rs (λ s. has_tick s t) (λ ss. has_tick_in ss t) refl (λ s ss. refl) e

or_left : (a b : Bool) → a ≡ true → (a || b) ≡ true
or_left a b e = ap (λ x. x || b) e

or_right : (a b : Bool) → b ≡ true → (a || b) ≡ true
or_right true b e = refl
or_right false b e = e

pub near_by : (gap t : ℤ) (rs : List Span) (r : Span) → IsIn r rs → is_near gap t r ≡ true → is_near_any gap t rs ≡ true
near_by gap t [] r i e = absurd i
near_by gap t (x ∷ rs) r (inl same) e = or_left (is_near gap t x) (is_near_any gap t rs) (subst (λ (z : Span). is_near gap t z ≡ true) same e)
near_by gap t (x ∷ rs) r (inr i) e = or_right (is_near gap t x) (is_near_any gap t rs) (near_by gap t rs r i e)

pub cover_by : (t : ℤ) (rs : List Span) (r : Span) → IsIn r rs → has_tick r t ≡ true → has_tick_in rs t ≡ true
cover_by t [] r i e = absurd i
cover_by t (x ∷ rs) r (inl same) e = or_left (has_tick x t) (has_tick_in rs t) (subst (λ (z : Span). has_tick z t ≡ true) same e)
cover_by t (x ∷ rs) r (inr i) e = or_right (has_tick x t) (has_tick_in rs t) (cover_by t rs r i e)

-- what a tick near a span is
pub near_parts : (gap t : ℤ) (s : Span) → is_near gap t s ≡ true → (s.start <ℤ s.end) × (s.start ≤ℤ t) × (t <ℤ (s.end +ℤ gap))
near_parts gap t s e = (grind (arith, ints), grind (arith, ints), grind (arith, ints))

pub near_is : (gap t : ℤ) (s : Span) → s.start <ℤ s.end → s.start ≤ℤ t → t <ℤ (s.end +ℤ gap) → is_near gap t s ≡ true
near_is gap t s a b c = near_lasting gap t s a ∙ grind (arith, ints)

within_parts : (t : ℤ) (s : Span) → has_tick s t ≡ true → (s.start ≤ℤ t) × (t <ℤ s.end)
within_parts t s e = (grind (arith, ints), grind (arith, ints))

within_is : (t : ℤ) (s : Span) → s.start ≤ℤ t → t <ℤ s.end → has_tick s t ≡ true
within_is t s a b = grind (arith, ints)

pub far_off : (gap t : ℤ) (s : Span) → (t <ℤ s.start) ⊎ ((s.end +ℤ gap) ≤ℤ t) → is_near gap t s ≡ false
far_off gap t s (inl h) = grind (arith, ints)
far_off gap t s (inr h) = grind (arith, ints)

neither : (a b : Bool) → a ≡ false → b ≡ false → (a || b) ≡ false
neither a b e f = ap (λ x. x || b) e ∙ f

pub none_before : (gap n t : ℤ) (rs : List Span) → t ≤ℤ n → AllByRecursion (λ q. n <ℤ q.start) rs → is_near_any gap t rs ≡ false
none_before gap n t [] l h = refl
none_before gap n t (r ∷ rs) l h = let first = h.0 in let low : t <ℤ r.start = omega (arith, ints) in neither (is_near gap t r) (is_near_any gap t rs) (far_off gap t r (inl low)) (none_before gap n t rs l h.1)

each_in : (P : Span → Type 0) (rs : List Span) (r : Span) → AllByRecursion P rs → IsIn r rs → P r
each_in P [] r h i = absurd i
each_in P (x ∷ rs) r h (inl same) = subst P (sym same) h.0
each_in P (x ∷ rs) r h (inr i) = each_in P rs r h.1 i

pub lasting : (gap : ℤ) (rs : List Span) (r : Span) → IsRanges gap rs → IsIn r rs → r.start <ℤ r.end
lasting gap [] r h i = absurd i
lasting gap (x ∷ rs) r h (inl same) = subst (λ (z : Span). z.start <ℤ z.end) (sym same) h.0
lasting gap (x ∷ rs) r h (inr i) = lasting gap rs r h.2 i

-- the tick after the last of a range is no range's
pub end_open : (gap : ℤ) (rs : List Span) (r : Span) → pos 0 ≤ℤ gap → IsRanges gap rs → IsIn r rs → is_near_any gap (r.end +ℤ gap) rs ≡ false
end_open gap [] r g h i = absurd i
end_open gap (x ∷ rs) r g h (inl same) =
    let e : (r.end +ℤ gap) ≡ (x.end +ℤ gap) = ap (λ (z : Span). z.end +ℤ gap) same in
    let past : (x.end +ℤ gap) ≤ℤ (r.end +ℤ gap) = omega (arith, ints) in
    let low : (r.end +ℤ gap) ≤ℤ (x.end +ℤ gap) = omega (arith, ints) in
    neither (is_near gap (r.end +ℤ gap) x) (is_near_any gap (r.end +ℤ gap) rs) (far_off gap (r.end +ℤ gap) x (inr past)) (none_before gap (x.end +ℤ gap) (r.end +ℤ gap) rs low h.1)
end_open gap (x ∷ rs) r g h (inr i) =
    let later : (x.end +ℤ gap) <ℤ r.start = each_in (λ q. (x.end +ℤ gap) <ℤ q.start) rs r h.1 i in
    let lasts : r.start <ℤ r.end = lasting gap rs r h.2 i in
    let past : (x.end +ℤ gap) ≤ℤ (r.end +ℤ gap) = omega (arith, ints) in
    neither (is_near gap (r.end +ℤ gap) x) (is_near_any gap (r.end +ℤ gap) rs) (far_off gap (r.end +ℤ gap) x (inr past)) (end_open gap rs r g h.2 i)

-- nor is the tick before its first
pub start_open : (gap : ℤ) (rs : List Span) (r : Span) → pos 0 ≤ℤ gap → IsRanges gap rs → IsIn r rs → is_near_any gap (r.start -ℤ pos 1) rs ≡ false
start_open gap [] r g h i = absurd i
start_open gap (x ∷ rs) r g h (inl same) =
    let e : r.start ≡ x.start = ap (λ (z : Span). z.start) same in
    let low : (r.start -ℤ pos 1) <ℤ x.start = omega (arith, ints) in
    let own = h.0 in
    let all : (r.start -ℤ pos 1) ≤ℤ (x.end +ℤ gap) = omega (arith, ints) in
    neither (is_near gap (r.start -ℤ pos 1) x) (is_near_any gap (r.start -ℤ pos 1) rs) (far_off gap (r.start -ℤ pos 1) x (inl low)) (none_before gap (x.end +ℤ gap) (r.start -ℤ pos 1) rs all h.1)
start_open gap (x ∷ rs) r g h (inr i) =
    let later : (x.end +ℤ gap) <ℤ r.start = each_in (λ q. (x.end +ℤ gap) <ℤ q.start) rs r h.1 i in
    let past : (x.end +ℤ gap) ≤ℤ (r.start -ℤ pos 1) = omega (arith, ints) in
    neither (is_near gap (r.start -ℤ pos 1) x) (is_near_any gap (r.start -ℤ pos 1) rs) (far_off gap (r.start -ℤ pos 1) x (inr past)) (start_open gap rs r g h.2 i)

-- each tick between two bridged ones is near
near_from : (gap u from : ℤ) (given : List Span) → has_tick_in given from ≡ true → from ≤ℤ u → u ≤ℤ (from +ℤ gap) → is_near_any gap u given ≡ true
near_from gap u from given e l k =
    let s = cover_holder from given e in
    let w = within_parts from s.0 s.2 in
    let w0 = w.0 in
    let w1 = w.1 in
    near_by gap u given s.0 s.1 (near_is gap u s.0 (omega (arith, ints)) (omega (arith, ints)) (omega (arith, ints)))

between : (u m : ℤ) → (u ≤ℤ m) ⊎ (m <ℤ u)
between u m = grind (arith, ints)

near_between : (gap u : ℤ) (given : List Span) (t : ℤ) (b : IsBridged gap given t) → pos 0 ≤ℤ gap → b.from ≤ℤ u → u ≤ℤ (b.to +ℤ gap) → is_near_any gap u given ≡ true
near_between gap u given t b g l k =
    let near = near_gap gap b.from b.to g b.near in
    elim (between u (b.from +ℤ gap)) as (λ _. is_near_any gap u given ≡ true) [
      | inl low ↦ near_from gap u b.from given b.has_from l low
      | inr high ↦ near_from gap u b.to given b.has_to (omega (arith, ints)) k
    ]

true_false : (b : Bool) → b ≡ true → b ≡ false → ⊥
true_false true e f = cc
true_false false e f = cc

-- the range that holds one tick of a bridge holds the other
pub no_less : (gap : ℤ) (given rs : List Span) (t : ℤ) → pos 0 ≤ℤ gap → IsRanges gap rs → ((u : ℤ) → is_near_any gap u rs ≡ is_near_any gap u given) → IsBridged gap given t → has_tick_in rs t ≡ true
no_less gap given rs t g h same b =
    let near = near_gap gap b.from b.to g b.near in
    let above = b.above in
    let below = b.below in
    let at : is_near_any gap b.from rs ≡ true = same b.from ∙ near_between gap b.from given t b g (omega (arith, ints)) (omega (arith, ints)) in
    let r = near_holder gap b.from rs at in
    let p = near_parts gap b.from r.0 r.2 in
    let p1 = p.1 in
    let p2 = p.2 in
    elim (between r.0.end b.to) as (λ _. has_tick_in rs t ≡ true) [
      | inl short ↦ absurd (true_false _ (same (r.0.end +ℤ gap) ∙ near_between gap (r.0.end +ℤ gap) given t b g (omega (arith, ints)) (omega (arith, ints))) (end_open gap rs r.0 g h r.1))
      | inr long ↦ cover_by t rs r.0 r.1 (within_is t r.0 (omega (arith, ints)) (omega (arith, ints)))
    ]

-- the last tick of the spans that is not after t and not before low
record HasLastTickBetween (given : List Span) (low t : ℤ) : Type 0 where
  at : ℤ
  above : low ≤ℤ at
  below : at ≤ℤ t
  has : has_tick_in given at ≡ true
  rest : (v : ℤ) → at <ℤ v → v ≤ℤ t → has_tick_in given v ≡ false

abbrev HasNoTickBetween : List Span → ℤ → ℤ → Type 0
HasNoTickBetween given low high = (v : ℤ) → low ≤ℤ v → v ≤ℤ high → has_tick_in given v ≡ false

same_tick : (given : List Span) (u v : ℤ) (b : Bool) → has_tick_in given u ≡ b → u ≡ v → has_tick_in given v ≡ b
same_tick given u v b e s = subst (λ (z : ℤ). has_tick_in given z ≡ b) s e

at_or_below : (v t : ℤ) → v ≤ℤ t → (t ≡ v) ⊎ (v ≤ℤ (t -ℤ pos 1))
at_or_below v t h = grind (arith, ints)

down-step : (given : List Span) (t : ℤ) (k : ℕ) (b : Bool) → has_tick_in given t ≡ b → HasLastTickBetween given ((t -ℤ pos 1) -ℤ pos k) (t -ℤ pos 1) ⊎ HasNoTickBetween given ((t -ℤ pos 1) -ℤ pos k) (t -ℤ pos 1) → HasLastTickBetween given (t -ℤ pos (suc k)) t ⊎ HasNoTickBetween given (t -ℤ pos (suc k)) t
down-step given t k true e rest = inl (record { at = t; above = omega (arith, ints); below = omega (arith, ints); has = e; rest = λ v l m. absurd (omega (arith, ints)) })
down-step given t k false e (inl found) =
    let above = found.above in
    let below = found.below in
    inl (record {
      at = found.at;
      above = omega (arith, ints);
      below = omega (arith, ints);
      has = found.has;
      rest = λ v l m. elim (at_or_below v t m) as (λ _. has_tick_in given v ≡ false) [ inl same ↦ same_tick given t v false e same | inr low ↦ found.rest v l low ];
    })
down-step given t k false e (inr none) = inr (λ v l m. elim (at_or_below v t m) as (λ _. has_tick_in given v ≡ false) [ inl same ↦ same_tick given t v false e same | inr low ↦ none v (omega (arith, ints)) low ])

one-step : (given : List Span) (t : ℤ) (b : Bool) → has_tick_in given t ≡ b → HasLastTickBetween given (t -ℤ pos 0) t ⊎ HasNoTickBetween given (t -ℤ pos 0) t
one-step given t true e = inl (record { at = t; above = omega (arith, ints); below = omega (arith, ints); has = e; rest = λ v l m. absurd (omega (arith, ints)) })
one-step given t false e = inr (λ v l m. same_tick given t v false e (omega (arith, ints)))

down : (given : List Span) (t : ℤ) (k : ℕ) → HasLastTickBetween given (t -ℤ pos k) t ⊎ HasNoTickBetween given (t -ℤ pos k) t
down given t zero = one-step given t (has_tick_in given t) refl
down given t (suc k) = down-step given t k (has_tick_in given t) refl (down given (t -ℤ pos 1) k)

-- a tick of the spans from t on, up to high
record HasTickBetween (given : List Span) (t high : ℤ) : Type 0 where
  at : ℤ
  above : t ≤ℤ at
  below : at ≤ℤ high
  has : has_tick_in given at ≡ true

at_or_above : (v t : ℤ) → t ≤ℤ v → (t ≡ v) ⊎ ((t +ℤ pos 1) ≤ℤ v)
at_or_above v t h = grind (arith, ints)

up-step : (given : List Span) (t : ℤ) (k : ℕ) (b : Bool) → has_tick_in given t ≡ b → HasTickBetween given (t +ℤ pos 1) ((t +ℤ pos 1) +ℤ pos k) ⊎ HasNoTickBetween given (t +ℤ pos 1) ((t +ℤ pos 1) +ℤ pos k) → HasTickBetween given t (t +ℤ pos (suc k)) ⊎ HasNoTickBetween given t (t +ℤ pos (suc k))
up-step given t k true e rest = inl (record { at = t; above = omega (arith, ints); below = omega (arith, ints); has = e })
up-step given t k false e (inl found) =
    let above = found.above in
    let below = found.below in
    inl (record { at = found.at; above = omega (arith, ints); below = omega (arith, ints); has = found.has })
up-step given t k false e (inr none) = inr (λ v l m. elim (at_or_above v t l) as (λ _. has_tick_in given v ≡ false) [ inl same ↦ same_tick given t v false e same | inr high ↦ none v high (omega (arith, ints)) ])

one-up : (given : List Span) (t : ℤ) (b : Bool) → has_tick_in given t ≡ b → HasTickBetween given t (t +ℤ pos 0) ⊎ HasNoTickBetween given t (t +ℤ pos 0)
one-up given t true e = inl (record { at = t; above = omega (arith, ints); below = omega (arith, ints); has = e })
one-up given t false e = inr (λ v l m. same_tick given t v false e (omega (arith, ints)))

up : (given : List Span) (t : ℤ) (k : ℕ) → HasTickBetween given t (t +ℤ pos k) ⊎ HasNoTickBetween given t (t +ℤ pos k)
up given t zero = one-up given t (has_tick_in given t) refl
up given t (suc k) = up-step given t k (has_tick_in given t) refl (up given (t +ℤ pos 1) k)

-- the tick after the last before t lies in no span, where none lies up to the end of the gap
next_one : (g : ℕ) (given : List Span) (t : ℤ) (b : HasLastTickBetween given (t -ℤ pos g) t) (s : Span) → IsIn s given → s.start ≤ℤ b.at → (b.at +ℤ pos 1) <ℤ s.end → HasNoTickBetween given t (b.at +ℤ pos g +ℤ pos 1) → ⊥
next_one g given t b s i early long none =
    let below = b.below in
    let above = b.above in
    let has : has_tick_in given (b.at +ℤ pos 1) ≡ true = cover_by (b.at +ℤ pos 1) given s i (within_is (b.at +ℤ pos 1) s (omega (arith, ints)) long) in
    elim (between t b.at) as (λ _. ⊥) [
      | inl same ↦ true_false _ has (none (b.at +ℤ pos 1) (omega (arith, ints)) (omega (arith, ints)))
      | inr later ↦ true_false _ has (b.rest (b.at +ℤ pos 1) (omega (arith, ints)) (omega (arith, ints)))
    ]

-- a near tick has a tick of the spans not after it and not before it by more than the gap
not_none : (g : ℕ) (t : ℤ) (given : List Span) → is_near_any (pos g) t given ≡ true → HasNoTickBetween given (t -ℤ pos g) t → ⊥
not_none g t given e none =
    let s = near_holder (pos g) t given e in
    let p = near_parts (pos g) t s.0 s.2 in
    let p0 = p.0 in
    let p1 = p.1 in
    let p2 = p.2 in
    elim (between s.0.end t) as (λ _. ⊥) [
      | inl past ↦ true_false _ (cover_by (s.0.end -ℤ pos 1) given s.0 s.1 (within_is (s.0.end -ℤ pos 1) s.0 (omega (arith, ints)) (omega (arith, ints)))) (none (s.0.end -ℤ pos 1) (omega (arith, ints)) (omega (arith, ints)))
      | inr holds ↦ true_false _ (cover_by t given s.0 s.1 (within_is t s.0 p1 holds)) (none t (omega (arith, ints)) (omega (arith, ints)))
    ]

-- where no tick of the spans lies in the gap after one, the tick after that gap is not near
not_near : (g : ℕ) (t : ℤ) (given : List Span) (b : HasLastTickBetween given (t -ℤ pos g) t) → HasNoTickBetween given t (b.at +ℤ pos g +ℤ pos 1) → is_near_any (pos g) (b.at +ℤ pos g +ℤ pos 1) given ≡ true → ⊥
not_near g t given b none e =
    let w = b.at +ℤ pos g +ℤ pos 1 in
    let s = near_holder (pos g) w given e in
    let p = near_parts (pos g) w s.0 s.2 in
    let p0 = p.0 in
    let p1 = p.1 in
    let p2 = p.2 in
    let below = b.below in
    let above = b.above in
    elim (between s.0.start b.at) as (λ _. ⊥) [
      | inl early ↦ next_one g given t b s.0 s.1 early (omega (arith, ints)) none
      | inr late ↦ elim (between s.0.start t) as (λ _. ⊥) [
        | inl in_gap ↦ true_false _ (cover_by s.0.start given s.0 s.1 (within_is s.0.start s.0 (omega (arith, ints)) p0)) (b.rest s.0.start late in_gap)
        | inr after ↦ true_false _ (cover_by s.0.start given s.0 s.1 (within_is s.0.start s.0 (omega (arith, ints)) p0)) (none s.0.start (omega (arith, ints)) p1)
      ]
    ]

of_pos : (z : ℤ) → pos 0 ≤ℤ z → (k : ℕ) × (z ≡ pos k)
of_pos (pos k) h = (k, refl)
of_pos (negsuc k) h = absurd (omega (arith, ints))

both_ends : (g : ℕ) (t : ℤ) (given : List Span) (b : HasLastTickBetween given (t -ℤ pos g) t) → HasTickBetween given t (b.at +ℤ pos g +ℤ pos 1) → IsBridged (pos g) given t
both_ends g t given b n = record { from = b.at; to = n.at; has_from = b.has; has_to = n.has; above = b.below; below = n.above; near = gap_near (pos g) b.at n.at n.below }

gap_left : (g : ℕ) (t at : ℤ) → (t -ℤ pos g) ≤ℤ at → at ≤ℤ t → (k : ℕ) × ((t +ℤ pos k) ≡ (at +ℤ pos g +ℤ pos 1))
gap_left g t at a b =
    let d : pos 0 ≤ℤ ((at +ℤ pos g +ℤ pos 1) -ℤ t) = omega (arith, ints) in
    let k = of_pos _ d in
    let e = k.1 in
    (k.0, omega (arith, ints))

-- a tick of a range is bridged
more_than : (g : ℕ) (given rs : List Span) (t : ℤ) → IsRanges (pos g) rs → ((u : ℤ) → is_near_any (pos g) u rs ≡ is_near_any (pos g) u given) → (r : Span) → IsIn r rs → has_tick r t ≡ true → IsBridged (pos g) given t
more_than g given rs t h same r i e =
    let w = within_parts t r e in
    let w0 = w.0 in
    let w1 = w.1 in
    let lasts : r.start <ℤ r.end = lasting (pos g) rs r h i in
    let near_t : is_near_any (pos g) t given ≡ true = sym (same t) ∙ near_by (pos g) t rs r i (near_is (pos g) t r lasts w0 (omega (arith, ints))) in
    elim (down given t g) as (λ _. IsBridged (pos g) given t) [
      | inr none ↦ absurd (not_none g t given near_t none)
      | inl b ↦
          let above = b.above in
          let below = b.below in
          let k = gap_left g t b.at above below in
          elim (subst (λ (z : ℤ). HasTickBetween given t z ⊎ HasNoTickBetween given t z) k.1 (up given t k.0)) as (λ _. IsBridged (pos g) given t) [
            | inl n ↦ both_ends g t given b n
            | inr none ↦ elim (between t b.at) as (λ _. IsBridged (pos g) given t) [
              | inl same_t ↦ absurd (true_false _ b.has (none b.at same_t (omega (arith, ints))))
              | inr later ↦ absurd (not_near g t given b none (sym (same (b.at +ℤ pos g +ℤ pos 1)) ∙ near_by (pos g) (b.at +ℤ pos g +ℤ pos 1) rs r i (near_is (pos g) (b.at +ℤ pos g +ℤ pos 1) r lasts (omega (arith, ints)) (omega (arith, ints)))))
            ]
          ]
    ]

-- ranges of the near ticks of spans are their bridged ranges
pub bridged_by : (gap : ℤ) (given rs : List Span) → pos 0 ≤ℤ gap → IsRanges gap rs → ((t : ℤ) → is_near_any gap t rs ≡ is_near_any gap t given) → IsBridging gap given rs
bridged_by (pos g) given rs p h same = record {
  no_more = λ t e. let r = cover_holder t rs e in more_than g given rs t h same r.0 r.1 r.2;
  no_less = λ t b. no_less (pos g) given rs t p h same b;
  normalized = normalized_ranges (pos g) rs p h;
}
bridged_by (negsuc g) given rs p h same = absurd (omega (arith, ints))

pub bridged_law : (gap : ℤ) (spans : List Span) → pos 0 ≤ℤ gap → IsBridging gap spans (bridged_ranges gap spans)
bridged_law gap spans g = bridged_by gap spans (bridged_ranges gap spans) g (ranges_bridged gap spans g) (λ t. times_bridged gap t spans g)

both_true : (a b : Bool) → (a ≡ true → b ≡ true) → (b ≡ true → a ≡ true) → a ≡ b
both_true true b f g = sym (f refl)
both_true false true f g = g refl
both_true false false f g = refl

-- the bridged ranges of spans are one list
pub one_bridged : (gap : ℤ) (given xs ys : List Span) → IsBridging gap given xs → IsBridging gap given ys → xs ≡ ys
one_bridged gap given xs ys p q = unique xs ys p.normalized q.normalized (λ t. both_true (has_tick_in xs t) (has_tick_in ys t) (λ e. q.no_less t (p.no_more t e)) (λ e. p.no_less t (q.no_more t e)))
