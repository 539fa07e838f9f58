-- Ranges after a change.
use Rattle.std.proofs.Common.{◌≡◌, ◌∙◌, ℕ, zero, suc, ℤ, pos, ◌+◌, ◌<◌, ◌≤◌, ◌+ℤ◌, ◌-ℤ◌, ◌≤ℤ◌, ◌<ℤ◌, Bool, true, false, cond, not, ◌&&◌, ◌||◌, List, [], ◌∷◌, length, get_or, take, drop, map, filter, Option, Some, None, refl, sym, ap, subst, inl, inr, ◌⊎◌, arith, int_le, int_lt}
use Rattle.std.specs.List.{AllByRecursion}
use Rattle.std.specs.Int.{int_max}
use Rattle.std.proofs.lemmas.Int.{ints}
use Rattle.std.proofs.lemmas.List.{length-map, map_more, drop_all}
use Rattle.std.proofs.lemmas.List.Sums.{fold-append}
use Rattle.mse_base.specs.Time.{IsTick}
use Rattle.mse_base.specs.declared.span.Span.{Span}
use Rattle.mse_base.specs.Bridging.{IsRanges, ranges_with, ranges_with_all, bridged_ranges, is_near, is_near_any, ranges_without}
use Rattle.mse_base.proofs.JoinedSpans.{ranges_bridged, times_bridged, length_bridged}
use Rattle.mse_base.proofs.Extended.{same_near, near_parts, near_is}
use Rattle.mse_base.proofs.CarvedRanges.{left_holds, right_holds, carved_less, hole_empty}
use Rattle.track_store.specs.declared.store.Stored.{Stored}
use Rattle.track_store.specs.Frames.{interval, intervals}
use Rattle.track_index.specs.declared.entry.OrderEntry.{OrderEntry}
use Rattle.track_index.specs.declared.key.Key.{Key}
use Rattle.track_index.specs.Order.{span_of, end_of}
use Rattle.track_index.specs.Keyed.{is_before_key, IsKeyed}
use Rattle.mse_base.specs.Moments.{greatest_of_two}
use Rattle.track_index.specs.Known.{greatest_end}
use Rattle.track_index.specs.Repair.{AreTimed, AreBetween, HasEndAt, IsPast, AreGrownBy, HasTicksBetween, HasTicksPast}
use Rattle.track_index.specs.Runs.{AreWithin}
use Rattle.track_index.proofs.EntryOrder.{each_weaker, each_both, each_whole, each_more, each_at}
use Rattle.track_index.proofs.BlockEnds.{greatest-append}
use Rattle.track_index.proofs.Keys.{before_parts, low_of, later_starts}

or_cases : {P : Type 0} (a b : Bool) → (a || b) ≡ true → (a ≡ true → P) → (b ≡ true → P) → P
or_cases true b e f g = f refl
or_cases false b e f g = g e

or_left : (a b : Bool) → a ≡ true → (a || b) ≡ true
or_left a b e = ap (λ x. x || b) e

or_right : (a b : Bool) → b ≡ true → (a || b) ≡ true
or_right true b e = refl
or_right false b e = e

true_false : (b : Bool) → b ≡ true → b ≡ false → ⊥
true_false true e f = cc
true_false false e f = cc

bool_cases : (b : Bool) → (b ≡ true) ⊎ (b ≡ false)
bool_cases true = inl refl
bool_cases false = inr refl

both_true : (a b : Bool) → (a ≡ true → b ≡ true) → (b ≡ true → a ≡ true) → a ≡ b
both_true true b f g = sym (f refl)
both_true false true f g = g refl
both_true false false f g = refl

between : (u m : ℤ) → (u <ℤ m) ⊎ (m ≤ℤ u)
between u m = grind (arith, ints)

pub join_more : (gap : ℤ) (rs : List Span) (es : List OrderEntry) (i : ℕ) (x : OrderEntry) → i < length es → x ≡ get_or es i x → ranges_with_all gap rs (map span_of (take (i + 1) es)) ≡ ranges_with gap (ranges_with_all gap rs (map span_of (take i es))) (span_of x)
join_more gap rs es i x l at =
    ap (ranges_with_all gap rs) (map_more span_of es i x l) ∙ fold-append (ranges_with gap) rs (map span_of (take i es)) (span_of (get_or es i x) ∷ []) ∙ ap (λ z. ranges_with gap (ranges_with_all gap rs (map span_of (take i es))) (span_of z)) (sym at)

-- ---- ticks of entries

-- each entry's ticks are among those of all
pub each_near : (gap : ℤ) (os : List OrderEntry) → AllByRecursion (λ o. (t : ℤ) → is_near gap t (span_of o) ≡ true → is_near_any gap t (map span_of os) ≡ true) os
each_near gap [] = tt
each_near gap (o ∷ os) =
    (λ t e. or_left (is_near gap t (span_of o)) _ e, each_weaker (λ p. (t : ℤ) → is_near gap t (span_of p) ≡ true → is_near_any gap t (map span_of os) ≡ true) (λ p. (t : ℤ) → is_near gap t (span_of p) ≡ true → is_near_any gap t (map span_of (o ∷ os)) ≡ true) os (λ p f t e. or_right (is_near gap t (span_of o)) _ (f t e)) (each_near gap os))

-- what follows from the ticks of each entry follows from those of all
nears_each : {P : Type 0} (gap t : ℤ) (os : List OrderEntry) → AllByRecursion (λ o. is_near gap t (span_of o) ≡ true → P) os → is_near_any gap t (map span_of os) ≡ true → P
nears_each gap t [] h e = absurd cc
nears_each gap t (o ∷ os) h e = or_cases (is_near gap t (span_of o)) (is_near_any gap t (map span_of os)) e h.0 (nears_each gap t os h.1)

-- ---- the end past a key

max_cases : (a b : ℤ) → (int_max a b ≡ a) ⊎ (int_max a b ≡ b)
max_cases a b = grind (arith, ints)

max_first : (a b : ℤ) → a ≤ℤ int_max a b
max_first a b = grind (arith, ints)

max_second : (a b : ℤ) → b ≤ℤ int_max a b
max_second a b = grind (arith, ints)

abbrev IsGreatestEnd : (OrderEntry → Bool) → Option ℤ → List OrderEntry → Type 0
IsGreatestEnd q None os = AllByRecursion (λ o. q o ≡ true → ⊥) os
IsGreatestEnd q (Some e) os = AllByRecursion (λ o. q o ≡ true → (end_of o) ≤ℤ e) os × HasEndAt q e os

grows : (q : OrderEntry → Bool) (o : OrderEntry) (os : List OrderEntry) (r : Option ℤ) → q o ≡ true → IsGreatestEnd q r os → IsGreatestEnd q (greatest_of_two (Some (end_of o)) r) (o ∷ os)
grows q o os None y h = ((λ _. omega (arith, ints), each_weaker (λ p. q p ≡ true → ⊥) (λ p. q p ≡ true → (end_of p) ≤ℤ end_of o) os (λ p f e. absurd (f e)) h), inl (y, refl))
grows q o os (Some s) y h =
    let m = max_first (end_of o) s in
    let n = max_second (end_of o) s in (
      (λ _. m, each_weaker (λ p. q p ≡ true → (end_of p) ≤ℤ s) (λ p. q p ≡ true → (end_of p) ≤ℤ int_max (end_of o) s) os (λ p f e. let k = f e in omega (arith, ints)) h.0),
      elim (max_cases (end_of o) s) as (λ _. HasEndAt q (int_max (end_of o) s) (o ∷ os)) [
        | inl a ↦ inl (y, sym a)
        | inr b ↦ inr (subst (λ (z : ℤ). HasEndAt q z os) (sym b) h.1)
      ],
    )

stays : (q : OrderEntry → Bool) (o : OrderEntry) (os : List OrderEntry) (r : Option ℤ) → q o ≡ false → IsGreatestEnd q r os → IsGreatestEnd q r (o ∷ os)
stays q o os None n h = (λ y. absurd (true_false (q o) y n), h)
stays q o os (Some s) n h = ((λ y. absurd (true_false (q o) y n), h.0), inr h.1)

greatest_step : (q : OrderEntry → Bool) (o : OrderEntry) (os : List OrderEntry) (b : Bool) → q o ≡ b → IsGreatestEnd q (greatest_end (filter q os)) os → IsGreatestEnd q (greatest_end (cond b (o ∷ filter q os) (filter q os))) (o ∷ os)
greatest_step q o os true e h = subst (λ (r : Option ℤ). IsGreatestEnd q r (o ∷ os)) (sym (greatest-append (o ∷ []) (filter q os))) (grows q o os (greatest_end (filter q os)) e h)
greatest_step q o os false e h = stays q o os (greatest_end (filter q os)) e h

greatest_is : (q : OrderEntry → Bool) (os : List OrderEntry) → IsGreatestEnd q (greatest_end (filter q os)) os
greatest_is q [] = tt
greatest_is q (o ∷ os) = greatest_step q o os (q o) refl (greatest_is q os)

pub past_none : (key : Key) (os : List OrderEntry) → None ≡ greatest_end (filter (is_before_key key) os) → IsPast key None os
past_none key os e = each_weaker (λ o. is_before_key key o ≡ true → ⊥) (λ o. is_before_key key o ≡ true → (end_of o) ≤ℤ key.mark) os (λ o f y. absurd (f y)) (subst (λ (r : Option ℤ). IsGreatestEnd (is_before_key key) r os) (sym e) (greatest_is (is_before_key key) os))

pub past_early : (key : Key) (os : List OrderEntry) (e : ℤ) → Some e ≡ greatest_end (filter (is_before_key key) os) → e ≤ℤ key.mark → IsPast key None os
past_early key os e h l =
    let g = subst (λ (r : Option ℤ). IsGreatestEnd (is_before_key key) r os) (sym h) (greatest_is (is_before_key key) os) in
    each_weaker (λ o. is_before_key key o ≡ true → (end_of o) ≤ℤ e) (λ o. is_before_key key o ≡ true → (end_of o) ≤ℤ key.mark) os (λ o f y. let k = f y in omega (arith, ints)) g.0

pub past_some : (key : Key) (os : List OrderEntry) (e : ℤ) (s : Span) → Some e ≡ greatest_end (filter (is_before_key key) os) → key.mark <ℤ e → s.start ≡ key.mark → s.end ≡ e → IsPast key (Some s) os
past_some key os e s h l a b =
    let g = subst (λ (r : Option ℤ). IsGreatestEnd (is_before_key key) r os) (sym h) (greatest_is (is_before_key key) os) in
    let k = subst (λ (z : ℤ). AllByRecursion (λ o. is_before_key key o ≡ true → (end_of o) ≤ℤ z) os × HasEndAt (is_before_key key) z os) (sym b) g in
    (a, omega (arith, ints), k.0, k.1)

-- ---- the ranges after a hole was taken out and filled

-- the ticks that some entry before the key has past it
past_ticks : (gap t : ℤ) (key : Key) (end : ℤ) (os : List OrderEntry) → HasEndAt (is_before_key key) end os → ((o : OrderEntry) → is_before_key key o ≡ true → o.pts ≤ℤ key.mark) → key.mark <ℤ end → key.mark ≤ℤ t → t <ℤ (end +ℤ gap) → is_near_any gap t (map span_of os) ≡ true
past_ticks gap t key end [] h f l a b = absurd h
past_ticks gap t key end (o ∷ os) (inl p) f l a b =
    let low = f o p.0 in
    let p1 = p.1 in
    or_left (is_near gap t (span_of o)) _ (near_is gap t (span_of o) (omega (arith, ints)) (omega (arith, ints)) (omega (arith, ints)))
past_ticks gap t key end (o ∷ os) (inr i) f l a b = or_right (is_near gap t (span_of o)) _ (past_ticks gap t key end os i f l a b)

lesser_end : (e a : ℤ) → (z : ℤ) × (z ≤ℤ e) × (z ≤ℤ a) × ((z ≡ e) ⊎ ((z ≡ a) × (a <ℤ e)))
lesser_end e a = elim (between a e) as (λ _. (z : ℤ) × (z ≤ℤ e) × (z ≤ℤ a) × ((z ≡ e) ⊎ ((z ≡ a) × (a <ℤ e)))) [
  | inl low ↦ (a, omega (arith, ints), omega (arith, ints), inr (refl, low))
  | inr high ↦ (e, omega (arith, ints), high, inl refl)
]

one_near : (gap u : ℤ) (s : Span) → is_near_any gap u (s ∷ []) ≡ true → is_near gap u s ≡ true
one_near gap u s e = or_cases (is_near gap u s) false e (λ k. k) (λ k. absurd cc)

-- left of the hole an entry that begins before it is still there
kept_left : (gap t a b : ℤ) (rs : List Span) (o : OrderEntry) → pos 0 ≤ℤ gap → (a +ℤ gap) <ℤ b → IsRanges gap rs → ((u : ℤ) → is_near gap u (span_of o) ≡ true → is_near_any gap u rs ≡ true) → o.pts <ℤ a → t <ℤ (a +ℤ gap) → is_near gap t (span_of o) ≡ true → is_near_any gap t (ranges_without a b rs) ≡ true
kept_left gap t a b rs o g w r sub l h e =
    let p = near_parts gap t (span_of o) e in
    let p0 = p.0 in let p1 = p.1 in let p2 = p.2 in
    let z = lesser_end (end_of o) a in
    let z0 = z.1 in let z1 = z.2 in
    let c : Span = record { start = o.pts; end = z.0 } in
    let here : is_near gap t (record { start = o.pts; end = z.0 }) ≡ true = elim z.3 as (λ _. is_near gap t (record { start = o.pts; end = z.0 }) ≡ true) [
      | inl same ↦ near_is gap t (record { start = o.pts; end = z.0 }) (omega (arith, ints)) p1 (omega (arith, ints))
      | inr cut ↦ (let c0 = cut.0 in near_is gap t (record { start = o.pts; end = z.0 }) (omega (arith, ints)) p1 (omega (arith, ints)))
    ] in
    left_holds gap t a b rs (record { start = o.pts; end = z.0 } ∷ []) rs g w r (λ _ _. refl)
    (λ u k. let q = near_parts gap u (record { start = o.pts; end = z.0 }) (one_near gap u (record { start = o.pts; end = z.0 }) k) in
    let q0 = q.0 in let q1 = q.1 in let q2 = q.2 in
    sub u (near_is gap u (span_of o) (omega (arith, ints)) q1 (omega (arith, ints))))
    (z1, tt) h (or_left (is_near gap t (record { start = o.pts; end = z.0 })) false here)

-- right of the hole an entry that begins behind it is still there
kept_right : (gap t a b : ℤ) (rs : List Span) (o : OrderEntry) → pos 0 ≤ℤ gap → (a +ℤ gap) <ℤ b → IsRanges gap rs → ((u : ℤ) → is_near gap u (span_of o) ≡ true → is_near_any gap u rs ≡ true) → b ≤ℤ o.pts → is_near gap t (span_of o) ≡ true → is_near_any gap t (ranges_without a b rs) ≡ true
kept_right gap t a b rs o g w r sub l e =
    let p = near_parts gap t (span_of o) e in
    let p1 = p.1 in
    right_holds gap t a b rs (span_of o ∷ []) rs g w r (λ _ _. refl) (λ u k. sub u (one_near gap u (span_of o) k)) (l, tt) (omega (arith, ints)) (or_left (is_near gap t (span_of o)) false e)

-- ---- the loops

-- nothing is joined in yet
pub grown_none : (gap : ℤ) (os : List OrderEntry) (rs : List Span) → AreGrownBy gap os rs rs
grown_none gap os rs = record { kept = λ t e. e; only = λ t e. or_left _ _ e }

pub grown_more : (gap : ℤ) (os : List OrderEntry) (rs now next : List Span) (i : ℕ) (x : OrderEntry) → i < length os → x ≡ get_or os i x → ((t : ℤ) → is_near_any gap t next ≡ (is_near gap t (span_of x) || is_near_any gap t now)) → AreGrownBy gap os rs now → AreGrownBy gap os rs next
grown_more gap os rs now next i x l at e h =
    let own : (t : ℤ) → is_near gap t (span_of x) ≡ true → is_near_any gap t (map span_of os) ≡ true = λ t. subst (λ (o : OrderEntry). is_near gap t (span_of o) ≡ true → is_near_any gap t (map span_of os) ≡ true) (sym at) (each_at (λ o. (u : ℤ) → is_near gap u (span_of o) ≡ true → is_near_any gap u (map span_of os) ≡ true) os i x l (each_near gap os) t) in
    record {
      kept = λ t k. e t ∙ or_right _ _ (h.kept t k);
      only = λ t k. or_cases (is_near gap t (span_of x)) (is_near_any gap t now) (sym (e t) ∙ k) (λ y. or_right _ _ (own t y)) (h.only t);
    }

-- one step after the other
pub grown_both : (gap : ℤ) (os : List OrderEntry) (rs mid new : List Span) → AreGrownBy gap os rs mid → AreGrownBy gap os mid new → AreGrownBy gap os rs new
grown_both gap os rs mid new p h = record {
  kept = λ t k. h.kept t (p.kept t k);
  only = λ t k. or_cases (is_near_any gap t mid) (is_near_any gap t (map span_of os)) (h.only t k) (p.only t) (λ m. or_right (is_near_any gap t rs) _ m);
}

pub between_init : (gap : ℤ) (key : Key) (high : ℤ) (os : List OrderEntry) (rs : List Span) (i : ℕ) → AllByRecursion (λ o. is_before_key key o ≡ true) (take i os) → HasTicksBetween gap key high (take i os) rs
between_init gap key high os rs i h = each_weaker (λ o. is_before_key key o ≡ true) (λ o. is_before_key key o ≡ false → o.pts <ℤ high → (t : ℤ) → is_near gap t (span_of o) ≡ true → is_near_any gap t rs ≡ true) (take i os) (λ o b f. absurd (true_false _ b f)) h

pub between_more : (gap : ℤ) (key : Key) (high : ℤ) (os : List OrderEntry) (now next : List Span) (i : ℕ) (x : OrderEntry) → i < length os → x ≡ get_or os i x → ((t : ℤ) → is_near_any gap t next ≡ (is_near gap t (span_of x) || is_near_any gap t now)) → HasTicksBetween gap key high (take i os) now → HasTicksBetween gap key high (take (i + 1) os) next
between_more gap key high os now next i x l at e h = each_more (λ o. is_before_key key o ≡ false → o.pts <ℤ high → (t : ℤ) → is_near gap t (span_of o) ≡ true → is_near_any gap t next ≡ true) os i x l at (each_weaker (λ o. is_before_key key o ≡ false → o.pts <ℤ high → (t : ℤ) → is_near gap t (span_of o) ≡ true → is_near_any gap t now ≡ true) (λ o. is_before_key key o ≡ false → o.pts <ℤ high → (t : ℤ) → is_near gap t (span_of o) ≡ true → is_near_any gap t next ≡ true) (take i os) (λ o f b c t k. e t ∙ or_right _ _ (f b c t k)) h) (λ b c t k. e t ∙ or_left _ _ k)

-- the walk ended at an entry that does not begin before `high`, or past the last
pub between_high : (gap : ℤ) (key : Key) (high : ℤ) (os : List OrderEntry) (now : List Span) (i : ℕ) (x : OrderEntry) → IsKeyed os → i < length os → x ≡ get_or os i x → high ≤ℤ x.pts → HasTicksBetween gap key high (take i os) now → HasTicksBetween gap key high os now
between_high gap key high os now i x keyed l at b h = each_whole (λ o. is_before_key key o ≡ false → o.pts <ℤ high → (t : ℤ) → is_near gap t (span_of o) ≡ true → is_near_any gap t now ≡ true) os i h (each_weaker (λ o. x.pts ≤ℤ o.pts) (λ o. is_before_key key o ≡ false → o.pts <ℤ high → (t : ℤ) → is_near gap t (span_of o) ≡ true → is_near_any gap t now ≡ true) (drop i os) (λ o k _ c. absurd (omega (arith, ints))) (later_starts os i x keyed l at))

pub between_end : (gap : ℤ) (key : Key) (high : ℤ) (os : List OrderEntry) (now : List Span) (i : ℕ) → length os ≤ i → HasTicksBetween gap key high (take i os) now → HasTicksBetween gap key high os now
between_end gap key high os now i l h = each_whole (λ o. is_before_key key o ≡ false → o.pts <ℤ high → (t : ℤ) → is_near gap t (span_of o) ≡ true → is_near_any gap t now ≡ true) os i h (rw (drop_all i os l) tt)

-- ---- what is past the key

key_low : (key : Key) (o : OrderEntry) → is_before_key key o ≡ true → o.pts ≤ℤ key.mark
key_low key o e = elim (before_parts key o e) as (λ _. o.pts ≤ℤ key.mark) [ inl early ↦ omega (arith, ints) | inr tie ↦ tie.0 ]

-- the ranges after the end past the key was joined in
pub grown_past : (gap : ℤ) (key : Key) (os : List OrderEntry) (rs mid : List Span) (s : Span) → IsPast key (Some s) os → ((t : ℤ) → is_near_any gap t mid ≡ (is_near gap t s || is_near_any gap t rs)) → AreGrownBy gap os rs mid
grown_past gap key os rs mid s p e =
    let start = p.0 in
    let lasts = p.1 in
    let ends = p.3 in
    record {
      kept = λ t k. e t ∙ or_right _ _ k;
      only = λ t m. or_cases (is_near gap t s) (is_near_any gap t rs) (sym (e t) ∙ m)
          (λ n. let q = near_parts gap t s n in let q1 = q.1 in let q2 = q.2 in or_right (is_near_any gap t rs) _ (past_ticks gap t key s.end os ends (key_low key) (omega (arith, ints)) (omega (arith, ints)) q2))
          (λ n. or_left (is_near_any gap t rs) _ n);
    }

pub past_some_held : (gap : ℤ) (key : Key) (os : List OrderEntry) (rs mid : List Span) (s : Span) → IsPast key (Some s) os → ((t : ℤ) → is_near_any gap t mid ≡ (is_near gap t s || is_near_any gap t rs)) → HasTicksPast gap key os mid
past_some_held gap key os rs mid s p e =
    let start = p.0 in
    let lasts = p.1 in
    let long = p.2 in
    λ t l. each_weaker (λ o. is_before_key key o ≡ true → (end_of o) ≤ℤ s.end) (λ o. is_before_key key o ≡ true → key.mark <ℤ end_of o → is_near gap t (span_of o) ≡ true → is_near_any gap t mid ≡ true) os
    (λ o f y _ k. e t ∙ or_left _ _ (let q = near_parts gap t (span_of o) k in let q2 = q.2 in let g = f y in near_is gap t s lasts (omega (arith, ints)) (omega (arith, ints)))) long

-- where nothing is past the key
pub past_none_held : (gap : ℤ) (key : Key) (os : List OrderEntry) (rs : List Span) → IsPast key None os → HasTicksPast gap key os rs
past_none_held gap key os rs p = λ t l. each_weaker (λ o. is_before_key key o ≡ true → (end_of o) ≤ℤ key.mark) (λ o. is_before_key key o ≡ true → key.mark <ℤ end_of o → is_near gap t (span_of o) ≡ true → is_near_any gap t rs ≡ true) os (λ o f y m k. let g = f y in absurd (omega (arith, ints))) p

-- and then what follows the key
pub past_grown : (gap : ℤ) (key : Key) (os : List OrderEntry) (mid new : List Span) → HasTicksPast gap key os mid → AreGrownBy gap os mid new → HasTicksPast gap key os new
past_grown gap key os mid new p h = λ t l. each_weaker (λ o. is_before_key key o ≡ true → key.mark <ℤ end_of o → is_near gap t (span_of o) ≡ true → is_near_any gap t mid ≡ true) (λ o. is_before_key key o ≡ true → key.mark <ℤ end_of o → is_near gap t (span_of o) ≡ true → is_near_any gap t new ≡ true) os (λ o f y m k. h.kept t (f y m k)) (p t l)

-- ---- the repair

all_given : (P : OrderEntry → Type 0) (a t : ℤ) (os : List OrderEntry) → (a ≤ℤ t → AllByRecursion P os) → AllByRecursion (λ o. a ≤ℤ t → P o) os
all_given P a t [] f = tt
all_given P a t (o ∷ os) f = ((λ l. (f l).0), all_given P a t os (λ l. (f l).1))

-- an entry's ticks near the time are there after the repair
one_mended : (gap a b t : ℤ) (rs new : List Span) (o : OrderEntry) → pos 0 ≤ℤ gap → (a +ℤ gap) <ℤ b → IsRanges gap rs → ((u : ℤ) → is_near gap u (span_of o) ≡ true → is_near_any gap u rs ≡ true) → (is_near_any gap t (ranges_without a b rs) ≡ true → is_near_any gap t new ≡ true) → (is_before_key (record { mark = a; serial = 0 }) o ≡ false → o.pts <ℤ b → is_near_any gap t new ≡ true) → (a ≤ℤ t → is_before_key (record { mark = a; serial = 0 }) o ≡ true → a <ℤ end_of o → is_near_any gap t new ≡ true) → is_near gap t (span_of o) ≡ true → is_near_any gap t new ≡ true
one_mended gap a b t rs new o g w r sub kept mid past e =
    let p = near_parts gap t (span_of o) e in
    let p0 = p.0 in let p1 = p.1 in let p2 = p.2 in
    elim (bool_cases (is_before_key (record { mark = a; serial = 0 }) o)) as (λ _. is_near_any gap t new ≡ true) [
      | inr behind ↦ elim (between o.pts b) as (λ _. is_near_any gap t new ≡ true) [
        | inl early ↦ mid behind early
        | inr late ↦ kept (kept_right gap t a b rs o g w r sub late e)
      ]
      | inl before ↦ (let low = low_of a o before in elim (between t (a +ℤ gap)) as (λ _. is_near_any gap t new ≡ true) [
        | inl early ↦ kept (kept_left gap t a b rs o g w r sub low early e)
        | inr late ↦ past (omega (arith, ints)) before (omega (arith, ints))
      ])
    ]

pub mended : (gap a b : ℤ) (hole : Span) (os : List OrderEntry) (rs new holes : List Span) → pos 0 ≤ℤ gap → hole.start <ℤ hole.end → a ≡ (hole.start -ℤ gap) → b ≡ (hole.end +ℤ gap) → IsRanges gap rs → AreGrownBy gap os (ranges_without a b rs) new → HasTicksPast gap (record { mark = a; serial = 0 }) os new → HasTicksBetween gap (record { mark = a; serial = 0 }) b os new → AreBetween gap (map span_of os) (hole ∷ holes) rs → AreBetween gap (map span_of os) holes new
mended gap a b hole os rs new holes g w ea eb r h past mid same = λ t.
    let key : Key = record { mark = a; serial = 0 } in
    let wide : (a +ℤ gap) <ℤ b = omega (arith, ints) in
    let P1 = each_near gap os in
    let P3 = all_given (λ o. is_before_key (record { mark = a; serial = 0 }) o ≡ true → a <ℤ end_of o → is_near gap t (span_of o) ≡ true → is_near_any gap t new ≡ true) a t os (past t) in
    let each = each_weaker
    (λ o. ((u : ℤ) → is_near gap u (span_of o) ≡ true → is_near_any gap u (map span_of os) ≡ true) × ((is_before_key (record { mark = a; serial = 0 }) o ≡ false → o.pts <ℤ b → (u : ℤ) → is_near gap u (span_of o) ≡ true → is_near_any gap u new ≡ true) × (a ≤ℤ t → is_before_key (record { mark = a; serial = 0 }) o ≡ true → a <ℤ end_of o → is_near gap t (span_of o) ≡ true → is_near_any gap t new ≡ true)))
    (λ o. is_near gap t (span_of o) ≡ true → is_near_any gap t new ≡ true) os
    (λ o p e. one_mended gap a b t rs new o g wide r (λ u k. (same u).0 (p.0 u k)) (λ n. h.kept t n) (λ x y. p.1.0 x y t e) (λ l y m. p.1.1 l y m e) e)
    (each_both (λ o. (u : ℤ) → is_near gap u (span_of o) ≡ true → is_near_any gap u (map span_of os) ≡ true) (λ o. (is_before_key (record { mark = a; serial = 0 }) o ≡ false → o.pts <ℤ b → (u : ℤ) → is_near gap u (span_of o) ≡ true → is_near_any gap u new ≡ true) × (a ≤ℤ t → is_before_key (record { mark = a; serial = 0 }) o ≡ true → a <ℤ end_of o → is_near gap t (span_of o) ≡ true → is_near_any gap t new ≡ true)) os P1
    (each_both (λ o. is_before_key (record { mark = a; serial = 0 }) o ≡ false → o.pts <ℤ b → (u : ℤ) → is_near gap u (span_of o) ≡ true → is_near_any gap u new ≡ true) (λ o. a ≤ℤ t → is_before_key (record { mark = a; serial = 0 }) o ≡ true → a <ℤ end_of o → is_near gap t (span_of o) ≡ true → is_near_any gap t new ≡ true) os mid P3)) in (
      (λ e. nears_each gap t os each e),
      (λ e. or_cases (is_near_any gap t (ranges_without a b rs)) (is_near_any gap t (map span_of os)) (h.only t e)
          (λ k. or_cases (is_near_any gap t (map span_of os)) (is_near gap t hole || is_near_any gap t holes) ((same t).1 (carved_less gap t a b rs k))
          (λ m. or_left _ (is_near_any gap t holes) m)
          (λ m. or_cases (is_near gap t hole) (is_near_any gap t holes) m
          (λ n. let q = near_parts gap t hole n in let q1 = q.1 in let q2 = q.2 in absurd (true_false _ k (hole_empty gap t a b rs (omega (arith, ints)) (omega (arith, ints)))))
          (λ n. or_right (is_near_any gap t (map span_of os)) _ n)))
          (λ m. or_left _ (is_near_any gap t holes) m)),
    )

-- the ranges of the entries are between them and any holes
pub between_whole : (gap : ℤ) (spans holes rs : List Span) → pos 0 ≤ℤ gap → rs ≡ bridged_ranges gap spans → AreBetween gap spans holes rs
between_whole gap spans holes rs g e = λ t.
    let same : is_near_any gap t rs ≡ is_near_any gap t spans = ap (is_near_any gap t) e ∙ times_bridged gap t spans g in
    ((λ k. same ∙ k), (λ k. or_left _ _ (sym same ∙ k)))

is_le_true : (a b : ℤ) → a ≤ℤ b → int_le a b ≡ true
is_le_true a b h = grind (arith, ints)

empty_near : (gap t : ℤ) (hole : Span) → hole.end ≤ℤ hole.start → is_near gap t hole ≡ false
empty_near gap t hole h = ap (λ b. not b && (int_le hole.start t && int_lt t (hole.end +ℤ gap))) (is_le_true hole.end hole.start h)

-- a hole without a tick
pub between_empty : (gap : ℤ) (spans holes rs : List Span) (hole : Span) → hole.end ≤ℤ hole.start → AreBetween gap spans (hole ∷ holes) rs → AreBetween gap spans holes rs
between_empty gap spans holes rs hole h same = λ t. ((same t).0, (λ k. or_cases (is_near_any gap t spans) (is_near gap t hole || is_near_any gap t holes) ((same t).1 k) (λ m. or_left _ _ m) (λ m. or_right _ _ (sym (ap (λ b. b || is_near_any gap t holes) (empty_near gap t hole h)) ∙ m))))

-- where no hole is left they are the ranges of the entries
pub between_none : (gap : ℤ) (spans rs : List Span) → pos 0 ≤ℤ gap → IsRanges gap rs → AreBetween gap spans [] rs → rs ≡ bridged_ranges gap spans
between_none gap spans rs g r same = same_near gap rs (bridged_ranges gap spans) g r (ranges_bridged gap spans g) (λ t. both_true _ _ (λ e. or_cases (is_near_any gap t spans) false ((same t).1 e) (λ k. k) (λ k. absurd cc)) (same t).0 ∙ sym (times_bridged gap t spans g))

-- ---- for the loops

pub le_of : (a b : ℤ) → int_le a b ≡ true → a ≤ℤ b
le_of a b e = grind (arith, ints)

pub timed_at : (os : List OrderEntry) (i : ℕ) (d : OrderEntry) → i < length os → AreTimed os → IsTick ((get_or os i d).pts +ℤ (get_or os i d).dur)
timed_at os i d l h = each_at (λ e. IsTick (e.pts +ℤ e.dur)) os i d l h

take_length : (os : List OrderEntry) (i : ℕ) → i ≤ length os → length (take i os) ≡ i
take_length os zero l = refl
take_length [] (suc i) l = absurd (omega arith)
take_length (o ∷ os) (suc i) l = ap suc (take_length os i (omega arith))

-- no more ranges than entries joined in
pub few_taken : (gap : ℤ) (os : List OrderEntry) (i : ℕ) (rs : List Span) → i < length os → rs ≡ bridged_ranges gap (map span_of (take i os)) → length rs ≤ i
few_taken gap os i rs l e = omega (arith, ap length e, length_bridged gap (map span_of (take i os)), length-map (take i os) span_of, take_length os i (omega arith))

pub take_end : (os : List OrderEntry) (i : ℕ) → length os ≤ i → take i os ≡ os
take_end [] zero l = refl
take_end [] (suc i) l = refl
take_end (o ∷ os) zero l = absurd (omega arith)
take_end (o ∷ os) (suc i) l = ap (λ zs. o ∷ zs) (take_end os i (omega arith))

-- ---- one hole for several

near_within : (gap t : ℤ) (hull : Span) (fs : List Stored) → AreWithin hull fs → is_near_any gap t (intervals fs) ≡ true → is_near gap t hull ≡ true
near_within gap t hull [] w e = absurd cc
near_within gap t hull (f ∷ fs) w e = or_cases (is_near gap t (interval f)) (is_near_any gap t (intervals fs)) e
    (λ k. let q = near_parts gap t (interval f) k in
    let q0 = q.0 in let q1 = q.1 in let q2 = q.2 in
    let a = w.0 in let a0 = a.0 in let a1 = a.1 in
    near_is gap t hull (omega (arith, ints)) (omega (arith, ints)) (omega (arith, ints)))
    (near_within gap t hull fs w.1)

-- a span that has all holes is a hole for all
pub between_within : (gap : ℤ) (spans rs : List Span) (hull : Span) (fs : List Stored) → AreWithin hull fs → AreBetween gap spans (intervals fs) rs → AreBetween gap spans (hull ∷ []) rs
between_within gap spans rs hull fs w h = λ t.
    ((h t).0, λ e. or_cases (is_near_any gap t spans) (is_near_any gap t (intervals fs)) ((h t).1 e) (λ k. or_left _ _ k) (λ k. or_right (is_near_any gap t spans) _ (or_left (is_near gap t hull) false (near_within gap t hull fs w k))))
