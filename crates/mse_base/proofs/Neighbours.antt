-- The laws of joined and bridged ranges.
use Rattle.std.proofs.Common.{◌≡◌, ◌∙◌, ℤ, pos, ◌+ℤ◌, ◌-ℤ◌, ◌<ℤ◌, ◌≤ℤ◌, Bool, true, false, ◌||◌, List, [], ◌∷◌, ◌++◌, refl, sym, ap, subst, inl, inr, ◌⊎◌, arith}
use Rattle.std.specs.Int.{int_max}
use Rattle.std.proofs.lemmas.Int.{ints}
use Rattle.mse_base.specs.declared.span.Span.{Span}
use Rattle.mse_base.specs.Spans.{has_tick, has_tick_in, IsNormalized, IsUnion, IsIntersection, IsDifference, IsBridged, IsBridging, IsInGap}
use Rattle.mse_base.proofs.Unique.{unique, not_yet}
use Rattle.mse_base.proofs.Sets.{covers-append}

pub one_joined : (given xs ys : List Span) → IsUnion given xs → IsUnion given ys → xs ≡ ys
one_joined given xs ys p q = unique xs ys p.normalized q.normalized (λ t. p.same t ∙ sym (q.same t))

pub one_met : (left right xs ys : List Span) → IsIntersection left right xs → IsIntersection left right ys → xs ≡ ys
one_met left right xs ys p q = unique xs ys p.normalized q.normalized (λ t. p.same t ∙ sym (q.same t))

pub one_cut_out : (from to : ℤ) (given xs ys : List Span) → IsDifference from to given xs → IsDifference from to given ys → xs ≡ ys
one_cut_out from to given xs ys p q = unique xs ys p.normalized q.normalized (λ t. p.same t ∙ sym (q.same t))

both_true : (a b : Bool) → (a ≡ true → b ≡ true) → (b ≡ true → a ≡ true) → a ≡ b
both_true true b f g = sym (f refl)
both_true false true f g = g refl
both_true false false f g = refl

at_tick : (given : List Span) (u v : ℤ) → u ≡ v → has_tick_in given u ≡ true → has_tick_in given v ≡ true
at_tick given u v e h = subst (λ (z : ℤ). has_tick_in given z ≡ true) e h

one_of : (gap from t to : ℤ) → gap ≤ℤ pos 0 → from ≤ℤ t → t ≤ℤ to → to ≤ℤ (from +ℤ int_max gap (pos 0) +ℤ pos 1) → (from ≡ t) ⊎ (to ≡ t)
one_of gap from t to g a b c = grind (arith, ints)

-- a gap that is not negative is as it is
pub near_gap : (gap from to : ℤ) → pos 0 ≤ℤ gap → to ≤ℤ (from +ℤ int_max gap (pos 0) +ℤ pos 1) → to ≤ℤ (from +ℤ gap +ℤ pos 1)
near_gap gap from to g h = grind (arith, ints)

pub gap_near : (gap from to : ℤ) → to ≤ℤ (from +ℤ gap +ℤ pos 1) → to ≤ℤ (from +ℤ int_max gap (pos 0) +ℤ pos 1)
gap_near gap from to h = grind (arith, ints)

own_near : (gap t : ℤ) → t ≤ℤ (t +ℤ int_max gap (pos 0) +ℤ pos 1)
own_near gap t = grind (arith, ints)

-- with no gap a tick is bridged where it is a tick of the spans
bridged_covers : (gap : ℤ) (given : List Span) (t : ℤ) → gap ≤ℤ pos 0 → IsBridged gap given t → has_tick_in given t ≡ true
bridged_covers gap given t g b = elim (one_of gap b.from t b.to g b.above b.below b.near) as (λ _. has_tick_in given t ≡ true) [
  | inl e ↦ at_tick given b.from t e b.has_from
  | inr e ↦ at_tick given b.to t e b.has_to
]

own_bridge : (gap : ℤ) (given : List Span) (t : ℤ) → has_tick_in given t ≡ true → IsBridged gap given t
own_bridge gap given t e = record { from = t; to = t; has_from = e; has_to = e; above = omega (arith, ints); below = omega (arith, ints); near = own_near gap t }

pub joined_of_bridged : (gap : ℤ) (given xs : List Span) → gap ≤ℤ pos 0 → IsBridging gap given xs → IsUnion given xs
joined_of_bridged gap given xs g b = record {
  same = λ t. both_true (has_tick_in xs t) (has_tick_in given t) (λ e. bridged_covers gap given t g (b.no_more t e)) (λ e. b.no_less t (own_bridge gap given t e));
  normalized = b.normalized;
}

pub bridged_of_joined : (gap : ℤ) (given xs : List Span) → gap ≤ℤ pos 0 → IsUnion given xs → IsBridging gap given xs
bridged_of_joined gap given xs g j = record {
  no_more = λ t e. own_bridge gap given t (sym (j.same t) ∙ e);
  no_less = λ t b. j.same t ∙ bridged_covers gap given t g b;
  normalized = j.normalized;
}

or_cases : {P : Type 0} (a b : Bool) → (a || b) ≡ true → (a ≡ true → P) → (b ≡ true → P) → P
or_cases true b e f g = f refl
or_cases false b e f g = g e

or_left : (a b : Bool) → a ≡ true → (a || b) ≡ true
or_left a b e = ap (λ x. x || b) e

or_right : (a b : Bool) → b ≡ true → (a || b) ≡ true
or_right true b e = refl
or_right false b e = e

true_false : (b : Bool) → b ≡ true → b ≡ false → ⊥
true_false true e f = cc
true_false false e f = cc

or_false_left : (a b : Bool) → (a || b) ≡ false → a ≡ false
or_false_left true b e = e
or_false_left false b e = refl

or_false_right : (a b : Bool) → (a || b) ≡ false → b ≡ false
or_false_right true b e = cc
or_false_right false b e = e

within_start : (t : ℤ) (s : Span) → has_tick s t ≡ true → s.start ≤ℤ t
within_start t s e = grind (arith, ints)

within_end : (t : ℤ) (s : Span) → has_tick s t ≡ true → t <ℤ s.end
within_end t s e = grind (arith, ints)

within_is : (t : ℤ) (s : Span) → s.start ≤ℤ t → t <ℤ s.end → has_tick s t ≡ true
within_is t s a b = grind (arith, ints)

not_within : (t : ℤ) (s : Span) → has_tick s t ≡ false → s.start ≤ℤ t → s.end ≤ℤ t
not_within t s e h = grind (arith, ints)

between : (u m : ℤ) → (u <ℤ m) ⊎ (m ≤ℤ u)
between u m = grind (arith, ints)

none_before : (t : ℤ) (y : Span) (ys : List Span) → IsNormalized (y ∷ ys) → t <ℤ y.start → has_tick_in (y ∷ ys) t ≡ false
none_before t y ys n h =
    let own = n.0 in
    let off : has_tick y t ≡ false = grind (arith, ints) in
    ap (λ b. b || has_tick_in ys t) off ∙ not_yet y.end t ys n.1 n.2 (omega (arith, ints))

more : (gap t : ℤ) (x : Span) (xs : List Span) → IsInGap gap xs t → IsInGap gap (x ∷ xs) t
more gap t x xs g = record { front = x ∷ g.front; left = g.left; right = g.right; back = g.back; neighbours = ap (λ zs. x ∷ zs) g.neighbours; short = g.short; above = g.above; below = g.below }

-- a tick that is in no range, between two ticks of ranges with at most the gap between them, is in a gap of two neighbours
in_gap : (gap from t to : ℤ) (ranges : List Span) → IsNormalized ranges → has_tick_in ranges t ≡ false → has_tick_in ranges from ≡ true → has_tick_in ranges to ≡ true → from ≤ℤ t → t ≤ℤ to → to ≤ℤ (from +ℤ gap +ℤ pos 1) → IsInGap gap ranges t
in_gap gap from t to [] n off a b l h w = absurd cc
in_gap gap from t to (x ∷ []) n off a b l h w =
    or_cases (has_tick x from) false a
    (λ f. or_cases (has_tick x to) false b
    (λ k. let f0 = within_start from x f in
    let k1 = within_end to x k in
    absurd (true_false (has_tick x t) (within_is t x (omega (arith, ints)) (omega (arith, ints))) (or_false_left (has_tick x t) false off)))
    (λ k. absurd cc))
    (λ f. absurd cc)
in_gap gap from t to (x ∷ y ∷ ys) n off a b l h w =
    let off_x : has_tick x t ≡ false = or_false_left (has_tick x t) (has_tick_in (y ∷ ys) t) off in
    let off_rest : has_tick_in (y ∷ ys) t ≡ false = or_false_right (has_tick x t) (has_tick_in (y ∷ ys) t) off in
    let rest : IsNormalized (y ∷ ys) = n.2 in
    let own : x.start <ℤ x.end = n.0 in
    let next : x.end <ℤ y.start = n.1 in
    let lasts : y.start <ℤ y.end = rest.0 in
    elim (between t y.start) as (λ _. IsInGap gap (x ∷ y ∷ ys) t) [
      | inl low ↦
          or_cases (has_tick x from) (has_tick_in (y ∷ ys) from) a
          (λ f. let f0 = within_start from x f in
          let f1 = within_end from x f in
          let past : x.end ≤ℤ t = not_within t x off_x (omega (arith, ints)) in
          elim (between to y.start) as (λ _. IsInGap gap (x ∷ y ∷ ys) t) [
            | inl early ↦ or_cases (has_tick x to) (has_tick_in (y ∷ ys) to) b
                (λ k. let k1 = within_end to x k in absurd (omega (arith, ints)))
                (λ k. absurd (true_false _ k (none_before to y ys rest early)))
            | inr reaches ↦ record { front = []; left = x; right = y; back = ys; neighbours = refl; short = omega (arith, ints); above = past; below = low }
          ])
          (λ f. absurd (true_false _ f (none_before from y ys rest (omega (arith, ints)))))
      | inr high ↦
          let past : y.end ≤ℤ t = not_within t y (or_false_left (has_tick y t) (has_tick_in ys t) off_rest) high in
          let to_rest : has_tick_in (y ∷ ys) to ≡ true = or_cases (has_tick x to) (has_tick_in (y ∷ ys) to) b (λ k. let k1 = within_end to x k in absurd (omega (arith, ints))) (λ k. k) in
          more gap t x (y ∷ ys)
          (or_cases (has_tick x from) (has_tick_in (y ∷ ys) from) a
          (λ f. let f1 = within_end from x f in
          in_gap gap (y.end -ℤ pos 1) t to (y ∷ ys) rest off_rest (or_left (has_tick y (y.end -ℤ pos 1)) (has_tick_in ys (y.end -ℤ pos 1)) (within_is (y.end -ℤ pos 1) y (omega (arith, ints)) (omega (arith, ints)))) to_rest (omega (arith, ints)) h (omega (arith, ints)))
          (λ f. in_gap gap from t to (y ∷ ys) rest off_rest f to_rest l h w))
    ]

yes_or_no : (b : Bool) → (b ≡ true) ⊎ (b ≡ false)
yes_or_no true = inl refl
yes_or_no false = inr refl

pub gap_of_bridged : (gap : ℤ) (given joined : List Span) (t : ℤ) → pos 0 ≤ℤ gap → IsUnion given joined → IsBridged gap given t → (has_tick_in joined t ≡ true) ⊎ IsInGap gap joined t
gap_of_bridged gap given joined t g j b = elim (yes_or_no (has_tick_in joined t)) as (λ _. (has_tick_in joined t ≡ true) ⊎ IsInGap gap joined t) [
  | inl e ↦ inl e
  | inr e ↦ inr (in_gap gap b.from t b.to joined j.normalized e (j.same b.from ∙ b.has_from) (j.same b.to ∙ b.has_to) b.above b.below (near_gap gap b.from b.to g b.near))
]

lasting_left : (front : List Span) (left right : Span) (back : List Span) → IsNormalized (front ++ left ∷ right ∷ back) → (left.start <ℤ left.end) × (right.start <ℤ right.end)
lasting_left [] left right back n = (n.0, n.2.0)
lasting_left (x ∷ front) left right back n = lasting_left front left right back n.2

pub bridged_of_gap : (gap : ℤ) (given joined : List Span) (t : ℤ) → pos 0 ≤ℤ gap → IsUnion given joined → (has_tick_in joined t ≡ true) ⊎ IsInGap gap joined t → IsBridged gap given t
bridged_of_gap gap given joined t g j (inl e) = own_bridge gap given t (sym (j.same t) ∙ e)
bridged_of_gap gap given joined t g j (inr i) =
    let n : IsNormalized (i.front ++ i.left ∷ i.right ∷ i.back) = subst (λ (zs : List Span). IsNormalized zs) i.neighbours j.normalized in
    let lasts = lasting_left i.front i.left i.right i.back n in
    let lasts0 = lasts.0 in
    let lasts1 = lasts.1 in
    let short = i.short in
    let above = i.above in
    let below = i.below in
    let before = i.left.end -ℤ pos 1 in
    let in_left : has_tick i.left before ≡ true = within_is before i.left (omega (arith, ints)) (omega (arith, ints)) in
    let in_right : has_tick i.right i.right.start ≡ true = within_is i.right.start i.right (omega (arith, ints)) lasts1 in
    let has_left : has_tick_in (i.front ++ i.left ∷ i.right ∷ i.back) before ≡ true = covers-append i.front (i.left ∷ i.right ∷ i.back) before ∙ or_right (has_tick_in i.front before) _ (or_left (has_tick i.left before) _ in_left) in
    let has_right : has_tick_in (i.front ++ i.left ∷ i.right ∷ i.back) i.right.start ≡ true = covers-append i.front (i.left ∷ i.right ∷ i.back) i.right.start ∙ or_right (has_tick_in i.front i.right.start) _ (or_right (has_tick i.left i.right.start) _ (or_left (has_tick i.right i.right.start) _ in_right)) in
    record {
      from = before;
      to = i.right.start;
      has_from = sym (j.same before) ∙ subst (λ (zs : List Span). has_tick_in zs before ≡ true) (sym i.neighbours) has_left;
      has_to = sym (j.same i.right.start) ∙ subst (λ (zs : List Span). has_tick_in zs i.right.start ≡ true) (sym i.neighbours) has_right;
      above = omega (arith, ints);
      below = omega (arith, ints);
      near = gap_near gap before i.right.start (omega (arith, ints));
    }
