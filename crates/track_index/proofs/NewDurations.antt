-- Another duration.
use Rattle.std.proofs.Common.{◌≡◌, ◌∙◌, ℕ, zero, suc, ℤ, pos, ◌<◌, ◌≤◌, ◌+ℤ◌, ◌≤ℤ◌, ◌<ℤ◌, Bool, true, false, cond, ◌||◌, List, [], ◌∷◌, length, get_or, set, slice_get, Some, None, map, refl, sym, ap, subst, inl, inr, ◌⊎◌, arith, int_lt, nat_eq}
use Rattle.std.specs.List.{AllByRecursion}
use Rattle.std.proofs.lemmas.Int.{ints}
use Rattle.std.proofs.lemmas.Bool.Decides.{nat_tests}
use Rattle.std.proofs.lemmas.List.{length-map}
use Rattle.mse_base.specs.Time.{IsTick}
use Rattle.mse_base.specs.declared.span.Span.{Span}
use Rattle.mse_base.specs.Bridging.{is_near, is_near_any, bridged_ranges}
use Rattle.mse_base.proofs.Extended.{near_parts, near_is}
use Rattle.mse_base.proofs.JoinedSpans.{times_bridged}
use Rattle.track_store.specs.declared.store.Stored.{Stored}
use Rattle.track_store.specs.Frames.{IsAscending, IsTimed, has_serial, frames_with_dur, with_dur, ranges_of, intervals}
use Rattle.track_store.proofs.Soundness.{chained-shortened}
use Rattle.track_store.proofs.ClearedLists.{kept-shortened, used-shortened, shortened_at}
use Rattle.std.proofs.lemmas.Option.{slice_get_read}
use Rattle.track_index.specs.declared.entry.OrderEntry.{OrderEntry}
use Rattle.track_index.specs.Order.{entries_with, entries_with_all, entry_of, span_of, presentation_order, with_entry_dur}
use Rattle.track_index.specs.Repair.{AreBetween}
use Rattle.track_index.specs.Indexed.{FrameIndex, IsIndexed}
use Rattle.track_index.proofs.SyncSerials.{syncs-shortened}
use Rattle.track_index.proofs.EntryOrder.{each_weaker, each_to_ordered}
use Rattle.track_index.proofs.KeptStore.{near_ordered, ranges_by_order}

other_dur : (o : OrderEntry) (b : Bool) (d : ℤ) → b ≡ false → record o { dur = cond b d o.dur } ≡ o
other_dur o b d e = ap (λ c. record o { dur = cond c d o.dur }) e

other : (serial : ℕ) (dur : ℤ) (o : OrderEntry) → (o.serial ≡ serial → ⊥) → with_entry_dur serial dur o ≡ o
other serial dur o h = let e : nat_eq o.serial serial ≡ false = grind (arith, nat_tests) in other_dur o (nat_eq o.serial serial) dur e

-- ---- the order of frames one of which has another duration

map_cond : (f : OrderEntry → OrderEntry) (b : Bool) (xs ys : List OrderEntry) → map f (cond b xs ys) ≡ cond b (map f xs) (map f ys)
map_cond f true xs ys = refl
map_cond f false xs ys = refl

map_put : (serial : ℕ) (dur : ℤ) (e : OrderEntry) (os : List OrderEntry) → map (with_entry_dur serial dur) (entries_with e os) ≡ entries_with (with_entry_dur serial dur e) (map (with_entry_dur serial dur) os)
map_put serial dur e [] = refl
map_put serial dur e (o ∷ os) =
    map_cond (with_entry_dur serial dur) (int_lt e.pts o.pts) (e ∷ o ∷ os) (o ∷ entries_with e os)
    ∙ ap (λ zs. cond (int_lt e.pts o.pts) (with_entry_dur serial dur e ∷ with_entry_dur serial dur o ∷ map (with_entry_dur serial dur) os) (with_entry_dur serial dur o ∷ zs)) (map_put serial dur e os)

entry_cond : (b : Bool) (dur : ℤ) (f : Stored) → entry_of (cond b (with_dur dur f) f) ≡ record (entry_of f) { dur = cond b dur f.frame.dur }
entry_cond true dur f = refl
entry_cond false dur f = refl

map_all : (serial : ℕ) (dur : ℤ) (os : List OrderEntry) (fs : List Stored) → map (with_entry_dur serial dur) (entries_with_all os fs) ≡ entries_with_all (map (with_entry_dur serial dur) os) (frames_with_dur serial dur fs)
map_all serial dur os [] = refl
map_all serial dur os (f ∷ fs) =
    map_all serial dur (entries_with (entry_of f) os) fs
    ∙ ap (λ ps. entries_with_all ps (frames_with_dur serial dur fs)) (map_put serial dur (entry_of f) os ∙ ap (λ e. entries_with e (map (with_entry_dur serial dur) os)) (sym (entry_cond (has_serial serial f) dur f)))

pub ordered_shortened : (serial : ℕ) (dur : ℤ) (fs : List Stored) → map (with_entry_dur serial dur) (presentation_order fs) ≡ presentation_order (frames_with_dur serial dur fs)
ordered_shortened serial dur fs = map_all serial dur [] fs

-- ---- the entry of a serial

at_later : (n : ℕ) (fs : List Stored) (i : ℕ) (d : Stored) → i < length fs → AllByRecursion (λ g. n < g.serial) fs → n < (get_or fs i d).serial
at_later n [] i d l h = absurd (omega arith)
at_later n (f ∷ fs) zero d l h = h.0
at_later n (f ∷ fs) (suc i) d l h = at_later n fs i d (omega arith) h.1

above_own : (x : Stored) (fs : List Stored) → AllByRecursion (λ g. x.serial < g.serial) fs → AllByRecursion (λ g. g.serial ≡ x.serial → g ≡ x) fs
above_own x [] h = tt
above_own x (f ∷ fs) h = let one = h.0 in (λ e. absurd (omega arith), above_own x fs h.1)

own_at : (fs : List Stored) (i : ℕ) (d : Stored) → IsAscending fs → i < length fs → AllByRecursion (λ g. g.serial ≡ (get_or fs i d).serial → g ≡ get_or fs i d) fs
own_at [] i d up l = tt
own_at (f ∷ fs) zero d up l = (λ e. refl, above_own f fs up.0)
own_at (f ∷ fs) (suc i) d up l =
    let later = at_later f.serial fs i d (omega arith) up.0 in
    (λ e. absurd (omega arith), own_at fs i d up.1 (omega arith))

each_frame : (x : Stored) (fs : List Stored) → AllByRecursion (λ g. g.serial ≡ x.serial → g ≡ x) fs → AllByRecursion (λ f. (entry_of f).serial ≡ x.serial → entry_of f ≡ entry_of x) fs
each_frame x [] h = tt
each_frame x (f ∷ fs) h = (λ e. ap entry_of (h.0 e), each_frame x fs h.1)

pub own_entry : (fs : List Stored) (os : List OrderEntry) (i : ℕ) (x : Stored) → IsAscending fs → os ≡ presentation_order fs → i < length fs → x ≡ get_or fs i x → AllByRecursion (λ o. o.serial ≡ x.serial → o ≡ entry_of x) os
own_entry fs os i x up o l at =
    let own = subst (λ (z : Stored). AllByRecursion (λ g. g.serial ≡ z.serial → g ≡ z) fs) (sym at) (own_at fs i x up l) in
    subst (λ (ps : List OrderEntry). AllByRecursion (λ o. o.serial ≡ x.serial → o ≡ entry_of x) ps) (sym o) (each_to_ordered (λ o. o.serial ≡ x.serial → o ≡ entry_of x) fs (each_frame x fs own))

pub own_pts : (x : Stored) (os : List OrderEntry) → AllByRecursion (λ o. o.serial ≡ x.serial → o ≡ entry_of x) os → AllByRecursion (λ o. o.serial ≡ x.serial → o.pts ≡ x.frame.pts) os
own_pts x os h = each_weaker (λ o. o.serial ≡ x.serial → o ≡ entry_of x) (λ o. o.serial ≡ x.serial → o.pts ≡ x.frame.pts) os (λ o k e. ap (λ (z : OrderEntry). z.pts) (k e)) h

-- ---- what the store keeps

both_true : (a b : Bool) → (a ≡ true → b ≡ true) → (b ≡ true → a ≡ true) → a ≡ b
both_true true b f g = sym (f refl)
both_true false true f g = g refl
both_true false false f g = refl

true_false : (b : Bool) → b ≡ true → b ≡ false → ⊥
true_false true e f = cc
true_false false e f = cc

between : (u m : ℤ) → (u <ℤ m) ⊎ (m ≤ℤ u)
between u m = grind (arith, ints)

-- a tick that is not near what the frame lost is near the frame as before
near_cut : (gap t p old dur : ℤ) (hole : Span) → pos 0 ≤ℤ gap → pos 0 ≤ℤ dur → dur ≤ℤ old → hole.start ≡ (p +ℤ dur) → hole.end ≡ (p +ℤ old) → is_near gap t hole ≡ false → is_near gap t (record { start = p; end = p +ℤ old }) ≡ is_near gap t (record { start = p; end = p +ℤ dur })
near_cut gap t p old dur hole g d l s e far = both_true _ _
    (λ y.
    let q = near_parts gap t (record { start = p; end = p +ℤ old }) y in
    let q0 = q.0 in let q1 = q.1 in let q2 = q.2 in
    elim (between t (p +ℤ dur)) as (λ _. is_near gap t (record { start = p; end = p +ℤ dur }) ≡ true) [
      | inl low ↦ near_is gap t (record { start = p; end = p +ℤ dur }) (omega (arith, ints)) q1 (omega (arith, ints))
      | inr high ↦ elim (between dur old) as (λ _. is_near gap t (record { start = p; end = p +ℤ dur }) ≡ true) [
        | inl less ↦ absurd (true_false _ (near_is gap t hole (omega (arith, ints)) (omega (arith, ints)) (omega (arith, ints))) far)
        | inr same ↦ near_is gap t (record { start = p; end = p +ℤ dur }) (omega (arith, ints)) q1 (omega (arith, ints))
      ]
    ])
    (λ y.
    let q = near_parts gap t (record { start = p; end = p +ℤ dur }) y in
    let q0 = q.0 in let q1 = q.1 in let q2 = q.2 in
    near_is gap t (record { start = p; end = p +ℤ old }) (omega (arith, ints)) q1 (omega (arith, ints)))

near_one : (gap t dur : ℤ) (x : Stored) (hole : Span) (o : OrderEntry) (b : Bool) → nat_eq o.serial x.serial ≡ b → (o.serial ≡ x.serial → o ≡ entry_of x) → pos 0 ≤ℤ gap → pos 0 ≤ℤ dur → dur ≤ℤ x.frame.dur → hole.start ≡ (x.frame.pts +ℤ dur) → hole.end ≡ (x.frame.pts +ℤ x.frame.dur) → is_near gap t hole ≡ false → is_near gap t (span_of o) ≡ is_near gap t (record { start = o.pts; end = o.pts +ℤ cond b dur o.dur })
near_one gap t dur x hole o true e own g d l s h far =
    let n : o.serial ≡ x.serial = grind (arith, nat_tests) in
    subst (λ (z : OrderEntry). is_near gap t (span_of z) ≡ is_near gap t (record { start = z.pts; end = z.pts +ℤ dur })) (sym (own n)) (near_cut gap t x.frame.pts x.frame.dur dur hole g d l s h far)
near_one gap t dur x hole o false e own g d l s h far = refl

nears_cut : (gap t dur : ℤ) (x : Stored) (hole : Span) (os : List OrderEntry) → AllByRecursion (λ o. o.serial ≡ x.serial → o ≡ entry_of x) os → pos 0 ≤ℤ gap → pos 0 ≤ℤ dur → dur ≤ℤ x.frame.dur → hole.start ≡ (x.frame.pts +ℤ dur) → hole.end ≡ (x.frame.pts +ℤ x.frame.dur) → is_near gap t hole ≡ false → is_near_any gap t (map span_of os) ≡ is_near_any gap t (map span_of (map (with_entry_dur x.serial dur) os))
nears_cut gap t dur x hole [] own g d l s h far = refl
nears_cut gap t dur x hole (o ∷ os) own g d l s h far =
    ap (λ b. b || is_near_any gap t (map span_of os)) (near_one gap t dur x hole o (nat_eq o.serial x.serial) refl own.0 g d l s h far)
    ∙ ap (λ b. is_near gap t (span_of (with_entry_dur x.serial dur o)) || b) (nears_cut gap t dur x hole os own.1 g d l s h far)

or_false : (a b : Bool) → b ≡ false → (a || b) ≡ a
or_false true b e = refl
or_false false b e = e

less_near : (gap t dur : ℤ) (x : Stored) (o : OrderEntry) (b : Bool) → nat_eq o.serial x.serial ≡ b → (o.serial ≡ x.serial → o ≡ entry_of x) → dur ≤ℤ x.frame.dur → is_near gap t (record { start = o.pts; end = o.pts +ℤ cond b dur o.dur }) ≡ true → is_near gap t (span_of o) ≡ true
less_near gap t dur x o true e own l k =
    let n : o.serial ≡ x.serial = grind (arith, nat_tests) in
    let d : o.dur ≡ x.frame.dur = ap (λ (z : OrderEntry). z.dur) (own n) in
    let q = near_parts gap t (record { start = o.pts; end = o.pts +ℤ dur }) k in
    let q0 = q.0 in let q1 = q.1 in let q2 = q.2 in
    near_is gap t (span_of o) (omega (arith, ints)) q1 (omega (arith, ints))
less_near gap t dur x o false e own l k = k

or_both : (a b c d : Bool) → (a ≡ true → c ≡ true) → (b ≡ true → d ≡ true) → (a || b) ≡ true → (c || d) ≡ true
or_both true b c d f g e = ap (λ z. z || d) (f refl)
or_both false b true d f g e = refl
or_both false b false d f g e = g e

less_nears : (gap t dur : ℤ) (x : Stored) (os : List OrderEntry) → AllByRecursion (λ o. o.serial ≡ x.serial → o ≡ entry_of x) os → dur ≤ℤ x.frame.dur → is_near_any gap t (map span_of (map (with_entry_dur x.serial dur) os)) ≡ true → is_near_any gap t (map span_of os) ≡ true
less_nears gap t dur x [] own l k = k
less_nears gap t dur x (o ∷ os) own l k = or_both (is_near gap t (span_of (with_entry_dur x.serial dur o))) (is_near_any gap t (map span_of (map (with_entry_dur x.serial dur) os))) (is_near gap t (span_of o)) (is_near_any gap t (map span_of os)) (less_near gap t dur x o (nat_eq o.serial x.serial) refl own.0 l) (less_nears gap t dur x os own.1 l) k

near_cases : (b : Bool) → (b ≡ true) ⊎ (b ≡ false)
near_cases true = inl refl
near_cases false = inr refl

or_last : (a b : Bool) → b ≡ true → (a || (b || false)) ≡ true
or_last true b e = refl
or_last false b e = ap (λ z. z || false) e

-- the ranges before the cut lie between those after it and those with what the frame lost
pub between_cut : (gap dur : ℤ) (fs : List Stored) (os ps : List OrderEntry) (rs : List Span) (x : Stored) (hole : Span) → AllByRecursion (λ o. o.serial ≡ x.serial → o ≡ entry_of x) os → pos 0 ≤ℤ gap → pos 0 ≤ℤ dur → dur ≤ℤ x.frame.dur → hole.start ≡ (x.frame.pts +ℤ dur) → hole.end ≡ (x.frame.pts +ℤ x.frame.dur) → rs ≡ ranges_of gap fs → os ≡ presentation_order fs → ps ≡ map (with_entry_dur x.serial dur) os → AreBetween gap (map span_of ps) (hole ∷ []) rs
between_cut gap dur fs os ps rs x hole own g d l s h e o q = λ t.
    let before : is_near_any gap t rs ≡ is_near_any gap t (map span_of os) = ap (is_near_any gap t) e ∙ times_bridged gap t (intervals fs) g ∙ sym (near_ordered gap t fs) ∙ sym (ap (λ zs. is_near_any gap t (map span_of zs)) o) in
    let after = ap (λ zs. is_near_any gap t (map span_of zs)) q in (
      (λ k. before ∙ less_nears gap t dur x os own l (sym after ∙ k)),
      (λ k. elim (near_cases (is_near gap t hole)) as (λ _. (is_near_any gap t (map span_of ps) || (is_near gap t hole || false)) ≡ true) [
        | inl near ↦ or_last (is_near_any gap t (map span_of ps)) (is_near gap t hole) near
        | inr far ↦ or_false (is_near_any gap t (map span_of ps)) (is_near gap t hole || false) (ap (λ z. z || false) far) ∙ after ∙ sym (nears_cut gap t dur x hole os own g d l s h far) ∙ sym before ∙ k
      ]),
    )

timed_cond : (b : Bool) (dur : ℤ) (f x : Stored) → has_serial x.serial f ≡ b → (f.serial ≡ x.serial → f ≡ x) → pos 0 ≤ℤ dur → IsTick (x.frame.pts +ℤ dur) → IsTimed f → IsTimed (cond b (with_dur dur f) f)
timed_cond true dur f x e own d t h =
    let n : f.serial ≡ x.serial = grind (arith, nat_tests) in
    (d, subst (λ (z : Stored). IsTick (z.frame.pts +ℤ dur)) (sym (own n)) t)
timed_cond false dur f x e own d t h = h

timed_all : (dur : ℤ) (x : Stored) (fs : List Stored) → AllByRecursion (λ g. g.serial ≡ x.serial → g ≡ x) fs → pos 0 ≤ℤ dur → IsTick (x.frame.pts +ℤ dur) → AllByRecursion IsTimed fs → AllByRecursion IsTimed (frames_with_dur x.serial dur fs)
timed_all dur x [] own d t h = tt
timed_all dur x (f ∷ fs) own d t h = (timed_cond (has_serial x.serial f) dur f x refl own.0 d t h.0, timed_all dur x fs own.1 d t h.1)

pub timed_cut : (dur : ℤ) (x : Stored) (fs : List Stored) (i : ℕ) → IsAscending fs → i < length fs → x ≡ get_or fs i x → pos 0 ≤ℤ dur → IsTick (x.frame.pts +ℤ dur) → AllByRecursion IsTimed fs → AllByRecursion IsTimed (frames_with_dur x.serial dur fs)
timed_cut dur x fs i up l at d t h = timed_all dur x fs (subst (λ (z : Stored). AllByRecursion (λ g. g.serial ≡ z.serial → g ≡ z) fs) (sym at) (own_at fs i x up l)) d t h

pub order_cut : (dur : ℤ) (n : ℕ) (fs : List Stored) (os ps : List OrderEntry) → os ≡ presentation_order fs → ps ≡ map (with_entry_dur n dur) os → ps ≡ presentation_order (frames_with_dur n dur fs)
order_cut dur n fs os ps o q = q ∙ ap (map (with_entry_dur n dur)) o ∙ ordered_shortened n dur fs

pub length_shortened : (n : ℕ) (dur : ℤ) (fs : List Stored) → length (frames_with_dur n dur fs) ≡ length fs
length_shortened n dur fs = length-map fs _

pub indexed_cut : (fs : List Stored) (old : FrameIndex) (ps : List OrderEntry) (ss : List Span) (gap dur : ℤ) (room next : ℕ) (x : Stored) (i : ℕ) → IsIndexed fs old gap room → room ≤ next → i < length fs → x ≡ get_or fs i x → pos 0 ≤ℤ dur → dur ≤ℤ x.frame.dur → IsTick (x.frame.pts +ℤ dur) → ps ≡ map (with_entry_dur x.serial dur) old.order → ss ≡ bridged_ranges gap (map span_of ps) → IsIndexed (frames_with_dur x.serial dur fs) (record old { order = ps; ranges = ss }) gap next
indexed_cut fs old ps ss gap dur room next x i h n l at d less t p s =
    let order = order_cut dur x.serial fs old.order ps h.in_order p in
    record {
      kept = kept-shortened x.serial dur fs h.kept;
      chained = chained-shortened x.serial dur None fs h.chained;
      timed = timed_cut dur x fs i h.kept.ascending l at d t h.timed;
      gap_from_zero = h.gap_from_zero;
      in_order = order;
      syncs = syncs-shortened old.syncs x.serial dur fs h.syncs;
      joined = s ∙ ap (λ zs. bridged_ranges gap (map span_of zs)) order ∙ ranges_by_order gap (frames_with_dur x.serial dur fs) h.gap_from_zero;
      summed = h.summed ∙ sym (used-shortened x.serial dur fs);
      roomy = let a = length_shortened x.serial dur fs in let b = h.roomy in omega arith;
    }

-- a frame that ends earlier ends at a tick too
pub cut_tick : (p dur old : ℤ) → IsTick p → pos 0 ≤ℤ dur → dur ≤ℤ old → IsTick (p +ℤ old) → IsTick (p +ℤ dur)
cut_tick p dur old a d l b = let a0 = a.0 in let a1 = a.1 in let b0 = b.0 in let b1 = b.1 in (omega (arith, ints), omega (arith, ints))

-- the frame at the place of an item
pub found_at : (fs : List Stored) (i : ℕ) (x : Stored) → i < length fs → x ≡ get_or fs i x → slice_get fs i ≡ Some x
found_at fs i x l e = slice_get_read fs (length fs) i x refl l e

-- what is there when a frame gets another duration
pub with_new_at : (fs gs : List Stored) (i k : ℕ) (x : Stored) (dur : ℤ) → IsAscending fs → k ≡ i → i < length fs → x ≡ get_or fs i x → gs ≡ set fs k (with_dur dur (get_or fs k x)) → gs ≡ frames_with_dur x.serial dur fs
with_new_at fs gs i k x dur up z l e g =
    g ∙ ap (λ (n : ℕ). set fs n (with_dur dur (get_or fs n x))) z ∙ ap (λ (y : Stored). set fs i (with_dur dur y)) (sym e) ∙ shortened_at fs i x dur up (found_at fs i x l e)

pub found_none : (fs : List Stored) (i : ℕ) → length fs ≤ i → slice_get fs i ≡ None
found_none [] i l = refl
found_none (f ∷ fs) zero l = absurd (omega arith)
found_none (f ∷ fs) (suc i) l = found_none fs i (omega arith)
