-- The group of a frame, by places in a list whose serials ascend.
use Rattle.std.proofs.Common.{◌≡◌, ◌∙◌, ℕ, ℤ, zero, suc, ◌+◌, ◌<◌, ◌≤◌, ◌⊎◌, inl, inr, nat_le, Bool, true, false, cond, ◌&&◌, List, [], ◌∷◌, ◌++◌, map, filter, length, take, drop, slice_get, option_map, Option, Some, None, refl, sym, ap, subst, arith}
use Rattle.std.specs.List.{AllByRecursion}
use Rattle.std.specs.Option.{IfSome}
use Rattle.std.proofs.Math.Nat.{max-eq_right}
use Rattle.std.proofs.lemmas.Bool.Decides.{nat_tests}
use Rattle.std.proofs.lemmas.List.{take_more, drop-append-le, length-take-le, map-append}
use Rattle.std.proofs.lemmas.Option.{slice_get_within, slice_get_cases}
use Rattle.track_store.specs.declared.store.Stored.{Stored}
use Rattle.track_store.specs.Frames.{IsAscending, is_in_frame, overlapped, frame_at, group_start_of, last_place, last_place_after}
use Rattle.track_store.specs.Sound.{IsChained, IsSuccessor}
use Rattle.track_store.proofs.ClearedLists.{each_at}
use Rattle.track_store.proofs.LastOverlap.{fold-each}
use Rattle.decoder_feed.specs.Feed.{greater_serial, greatest_serial, group_serial, frames_from, group_up_to, feed_of, ArePlaces, IsInOrder, IsLastOf, IsGroupUpTo}

and_false : (b : Bool) → (b && false) ≡ false
and_false true = refl
and_false false = refl

and_true : (b : Bool) → (b && true) ≡ b
and_true true = refl
and_true false = refl

-- one more frame at the front of both lists, or of neither
kept_step : (a b : Bool) (f : Stored) (xs ys : List Stored) → a ≡ b → xs ≡ ys → cond a (f ∷ xs) xs ≡ cond b (f ∷ ys) ys
kept_step a b f xs ys e k = ap (λ c. cond c (f ∷ xs) xs) e ∙ ap (λ zs. cond b (f ∷ zs) zs) k

le_yes : (a b : ℕ) → a ≤ b → nat_le a b ≡ true
le_yes a b h = grind (arith, nat_tests)

pub le_no : (a b : ℕ) → b < a → nat_le a b ≡ false
le_no a b h = grind (arith, nat_tests)

-- ---- by serials and by places

none_later : (q : Stored → Bool) (n : ℕ) (fs : List Stored) → AllByRecursion (λ g. n < g.serial) fs → filter (λ g. q g && nat_le g.serial n) fs ≡ []
none_later q n [] h = refl
none_later q n (f ∷ fs) h =
    let other : (q f && nat_le f.serial n) ≡ false = ap (λ b. q f && b) (le_no f.serial n h.0) ∙ and_false (q f) in
    kept_step (q f && nat_le f.serial n) false f (filter (λ g. q g && nat_le g.serial n) fs) [] other (none_later q n fs h.1)

-- the frames with serials up to that of the frame at a place are those up to the place
up_to_place : (q : Stored → Bool) (fs : List Stored) (i : ℕ) (x : Stored) → IsAscending fs → slice_get fs i ≡ Some x → filter (λ g. q g && nat_le g.serial x.serial) fs ≡ filter q (take (suc i) fs)
up_to_place q [] i x up at = cc
up_to_place q (f ∷ fs) zero x up at =
    let own : f ≡ x = cc in
    let low : nat_le f.serial x.serial ≡ true = le_yes f.serial x.serial (subst (λ y. f.serial ≤ y.serial) own (omega arith)) in
    let later = subst (λ y. AllByRecursion (λ g. y.serial < g.serial) fs) own up.0 in
    kept_step (q f && nat_le f.serial x.serial) (q f) f (filter (λ g. q g && nat_le g.serial x.serial) fs) [] (ap (λ b. q f && b) low ∙ and_true (q f)) (none_later q x.serial fs later)
up_to_place q (f ∷ fs) (suc i) x up at =
    let before : f.serial < x.serial = each_at (λ g. f.serial < g.serial) fs i x up.0 at in
    let low : nat_le f.serial x.serial ≡ true = le_yes f.serial x.serial (omega arith) in
    kept_step (q f && nat_le f.serial x.serial) (q f) f (filter (λ g. q g && nat_le g.serial x.serial) fs) (filter q (take (suc i) fs)) (ap (λ b. q f && b) low ∙ and_true (q f)) (up_to_place q fs i x up.1 at)

all_later : (n : ℕ) (fs : List Stored) → AllByRecursion (λ g. n < g.serial) fs → filter (λ g. nat_le n g.serial) fs ≡ fs
all_later n [] h = refl
all_later n (f ∷ fs) h =
    let before = h.0 in
    kept_step (nat_le n f.serial) true f (filter (λ g. nat_le n g.serial) fs) fs (le_yes n f.serial (omega arith)) (all_later n fs h.1)

-- the frames with serials from that of the frame at a place on are those from the place on
from_place : (fs : List Stored) (i : ℕ) (x : Stored) → IsAscending fs → slice_get fs i ≡ Some x → filter (λ g. nat_le x.serial g.serial) fs ≡ drop i fs
from_place [] i x up at = cc
from_place (f ∷ fs) zero x up at =
    let own : f ≡ x = cc in
    let low : nat_le x.serial f.serial ≡ true = le_yes x.serial f.serial (subst (λ y. y.serial ≤ f.serial) own (omega arith)) in
    let later = subst (λ y. AllByRecursion (λ g. y.serial < g.serial) fs) own up.0 in
    kept_step (nat_le x.serial f.serial) true f (filter (λ g. nat_le x.serial g.serial) fs) fs low (all_later x.serial fs later)
from_place (f ∷ fs) (suc i) x up at =
    let before : f.serial < x.serial = each_at (λ g. f.serial < g.serial) fs i x up.0 at in
    let rest = filter (λ g. nat_le x.serial g.serial) fs in
    ap (λ b. cond b (f ∷ rest) rest) (le_no x.serial f.serial before) ∙ from_place fs i x up.1 at

-- ---- the last random access point

-- the frame at a place that was found, and that it passes
abbrev IsFoundAt : (Stored → Bool) → List Stored → ℕ → Type 0
IsFoundAt p fs i = (x : Stored) × (slice_get fs i ≡ Some x) × (p x ≡ true)

found_step : (p : Stored → Bool) (f : Stored) (fs : List Stored) (b : Bool) (r : Option ℕ) → p f ≡ b → IfSome r (IsFoundAt p fs) → IfSome (last_place_after b r) (IsFoundAt p (f ∷ fs))
found_step p f fs b (Some i) e h = let next : i + 1 ≡ suc i = omega arith in (h.0, ap (slice_get (f ∷ fs)) next ∙ h.1, h.2)
found_step p f fs true None e h = (f, refl, e)
found_step p f fs false None e h = tt

found : (p : Stored → Bool) (fs : List Stored) → IfSome (last_place p fs) (IsFoundAt p fs)
found p [] = tt
found p (f ∷ fs) = found_step p f fs (p f) (last_place p fs) refl (found p fs)

greatest_step : (p : Stored → Bool) (f : Stored) (fs gs : List Stored) (b : Bool) (r : Option ℕ) → AllByRecursion (λ g. f.serial < g.serial) fs → IfSome r (IsFoundAt p fs) → greatest_serial gs ≡ option_map (λ g. g.serial) (frame_at fs r) → greatest_serial (cond b (f ∷ gs) gs) ≡ option_map (λ g. g.serial) (frame_at (f ∷ fs) (last_place_after b r))
greatest_step p f fs gs true None up h e = ap (greater_serial f.serial) e
greatest_step p f fs gs false None up h e = e
greatest_step p f fs gs true (Some i) up h e =
    let next : i + 1 ≡ suc i = omega arith in
    let x = h.0 in
    let before : f.serial < x.serial = each_at (λ g. f.serial < g.serial) fs i x up h.1 in
    let this = e ∙ ap (option_map (λ g. g.serial)) h.1 in
    ap (greater_serial f.serial) this ∙ ap Some (max-eq_right (omega arith)) ∙ sym (ap (λ n. option_map (λ g. g.serial) (slice_get (f ∷ fs) n)) next ∙ ap (option_map (λ g. g.serial)) h.1)
greatest_step p f fs gs false (Some i) up h e =
    let next : i + 1 ≡ suc i = omega arith in
    e ∙ sym (ap (λ n. option_map (λ g. g.serial) (slice_get (f ∷ fs) n)) next)

-- the greatest serial of those that pass is that of the last of them
greatest_is_last : (p : Stored → Bool) (fs : List Stored) → IsAscending fs → greatest_serial (filter p fs) ≡ option_map (λ g. g.serial) (frame_at fs (last_place p fs))
greatest_is_last p [] up = refl
greatest_is_last p (f ∷ fs) up = greatest_step p f fs (filter p fs) (p f) (last_place p fs) up.0 (found p fs) (greatest_is_last p fs up.1)

-- ---- a first part of a list

pub all_take : (P : Stored → Type 0) (n : ℕ) (fs : List Stored) → AllByRecursion P fs → AllByRecursion P (take n fs)
all_take P zero fs h = tt
all_take P (suc n) [] h = tt
all_take P (suc n) (f ∷ fs) h = (h.0, all_take P n fs h.1)

ascending_take : (n : ℕ) (fs : List Stored) → IsAscending fs → IsAscending (take n fs)
ascending_take zero fs h = tt
ascending_take (suc n) [] h = tt
ascending_take (suc n) (f ∷ fs) h = (all_take (λ g. f.serial < g.serial) n fs h.0, ascending_take n fs h.1)

chained_take : (before : Option ℕ) (n : ℕ) (fs : List Stored) → IsChained before fs → IsChained before (take n fs)
chained_take before zero fs h = tt
chained_take before (suc n) [] h = tt
chained_take before (suc n) (f ∷ fs) h = (h.0, chained_take (Some f.serial) n fs h.1)

get_take : (n : ℕ) (fs : List Stored) (i : ℕ) (x : Stored) → slice_get (take n fs) i ≡ Some x → slice_get fs i ≡ Some x
get_take zero fs i x e = cc
get_take (suc n) [] i x e = cc
get_take (suc n) (f ∷ fs) zero x e = e
get_take (suc n) (f ∷ fs) (suc i) x e = get_take n fs i x e

-- ---- the group of the frame at a place

-- the random access point of the group of a frame, and the frames from it up to that frame
pub record IsGroupAt (fs : List Stored) (wanted first : Stored) (i s : ℕ) : Type 0 where
  pub last : slice_get fs i ≡ Some wanted
  pub at : slice_get fs s ≡ Some first
  pub begins : slice_get (take (i + 1) fs) s ≡ Some first
  pub serial : group_serial wanted.serial fs ≡ Some first.serial
  pub frames : group_up_to (Some wanted) fs ≡ Some (drop s (take (i + 1) fs))
  pub order : s ≤ i

group_is : (fs : List Stored) (i : ℕ) (wanted : Stored) → IsAscending fs → slice_get fs i ≡ Some wanted → group_serial wanted.serial fs ≡ option_map (λ g. g.serial) (frame_at (take (suc i) fs) (last_place (λ f. f.frame.sync) (take (suc i) fs)))
group_is fs i wanted up at =
    ap greatest_serial (up_to_place (λ f. f.frame.sync) fs i wanted up at) ∙ greatest_is_last (λ f. f.frame.sync) (take (suc i) fs) (ascending_take (suc i) fs up)

within_take : (n : ℕ) (fs : List Stored) (i : ℕ) (x : Stored) → slice_get (take n fs) i ≡ Some x → i < n
within_take zero fs i x e = cc
within_take (suc n) [] i x e = cc
within_take (suc n) (f ∷ fs) zero x e = omega arith
within_take (suc n) (f ∷ fs) (suc i) x e = let low = within_take n fs i x e in omega arith

pub group_at : (fs : List Stored) (i s : ℕ) (wanted : Stored) → IsAscending fs → slice_get fs i ≡ Some wanted → group_start_of i fs ≡ Some s → (first : Stored) × IsGroupAt fs wanted first i s
group_at fs i s wanted up at start =
    let next : i + 1 ≡ suc i = omega arith in
    let here : last_place (λ f. f.frame.sync) (take (suc i) fs) ≡ Some s = ap (λ n. last_place (λ f. f.frame.sync) (take n fs)) (sym next) ∙ start in
    let hit = subst (λ r. IfSome r (IsFoundAt (λ f. f.frame.sync) (take (suc i) fs))) here (found (λ f. f.frame.sync) (take (suc i) fs)) in
    let first = hit.0 in
    let low = within_take (suc i) fs s first hit.1 in
    let serial : group_serial wanted.serial fs ≡ Some first.serial = group_is fs i wanted up at ∙ ap (λ r. option_map (λ g. g.serial) (frame_at (take (suc i) fs) r)) here ∙ ap (option_map (λ g. g.serial)) hit.1 in (
      first,
      record {
        last = at;
        at = get_take (suc i) fs s first hit.1;
        begins = ap (λ n. slice_get (take n fs) s) next ∙ hit.1;
        serial = serial;
        frames = ap (λ r. frames_from r wanted.serial fs) serial ∙ ap Some (up_to_place (λ g. nat_le first.serial g.serial) fs i wanted up at ∙ from_place (take (suc i) fs) s first (ascending_take (suc i) fs up) hit.1 ∙ ap (λ n. drop s (take n fs)) (sym next));
        order = omega arith;
      },
    )

-- with no random access point before it a frame has no group
pub no_group_at : (fs : List Stored) (i : ℕ) (wanted : Stored) → IsAscending fs → slice_get fs i ≡ Some wanted → group_start_of i fs ≡ None → group_serial wanted.serial fs ≡ None
no_group_at fs i wanted up at start =
    let next : i + 1 ≡ suc i = omega arith in
    let here : last_place (λ f. f.frame.sync) (take (suc i) fs) ≡ None = ap (λ n. last_place (λ f. f.frame.sync) (take n fs)) (sym next) ∙ start in
    group_is fs i wanted up at ∙ ap (λ r. option_map (λ g. g.serial) (frame_at (take (suc i) fs) r)) here

pub no_group_up_to : (fs : List Stored) (wanted : Stored) → group_serial wanted.serial fs ≡ None → group_up_to (Some wanted) fs ≡ None
no_group_up_to fs wanted e = ap (λ r. frames_from r wanted.serial fs) e

-- ---- in order

none_after : (b : Bool) (r : Option ℕ) → last_place_after b r ≡ None → (b ≡ false) × (r ≡ None)
none_after b (Some i) e = cc
none_after true None e = cc
none_after false None e = (refl, refl)

rest_linked : (before : ℕ) (f : Stored) → (f.frame.sync ≡ true) ⊎ IsSuccessor (Some before) f.serial → f.frame.sync ≡ false → before + 1 ≡ f.serial
rest_linked before f (inl sync) other = cc
rest_linked before f (inr next) other = next

rest_in_order : (before : ℕ) (fs : List Stored) → IsChained (Some before) fs → last_place (λ f. f.frame.sync) fs ≡ None → IsInOrder (Some before) fs
rest_in_order before [] h e = tt
rest_in_order before (f ∷ fs) h e =
    let none = none_after f.frame.sync (last_place (λ g. g.frame.sync) fs) e in
    (none.0, rest_linked before f h.0 none.0, rest_in_order f.serial fs h.1 none.1)

order_step : (f : Stored) (fs : List Stored) (b : Bool) (r : Option ℕ) (s : ℕ) → f.frame.sync ≡ b → last_place (λ g. g.frame.sync) fs ≡ r → last_place_after b r ≡ Some s → IsChained (Some f.serial) fs → ((j : ℕ) → r ≡ Some j → IsInOrder None (drop j fs)) → IsInOrder None (drop s (f ∷ fs))
order_step f fs b (Some j) s e k h chain ih =
    let same : suc j ≡ s = let next : j + 1 ≡ suc j = omega arith in let own : j + 1 ≡ s = cc in sym next ∙ own in
    subst (λ n. IsInOrder None (drop n (f ∷ fs))) same (ih j refl)
order_step f fs true None s e k h chain ih =
    let same : zero ≡ s = cc in
    subst (λ n. IsInOrder None (drop n (f ∷ fs))) same (e, rest_in_order f.serial fs chain k)
order_step f fs false None s e k h chain ih = cc

in_order : (before : Option ℕ) (fs : List Stored) (s : ℕ) → IsChained before fs → last_place (λ f. f.frame.sync) fs ≡ Some s → IsInOrder None (drop s fs)
in_order before [] s h e = cc
in_order before (f ∷ fs) s h e = order_step f fs f.frame.sync (last_place (λ g. g.frame.sync) fs) s refl refl e h.1 (λ j k. in_order (Some f.serial) fs j h.1 k)

ends_take : (fs : List Stored) (i : ℕ) (x : Stored) → slice_get fs i ≡ Some x → IsLastOf x (take (suc i) fs)
ends_take [] i x e = cc
ends_take (f ∷ fs) zero x e = cc
ends_take (f ∷ []) (suc i) x e = cc
ends_take (f ∷ g ∷ fs) (suc i) x e = ends_take (g ∷ fs) i x e

ends_drop : (fs : List Stored) (s : ℕ) (x : Stored) → s < length fs → IsLastOf x fs → IsLastOf x (drop s fs)
ends_drop [] s x low h = absurd (omega arith)
ends_drop (f ∷ fs) zero x low h = h
ends_drop (f ∷ []) (suc s) x low h = absurd (omega arith)
ends_drop (f ∷ g ∷ fs) (suc s) x low h = ends_drop (g ∷ fs) s x (omega arith) h

pub group_in_order : (fs : List Stored) (wanted first : Stored) (i s : ℕ) → IsChained None fs → IsGroupAt fs wanted first i s → group_start_of i fs ≡ Some s → IsInOrder None (drop s (take (i + 1) fs))
group_in_order fs wanted first i s chain g start = in_order None (take (i + 1) fs) s (chained_take None (i + 1) fs chain) start

length_take : (fs : List Stored) (i s : ℕ) → i < length fs → s ≤ i → s < length (take (suc i) fs)
length_take [] i s low le = absurd (omega arith)
length_take (f ∷ fs) i zero low le = omega arith
length_take (f ∷ fs) zero (suc s) low le = absurd (omega arith)
length_take (f ∷ fs) (suc i) (suc s) low le = let rest = length_take fs i s (omega arith) (omega arith) in omega arith

pub group_ends : (fs : List Stored) (wanted first : Stored) (i s : ℕ) → IsGroupAt fs wanted first i s → IsLastOf wanted (drop s (take (i + 1) fs))
group_ends fs wanted first i s g =
    let next : suc i ≡ i + 1 = omega arith in
    let low = slice_get_within fs i wanted g.last in
    subst (λ n. IsLastOf wanted (drop s (take n fs))) next (ends_drop (take (suc i) fs) s wanted (length_take fs i s low g.order) (ends_take fs i wanted g.last))

-- a track that is sound begins with a random access point
start_step : (b : Bool) (r : Option ℕ) → b ≡ true → (s : ℕ) × (last_place_after b r ≡ Some s)
start_step b (Some i) e = (i + 1, refl)
start_step true None e = (0, refl)
start_step false None e = cc

first_sync : (f : Stored) → (f.frame.sync ≡ true) ⊎ IsSuccessor None f.serial → f.frame.sync ≡ true
first_sync f (inl sync) = sync
first_sync f (inr none) = absurd none

pub has_group : (fs : List Stored) (i : ℕ) (x : Stored) → IsChained None fs → slice_get fs i ≡ Some x → (s : ℕ) × (group_start_of i fs ≡ Some s)
has_group [] i x h e = cc
has_group (f ∷ fs) i x h e =
    let next : suc i ≡ i + 1 = omega arith in
    subst (λ n. (s : ℕ) × (last_place (λ g. g.frame.sync) (take n (f ∷ fs)) ≡ Some s)) next (start_step f.frame.sync (last_place (λ g. g.frame.sync) (take i fs)) (first_sync f h.0))

-- ---- the frame that is shown is held

abbrev pub HasPlaceIn : List Stored → Stored → Type 0
HasPlaceIn fs x = (i : ℕ) × (slice_get fs i ≡ Some x)

each_further : (f : Stored) (fs gs : List Stored) → AllByRecursion (HasPlaceIn fs) gs → AllByRecursion (HasPlaceIn (f ∷ fs)) gs
each_further f fs [] h = tt
each_further f fs (g ∷ gs) h = ((suc h.0.0, h.0.1), each_further f fs gs h.1)

pub each_placed : (fs : List Stored) → AllByRecursion (HasPlaceIn fs) fs
each_placed [] = tt
each_placed (f ∷ fs) = ((zero, refl), each_further f fs fs (each_placed fs))

pick_all : (P : Stored → Type 0) (b : Bool) (f : Stored) (fs : List Stored) → P f → AllByRecursion P fs → AllByRecursion P (cond b (f ∷ fs) fs)
pick_all P true f fs p h = (p, h)
pick_all P false f fs p h = h

pub filter_all : (P : Stored → Type 0) (p : Stored → Bool) (fs : List Stored) → AllByRecursion P fs → AllByRecursion P (filter p fs)
filter_all P p [] h = tt
filter_all P p (f ∷ fs) h = pick_all P (p f) f (filter p fs) h.0 (filter_all P p fs h.1)

pub shown_placed : (t : ℤ) (fs : List Stored) → IfSome (overlapped t fs) (HasPlaceIn fs)
shown_placed t fs = fold-each (HasPlaceIn fs) None (filter (is_in_frame t) fs) tt (filter_all (HasPlaceIn fs) (is_in_frame t) fs (each_placed fs))

group_of : (fs : List Stored) (o : Option Stored) → IsAscending fs → IsChained None fs → IfSome o (HasPlaceIn fs) → IsGroupUpTo o (group_up_to o fs)
group_of fs None up chain h = refl
group_of fs (Some wanted) up chain h =
    let start = has_group fs h.0 wanted chain h.1 in
    let g = group_at fs h.0 start.0 wanted up h.1 start.1 in
    subst (λ feed. IsGroupUpTo (Some wanted) feed) (sym g.1.frames) (group_in_order fs wanted g.0 h.0 start.0 chain g.1 start.1, group_ends fs wanted g.0 h.0 start.0 g.1)

pub feed_group : (t : ℤ) (fs : List Stored) → IsAscending fs → IsChained None fs → IsGroupUpTo (overlapped t fs) (feed_of t fs)
feed_group t fs up chain = group_of fs (overlapped t fs) up chain (shown_placed t fs)

-- ---- in code: the places of a group, and its first serial

-- one more place
pub places_push : (fs : List Stored) (first i : ℕ) (old new : List ℕ) → i < length fs → first ≤ i → map (slice_get fs) old ≡ map Some (drop first (take i fs)) → new ≡ old ++ i ∷ [] → map (slice_get fs) new ≡ map Some (drop first (take (i + 1) fs))
places_push fs first i old new low le same e =
    elim (slice_get_cases fs i).1 [
      | inl hit ↦
          (let x = hit.0 in
          let gs = drop first (take i fs) in
          let long : first ≤ length (take i fs) = let all = length-take-le i fs (omega arith) in omega arith in
          let more : take (i + 1) fs ≡ take i fs ++ x ∷ [] = take_more fs i x low ∙ ap (λ y. take i fs ++ y ∷ []) hit.3 in
          ap (map (slice_get fs)) e
          ∙ map-append (slice_get fs) old (i ∷ [])
          ∙ ap (λ os. os ++ slice_get fs i ∷ []) same
          ∙ ap (λ o. map Some gs ++ o ∷ []) hit.2
          ∙ sym (map-append (λ (y : Stored). Some y) gs (x ∷ []))
          ∙ ap (map (λ (y : Stored). Some y)) (sym (ap (drop first) more ∙ drop-append-le first (take i fs) (x ∷ []) long)))
      | inr past ↦ absurd (omega arith)
    ]

held_at : (fs : List Stored) (i : ℕ) → i < length fs → (x : Stored) × (slice_get fs i ≡ Some x)
held_at fs i low = elim (slice_get_cases fs i).1 [ inl hit ↦ (hit.0, hit.2) | inr past ↦ absurd (omega arith) ]

pub starts_before : (fs : List Stored) (i s : ℕ) → IsAscending fs → i < length fs → group_start_of i fs ≡ Some s → s ≤ i
starts_before fs i s up low start =
    let x = held_at fs i low in
    let g = group_at fs i s x.0 up x.1 start in
    g.1.order

-- the frames from the start of its group up to the frame that is shown are the feed
pub feed_places : (t : ℤ) (fs : List Stored) (i s : ℕ) (places : List ℕ) → IsAscending fs → slice_get fs i ≡ overlapped t fs → i < length fs → group_start_of i fs ≡ Some s → map (slice_get fs) places ≡ map Some (drop s (take (i + 1) fs)) → ArePlaces places fs (feed_of t fs)
feed_places t fs i s places up shown low start e =
    let x = held_at fs i low in
    let g = group_at fs i s x.0 up x.1 start in
    let feed : feed_of t fs ≡ Some (drop s (take (i + 1) fs)) = ap (λ o. group_up_to o fs) (sym shown ∙ x.1) ∙ g.1.frames in
    subst (λ o. ArePlaces places fs o) (sym feed) e

pub no_feed : (t : ℤ) (fs : List Stored) (i : ℕ) → IsAscending fs → slice_get fs i ≡ overlapped t fs → i < length fs → group_start_of i fs ≡ None → feed_of t fs ≡ None
no_feed t fs i up shown low start =
    let x = held_at fs i low in
    ap (λ o. group_up_to o fs) (sym shown ∙ x.1) ∙ no_group_up_to fs x.0 (no_group_at fs i x.0 up x.1 start)

-- the serial of the random access point of the group of a frame, where it has one
abbrev IsGroupSerial : List Stored → Option ℕ → Option Stored → Type 0
IsGroupSerial fs r o = IfSome o (λ f. r ≡ group_serial f.serial fs)

none_case : (fs : List Stored) (i : ℕ) (r : Option ℕ) (o : Option Stored) → slice_get fs i ≡ o → IsAscending fs → group_start_of i fs ≡ None → r ≡ None → IsGroupSerial fs r o
none_case fs i r None at up start e = tt
none_case fs i r (Some f) at up start e = e ∙ sym (no_group_at fs i f up at start)

pub serial_none : (fs : List Stored) (i : ℕ) (r : Option ℕ) → IsAscending fs → group_start_of i fs ≡ None → r ≡ None → IfSome (slice_get fs i) (λ f. r ≡ group_serial f.serial fs)
serial_none fs i r up start e = none_case fs i r (slice_get fs i) refl up start e

some_case : (fs : List Stored) (i s : ℕ) (x : Stored) (o : Option Stored) → slice_get fs i ≡ o → IsAscending fs → group_start_of i fs ≡ Some s → slice_get fs s ≡ Some x → IsGroupSerial fs (Some x.serial) o
some_case fs i s x None at up start first = tt
some_case fs i s x (Some f) at up start first =
    let g = group_at fs i s f up at start in
    let same : Some x ≡ Some g.0 = sym first ∙ g.1.at in
    ap (option_map (λ y. y.serial)) same ∙ sym g.1.serial

pub serial_some : (fs : List Stored) (i s : ℕ) (x : Stored) → IsAscending fs → group_start_of i fs ≡ Some s → slice_get fs s ≡ Some x → IfSome (slice_get fs i) (λ f. Some x.serial ≡ group_serial f.serial fs)
serial_some fs i s x up start first = some_case fs i s x (slice_get fs i) refl up start first

past_case : (fs : List Stored) (i s : ℕ) (r : Option ℕ) (o : Option Stored) → slice_get fs i ≡ o → IsAscending fs → group_start_of i fs ≡ Some s → slice_get fs s ≡ None → IsGroupSerial fs r o
past_case fs i s r None at up start none = tt
past_case fs i s r (Some f) at up start none = (let g = group_at fs i s f up at start in let clash = sym none ∙ g.1.at in cc)

-- the random access point of a group is held
pub serial_past : (fs : List Stored) (i s : ℕ) (r : Option ℕ) → IsAscending fs → group_start_of i fs ≡ Some s → slice_get fs s ≡ None → IfSome (slice_get fs i) (λ f. r ≡ group_serial f.serial fs)
serial_past fs i s r up start none = past_case fs i s r (slice_get fs i) refl up start none
