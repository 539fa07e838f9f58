-- The range that some tracks share at a time, where one of them changes.
use Rattle.std.proofs.Common.{◌≡◌, ◌∙◌, ℕ, ℤ, zero, suc, ◌+◌, ◌-◌, ◌<◌, ◌≤◌, ◌<ℤ◌, ◌≤ℤ◌, int_lt, Bool, true, false, cond, ◌&&◌, List, [], ◌∷◌, length, map, fold, take, set, remove, get_or, Option, Some, None, slice_get, refl, sym, ap, subst, arith}
use Rattle.std.specs.List.{AllByRecursion, find, count_by}
use Rattle.std.specs.Prelude.{nat_le}
use Rattle.std.proofs.lemmas.List.Sums.{sum_by-cons, sum_by-set, count_by-le-length, count_by_more_yes, count_by_more_no}
use Rattle.std.specs.Option.{IfSome, option_map}
use Rattle.std.specs.Int.{int_max, int_min}
use Rattle.std.specs.Ordering.{int_eq}
use Rattle.std.proofs.lemmas.Bool.Decides.{Decides-int_eq}
use Rattle.std.proofs.lemmas.Bool.{leb-true}
use Rattle.std.proofs.lemmas.Int.{ints}
use Rattle.std.proofs.lemmas.List.{length-map, length-set, map-set}
use Rattle.std.proofs.lemmas.Option.{slice_get-map, slice_get_within, get_or_from_slice_get}
use Rattle.mse_base.specs.declared.span.Span.{Span}
use Rattle.mse_base.specs.Spans.{reaches, IsNormalized}
use Rattle.mse_base.specs.Meets.{overlap_of_two, overlap_of_all}
use Rattle.mse_base.proofs.AnyOrder.{apart, between}
use Rattle.mse_base.proofs.RangeAtTime.{find-meet_of_all}
use Rattle.track_store.specs.declared.store.Stored.{Stored}
use Rattle.track_store.specs.declared.tracks.Track.{Track}
use Rattle.track_store.specs.Frames.{ranges_of}
use Rattle.track_store.specs.Kept.{gaps_of}
use Rattle.track_store.specs.State.{TrackState, states_of}
use Rattle.track_buffers.specs.Buffered.{ranges_in}
use Rattle.track_buffers.specs.declared.watch.Watch.{Watch}
use Rattle.track_buffers.specs.Watching.{end_or, is_ended_at, least_with, least_after, least_after_end, HasLeast, IsWatchOf}
use Rattle.track_buffers.specs.Frames.{AreFramesSetAt, track_frames}
use Rattle.track_buffers.proofs.SharedRanges.{ranges_same}
use Rattle.track_buffers.proofs.SharedEnds.{IsEndedBy}
use Rattle.track_buffers.proofs.Loops.{found_at, set_itself}
use Rattle.track_buffers.proofs.OneTrack.{get_set}

-- ---- one of some spans is set

remove_set : (os : List (Option Span)) (i : ℕ) (p : Option Span) → remove (set os i p) i ≡ remove os i
remove_set [] i p = refl
remove_set (o ∷ os) zero p = refl
remove_set (o ∷ os) (suc i) p = ap (λ (qs : List (Option Span)). o ∷ qs) (remove_set os i p)

-- ---- they hold the time

abbrev IsTimeInRange : ℤ → Option Span → Type 0
IsTimeInRange t o = IfSome o (λ s. (s.start ≤ℤ t) × (t ≤ℤ s.end))

max_low : (a b t : ℤ) → a ≤ℤ t → b ≤ℤ t → int_max a b ≤ℤ t
max_low a b t h k = grind (arith, ints)

min_high : (a b t : ℤ) → t ≤ℤ a → t ≤ℤ b → t ≤ℤ int_min a b
min_high a b t h k = grind (arith, ints)

between_holds : (t a b : ℤ) (c : Bool) → a ≤ℤ t → t ≤ℤ b → IsTimeInRange t (cond c (Some (record { start = a; end = b })) None)
between_holds t a b true h k = (h, k)
between_holds t a b false h k = tt

two_hold : (t : ℤ) (o p : Option Span) → IsTimeInRange t o → IsTimeInRange t p → IsTimeInRange t (overlap_of_two o p)
two_hold t None p h k = tt
two_hold t (Some x) None h k = tt
two_hold t (Some x) (Some y) h k = between_holds t (int_max x.start y.start) (int_min x.end y.end) (int_lt (int_max x.start y.start) (int_min x.end y.end)) (max_low x.start y.start t h.0 k.0) (min_high x.end y.end t h.1 k.1)

fold_holds : (t : ℤ) (o : Option Span) (os : List (Option Span)) → IsTimeInRange t o → AllByRecursion (IsTimeInRange t) os → IsTimeInRange t (fold overlap_of_two o os)
fold_holds t o [] h k = h
fold_holds t o (p ∷ os) h k = fold_holds t (overlap_of_two o p) os (two_hold t o p h k.0) k.1

all_hold : (t : ℤ) (os : List (Option Span)) → AllByRecursion (IsTimeInRange t) os → IsTimeInRange t (overlap_of_all os)
all_hold t [] h = tt
all_hold t (o ∷ os) h = fold_holds t o os h.0 h.1

others_hold : (t : ℤ) (os : List (Option Span)) (i : ℕ) → AllByRecursion (IsTimeInRange t) os → AllByRecursion (IsTimeInRange t) (remove os i)
others_hold t [] zero h = tt
others_hold t [] (suc i) h = tt
others_hold t (o ∷ os) zero h = h.1
others_hold t (o ∷ os) (suc i) h = (h.0, others_hold t os i h.1)

reached : (t : ℤ) (s : Span) → reaches t s ≡ true → (s.start ≤ℤ t) × (t ≤ℤ s.end)
reached t s e = (grind (arith, ints), grind (arith, ints))

found_by : (t : ℤ) (s : Span) (ss : List Span) (b : Bool) → reaches t s ≡ b → IsTimeInRange t (find (reaches t) ss) → IsTimeInRange t (cond b (Some s) (find (reaches t) ss))
found_by t s ss true e h = reached t s e
found_by t s ss false e h = h

found_holds : (t : ℤ) (ss : List Span) → IsTimeInRange t (find (reaches t) ss)
found_holds t [] = tt
found_holds t (s ∷ ss) = found_by t s ss (reaches t s) refl (found_holds t ss)

all_found : (t : ℤ) (rs : List (List Span)) → AllByRecursion (IsTimeInRange t) (map (find (reaches t)) rs)
all_found t [] = tt
all_found t (r ∷ rs) = (found_holds t r, all_found t rs)

-- ---- one of them changes behind the end of what all share

other_end : (a b c d : ℤ) → int_lt a (int_min b c) ≡ true → int_min b c <ℤ c → int_min b c <ℤ d → (int_lt a (int_min b d) ≡ true) × (int_min b d ≡ int_min b c)
other_end a b c d e h k = (grind (arith, ints), grind (arith, ints))

still_none : (a b c d e t : ℤ) → int_lt (int_max a b) (int_min c d) ≡ false → a ≤ℤ t → b ≤ℤ t → t <ℤ d → t <ℤ e → int_lt (int_max a b) (int_min c e) ≡ false
still_none a b c d e t n h k l m = grind (arith, ints)

changed_by : (t : ℤ) (o x y : Span) (b : Bool) → int_lt (int_max o.start x.start) (int_min o.end x.end) ≡ b → o.start ≤ℤ t → x.start ≤ℤ t → x.start ≡ y.start → end_or t (cond b (Some (record { start = int_max o.start x.start; end = int_min o.end x.end })) None) <ℤ x.end → end_or t (cond b (Some (record { start = int_max o.start x.start; end = int_min o.end x.end })) None) <ℤ y.end → between (int_max o.start x.start) (int_min o.end y.end) ≡ cond b (Some (record { start = int_max o.start x.start; end = int_min o.end x.end })) None
changed_by t o x y true e low own same h k =
    let both = other_end (int_max o.start x.start) o.end x.end y.end e h k in
    ap (λ (c : Bool). cond c (Some (record { start = int_max o.start x.start; end = int_min o.end y.end })) None) both.0
    ∙ ap (λ (b : ℤ). Some (record { start = int_max o.start x.start; end = b })) both.1
changed_by t o x y false e low own same h k =
    ap (λ (c : Bool). cond c (Some (record { start = int_max o.start x.start; end = int_min o.end y.end })) None) (still_none o.start x.start o.end x.end y.end t e low own h k)

changed : (t : ℤ) (o : Option Span) (x y : Span) → IsTimeInRange t o → x.start ≤ℤ t → x.start ≡ y.start → end_or t (overlap_of_two o (Some x)) <ℤ x.end → end_or t (overlap_of_two o (Some x)) <ℤ y.end → overlap_of_two o (Some y) ≡ overlap_of_two o (Some x)
changed t None x y holds own same h k = refl
changed t (Some o) x y holds own same h k =
    ap (λ (a : ℤ). between (int_max o.start a) (int_min o.end y.end)) (sym same)
    ∙ changed_by t o x y (int_lt (int_max o.start x.start) (int_min o.end x.end)) refl holds.0 own same h k

-- ---- one of some lists changes

not_alone : (t : ℤ) (x : Span) (os : List (Option Span)) (i : ℕ) → slice_get os i ≡ Some (Some x) → end_or t (overlap_of_all os) <ℤ x.end → 2 ≤ length os
not_alone t x [] i e h = absurd cc
not_alone t x (o ∷ []) zero e h =
    let same : o ≡ Some x = cc in
    let ends : end_or t o ≡ x.end = ap (end_or t) same in
    absurd (omega (arith, ints, ends, h))
not_alone t x (o ∷ []) (suc i) e h = absurd cc
not_alone t x (o ∷ p ∷ os) i e h = omega arith

shared_stays : (t : ℤ) (os : List (Option Span)) (i : ℕ) (x y : Span) → AllByRecursion (IsTimeInRange t) os → slice_get os i ≡ Some (Some x) → x.start ≤ℤ t → x.start ≡ y.start → end_or t (overlap_of_all os) <ℤ x.end → end_or t (overlap_of_all os) <ℤ y.end → overlap_of_all (set os i (Some y)) ≡ overlap_of_all os
shared_stays t os i x y all here own same h k =
    let more = not_alone t x os i here h in
    let others = overlap_of_all (remove os i) in
    let before : overlap_of_all os ≡ overlap_of_two others (Some x) = apart (Some x) os i more here in
    let longer : 2 ≤ length (set os i (Some y)) = rw (length-set os i (Some y)) more in
    let after : overlap_of_all (set os i (Some y)) ≡ overlap_of_two others (Some y) =
    apart (Some y) (set os i (Some y)) i longer (get_set os i (Some x) (Some y) here)
    ∙ ap (λ (qs : List (Option Span)). overlap_of_two (overlap_of_all qs) (Some y)) (remove_set os i (Some y)) in
    after
    ∙ changed t others x y (all_hold t (remove os i) (others_hold t os i all)) own same (rw before at h) (rw before at k)
    ∙ sym before

span_is : (x y : Span) → x.start ≡ y.start → x.end ≡ y.end → x ≡ y
span_is x y h k = ap (λ (a : ℤ). record { start = a; end = x.end }) h ∙ ap (λ (b : ℤ). record { start = y.start; end = b }) k

-- ---- how many end where all do

abbrev one : Bool → ℕ
one b = cond b 1 0

count_cons : (e : ℤ) (o : Option Span) (os : List (Option Span)) → count_by (is_ended_at e) (o ∷ os) ≡ one (is_ended_at e o) + count_by (is_ended_at e) os
count_cons e o os = sum_by-cons (λ (p : Option Span). one (is_ended_at e p)) o os

count_without : (e : ℤ) (os : List (Option Span)) (i : ℕ) (o : Option Span) → slice_get os i ≡ Some o → count_by (is_ended_at e) (remove os i) + one (is_ended_at e o) ≡ count_by (is_ended_at e) os
count_without e [] i o here = absurd cc
count_without e (p ∷ os) zero o here =
    let same : p ≡ o = cc in
    let both = count_cons e p os in
    let counts : one (is_ended_at e p) ≡ one (is_ended_at e o) = ap (λ (q : Option Span). one (is_ended_at e q)) same in
    omega (arith, both, counts)
count_without e (p ∷ os) (suc i) o here =
    let both = count_cons e p os in
    let less = count_cons e p (remove os i) in
    let rest = count_without e os i o here in
    omega (arith, both, less, rest)

count_set : (e : ℤ) (os : List (Option Span)) (i : ℕ) (o p : Option Span) → slice_get os i ≡ Some o → count_by (is_ended_at e) (set os i p) + one (is_ended_at e o) ≡ count_by (is_ended_at e) os + one (is_ended_at e p)
count_set e os i o p here =
    ap (λ (q : Option Span). count_by (is_ended_at e) (set os i p) + one (is_ended_at e q)) (sym (get_or_from_slice_get os i o None here))
    ∙ sum_by-set (λ (q : Option Span). one (is_ended_at e q)) os i p None (slice_get_within os i o here)

least_of : (a b e : ℤ) → a ≤ℤ e → int_min a b ≤ℤ e
least_of a b e h = grind (arith, ints)

least_of_other : (a b e : ℤ) → b ≤ℤ e → int_min a b ≤ℤ e
least_of_other a b e h = grind (arith, ints)

between_ends : (a b e : ℤ) (c : Bool) → b ≤ℤ e → IsEndedBy e (cond c (Some (record { start = a; end = b })) None)
between_ends a b e true h = h
between_ends a b e false h = tt

first_ends : (e : ℤ) (o p : Option Span) → IsEndedBy e o → IsEndedBy e (overlap_of_two o p)
first_ends e None p h = tt
first_ends e (Some x) None h = tt
first_ends e (Some x) (Some y) h = between_ends (int_max x.start y.start) (int_min x.end y.end) e (int_lt (int_max x.start y.start) (int_min x.end y.end)) (least_of x.end y.end e h)

second_ends : (e : ℤ) (o p : Option Span) → IsEndedBy e p → IsEndedBy e (overlap_of_two o p)
second_ends e None p h = tt
second_ends e (Some x) None h = tt
second_ends e (Some x) (Some y) h = between_ends (int_max x.start y.start) (int_min x.end y.end) e (int_lt (int_max x.start y.start) (int_min x.end y.end)) (least_of_other x.end y.end e h)

ends_there : (e : ℤ) (o : Option Span) → is_ended_at e o ≡ true → IsEndedBy e o
ends_there e None h = absurd cc
ends_there e (Some s) h = grind (arith, ints)

fold_ends_by : (e : ℤ) (o : Option Span) (os : List (Option Span)) → IsEndedBy e o → IsEndedBy e (fold overlap_of_two o os)
fold_ends_by e o [] h = h
fold_ends_by e o (p ∷ os) h = fold_ends_by e (overlap_of_two o p) os (first_ends e o p h)

fold_ends_by_one : (e : ℤ) (o : Option Span) (os : List (Option Span)) → 1 ≤ count_by (is_ended_at e) os → IsEndedBy e (fold overlap_of_two o os)
fold_ends_by_one e o [] some = absurd (omega arith)
fold_ends_by_one e o (p ∷ os) some = head (is_ended_at e p) refl (rw (count_cons e p os) at some) (λ more. fold_ends_by_one e (overlap_of_two o p) os more)
  where
    head : (b : Bool) → is_ended_at e p ≡ b → 1 ≤ one b + count_by (is_ended_at e) os → (1 ≤ count_by (is_ended_at e) os → IsEndedBy e (fold overlap_of_two (overlap_of_two o p) os)) → IsEndedBy e (fold overlap_of_two (overlap_of_two o p) os)
    head true h more rest = fold_ends_by e (overlap_of_two o p) os (second_ends e o p (ends_there e p h))
    head false h more rest = rest (omega arith)

all_end_by : (e : ℤ) (os : List (Option Span)) → 1 ≤ count_by (is_ended_at e) os → IsEndedBy e (overlap_of_all os)
all_end_by e [] some = absurd (omega arith)
all_end_by e (o ∷ os) some = head (is_ended_at e o) refl (rw (count_cons e o os) at some)
  where
    head : (b : Bool) → is_ended_at e o ≡ b → 1 ≤ one b + count_by (is_ended_at e) os → IsEndedBy e (fold overlap_of_two o os)
    head true h more = fold_ends_by e o os (ends_there e o h)
    head false h more = fold_ends_by_one e o os (omega arith)

same_least : (a b c e : ℤ) → int_min a b ≡ e → a ≤ℤ e → e <ℤ c → int_min a c ≡ int_min a b
same_least a b c e h k l = grind (arith, ints)

tied_by : (p x y s : Span) (b : Bool) → int_lt (int_max p.start x.start) (int_min p.end x.end) ≡ b → cond b (Some (record { start = int_max p.start x.start; end = int_min p.end x.end })) None ≡ Some s → p.end ≤ℤ s.end → s.end <ℤ y.end → between (int_max p.start x.start) (int_min p.end y.end) ≡ Some s
tied_by p x y s true e is low high =
    let same : record { start = int_max p.start x.start; end = int_min p.end x.end } ≡ s = cc in
    let ends : int_min p.end x.end ≡ s.end = ap (λ (z : Span). z.end) same in
    ap (λ (b : ℤ). between (int_max p.start x.start) b) (same_least p.end x.end y.end s.end ends low high)
    ∙ ap (λ (c : Bool). cond c (Some (record { start = int_max p.start x.start; end = int_min p.end x.end })) None) e
    ∙ is
tied_by p x y s false e is low high = absurd cc

tied : (o : Option Span) (x y s : Span) → overlap_of_two o (Some x) ≡ Some s → x.start ≡ y.start → IsEndedBy s.end o → s.end <ℤ y.end → overlap_of_two o (Some y) ≡ Some s
tied None x y s is same low high = absurd cc
tied (Some p) x y s is same low high =
    ap (λ (a : ℤ). between (int_max p.start a) (int_min p.end y.end)) (sym same)
    ∙ tied_by p x y s (int_lt (int_max p.start x.start) (int_min p.end x.end)) refl is low high

one_at_most : (b : Bool) → one b ≤ 1
one_at_most true = omega arith
one_at_most false = omega arith

-- another one ends where all do
tie_stays : (os : List (Option Span)) (i : ℕ) (x y s : Span) → slice_get os i ≡ Some (Some x) → x.start ≡ y.start → overlap_of_all os ≡ Some s → s.end <ℤ y.end → 2 ≤ count_by (is_ended_at s.end) os → overlap_of_all (set os i (Some y)) ≡ overlap_of_all os
tie_stays os i x y s here same shared high two =
    let most = count_by-le-length (is_ended_at s.end) os in
    let more : 2 ≤ length os = omega arith in
    let others = overlap_of_all (remove os i) in
    let before : overlap_of_all os ≡ overlap_of_two others (Some x) = apart (Some x) os i more here in
    let longer : 2 ≤ length (set os i (Some y)) = rw (length-set os i (Some y)) more in
    let after : overlap_of_all (set os i (Some y)) ≡ overlap_of_two others (Some y) =
    apart (Some y) (set os i (Some y)) i longer (get_set os i (Some x) (Some y) here)
    ∙ ap (λ (qs : List (Option Span)). overlap_of_two (overlap_of_all qs) (Some y)) (remove_set os i (Some y)) in
    let less = count_without s.end os i (Some x) here in
    let one = one_at_most (is_ended_at s.end (Some x)) in
    let another : 1 ≤ count_by (is_ended_at s.end) (remove os i) = omega (arith, less, one, two) in
    after ∙ tied others x y s (sym before ∙ shared) same (all_end_by s.end (remove os i) another) high ∙ sym shared

-- ---- what is left of the watch

-- all share what they did, and at least so many end there
record HasSameOverlap (os qs : List (Option Span)) (n : ℕ) : Type 0 where
  pub same : overlap_of_all qs ≡ overlap_of_all os
  pub least : HasLeast (overlap_of_all os) n qs

same_left : (os : List (Option Span)) (i n : ℕ) (o : Option Span) → slice_get os i ≡ Some o → HasLeast (overlap_of_all os) n os → HasSameOverlap os (set os i o) n
same_left os i n o here h =
    let is = set_itself os i o here in
    record { same = ap overlap_of_all is; least = subst (HasLeast (overlap_of_all os) n) (sym is) h }

not_there : (a e : ℤ) → e <ℤ a → int_eq a e ≡ false
not_there a e h = grind (arith, ints)

behind_by : (os : List (Option Span)) (i n : ℕ) (x y : Span) (t : ℤ) (shared : Option Span) → slice_get os i ≡ Some (Some x) → end_or t shared <ℤ x.end → end_or t shared <ℤ y.end → HasLeast shared n os → HasLeast shared n (set os i (Some y))
behind_by os i n x y t None here h k least = tt
behind_by os i n x y t (Some s) here h k least =
    let counts = count_set s.end os i (Some x) (Some y) here in
    let old : one (is_ended_at s.end (Some x)) ≡ 0 = ap (λ (b : Bool). one b) (not_there x.end s.end h) in
    let new : one (is_ended_at s.end (Some y)) ≡ 0 = ap (λ (b : Bool). one b) (not_there y.end s.end k) in
    omega (arith, counts, old, new, least)

behind_left : (t : ℤ) (os : List (Option Span)) (i n : ℕ) (x y : Span) → AllByRecursion (IsTimeInRange t) os → slice_get os i ≡ Some (Some x) → x.start ≤ℤ t → x.start ≡ y.start → end_or t (overlap_of_all os) <ℤ x.end → end_or t (overlap_of_all os) <ℤ y.end → HasLeast (overlap_of_all os) n os → HasSameOverlap os (set os i (Some y)) n
behind_left t os i n x y all here own same h k least = record {
  same = shared_stays t os i x y all here own same h k;
  least = behind_by os i n x y t (overlap_of_all os) here h k least;
}

tie_left : (t : ℤ) (os : List (Option Span)) (i n : ℕ) (x y : Span) (shared : Option Span) → overlap_of_all os ≡ shared → slice_get os i ≡ Some (Some x) → x.start ≡ y.start → is_ended_at x.end shared ≡ true → end_or t shared <ℤ y.end → 2 ≤ n → HasLeast shared n os → HasSameOverlap os (set os i (Some y)) (n - 1)
tie_left t os i n x y None is here same e high two least = absurd cc
tie_left t os i n x y (Some s) is here same e high two least =
    let counts = count_set s.end os i (Some x) (Some y) here in
    let old = one_at_most (is_ended_at s.end (Some x)) in
    let fewer : n - 1 ≤ count_by (is_ended_at s.end) (set os i (Some y)) = omega (arith, counts, old, two, least) in
    record {
      same = tie_stays os i x y s here same is high (omega (arith, two, least));
      least = subst (λ (o : Option Span). HasLeast o (n - 1) (set os i (Some y))) (sym is) fewer;
    }

is_two : (n : ℕ) → nat_le 2 n ≡ true → 2 ≤ n
is_two n e = leb-true 2 n e

and_both : (a b : Bool) → (a && b) ≡ true → (a ≡ true) × (b ≡ true)
and_both true b h = (refl, h)
and_both false b h = absurd cc

less_is : (a b : ℤ) → int_lt a b ≡ true → a <ℤ b
less_is a b h = grind (arith, ints)

-- the ends differ
ends_left : (t : ℤ) (os : List (Option Span)) (i m n : ℕ) (x y : Span) (after before tie : Bool) → AllByRecursion (IsTimeInRange t) os → slice_get os i ≡ Some (Some x) → x.start ≤ℤ t → x.start ≡ y.start → int_lt (end_or t (overlap_of_all os)) y.end ≡ after → int_lt (end_or t (overlap_of_all os)) x.end ≡ before → (nat_le 2 m && is_ended_at x.end (overlap_of_all os)) ≡ tie → HasLeast (overlap_of_all os) m os → cond after (cond before (Some m) (cond tie (Some (m - 1)) None)) None ≡ Some n → HasSameOverlap os (set os i (Some y)) n
ends_left t os i m n x y false before tie all here own same a b c least h = absurd cc
ends_left t os i m n x y true true tie all here own same a b c least h =
    let is : m ≡ n = cc in
    subst (λ (k : ℕ). HasSameOverlap os (set os i (Some y)) k) is (behind_left t os i m x y all here own same (less_is _ _ b) (less_is _ _ a) least)
ends_left t os i m n x y true false false all here own same a b c least h = absurd cc
ends_left t os i m n x y true false true all here own same a b c least h =
    let is : m - 1 ≡ n = cc in
    let both = and_both (nat_le 2 m) (is_ended_at x.end (overlap_of_all os)) c in
    subst (λ (k : ℕ). HasSameOverlap os (set os i (Some y)) k) is (tie_left t os i m x y (overlap_of_all os) refl here same both.1 (less_is _ _ a) (is_two m both.0) least)

spans_left : (w : Watch) (os : List (Option Span)) (i n : ℕ) (x y : Span) (starts ends : Bool) → w.span ≡ overlap_of_all os → AllByRecursion (IsTimeInRange w.t) os → slice_get os i ≡ Some (Some x) → x.start ≤ℤ w.t → HasLeast (overlap_of_all os) w.least os → int_eq x.start y.start ≡ starts → int_eq x.end y.end ≡ ends → cond starts (cond ends (Some w.least) (least_after_end w x.end y.end)) None ≡ Some n → HasSameOverlap os (set os i (Some y)) n
spans_left w os i n x y false ends is all here own least a b h = absurd cc
spans_left w os i n x y true true is all here own least a b h =
    let count : w.least ≡ n = cc in
    let same : Some x ≡ Some y = ap (λ (z : Span). Some z) (span_is x y ((Decides-int_eq x.start y.start).0 a) ((Decides-int_eq x.end y.end).0 b)) in
    subst (λ (k : ℕ). HasSameOverlap os (set os i (Some y)) k) count (same_left os i w.least (Some y) (here ∙ ap (λ (o : Option Span). Some o) same) least)
spans_left w os i n x y true false is all here own least a b h =
    ends_left w.t os i w.least n x y (int_lt (end_or w.t (overlap_of_all os)) y.end) (int_lt (end_or w.t (overlap_of_all os)) x.end) (nat_le 2 w.least && is_ended_at x.end (overlap_of_all os)) all here own ((Decides-int_eq x.start y.start).0 a) refl refl refl least (rw is at h)

left_at : (w : Watch) (os : List (Option Span)) (i n : ℕ) (o p : Option Span) → w.span ≡ overlap_of_all os → AllByRecursion (IsTimeInRange w.t) os → slice_get os i ≡ Some o → IsTimeInRange w.t o → HasLeast (overlap_of_all os) w.least os → least_after w o p ≡ Some n → HasSameOverlap os (set os i p) n
left_at w os i n None None is all here own least h = let count : w.least ≡ n = cc in subst (λ (k : ℕ). HasSameOverlap os (set os i None) k) count (same_left os i w.least None here least)
left_at w os i n None (Some y) is all here own least h = absurd cc
left_at w os i n (Some x) None is all here own least h = absurd cc
left_at w os i n (Some x) (Some y) is all here own least h = spans_left w os i n x y (int_eq x.start y.start) (int_eq x.end y.end) is all here own.0 least refl refl h

-- ---- the watch

-- what is at a place of a list that was set there
record IsSetAt (rs qs : List (List Span)) (i : ℕ) : Type 0 where
  r : List Span
  q : List Span
  here : slice_get rs i ≡ Some r
  new : slice_get qs i ≡ Some q
  is : qs ≡ set rs i q

within : {X : Type 0} (xs : List X) (i : ℕ) → i < length xs → slice_get xs i ≡ None → ⊥
within [] i low e = omega arith
within (x ∷ xs) zero low e = cc
within (x ∷ xs) (suc i) low e = within xs i (omega arith) e

there_by : (rs qs : List (List Span)) (i : ℕ) (o p : Option (List Span)) → slice_get rs i ≡ o → slice_get qs i ≡ p → i < length qs → IfSome p (λ q. qs ≡ set rs i q) → IsSetAt rs qs i
there_by rs qs i o None e f low h = absurd (within qs i low f)
there_by rs qs i None (Some q) e f low h =
    let long : length qs ≡ length rs = ap length h ∙ length-set rs i q in
    absurd (within rs i (omega arith) e)
there_by rs qs i (Some r) (Some q) e f low h = record { r = r; q = q; here = e; new = f; is = h }

at_some : {X : Type 0} (P : X → Type 0) (o : Option X) (x : X) → o ≡ Some x → IfSome o P → P x
at_some P o x e h = subst (λ p. IfSome p P) e h

-- one of some lists changes, and what they share at the time stays
pub watch_stays : (w : Watch) (rs qs : List (List Span)) (i n : ℕ) (old new : Option Span) → i < length qs → AllByRecursion IsNormalized rs → AllByRecursion IsNormalized qs → IfSome (slice_get qs i) (λ q. qs ≡ set rs i q) → IsWatchOf w rs → IfSome (slice_get rs i) (λ r. old ≡ find (reaches w.t) r) → IfSome (slice_get qs i) (λ q. new ≡ find (reaches w.t) q) → least_after w old new ≡ Some n → IsWatchOf (record { t = w.t; span = w.span; least = n }) qs
watch_stays w rs qs i n old new low all more changed is was now h =
    let at = there_by rs qs i (slice_get rs i) (slice_get qs i) refl refl low changed in
    let os = map (find (reaches w.t)) rs in
    let before : old ≡ find (reaches w.t) at.r = at_some (λ r. old ≡ find (reaches w.t) r) (slice_get rs i) at.r at.here was in
    let after : new ≡ find (reaches w.t) at.q = at_some (λ q. new ≡ find (reaches w.t) q) (slice_get qs i) at.q at.new now in
    let shared : w.span ≡ overlap_of_all os = is.shared ∙ find-meet_of_all w.t rs all in
    let own : slice_get os i ≡ Some old = slice_get-map (find (reaches w.t)) rs i ∙ ap (option_map (find (reaches w.t))) at.here ∙ ap (λ (o : Option Span). Some o) (sym before) in
    let holds : IsTimeInRange w.t old = rw before (found_holds w.t at.r) in
    let left = left_at w os i n old new shared (all_found w.t rs) own holds (rw shared at is.least) h in
    let news : map (find (reaches w.t)) qs ≡ set os i new = ap (map (find (reaches w.t))) at.is ∙ map-set (find (reaches w.t)) rs i at.q ∙ ap (set os i) (sym after) in
    record {
      shared = shared ∙ sym left.same ∙ sym (ap overlap_of_all news) ∙ sym (find-meet_of_all w.t qs more);
      least = rw (shared, news) left.least;
    }

-- ---- one more track

more_ends : (e : ℤ) (os : List (Option Span)) (i : ℕ) → i < length os → count_by (is_ended_at e) (take i os) ≤ count_by (is_ended_at e) (take (i + 1) os)
more_ends e os i low = pick (is_ended_at e (get_or os i None)) refl
  where
    pick : (b : Bool) → is_ended_at e (get_or os i None) ≡ b → count_by (is_ended_at e) (take i os) ≤ count_by (is_ended_at e) (take (i + 1) os)
    pick true h = let more = count_by_more_yes (is_ended_at e) os i None low h in omega arith
    pick false h = let same = count_by_more_no (is_ended_at e) os i None low h in omega arith

end_same : (a b : ℤ) → int_eq b a ≡ true → int_min a b ≡ a
end_same a b h = grind (arith, ints)

end_less : (a b : ℤ) → int_lt b a ≡ true → int_min a b ≡ b
end_less a b h = grind (arith, ints)

end_more : (a b : ℤ) → int_lt b a ≡ false → int_min a b ≡ a
end_more a b h = grind (arith, ints)

own_end : (a b : ℤ) → a ≡ b → int_eq b a ≡ true
own_end a b h = grind (arith, ints)

-- the ranges before a place end so, and the one there has this end
ends_with : (os : List (Option Span)) (i n m : ℕ) (s x : Span) (same less : Bool) → i < length os → get_or os i None ≡ Some x → n ≤ count_by (is_ended_at s.end) (take i os) → int_eq x.end s.end ≡ same → int_lt x.end s.end ≡ less → m ≤ cond same (n + 1) (cond less 1 n) → m ≤ count_by (is_ended_at (int_min s.end x.end)) (take (i + 1) os)
ends_with os i n m s x true less low here so_far a b h =
    let there : is_ended_at s.end (get_or os i None) ≡ true = ap (is_ended_at s.end) here ∙ a in
    let more = count_by_more_yes (is_ended_at s.end) os i None low there in
    let fits : m ≤ count_by (is_ended_at s.end) (take (i + 1) os) = omega arith in
    subst (λ (e : ℤ). m ≤ count_by (is_ended_at e) (take (i + 1) os)) (sym (end_same s.end x.end a)) fits
ends_with os i n m s x false true low here so_far a b h =
    let there : is_ended_at x.end (get_or os i None) ≡ true = ap (is_ended_at x.end) here ∙ own_end x.end x.end refl in
    let more = count_by_more_yes (is_ended_at x.end) os i None low there in
    let fits : m ≤ count_by (is_ended_at x.end) (take (i + 1) os) = omega arith in
    subst (λ (e : ℤ). m ≤ count_by (is_ended_at e) (take (i + 1) os)) (sym (end_less s.end x.end b)) fits
ends_with os i n m s x false false low here so_far a b h =
    let more = more_ends s.end os i low in
    let fits : m ≤ count_by (is_ended_at s.end) (take (i + 1) os) = omega arith in
    subst (λ (e : ℤ). m ≤ count_by (is_ended_at e) (take (i + 1) os)) (sym (end_more s.end x.end b)) fits

if_shared : (c : Bool) (a b : ℤ) (m : ℕ) (qs : List (Option Span)) → m ≤ count_by (is_ended_at b) qs → HasLeast (cond c (Some (record { start = a; end = b })) None) m qs
if_shared true a b m qs h = h
if_shared false a b m qs h = tt

least_step : (os : List (Option Span)) (i n m : ℕ) (shared own : Option Span) → i < length os → get_or os i None ≡ own → HasLeast shared n (take i os) → m ≤ least_with shared n own → HasLeast (overlap_of_two shared own) m (take (i + 1) os)
least_step os i n m None own low here so_far h = tt
least_step os i n m (Some s) None low here so_far h = tt
least_step os i n m (Some s) (Some x) low here so_far h =
    if_shared (int_lt (int_max s.start x.start) (int_min s.end x.end)) (int_max s.start x.start) (int_min s.end x.end) m (take (i + 1) os)
    (ends_with os i n m s x (int_eq x.end s.end) (int_lt x.end s.end) low here so_far refl refl h)

own_here : (t : ℤ) (rs : List (List Span)) (i : ℕ) (own : Option Span) → i < length rs → IfSome (slice_get rs i) (λ r. own ≡ find (reaches t) r) → get_or (map (find (reaches t)) rs) i None ≡ own
own_here t rs i own low h =
    let at = found_at (λ (r : List Span). own ≡ find (reaches t) r) rs i low h in
    get_or_from_slice_get (map (find (reaches t)) rs) i (find (reaches t) at.x) None (slice_get-map (find (reaches t)) rs i ∙ ap (option_map (find (reaches t))) at.here) ∙ sym at.holds

pub least_more : (t : ℤ) (rs : List (List Span)) (i n m : ℕ) (shared own next : Option Span) → i < length rs → HasLeast shared n (take i (map (find (reaches t)) rs)) → IfSome (slice_get rs i) (λ r. own ≡ find (reaches t) r) → next ≡ overlap_of_two shared own → m ≤ least_with shared n own → HasLeast next m (take (i + 1) (map (find (reaches t)) rs))
least_more t rs i n m shared own next low so_far h is fits =
    subst (λ (o : Option Span). HasLeast o m (take (i + 1) (map (find (reaches t)) rs))) (sym is)
    (least_step (map (find (reaches t)) rs) i n m shared own (rw length-map low) (own_here t rs i own low h) so_far fits)

alone : (o : Option Span) → HasLeast o 1 (o ∷ [])
alone None = tt
alone (Some s) =
    let counts = count_cons s.end (Some s) [] in
    let there : one (is_ended_at s.end (Some s)) ≡ 1 = ap one (own_end s.end s.end refl) in
    omega (arith, counts, there)

pub least_first : (t : ℤ) (rs : List (List Span)) (own : Option Span) → 1 ≤ length rs → IfSome (slice_get rs 0) (λ r. own ≡ find (reaches t) r) → HasLeast own 1 (take 1 (map (find (reaches t)) rs))
least_first t [] own low h = absurd (omega arith)
least_first t (r ∷ rs) own low h = rw h (alone (find (reaches t) r))

pub watch_kept : (o : Option Watch) (rs qs : List (List Span)) → qs ≡ rs → IfSome o (λ w. IsWatchOf w rs) → IfSome o (λ w. IsWatchOf w qs)
watch_kept o rs qs same h = subst (λ xs. IfSome o (λ w. IsWatchOf w xs)) (sym same) h

-- the ranges of tracks, of which one has other frames
changed_by_frames : (g : ℤ) (ts us : List TrackState) (i : ℕ) (o : Option TrackState) → slice_get us i ≡ o → IfSome o (λ t. AreFramesSetAt i ts us t) → IfSome (option_map (λ (t : TrackState). ranges_of g t.frames) o) (λ r. map (λ (t : TrackState). ranges_of g t.frames) us ≡ set (map (λ (t : TrackState). ranges_of g t.frames) ts) i r)
changed_by_frames g ts us i None e h = tt
changed_by_frames g ts us i (Some t) e h =
    sym (map-map us)
    ∙ ap (map (ranges_of g)) h
    ∙ map-set (ranges_of g) (track_frames ts) i t.frames
    ∙ ap (λ (rs : List (List Span)). set rs i (ranges_of g t.frames)) (map-map ts)
  where
    map-map : (vs : List TrackState) → map (ranges_of g) (track_frames vs) ≡ map (λ (t : TrackState). ranges_of g t.frames) vs
    map-map [] = refl
    map-map (v ∷ vs) = ap (λ (rs : List (List Span)). ranges_of g v.frames ∷ rs) (map-map vs)

pub ranges_changed : {S : Type 0} (frames : S → List Stored) (gap : S → ℤ) (g : ℤ) (ts us : List (Track S)) (i : ℕ) → AllByRecursion (λ z. z ≡ g) (gaps_of gap ts) → gaps_of gap us ≡ gaps_of gap ts → IfSome (slice_get (states_of frames us) i) (λ t. AreFramesSetAt i (states_of frames ts) (states_of frames us) t) → IfSome (slice_get (ranges_in frames gap us) i) (λ r. ranges_in frames gap us ≡ set (ranges_in frames gap ts) i r)
ranges_changed frames gap g ts us i gaps same h =
    let gaps2 = subst (λ (zs : List ℤ). AllByRecursion (λ z. z ≡ g) zs) (sym same) gaps in
    rw (ranges_same frames gap g us gaps2, ranges_same frames gap g ts gaps, slice_get-map (λ (t : TrackState). ranges_of g t.frames) (states_of frames us) i)
    (changed_by_frames g (states_of frames ts) (states_of frames us) i (slice_get (states_of frames us) i) refl h)

pub ranges_kept : {S : Type 0} (frames : S → List Stored) (gap : S → ℤ) (g : ℤ) (ts us : List (Track S)) → AllByRecursion (λ z. z ≡ g) (gaps_of gap ts) → gaps_of gap us ≡ gaps_of gap ts → states_of frames us ≡ states_of frames ts → ranges_in frames gap us ≡ ranges_in frames gap ts
ranges_kept frames gap g ts us gaps same states =
    ranges_same frames gap g us (subst (λ (zs : List ℤ). AllByRecursion (λ z. z ≡ g) zs) (sym same) gaps)
    ∙ ap (map (λ (t : TrackState). ranges_of g t.frames)) states
    ∙ sym (ranges_same frames gap g ts gaps)
