-- The frames that begin in the range which holds the position.
use Rattle.std.proofs.Common.{◌≡◌, ◌∙◌, ◌⊎◌, ℕ, ℤ, ◌<ℤ◌, ◌≤ℤ◌, int_lt, int_le, nat_lt, Bool, true, false, not, cond, ◌&&◌, ◌||◌, List, [], ◌∷◌, ◌++◌, filter, fold, reverse, slice_get, Option, Some, None, refl, sym, ap, subst, inl, inr, arith}
use Rattle.std.specs.List.{AllByRecursion}
use Rattle.std.specs.Option.{IfSome, option_map}
use Rattle.std.specs.Int.{int_min}
use Rattle.std.proofs.lemmas.Int.{ints}
use Rattle.std.proofs.lemmas.List.{reverse-append}
use Rattle.std.proofs.lemmas.Option.{slice_get-map}
use Rattle.mse_base.specs.declared.ticks.Moment.{Moment}
use Rattle.mse_base.specs.declared.ticks.Moment.TheVariants.{Nan, At, Infinite}
use Rattle.mse_base.specs.Moments.{is_before, is_at_or_before, lesser_of, least, time_or}
use Rattle.track_store.specs.declared.store.Stored.{Stored}
use Rattle.track_store.specs.Frames.{frames_without, frames_left, is_between, starts, sync_times_from}
use Rattle.track_store.specs.Kept.{bytes_in}
use Rattle.track_store.specs.State.{TrackState}
use Rattle.track_store.proofs.ClearedLists.{is_frame_gone, cleared-goes, cleared-stays, cleared-cleared, cleared-nothing}
use Rattle.range_removal.specs.Removal.{remove_end, track_after_removal, tracks_after_removal}
use Rattle.eviction.specs.Evicting.{RemovalRange, has_time, frames_of, lead_of, sync_times, removal_ranges, is_up_to_position, is_after_position, ranges_in_order, has_room, tracks_while_full, tracks_after_eviction}
use Rattle.eviction.specs.Times.{IsAmong}
use Rattle.eviction.specs.Spared.{HasRange, IsLeftOf, IsSparedIn}
use Rattle.eviction.specs.Times.{IsRising}
use Rattle.eviction.proofs.Times.{all_has}
use Rattle.eviction.proofs.Syncs.{rising_times, times-each_sync}

-- ---- lists of ranges

all_append : (P : RemovalRange → Type 0) (xs ys : List RemovalRange) → AllByRecursion P xs → AllByRecursion P ys → AllByRecursion P (xs ++ ys)
all_append P [] ys h k = k
all_append P (x ∷ xs) ys h k = (h.0, all_append P xs ys h.1 k)

all_reverse : (P : RemovalRange → Type 0) (xs : List RemovalRange) → AllByRecursion P xs → AllByRecursion P (reverse xs)
all_reverse P [] h = h
all_reverse P (x ∷ xs) h = subst (λ ys. AllByRecursion P ys) (sym (reverse-append (x ∷ []) xs)) (all_append P (reverse xs) (x ∷ []) (all_reverse P xs h.1) (h.0, tt))

passes-step : (P : RemovalRange → Type 0) (p : RemovalRange → Bool) (x : RemovalRange) (xs : List RemovalRange) (b : Bool) → p x ≡ b → (p x ≡ true → P x) → AllByRecursion P (filter p xs) → AllByRecursion P (cond b (x ∷ filter p xs) (filter p xs))
passes-step P p x xs true e f h = (f e, h)
passes-step P p x xs false e f h = h

passes : (P Q : RemovalRange → Type 0) (p : RemovalRange → Bool) (xs : List RemovalRange) → ((y : RemovalRange) → Q y → p y ≡ true → P y) → AllByRecursion Q xs → AllByRecursion P (filter p xs)
passes P Q p [] f h = tt
passes P Q p (x ∷ xs) f h = passes-step P p x xs (p x) refl (f x h.0) (passes P Q p xs f h.1)

-- what holds of each range that ends by the position or starts after it
pub in_order-each : (P Q : RemovalRange → Type 0) (p : ℤ) (rs : List RemovalRange) → ((q : RemovalRange) → Q q → is_up_to_position p q ≡ true → P q) → ((q : RemovalRange) → Q q → is_after_position p q ≡ true → P q) → AllByRecursion Q rs → AllByRecursion P (ranges_in_order p rs)
in_order-each P Q p rs f g h =
    all_append P (filter (is_up_to_position p) rs) (reverse (filter (is_after_position p) rs)) (passes P Q (is_up_to_position p) rs f h) (all_reverse P (filter (is_after_position p) rs) (passes P Q (is_after_position p) rs g h))

-- ---- no range that is removed holds the position

up_to_not : (p : ℤ) (m : Moment) → is_at_or_before m p ≡ true → is_before p m ≡ false
up_to_not p (At m) e = grind (arith, ints)
up_to_not p Infinite e = cc
up_to_not p Nan e = cc

and_no : (a b : Bool) → b ≡ false → (a && b) ≡ false
and_no true b e = e
and_no false b e = refl

pub ended_not : (p : ℤ) (q : RemovalRange) → is_up_to_position p q ≡ true → has_time q p ≡ false
ended_not p q e = and_no (int_le q.start p) (is_before p q.end) (up_to_not p q.end e)

no_and : (a b : Bool) → a ≡ false → (a && b) ≡ false
no_and true b e = cc
no_and false b e = refl

pub later_not : (p : ℤ) (q : RemovalRange) → is_after_position p q ≡ true → has_time q p ≡ false
later_not p q e = no_and (int_le q.start p) (is_before p q.end) (grind (arith, ints))

any_range : (rs : List RemovalRange) → AllByRecursion (λ q. Unit {0}) rs
any_range [] = tt
any_range (r ∷ rs) = (tt, any_range rs)

pub none_holds : (p : ℤ) (rs : List RemovalRange) → AllByRecursion (λ q. has_time q p ≡ false) (ranges_in_order p rs)
none_holds p rs = in_order-each (λ q. has_time q p ≡ false) (λ q. Unit {0}) p rs (λ q _ e. ended_not p q e) (λ q _ e. later_not p q e) (any_range rs)

-- ---- the other ranges lie apart from one

-- the range starts after each time of r, or ends by the start of r
abbrev pub IsApart : RemovalRange → RemovalRange → Type 0
IsApart r q = ((t : ℤ) → has_time r t ≡ true → t <ℤ q.start) ⊎ ((x : ℤ) × (q.end ≡ At x) × (x ≤ℤ r.start))

start_from : (u : ℤ) (d : Moment) (ts : List ℤ) → AllByRecursion (λ t. u <ℤ t) ts → AllByRecursion (λ q. u ≤ℤ q.start) (removal_ranges d ts)
start_from u d [] h = tt
start_from u d (t ∷ ts) h = ((let less = h.0 in omega (arith, ints)), start_from u d ts h.1)

starts_from : (u : ℤ) (d : Moment) (ts : List ℤ) → IsRising (u ∷ ts) → AllByRecursion (λ q. u ≤ℤ q.start) (removal_ranges d (u ∷ ts))
starts_from u d ts up = (omega (arith, ints), start_from u d ts up.0)

one_of : (P : RemovalRange → Type 0) (r : RemovalRange) (qs : List RemovalRange) → HasRange r qs → AllByRecursion P qs → P r
one_of P r [] has h = absurd has
one_of P r (q ∷ qs) has h = elim has [ inl e ↦ subst P e h.0 | inr rest ↦ one_of P r qs rest h.1 ]

and_second : (a b : Bool) → (a && b) ≡ true → b ≡ true
and_second true b e = e
and_second false b e = cc

and_first : (a b : Bool) → (a && b) ≡ true → a ≡ true
and_first true b e = refl
and_first false b e = cc

before_next : (r : RemovalRange) (s u t : ℤ) → record { start = s; end = At u } ≡ r → has_time r t ≡ true → t <ℤ u
before_next r s u t e h = let own : (int_le s t && int_lt t u) ≡ true = ap (λ q. has_time q t) e ∙ h in let less = and_second (int_le s t) (int_lt t u) own in grind (arith, ints)

apart_all : (r : RemovalRange) (s u : ℤ) (qs : List RemovalRange) → record { start = s; end = At u } ≡ r → AllByRecursion (λ q. u ≤ℤ q.start) qs → AllByRecursion (λ q. (q ≡ r) ⊎ IsApart r q) qs
apart_all r s u [] e h = tt
apart_all r s u (q ∷ qs) e h = (inr (inl (λ t held. (let less = before_next r s u t e held in let low = h.0 in omega (arith, ints)))), apart_all r s u qs e h.1)

pub all_apart : (r : RemovalRange) (d : Moment) (ts : List ℤ) → IsRising ts → HasRange r (removal_ranges d ts) → AllByRecursion (λ q. (q ≡ r) ⊎ IsApart r q) (removal_ranges d ts)
all_apart r d [] up has = tt
all_apart r d (t ∷ []) up has = elim has [ inl e ↦ (inl e, tt) | inr none ↦ absurd none ]
all_apart r d (t ∷ u ∷ ts) up has =
    elim has [
      | inl e ↦ (inl e, apart_all r t u (removal_ranges d (u ∷ ts)) e (starts_from u d ts up.1))
      | inr later ↦ (inr (inr (u, refl, one_of (λ q. u ≤ℤ q.start) r (removal_ranges d (u ∷ ts)) later (starts_from u d ts up.1))), all_apart r d (u ∷ ts) up.1 later)
    ]

apart_of : (r q : RemovalRange) (p : ℤ) → has_time r p ≡ true → has_time q p ≡ false → (q ≡ r) ⊎ IsApart r q → IsApart r q
apart_of r q p held none (inl e) = (let no_more : false ≡ true = sym none ∙ ap (λ s. has_time s p) e ∙ held in cc)
apart_of r q p held none (inr h) = h

pub apart_in_order : (r : RemovalRange) (p : ℤ) (rs : List RemovalRange) → has_time r p ≡ true → AllByRecursion (λ q. (q ≡ r) ⊎ IsApart r q) rs → AllByRecursion (IsApart r) (ranges_in_order p rs)
apart_in_order r p rs held h = in_order-each (IsApart r) (λ q. (q ≡ r) ⊎ IsApart r q) p rs (λ q k e. apart_of r q p held (ended_not p q e) k) (λ q k e. apart_of r q p held (later_not p q e) k) h

-- ---- the least of some times

abbrev IsLow : Option ℤ → ℤ → Type 0
IsLow None z = ⊥
IsLow (Some m) z = m ≤ℤ z

least_parts : (s z : ℤ) → (int_min s z ≤ℤ s) × (int_min s z ≤ℤ z)
least_parts s z = (grind (arith, ints), grind (arith, ints))

low_own : (b : Option ℤ) (z : ℤ) → IsLow (lesser_of b z) z
low_own None z = omega (arith, ints)
low_own (Some s) z = (least_parts s z).1

low_more : (b : Option ℤ) (y z : ℤ) → IsLow b z → IsLow (lesser_of b y) z
low_more None y z h = absurd h
low_more (Some s) y z h = let less = (least_parts s y).0 in omega (arith, ints)

fold_low : (b : Option ℤ) (zs : List ℤ) → AllByRecursion (λ z. IsLow (fold lesser_of b zs) z) zs × ((z : ℤ) → IsLow b z → IsLow (fold lesser_of b zs) z)
fold_low b [] = (tt, λ z h. h)
fold_low b (y ∷ zs) =
    let rest = fold_low (lesser_of b y) zs in
    ((rest.1 y (low_own b y), rest.0), λ z h. rest.1 z (low_more b y z h))

-- ---- one removal

of_filtered-step : (Q : ℤ → Type 0) (p : Stored → Bool) (f : Stored) (fs : List Stored) (b : Bool) → p f ≡ b → AllByRecursion Q (starts (cond b (f ∷ filter p fs) (filter p fs))) → (p f ≡ true → Q f.frame.pts) × AllByRecursion Q (starts (filter p fs))
of_filtered-step Q p f fs true e h = ((λ _. h.0), h.1)
of_filtered-step Q p f fs false e h = ((λ k. (let none : false ≡ true = sym e ∙ k in cc)), h)

of_filtered : (Q : ℤ → Type 0) (p : Stored → Bool) (fs : List Stored) → AllByRecursion Q (starts (filter p fs)) → AllByRecursion (λ f. p f ≡ true → Q f.frame.pts) fs
of_filtered Q p [] h = tt
of_filtered Q p (f ∷ fs) h = let both = of_filtered-step Q p f fs (p f) refl h in (both.0, of_filtered Q p fs both.1)

all_to : (P Q : Stored → Type 0) (fs : List Stored) → ((f : Stored) → P f → Q f) → AllByRecursion P fs → AllByRecursion Q fs
all_to P Q [] f h = tt
all_to P Q (g ∷ fs) f h = (f g h.0, all_to P Q fs f h.1)

abbrev is_named_by : RemovalRange → Moment → List Stored → Stored → Bool
is_named_by q d fs = is_between q.start (remove_end q.end d fs)

-- a frame of the range that is named begins before the random access point
abbrev IsAhead : RemovalRange → (Stored → Bool) → Stored → Type 0
IsAhead r named g = g.frame.sync ≡ true → has_time r g.frame.pts ≡ true → (f : Stored) → named f ≡ true → has_time r f.frame.pts ≡ true → f.frame.pts <ℤ g.frame.pts

any_frame : (P : Stored → Type 0) (fs : List Stored) → ((f : Stored) → P f) → AllByRecursion P fs
any_frame P [] h = tt
any_frame P (f ∷ fs) h = (h f, any_frame P fs h)

after_start : (r q : RemovalRange) (m : Moment) (f : Stored) → ((t : ℤ) → has_time r t ≡ true → t <ℤ q.start) → is_between q.start m f ≡ true → has_time r f.frame.pts ≡ true → ⊥
after_start r q m f h named held = let less = h f.frame.pts held in let low = and_first (int_le q.start f.frame.pts) (is_before f.frame.pts m) named in grind (arith, ints)

sync_from : (g : Stored) (x : ℤ) → g.frame.sync ≡ true → x ≤ℤ g.frame.pts → (g.frame.sync && not (is_before g.frame.pts (At x))) ≡ true
sync_from g x s low = let late : int_lt g.frame.pts x ≡ false = grind (arith, ints) in ap (λ b. b && not (int_lt g.frame.pts x)) s ∙ ap (λ b. not b) late

before_low : (o : Option ℤ) (d : Moment) (t z : ℤ) → IsLow o z → is_before t (time_or o d) ≡ true → t <ℤ z
before_low None d t z low h = absurd low
before_low (Some m) d t z low h = let less : t <ℤ m = grind (arith, ints) in omega (arith, ints)

start_of : (r : RemovalRange) (t : ℤ) → has_time r t ≡ true → r.start ≤ℤ t
start_of r t h = let low = and_first (int_le r.start t) (is_before t r.end) h in grind (arith, ints)

ahead_low : (r : RemovalRange) (d : Moment) (start x : ℤ) (fs : List Stored) (g : Stored) → x ≤ℤ r.start → ((g.frame.sync && not (is_before g.frame.pts (At x))) ≡ true → IsLow (least (sync_times_from (At x) fs)) g.frame.pts) → IsAhead r (is_between start (time_or (least (sync_times_from (At x) fs)) d)) g
ahead_low r d start x fs g le low s held f named inside =
    let begins = start_of r g.frame.pts held in
    before_low (least (sync_times_from (At x) fs)) d f.frame.pts g.frame.pts (low (sync_from g x s (omega (arith, ints)))) (and_second (int_le start f.frame.pts) _ named)

pub ahead_each : (r q : RemovalRange) (d : Moment) (fs : List Stored) → IsApart r q → AllByRecursion (IsAhead r (is_named_by q d fs)) fs
ahead_each r q d fs (inl h) = any_frame (IsAhead r (is_named_by q d fs)) fs (λ g s held f named inside. absurd (after_start r q (remove_end q.end d fs) f h named inside))
ahead_each r q d fs (inr h) =
    subst (λ (m : Moment). AllByRecursion (IsAhead r (is_between q.start (remove_end m d fs))) fs) (sym h.1)
    (all_to _ (IsAhead r (is_between q.start (remove_end (At h.0) d fs))) fs (λ g low. ahead_low r d q.start h.0 fs g h.2 low)
    (of_filtered (λ z. IsLow (least (sync_times_from (At h.0) fs)) z) (λ f. f.frame.sync && not (is_before f.frame.pts (At h.0))) fs (fold_low None (sync_times_from (At h.0) fs)).0))

-- ---- from what is left to all frames

named_or : (n gone s : Bool) → (n || (gone && not s)) ≡ true → s ≡ true → n ≡ true
named_or true gone s e k = refl
named_or false true true e k = cc
named_or false true false e k = cc
named_or false false s e k = cc

lift-step : (T : Stored → Type 0) (r : RemovalRange) (named : Stored → Bool) (gone : Bool) (f : Stored) (fs : List Stored) (b : Bool) → is_frame_gone named gone f ≡ b → AllByRecursion (λ g. g.frame.sync ≡ true → has_time r g.frame.pts ≡ true → T g) (frames_left gone named (f ∷ fs)) → IsAhead r named f → (f.frame.sync ≡ true → has_time r f.frame.pts ≡ true → T f) × AllByRecursion (λ g. g.frame.sync ≡ true → has_time r g.frame.pts ≡ true → T g) (frames_left b named fs)
lift-step T r named gone f fs true e h k = (
  (λ s held. (let less = k s held f (named_or (named f) gone f.frame.sync e s) held in absurd (omega (arith, ints)))),
  subst (λ gs. AllByRecursion (λ g. g.frame.sync ≡ true → has_time r g.frame.pts ≡ true → T g) gs) (cleared-goes named gone f fs e) h,
)
lift-step T r named gone f fs false e h k = subst (λ gs. AllByRecursion (λ g. g.frame.sync ≡ true → has_time r g.frame.pts ≡ true → T g) gs) (cleared-stays named gone f fs e) h

lift : (T : Stored → Type 0) (r : RemovalRange) (named : Stored → Bool) (gone : Bool) (fs : List Stored) → AllByRecursion (λ g. g.frame.sync ≡ true → has_time r g.frame.pts ≡ true → T g) (frames_left gone named fs) → AllByRecursion (IsAhead r named) fs → AllByRecursion (λ g. g.frame.sync ≡ true → has_time r g.frame.pts ≡ true → T g) fs
lift T r named gone [] h k = tt
lift T r named gone (f ∷ fs) h k = let both = lift-step T r named gone f fs (is_frame_gone named gone f) refl h k.0 in (both.0, lift T r named (is_frame_gone named gone f) fs both.1 k.1)

either : (r : RemovalRange) (n m : Stored → Bool) (fs : List Stored) (f : Stored) (b : Bool) → n f ≡ b → (b || m f) ≡ true → has_time r f.frame.pts ≡ true → AllByRecursion (IsAhead r n) fs → (m f ≡ true → AllByRecursion (λ g. g.frame.sync ≡ true → has_time r g.frame.pts ≡ true → f.frame.pts <ℤ g.frame.pts) (frames_without n fs)) → AllByRecursion (λ g. g.frame.sync ≡ true → has_time r g.frame.pts ≡ true → f.frame.pts <ℤ g.frame.pts) fs
either r n m fs f true e h held own rest = all_to (IsAhead r n) _ fs (λ g k s inside. k s inside f e held) own
either r n m fs f false e h held own rest = lift (λ g. f.frame.pts <ℤ g.frame.pts) r n false fs (rest h) own

joined : (r : RemovalRange) (n : Stored → Bool) (fs ms gs : List Stored) → ms ≡ frames_without n fs → AllByRecursion (IsAhead r n) fs → IsLeftOf r ms gs → IsLeftOf r fs gs
joined r n fs ms gs e own h =
    record {
      named = λ f. n f || h.named f;
      without = h.without ∙ ap (frames_without h.named) e ∙ cleared-cleared false false n h.named fs;
      ahead = λ f k held. either r n h.named fs f (n f) refl k held own (λ m. subst (λ (zs : List Stored). AllByRecursion (λ g. g.frame.sync ≡ true → has_time r g.frame.pts ≡ true → f.frame.pts <ℤ g.frame.pts) zs) e (h.ahead f m held));
    }

-- ---- one removal after another

left_same : (r : RemovalRange) (fs : List Stored) → IsLeftOf r fs fs
left_same r fs = record { named = λ _. false; without = sym (cleared-nothing fs); ahead = λ f e. cc }

same_here : (r : RemovalRange) (t : TrackState) (o : Option TrackState) → o ≡ Some t → IfSome o (λ u. IsLeftOf r t.frames u.frames)
same_here r t None e = cc
same_here r t (Some u) e = let same : u ≡ t = cc in subst (λ (v : TrackState). IsLeftOf r t.frames v.frames) (sym same) (left_same r t.frames)

if_to : (o : Option TrackState) (P Q : TrackState → Type 0) → ((u : TrackState) → P u → Q u) → IfSome o P → IfSome o Q
if_to None P Q f h = h
if_to (Some u) P Q f h = f u h

while_pick : (P : Option TrackState → Type 0) (k : ℕ) (b : Bool) (ts us : List TrackState) → P (slice_get ts k) → P (slice_get us k) → P (slice_get (cond b ts us) k)
while_pick P k true ts us h g = h
while_pick P k false ts us h g = g

pub left_while : (r : RemovalRange) (new quota : ℕ) (d : Moment) (rs : List RemovalRange) (ts : List TrackState) (k : ℕ) (t : TrackState) → AllByRecursion (IsApart r) rs → slice_get ts k ≡ Some t → IfSome (slice_get (tracks_while_full new quota d rs ts) k) (λ u. IsLeftOf r t.frames u.frames)
left_while r new quota d [] ts k t apart at = same_here r t (slice_get ts k) at
left_while r new quota d (q ∷ rs) ts k t apart at =
    let named = is_named_by q d t.frames in
    let next = track_after_removal q.start q.end d t in
    let there = slice_get-map (track_after_removal q.start q.end d) ts k ∙ ap (option_map (track_after_removal q.start q.end d)) at in
    while_pick (λ o. IfSome o (λ u. IsLeftOf r t.frames u.frames)) k (has_room new quota ts) ts (tracks_while_full new quota d rs (tracks_after_removal q.start q.end d ts))
    (same_here r t (slice_get ts k) at)
    (if_to (slice_get (tracks_while_full new quota d rs (tracks_after_removal q.start q.end d ts)) k) (λ u. IsLeftOf r next.frames u.frames) (λ u. IsLeftOf r t.frames u.frames)
    (λ u h. joined r named t.frames next.frames u.frames refl (ahead_each r q d t.frames apart.0) h)
    (left_while r new quota d rs (tracks_after_removal q.start q.end d ts) k next apart.1 there))

pub left_of_each : (p : ℤ) (new quota : ℕ) (d : Moment) (ts : List TrackState) (r : RemovalRange) (k : ℕ) (t : TrackState) → HasRange r (removal_ranges d (sync_times (frames_of (lead_of ts)))) → has_time r p ≡ true → slice_get ts k ≡ Some t → IfSome (slice_get (tracks_after_eviction p new quota d ts) k) (λ u. IsLeftOf r t.frames u.frames)
left_of_each p new quota d ts r k t has held at =
    let times = sync_times (frames_of (lead_of ts)) in
    let apart = apart_in_order r p (removal_ranges d times) held (all_apart r d times (rising_times (frames_of (lead_of ts))) has) in
    while_pick (λ o. IfSome o (λ u. IsLeftOf r t.frames u.frames)) k (nat_lt (bytes_in ts) quota) ts (tracks_while_full new quota d (ranges_in_order p (removal_ranges d times)) ts)
    (same_here r t (slice_get ts k) at)
    (left_while r new quota d (ranges_in_order p (removal_ranges d times)) ts k t apart at)

-- ---- the lead track has a random access point where the range starts

start_has : (r : RemovalRange) (d : Moment) (ts : List ℤ) → HasRange r (removal_ranges d ts) → IsAmong r.start ts
start_has r d [] has = absurd has
start_has r d (t ∷ ts) has = elim has [ inl e ↦ inl (ap (λ (q : RemovalRange). q.start) e) | inr rest ↦ inr (start_has r d ts rest) ]

moment_kept : (s p : ℤ) (m : Moment) → s ≤ℤ p → is_before p m ≡ true → is_before s m ≡ true
moment_kept s p (At m) le h = grind (arith, ints)
moment_kept s p Infinite le h = refl
moment_kept s p Nan le h = cc

both_true : (a b : Bool) → a ≡ true → b ≡ true → (a && b) ≡ true
both_true true b e h = h
both_true false b e h = cc

held_by : (s p : ℤ) (m : Moment) → s ≤ℤ p → is_before p m ≡ true → (int_le s s && is_before s m) ≡ true
held_by s p m le h = both_true (int_le s s) (is_before s m) (grind (arith, ints)) (moment_kept s p m le h)

start_held : (r : RemovalRange) (p : ℤ) → has_time r p ≡ true → has_time r r.start ≡ true
start_held r p h = held_by r.start p r.end (start_of r p h) (and_second (int_le r.start p) (is_before p r.end) h)

spared_of : (r : RemovalRange) (p : ℤ) (d : Moment) (fs : List Stored) (f : Stored) → HasRange r (removal_ranges d (sync_times fs)) → has_time r p ≡ true → (b : Bool) → has_time r f.frame.pts ≡ b → (has_time r f.frame.pts ≡ true → AllByRecursion (λ g. g.frame.sync ≡ true → has_time r g.frame.pts ≡ true → f.frame.pts <ℤ g.frame.pts) fs) → b ≡ false
spared_of r p d fs f has held true e ahead =
    let each = times-each_sync (λ t. has_time r t ≡ true → f.frame.pts <ℤ t) fs (ahead e) in
    let less = all_has (λ t. has_time r t ≡ true → f.frame.pts <ℤ t) r.start (sync_times fs) each (start_has r d (sync_times fs) has) (start_held r p held) in
    let low = start_of r f.frame.pts e in
    absurd (omega (arith, ints))
spared_of r p d fs f has held false e ahead = refl

spared_from : (r : RemovalRange) (p : ℤ) (d : Moment) (fs gs : List Stored) → HasRange r (removal_ranges d (sync_times fs)) → has_time r p ≡ true → IsLeftOf r fs gs → IsSparedIn r fs gs
spared_from r p d fs gs has held h = record {
  named = h.named;
  without = h.without;
  spared = λ f k. spared_of r p d fs f has held (has_time r f.frame.pts) refl (h.ahead f k);
}

pub left_of_lead : (p : ℤ) (new quota : ℕ) (d : Moment) (ts : List TrackState) (r : RemovalRange) (k : ℕ) (t : TrackState) → HasRange r (removal_ranges d (sync_times (frames_of (lead_of ts)))) → has_time r p ≡ true → lead_of ts ≡ Some t → slice_get ts k ≡ Some t → IfSome (slice_get (tracks_after_eviction p new quota d ts) k) (λ u. IsSparedIn r t.frames u.frames)
left_of_lead p new quota d ts r k t has held lead at =
    if_to (slice_get (tracks_after_eviction p new quota d ts) k) (λ u. IsLeftOf r t.frames u.frames) (λ u. IsSparedIn r t.frames u.frames)
    (λ u h. spared_from r p d t.frames u.frames (subst (λ o. HasRange r (removal_ranges d (sync_times (frames_of o)))) lead has) held h)
    (left_of_each p new quota d ts r k t has held at)
