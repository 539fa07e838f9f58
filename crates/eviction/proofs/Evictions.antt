-- Tracks after ranges were removed.
use Rattle.std.proofs.Common.{◌≡◌, ◌∙◌, ℕ, ◌<◌, ℤ, ◌<ℤ◌, ◌≤ℤ◌, int_lt, int_le, nat_lt, Bool, true, false, not, cond, ◌&&◌, List, [], ◌∷◌, ◌++◌, length, filter, reverse, slice_get, Option, Some, None, refl, sym, ap, arith}
use Rattle.std.specs.List.{AllByRecursion}
use Rattle.std.proofs.lemmas.Int.{ints}
use Rattle.std.proofs.lemmas.List.{reverse-append, length-append}
use Rattle.mse_base.specs.declared.ticks.Moment.{Moment}
use Rattle.mse_base.specs.declared.ticks.Moment.TheVariants.{At}
use Rattle.track_store.specs.Kept.{AreSoundAndCountable, AreEndedBy, AreStillSound, bytes_in}
use Rattle.track_store.specs.State.{TrackState}
use Rattle.mse_base.specs.Moments.{time_or, is_at_or_before}
use Rattle.range_removal.specs.Removal.{tracks_after_removal}
use Rattle.range_removal.proofs.Removals.{kept_removed, ends_removed, still_removed}
use Rattle.track_store.proofs.StillSound.{still_same, still_both}
use Rattle.eviction.specs.Evicting.{RemovalRange, first_of, lead_of, tracks_after_eviction, sync_times, frames_of, removal_ranges, is_up_to_position, is_after_position, ranges_in_order, has_room, tracks_while_full}
use Rattle.eviction.specs.Steps.{times_at, times_from, times_between, ranges_back, left_before, left_after}
use Rattle.eviction.specs.Times.{IsRising}
use Rattle.eviction.proofs.Times.{first_least, each_of, filter-each, filter_both}
use Rattle.eviction.proofs.Syncs.{rising_times, times_removed, is_gone}
use Rattle.eviction.proofs.Ranges.{from_is, from_first, from_next, next_stay, after_stay, no_more, ends-step, back_is, stays_of, and_parts, lt_of, le_of}

-- ---- ranges one after another

-- what every removal keeps, they keep
while-pick : (P : List TrackState → Type 0) (b : Bool) (ts us : List TrackState) → P ts → P us → P (cond b ts us)
while-pick P true ts us h k = h
while-pick P false ts us h k = k

pub while_keeps : (P : List TrackState → Type 0) (new quota : ℕ) (d : Moment) (rs : List RemovalRange) (ts : List TrackState) → ((start : ℤ) (end : Moment) (us : List TrackState) → P us → P (tracks_after_removal start end d us)) → P ts → P (tracks_while_full new quota d rs ts)
while_keeps P new quota d [] ts keep h = h
while_keeps P new quota d (r ∷ rs) ts keep h = while-pick P (has_room new quota ts) ts (tracks_while_full new quota d rs (tracks_after_removal r.start r.end d ts)) h (while_keeps P new quota d rs (tracks_after_removal r.start r.end d ts) keep (keep r.start r.end ts h))

while_stops : (new quota : ℕ) (d : Moment) (rs : List RemovalRange) (ts : List TrackState) → has_room new quota ts ≡ true → tracks_while_full new quota d rs ts ≡ ts
while_stops new quota d [] ts h = refl
while_stops new quota d (r ∷ rs) ts h = ap (λ b. cond b ts (tracks_while_full new quota d rs (tracks_after_removal r.start r.end d ts))) h

append-pick : (new quota : ℕ) (d : Moment) (rs : List RemovalRange) (ts us vs : List TrackState) (b : Bool) → has_room new quota ts ≡ b → vs ≡ tracks_while_full new quota d rs us → cond b ts vs ≡ tracks_while_full new quota d rs (cond b ts us)
append-pick new quota d rs ts us vs true e h = sym (while_stops new quota d rs ts e)
append-pick new quota d rs ts us vs false e h = h

-- first some ranges, and then others
pub while-append : (new quota : ℕ) (d : Moment) (qs rs : List RemovalRange) (ts : List TrackState) → tracks_while_full new quota d (qs ++ rs) ts ≡ tracks_while_full new quota d rs (tracks_while_full new quota d qs ts)
while-append new quota d [] rs ts = refl
while-append new quota d (q ∷ qs) rs ts = append-pick new quota d rs ts _ _ (has_room new quota ts) refl (while-append new quota d qs rs (tracks_after_removal q.start q.end d ts))

-- ---- one range that ends at or before the position

pub rising_at : (k : ℕ) (ts : List TrackState) → IsRising (times_at k ts)
rising_at k ts = rising_times (frames_of (slice_get ts k))

-- the ranges left from a random access point on: its own, and those after it
left_is : (p : ℤ) (k : ℕ) (d : Moment) (s : ℤ) (ts : List TrackState) → first_of (times_from (Some s) (times_at k ts)) ≡ Some s → times_from (Some s) (times_at k ts) ≡ s ∷ filter (int_lt s) (times_at k ts)
left_is p k d s ts e = from_is s (times_at k ts) (rising_at k ts) (first_least (int_le s) (times_at k ts) s (rising_at k ts) e).1

le_step : (p s t : ℤ) (ts : List ℤ) (b : Bool) → int_le s t ≡ b → p ≤ℤ s → AllByRecursion (λ u. p ≤ℤ u) ts → AllByRecursion (λ u. p ≤ℤ u) (cond b (t ∷ ts) ts)
le_step p s t ts true e low h = (let high = le_of s t e in omega (arith, ints), h)
le_step p s t ts false e low h = h

rising_step : (p : ℤ → Bool) (t : ℤ) (ts : List ℤ) (b : Bool) → AllByRecursion (λ u. t <ℤ u) ts → IsRising (filter p ts) → IsRising (cond b (t ∷ filter p ts) (filter p ts))
rising_step p t ts true h up = (filter-each (λ u. t <ℤ u) p ts h, up)
rising_step p t ts false h up = up

rising_filter : (p : ℤ → Bool) (ts : List ℤ) → IsRising ts → IsRising (filter p ts)
rising_filter p [] up = up
rising_filter p (t ∷ ts) up = rising_step p t ts (p t) up.0 (rising_filter p ts up.1)

le_each : (p s : ℤ) (ts : List ℤ) → p ≤ℤ s → AllByRecursion (λ t. p ≤ℤ t) (filter (int_le s) ts)
le_each p s [] low = tt
le_each p s (t ∷ ts) low = le_step p s t (filter (int_le s) ts) (int_le s t) refl low (le_each p s ts low)

from-each : (p s : ℤ) (ts : List ℤ) → p ≤ℤ s → AllByRecursion (λ t. p ≤ℤ t) (times_from (Some s) ts)
from-each p s ts low = le_each p s ts low

-- nothing is removed, since no range ends at or before the position
pub stop_early : (p : ℤ) (k : ℕ) (d : Moment) (s : ℤ) (ts : List TrackState) → first_of (times_from (Some s) (times_at k ts)) ≡ Some s → p ≤ℤ s → is_at_or_before d p ≡ false → left_before p k d (Some s) ts ≡ []
stop_early p k d s ts e low none = no_more p d (times_from (Some s) (times_at k ts)) (rising_filter (int_le s) (times_at k ts) (rising_at k ts)) (from-each p s (times_at k ts) low) none

-- the times that are left after a range was removed
times_after : (k : ℕ) (d : Moment) (s : ℤ) (ts us : List TrackState) (o : Option ℤ) → first_of (filter (int_lt s) (times_at k ts)) ≡ o → us ≡ tracks_after_removal s (time_or o d) d ts → times_from o (times_at k us) ≡ filter (int_lt s) (times_at k ts)
times_after k d s ts us o e is = ap (λ vs. times_from o (times_at k vs)) is ∙ ap (times_from o) (times_removed k s (time_or o d) d ts) ∙ next_stay s d (times_at k ts) o (rising_at k ts) e

-- the ranges left, of which the first ends at or before the position or does not
left_cases : (p : ℤ) (k : ℕ) (d : Moment) (s : ℤ) (ts : List TrackState) (o : Option ℤ) (b : Bool) → first_of (times_from (Some s) (times_at k ts)) ≡ Some s → first_of (filter (int_lt s) (times_at k ts)) ≡ o → is_at_or_before (time_or o d) p ≡ b → left_before p k d (Some s) ts ≡ cond b (record { start = s; end = time_or o d } ∷ filter (is_up_to_position p) (removal_ranges d (filter (int_lt s) (times_at k ts)))) (filter (is_up_to_position p) (removal_ranges d (filter (int_lt s) (times_at k ts))))
left_cases p k d s ts o b e n up =
    let rest = filter (int_lt s) (times_at k ts) in
    ap (λ us. filter (is_up_to_position p) (removal_ranges d us)) (left_is p k d s ts e)
    ∙ ap (λ q. filter (is_up_to_position p) (record { start = s; end = time_or q d } ∷ removal_ranges d rest)) n
    ∙ ends-step p (record { start = s; end = time_or o d }) (removal_ranges d rest) b up

pub before_removed : (new quota : ℕ) (p : ℤ) (k : ℕ) (d : Moment) (s : ℤ) (ts us : List TrackState) (o : Option ℤ) → first_of (times_from (Some s) (times_at k ts)) ≡ Some s → first_of (filter (int_lt s) (times_at k ts)) ≡ o → is_at_or_before (time_or o d) p ≡ true → has_room new quota ts ≡ false → us ≡ tracks_after_removal s (time_or o d) d ts → tracks_while_full new quota d (left_before p k d o us) us ≡ tracks_while_full new quota d (left_before p k d (Some s) ts) ts
before_removed new quota p k d s ts us o e n up full is =
    let rest = filter (is_up_to_position p) (removal_ranges d (filter (int_lt s) (times_at k ts))) in
    ap (λ vs. tracks_while_full new quota d (filter (is_up_to_position p) (removal_ranges d vs)) us) (times_after k d s ts us o n is)
    ∙ ap (tracks_while_full new quota d rest) is
    ∙ ap (λ b. cond b ts (tracks_while_full new quota d rest (tracks_after_removal s (time_or o d) d ts))) (sym full)
    ∙ ap (λ rs. tracks_while_full new quota d rs ts) (sym (left_cases p k d s ts o true e n up))

pub before_skipped : (new quota : ℕ) (p : ℤ) (k : ℕ) (d : Moment) (s : ℤ) (ts : List TrackState) (o : Option ℤ) → first_of (times_from (Some s) (times_at k ts)) ≡ Some s → first_of (filter (int_lt s) (times_at k ts)) ≡ o → is_at_or_before (time_or o d) p ≡ false → tracks_while_full new quota d (left_before p k d o ts) ts ≡ tracks_while_full new quota d (left_before p k d (Some s) ts) ts
before_skipped new quota p k d s ts o e n up =
    ap (λ vs. tracks_while_full new quota d (filter (is_up_to_position p) (removal_ranges d vs)) ts) (from_next s (times_at k ts) o (rising_at k ts) n)
    ∙ ap (λ rs. tracks_while_full new quota d rs ts) (sym (left_cases p k d s ts o false e n up))

pub before_stopped : (new quota : ℕ) (p : ℤ) (k : ℕ) (d : Moment) (s : ℤ) (ts us : List TrackState) → has_room new quota ts ≡ true → us ≡ ts → us ≡ tracks_while_full new quota d (left_before p k d (Some s) ts) ts
before_stopped new quota p k d s ts us room is = is ∙ sym (while_stops new quota d (left_before p k d (Some s) ts) ts room)

pub before_ended : (new quota : ℕ) (p : ℤ) (k : ℕ) (d : Moment) (s : ℤ) (ts : List TrackState) → first_of (times_from (Some s) (times_at k ts)) ≡ Some s → p ≤ℤ s → is_at_or_before d p ≡ false → ts ≡ tracks_while_full new quota d (left_before p k d (Some s) ts) ts
before_ended new quota p k d s ts e low none = ap (λ rs. tracks_while_full new quota d rs ts) (sym (stop_early p k d s ts e low none))

pub first_removed : (k : ℕ) (d : Moment) (s : ℤ) (ts us : List TrackState) (o : Option ℤ) → first_of (filter (int_lt s) (times_at k ts)) ≡ o → us ≡ tracks_after_removal s (time_or o d) d ts → first_of (times_from o (times_at k us)) ≡ o
first_removed k d s ts us o e is = ap first_of (times_after k d s ts us o e is) ∙ e

pub first_skipped : (k : ℕ) (s : ℤ) (ts : List TrackState) (o : Option ℤ) → first_of (filter (int_lt s) (times_at k ts)) ≡ o → first_of (times_from o (times_at k ts)) ≡ o
first_skipped k s ts o e = ap first_of (from_next s (times_at k ts) o (rising_at k ts) e) ∙ e

one_fewer : (xs ys zs : List ℤ) (s : ℤ) → xs ≡ ys → zs ≡ s ∷ ys → length xs < length zs
one_fewer xs ys zs s e h = let short = ap length e in let long = ap length h in omega arith

pub fewer_removed : (k : ℕ) (p : ℤ) (d : Moment) (s : ℤ) (ts us : List TrackState) (o : Option ℤ) → first_of (times_from (Some s) (times_at k ts)) ≡ Some s → first_of (filter (int_lt s) (times_at k ts)) ≡ o → us ≡ tracks_after_removal s (time_or o d) d ts → length (times_from o (times_at k us)) < length (times_from (Some s) (times_at k ts))
fewer_removed k p d s ts us o e n is = one_fewer _ _ _ s (times_after k d s ts us o n is) (left_is p k d s ts e)

pub fewer_skipped : (k : ℕ) (p : ℤ) (d : Moment) (s : ℤ) (ts : List TrackState) (o : Option ℤ) → first_of (times_from (Some s) (times_at k ts)) ≡ Some s → first_of (filter (int_lt s) (times_at k ts)) ≡ o → length (times_from o (times_at k ts)) < length (times_from (Some s) (times_at k ts))
fewer_skipped k p d s ts o e n = one_fewer _ _ _ s (from_next s (times_at k ts) o (rising_at k ts) n) (left_is p k d s ts e)

pub fewer_none : (k : ℕ) (p : ℤ) (d : Moment) (s : ℤ) (ts : List TrackState) → first_of (times_from (Some s) (times_at k ts)) ≡ Some s → 0 < length (times_from (Some s) (times_at k ts))
fewer_none k p d s ts e = let long = ap length (left_is p k d s ts e) in omega arith

pub later_removed : (k : ℕ) (p : ℤ) (d : Moment) (s : ℤ) (ts us : List TrackState) (o : Option ℤ) → first_of (filter (int_lt s) (times_at k ts)) ≡ o → is_at_or_before (time_or o d) p ≡ true → us ≡ tracks_after_removal s (time_or o d) d ts → filter (int_lt p) (times_at k us) ≡ filter (int_lt p) (times_at k ts)
later_removed k p d s ts us o n up is = ap (λ vs. filter (int_lt p) (times_at k vs)) is ∙ ap (filter (int_lt p)) (times_removed k s (time_or o d) d ts) ∙ after_stay p s d (times_at k ts) o (rising_at k ts) n up

-- ---- all ranges that end at or before the position

pub before_all : (k : ℕ) (ts : List TrackState) (o : Option ℤ) → o ≡ first_of (times_at k ts) → times_from o (times_at k ts) ≡ times_at k ts
before_all k ts o e = ap (λ q. times_from q (times_at k ts)) e ∙ from_first (times_at k ts) (rising_at k ts)

-- ---- one range that starts after the position

between_stay : (p x : ℤ) (to : Moment) (ts : List ℤ) → times_between p (Some x) (filter (λ t. not (is_gone x to t)) ts) ≡ times_between p (Some x) ts
between_stay p x to ts = filter_both (λ t. int_lt p t && int_lt t x) (λ t. not (is_gone x to t)) ts (each_of _ ts (λ t h. stays_of (is_gone x to t) (λ g. (let less = lt_of t x (and_parts (int_lt p t) (int_lt t x) h).1 in let low = le_of x t (and_parts (int_le x t) _ g).0 in omega (arith, ints)))))

between_after : (k : ℕ) (p x : ℤ) (end d : Moment) (ts us : List TrackState) → us ≡ tracks_after_removal x end d ts → times_between p (Some x) (times_at k us) ≡ times_between p (Some x) (times_at k ts)
between_after k p x end d ts us is = ap (λ vs. times_between p (Some x) (times_at k vs)) is ∙ ap (times_between p (Some x)) (times_removed k x end d ts) ∙ between_stay p x _ (times_at k ts)

left_after_is : (p : ℤ) (k : ℕ) (d : Moment) (next : Option ℤ) (x : ℤ) (ts : List TrackState) → times_between p next (times_at k ts) ≡ times_between p (Some x) (times_at k ts) ++ x ∷ [] → left_after p k d next ts ≡ record { start = x; end = time_or next d } ∷ left_after p k d (Some x) ts
left_after_is p k d next x ts e = ap (λ us. ranges_back (time_or next d) (reverse us)) e ∙ ap (ranges_back (time_or next d)) (reverse-append (times_between p (Some x) (times_at k ts)) (x ∷ []))

pub after_removed : (new quota : ℕ) (p : ℤ) (k : ℕ) (d : Moment) (next : Option ℤ) (x : ℤ) (ts us : List TrackState) → times_between p next (times_at k ts) ≡ times_between p (Some x) (times_at k ts) ++ x ∷ [] → has_room new quota ts ≡ false → us ≡ tracks_after_removal x (time_or next d) d ts → tracks_while_full new quota d (left_after p k d (Some x) us) us ≡ tracks_while_full new quota d (left_after p k d next ts) ts
after_removed new quota p k d next x ts us e full is =
    let rest = left_after p k d (Some x) ts in
    ap (λ vs. tracks_while_full new quota d (ranges_back (At x) (reverse vs)) us) (between_after k p x (time_or next d) d ts us is)
    ∙ ap (tracks_while_full new quota d rest) is
    ∙ ap (λ b. cond b ts (tracks_while_full new quota d rest (tracks_after_removal x (time_or next d) d ts))) (sym full)
    ∙ ap (λ rs. tracks_while_full new quota d rs ts) (sym (left_after_is p k d next x ts e))

pub fewer_after : (k : ℕ) (p : ℤ) (d : Moment) (next : Option ℤ) (x : ℤ) (ts us : List TrackState) → times_between p next (times_at k ts) ≡ times_between p (Some x) (times_at k ts) ++ x ∷ [] → us ≡ tracks_after_removal x (time_or next d) d ts → length (times_between p (Some x) (times_at k us)) < length (times_between p next (times_at k ts))
fewer_after k p d next x ts us e is =
    let short = ap length (between_after k p x (time_or next d) d ts us is) in
    let long = ap length e ∙ length-append (times_between p (Some x) (times_at k ts)) (x ∷ []) in
    omega arith

pub after_stopped : (new quota : ℕ) (p : ℤ) (k : ℕ) (d : Moment) (next : Option ℤ) (ts us : List TrackState) → has_room new quota ts ≡ true → us ≡ ts → us ≡ tracks_while_full new quota d (left_after p k d next ts) ts
after_stopped new quota p k d next ts us room is = is ∙ sym (while_stops new quota d (left_after p k d next ts) ts room)

pub after_ended : (new quota : ℕ) (p : ℤ) (k : ℕ) (d : Moment) (next : Option ℤ) (ts : List TrackState) → times_between p next (times_at k ts) ≡ [] → ts ≡ tracks_while_full new quota d (left_after p k d next ts) ts
after_ended new quota p k d next ts e = ap (λ us. tracks_while_full new quota d (ranges_back (time_or next d) (reverse us)) ts) (sym e)

-- ---- the whole

pub evicted_is : (p : ℤ) (new quota k : ℕ) (d : Moment) (ts us vs : List TrackState) → false ≡ nat_lt (bytes_in ts) quota → slice_get ts k ≡ lead_of ts → us ≡ tracks_while_full new quota d (filter (is_up_to_position p) (removal_ranges d (times_at k ts))) ts → filter (int_lt p) (times_at k us) ≡ filter (int_lt p) (times_at k ts) → vs ≡ tracks_while_full new quota d (left_after p k d None us) us → vs ≡ tracks_after_eviction p new quota d ts
evicted_is p new quota k d ts us vs full lead before later after =
    let all = removal_ranges d (times_at k ts) in
    after
    ∙ ap (λ rs. tracks_while_full new quota d rs us) (back_is p d (times_at k ts) (times_at k us) (rising_at k ts) later)
    ∙ ap (tracks_while_full new quota d (reverse (filter (is_after_position p) all))) before
    ∙ sym (while-append new quota d (filter (is_up_to_position p) all) (reverse (filter (is_after_position p) all)) ts)
    ∙ ap (λ o. tracks_while_full new quota d (ranges_in_order p (removal_ranges d (sync_times (frames_of o)))) ts) lead
    ∙ ap (λ b. cond b ts (tracks_while_full new quota d (ranges_in_order p (removal_ranges d (sync_times (frames_of (lead_of ts))))) ts)) full

kept_pick : (P : List TrackState → Type 0) (b : Bool) (ts us : List TrackState) → P ts → P us → P (cond b ts us)
kept_pick P true ts us h k = h
kept_pick P false ts us h k = k

pub evicted_keeps : (P : List TrackState → Type 0) (p : ℤ) (new quota : ℕ) (d : Moment) (ts : List TrackState) → ((start : ℤ) (end : Moment) (us : List TrackState) → P us → P (tracks_after_removal start end d us)) → P ts → P (tracks_after_eviction p new quota d ts)
evicted_keeps P p new quota d ts keep h = kept_pick P (nat_lt (bytes_in ts) quota) ts _ h (while_keeps P new quota d (ranges_in_order p (removal_ranges d (sync_times (frames_of (lead_of ts))))) ts keep h)

pub still_evicted : (p : ℤ) (new quota : ℕ) (d : Moment) (ts : List TrackState) → AreStillSound ts (tracks_after_eviction p new quota d ts)
still_evicted p new quota d ts = evicted_keeps (AreStillSound ts) p new quota d ts (λ start end us k. still_both ts us (tracks_after_removal start end d us) k (still_removed start end d us)) (still_same ts)

pub kept_evicted : (p : ℤ) (new quota : ℕ) (d : Moment) (ts : List TrackState) → AreSoundAndCountable ts → AreSoundAndCountable (tracks_after_eviction p new quota d ts)
kept_evicted p new quota d ts h = evicted_keeps AreSoundAndCountable p new quota d ts (λ start end us k. kept_removed start end d us k) h

pub ends_evicted : (p : ℤ) (new quota : ℕ) (d : Moment) (limit : ℤ) (ts : List TrackState) → AreEndedBy limit ts → AreEndedBy limit (tracks_after_eviction p new quota d ts)
ends_evicted p new quota d limit ts h = evicted_keeps (AreEndedBy limit) p new quota d ts (λ start end us k. ends_removed start end d limit us k) h
