-- The times of the random access points of a list of frames, and of what a removal leaves of it.
use Rattle.std.proofs.Common.{◌≡◌, ◌∙◌, ℕ, ℤ, ◌≤ℤ◌, int_lt, int_le, Bool, true, false, not, cond, ◌&&◌, ◌||◌, List, [], ◌∷◌, filter, fold, slice_get, Option, Some, None, refl, sym, ap, arith, inl, inr, ◌↔◌}
use Rattle.std.specs.List.{AllByRecursion}
use Rattle.std.specs.Option.{option_map}
use Rattle.std.proofs.lemmas.Int.{ints}
use Rattle.std.specs.Int.{int_max}
use Rattle.std.proofs.lemmas.Option.{slice_get-map}
use Rattle.mse_base.specs.declared.ticks.Moment.{Moment}
use Rattle.track_store.specs.declared.store.Stored.{Stored}
use Rattle.mse_base.specs.Moments.{is_before, lesser_of, least, greater_of, greatest}
use Rattle.track_store.specs.Frames.{starts, frames_without, frames_left, sync_times_from}
use Rattle.track_store.specs.State.{TrackState}
use Rattle.mse_base.specs.Moments.{time_or}
use Rattle.track_store.specs.Frames.{is_between}
use Rattle.range_removal.specs.Removal.{remove_end, track_after_removal, tracks_after_removal}
use Rattle.eviction.specs.Evicting.{with_time, first_of, sync_times, frames_of}
use Rattle.eviction.specs.Steps.{times_at}
use Rattle.eviction.specs.Times.{IsRising, IsAmong, HasSyncAt}
use Rattle.eviction.proofs.Times.{rising_fold, fold_has, all_has, filter-step, filter-fold, fold-each}

-- the random access points, in order of appending
abbrev pub syncs : List Stored → List ℤ
syncs fs = starts (filter (λ f. f.frame.sync) fs)

pub rising_times : (fs : List Stored) → IsRising (sync_times fs)
rising_times fs = rising_fold [] (syncs fs) tt

pub filter_times : (p : ℤ → Bool) (fs : List Stored) → filter p (sync_times fs) ≡ fold with_time [] (filter p (syncs fs))
filter_times p fs = filter-fold p [] (syncs fs) tt

-- ---- the least and the greatest

lesser-pick : (t u : ℤ) (us : List ℤ) (a b : Bool) → Some (cond a t u) ≡ first_of (cond a (t ∷ u ∷ us) (cond b (u ∷ with_time us t) (u ∷ us)))
lesser-pick t u us true b = refl
lesser-pick t u us false true = refl
lesser-pick t u us false false = refl

lesser_first : (us : List ℤ) (t : ℤ) → lesser_of (first_of us) t ≡ first_of (with_time us t)
lesser_first [] t = refl
lesser_first (u ∷ us) t = lesser-pick t u us (int_lt t u) (int_lt u t)

least_fold : (us ts : List ℤ) → fold lesser_of (first_of us) ts ≡ first_of (fold with_time us ts)
least_fold us [] = refl
least_fold us (t ∷ ts) = ap (λ o. fold lesser_of o ts) (lesser_first us t) ∙ least_fold (with_time us t) ts

starts-pick : (b : Bool) (f : Stored) (fs : List Stored) → starts (cond b (f ∷ fs) fs) ≡ cond b (f.frame.pts ∷ starts fs) (starts fs)
starts-pick true f fs = refl
starts-pick false f fs = refl

from-step : (m : Moment) (f : Stored) (fs : List Stored) (s : Bool) → starts (filter (λ g. g.frame.sync && not (is_before g.frame.pts m)) fs) ≡ filter (λ t. not (is_before t m)) (syncs fs) → starts (cond (s && not (is_before f.frame.pts m)) (f ∷ filter (λ g. g.frame.sync && not (is_before g.frame.pts m)) fs) (filter (λ g. g.frame.sync && not (is_before g.frame.pts m)) fs)) ≡ filter (λ t. not (is_before t m)) (starts (cond s (f ∷ filter (λ g. g.frame.sync) fs) (filter (λ g. g.frame.sync) fs)))
from-step m f fs true h = starts-pick (not (is_before f.frame.pts m)) f _ ∙ ap (λ ts. cond (not (is_before f.frame.pts m)) (f.frame.pts ∷ ts) ts) h
from-step m f fs false h = h

syncs_from : (m : Moment) (fs : List Stored) → sync_times_from m fs ≡ filter (λ t. not (is_before t m)) (syncs fs)
syncs_from m [] = refl
syncs_from m (f ∷ fs) = from-step m f fs f.frame.sync (syncs_from m fs)

-- the least of the times that are not before a moment is the first of them
pub least_from : (m : Moment) (fs : List Stored) → least (sync_times_from m fs) ≡ first_of (filter (λ t. not (is_before t m)) (sync_times fs))
least_from m fs = ap least (syncs_from m fs) ∙ least_fold [] (filter (λ t. not (is_before t m)) (syncs fs)) ∙ ap first_of (sym (filter_times (λ t. not (is_before t m)) fs))

syncs-each : (P : ℤ → Type 0) (fs : List Stored) → AllByRecursion (λ f. P f.frame.pts) fs → AllByRecursion P (syncs fs)
syncs-each P [] h = h
syncs-each P (f ∷ fs) h = elim (f.frame.sync) as (λ s. AllByRecursion P (starts (cond s (f ∷ filter (λ g. g.frame.sync) fs) (filter (λ g. g.frame.sync) fs)))) [ true ↦ (h.0, syncs-each P fs h.1) | false ↦ syncs-each P fs h.1 ]

-- what holds of all presentation timestamps holds of those of the random access points
pub times-each : (P : ℤ → Type 0) (fs : List Stored) → AllByRecursion (λ f. P f.frame.pts) fs → AllByRecursion P (sync_times fs)
times-each P fs h = fold-each P [] (syncs fs) tt (syncs-each P fs h)

sync-step : (P : ℤ → Type 0) (f : Stored) (fs : List Stored) (s : Bool) → f.frame.sync ≡ s → (f.frame.sync ≡ true → P f.frame.pts) → AllByRecursion P (syncs fs) → AllByRecursion P (starts (cond s (f ∷ filter (λ g. g.frame.sync) fs) (filter (λ g. g.frame.sync) fs)))
sync-step P f fs true e h rest = (h e, rest)
sync-step P f fs false e h rest = rest

syncs-each_sync : (P : ℤ → Type 0) (fs : List Stored) → AllByRecursion (λ f. f.frame.sync ≡ true → P f.frame.pts) fs → AllByRecursion P (syncs fs)
syncs-each_sync P [] h = h
syncs-each_sync P (f ∷ fs) h = sync-step P f fs f.frame.sync refl h.0 (syncs-each_sync P fs h.1)

-- what holds of all random access points holds of their times
pub times-each_sync : (P : ℤ → Type 0) (fs : List Stored) → AllByRecursion (λ f. f.frame.sync ≡ true → P f.frame.pts) fs → AllByRecursion P (sync_times fs)
times-each_sync P fs h = fold-each P [] (syncs fs) tt (syncs-each_sync P fs h)

-- ---- what a removal leaves

-- the time goes
abbrev pub is_gone : ℤ → Moment → ℤ → Bool
is_gone start to t = int_le start t && is_before t to

syncs-first : (f : Stored) (fs : List Stored) (s : Bool) → f.frame.sync ≡ s → syncs (f ∷ fs) ≡ cond s (f.frame.pts ∷ syncs fs) (syncs fs)
syncs-first f fs s e = starts-pick f.frame.sync f (filter (λ g. g.frame.sync) fs) ∙ ap (λ b. cond b (f.frame.pts ∷ syncs fs) (syncs fs)) e

left-step : (p : ℤ → Bool) (f : Stored) (gone s n : Bool) (xs ys fs : List Stored) → f.frame.sync ≡ s → p f.frame.pts ≡ not n → syncs xs ≡ filter p (syncs fs) → syncs ys ≡ filter p (syncs fs) → syncs (cond (n || (gone && not s)) xs (f ∷ ys)) ≡ filter p (starts (cond s (f ∷ filter (λ g. g.frame.sync) fs) (filter (λ g. g.frame.sync) fs)))
left-step p f gone true true xs ys fs e k h g = h ∙ sym (filter-step p f.frame.pts (syncs fs) false k)
left-step p f true true false xs ys fs e k h g = syncs-first f ys true e ∙ ap (λ ts. f.frame.pts ∷ ts) g ∙ sym (filter-step p f.frame.pts (syncs fs) true k)
left-step p f false true false xs ys fs e k h g = syncs-first f ys true e ∙ ap (λ ts. f.frame.pts ∷ ts) g ∙ sym (filter-step p f.frame.pts (syncs fs) true k)
left-step p f gone false true xs ys fs e k h g = h
left-step p f true false false xs ys fs e k h g = h
left-step p f false false false xs ys fs e k h g = syncs-first f ys false e ∙ g

syncs_left : (start : ℤ) (to : Moment) (gone : Bool) (fs : List Stored) → syncs (frames_left gone (is_between start to) fs) ≡ filter (λ t. not (is_gone start to t)) (syncs fs)
syncs_left start to gone [] = refl
syncs_left start to gone (f ∷ fs) = left-step (λ t. not (is_gone start to t)) f gone f.frame.sync (is_between start to f) _ _ fs refl refl (syncs_left start to true fs) (syncs_left start to false fs)

pub times_left : (start : ℤ) (to : Moment) (fs : List Stored) → sync_times (frames_without (is_between start to) fs) ≡ filter (λ t. not (is_gone start to t)) (sync_times fs)
times_left start to fs = ap (fold with_time []) (syncs_left start to false fs) ∙ sym (filter_times (λ t. not (is_gone start to t)) fs)

-- the moment before which times go
abbrev pub gone_to : Moment → Moment → List ℤ → Moment
gone_to end duration ts = time_or (first_of (filter (λ t. not (is_before t end)) ts)) duration

track_left : (start : ℤ) (end duration : Moment) (o : Option TrackState) → sync_times (frames_of (option_map (track_after_removal start end duration) o)) ≡ filter (λ t. not (is_gone start (gone_to end duration (sync_times (frames_of o))) t)) (sync_times (frames_of o))
track_left start end duration None = refl
track_left start end duration (Some t) =
    times_left start (remove_end end duration t.frames) t.frames
    ∙ ap (λ (o : Option ℤ). filter (λ u. not (is_gone start (time_or o duration) u)) (sync_times t.frames)) (least_from end t.frames)

-- the random access points of a track after a removal, by those before it
pub times_removed : (k : ℕ) (start : ℤ) (end duration : Moment) (ts : List TrackState) → times_at k (tracks_after_removal start end duration ts) ≡ filter (λ t. not (is_gone start (gone_to end duration (times_at k ts)) t)) (times_at k ts)
times_removed k start end duration ts = ap (λ o. sync_times (frames_of o)) (slice_get-map (track_after_removal start end duration) ts k) ∙ track_left start end duration (slice_get ts k)

-- ---- the highest start

abbrev IsUnder : Option ℤ → ℤ → Type 0
IsUnder None h = Unit {0}
IsUnder (Some t) h = t ≤ℤ h

under_some : (o : Option ℤ) (h : ℤ) → o ≡ Some h → IsUnder o h
under_some None h e = tt
under_some (Some t) h e = let same : t ≡ h = cc in omega (arith, ints)

greater_parts : (s t h : ℤ) → int_max s t ≤ℤ h → (t ≤ℤ h) × (s ≤ℤ h)
greater_parts s t h k = (grind (arith, ints), grind (arith, ints))

under_greater : (o : Option ℤ) (t h : ℤ) → IsUnder (greater_of o t) h → (t ≤ℤ h) × IsUnder o h
under_greater None t h k = (k, tt)
under_greater (Some s) t h k = greater_parts s t h k

greater_bounds : (o : Option ℤ) (ts : List ℤ) (h : ℤ) → fold greater_of o ts ≡ Some h → AllByRecursion (λ t. t ≤ℤ h) ts × IsUnder o h
greater_bounds o [] h e = (tt, under_some o h e)
greater_bounds o (t ∷ ts) h e = let rest = greater_bounds (greater_of o t) ts h e in let both = under_greater o t h rest.1 in ((both.0, rest.0), both.1)

syncs_under : (h : ℤ) (fs : List Stored) → AllByRecursion (λ t. t ≤ℤ h) (starts fs) → AllByRecursion (λ f. f.frame.pts ≤ℤ h) fs
syncs_under h [] k = k
syncs_under h (f ∷ fs) k = (k.0, syncs_under h fs k.1)

pub times_under : (h : ℤ) (fs : List Stored) → greatest (starts fs) ≡ Some h → AllByRecursion (λ t. t ≤ℤ h) (sync_times fs)
times_under h fs e = times-each (λ t. t ≤ℤ h) fs (syncs_under h fs (greater_bounds None (starts fs) h e).0)

-- ---- the times are those of the random access points

sync-among : (s : Bool) (f : Stored) (fs : List Stored) (t : ℤ) → f.frame.sync ≡ s → (HasSyncAt t fs → IsAmong t (syncs fs)) → HasSyncAt t (f ∷ fs) → IsAmong t (starts (cond s (f ∷ filter (λ g. g.frame.sync) fs) (filter (λ g. g.frame.sync) fs)))
sync-among true f fs t e k (inl h) = inl h.1
sync-among true f fs t e k (inr h) = inr (k h)
sync-among false f fs t e k (inl h) = (let own : f.frame.sync ≡ true = h.0 in cc)
sync-among false f fs t e k (inr h) = k h

syncs_have : (t : ℤ) (fs : List Stored) → HasSyncAt t fs → IsAmong t (syncs fs)
syncs_have t [] h = absurd h
syncs_have t (f ∷ fs) h = sync-among f.frame.sync f fs t refl (syncs_have t fs) h

each_in : (all fs : List Stored) → ((t : ℤ) → HasSyncAt t fs → HasSyncAt t all) → AllByRecursion (λ f. f.frame.sync ≡ true → HasSyncAt f.frame.pts all) fs
each_in all [] k = tt
each_in all (f ∷ fs) k = ((λ e. k f.frame.pts (inl (e, refl))), each_in all fs (λ t h. k t (inr h)))

pub times_exactly : (t : ℤ) (fs : List Stored) → IsAmong t (sync_times fs) ↔ HasSyncAt t fs
times_exactly t fs = (
  (λ h. all_has (λ u. HasSyncAt u fs) t (sync_times fs) (times-each_sync (λ u. HasSyncAt u fs) fs (each_in fs fs (λ u k. k))) h),
  (λ h. fold_has [] (syncs fs) t (syncs_have t fs h)),
)
