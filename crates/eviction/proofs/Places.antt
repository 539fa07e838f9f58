-- The tracks by their places.
use Rattle.std.proofs.Common.{◌≡◌, ◌∙◌, ℕ, zero, suc, ◌+◌, ◌<◌, ◌≤◌, ℤ, pos, ◌+ℤ◌, ◌<ℤ◌, ◌≤ℤ◌, int_lt, Bool, true, false, not, cond, List, [], ◌∷◌, length, filter, find, fold, take, slice_get, Option, Some, None, unwrap_or, refl, sym, ap, subst, inl, inr, arith}
use Rattle.std.specs.List.{AllByRecursion}
use Rattle.std.specs.Option.{IfSome, option_map, option_or}
use Rattle.std.proofs.lemmas.Int.{ints}
use Rattle.std.proofs.lemmas.Option.{slice_get_cases, slice_get-map}
use Rattle.mse_base.specs.declared.ticks.Moment.TheVariants.{At}
use Rattle.mse_base.specs.Time.{IsTick, tick}
use Rattle.mse_base.proofs.TickLemmas.{tick_some, tick_none}
use Rattle.track_store.specs.declared.store.Stored.{Stored}
use Rattle.track_store.specs.declared.tracks.Track.{Track}
use Rattle.mse_base.specs.Moments.{is_before, greatest, greater_of, is_video}
use Rattle.track_store.specs.Frames.{starts}
use Rattle.track_store.specs.State.{TrackState, state_of, states_of}
use Rattle.eviction.specs.Evicting.{first_of, frames_of, lead_of, sync_times}
use Rattle.eviction.specs.Steps.{times_at}
use Rattle.eviction.specs.Times.{IsAmong}
use Rattle.eviction.proofs.Times.{each_of, filter_same, filter_none, all_along}
use Rattle.eviction.proofs.Syncs.{times_under}

-- ---- the lead track

find-step : (p : TrackState → Bool) (t : TrackState) (ts : List TrackState) (b : Bool) → p t ≡ b → find p (t ∷ ts) ≡ cond b (Some t) (find p ts)
find-step p t ts b e = ap (λ c. cond c (Some t) (find p ts)) e

find_rest : (p : TrackState → Bool) (t : TrackState) (ts : List TrackState) (b : Bool) → p t ≡ b → cond b (Some t) (find p ts) ≡ None → (b ≡ false) × (find p ts ≡ None)
find_rest p t ts true e h = absurd cc
find_rest p t ts false e h = (refl, h)

-- the first that passes is at a place, where none before it does
pub found_here : (p : TrackState → Bool) (ts : List TrackState) (i : ℕ) → i < length ts → find p (take i ts) ≡ None → IfSome (slice_get ts i) (λ t. p t ≡ true) → slice_get ts i ≡ find p ts
found_here p [] i here none h = absurd (omega arith)
found_here p (t ∷ ts) zero here none h = sym (find-step p t ts true h)
found_here p (t ∷ ts) (suc i) here none h =
    let rest = find_rest p t (take i ts) (p t) refl none in
    found_here p ts i (omega arith) rest.1 h ∙ sym (find-step p t ts false rest.0)

none_suc : (p : TrackState → Bool) (ts : List TrackState) (i : ℕ) → find p (take i ts) ≡ None → IfSome (slice_get ts i) (λ t. p t ≡ false) → find p (take (suc i) ts) ≡ None
none_suc p [] i none h = refl
none_suc p (t ∷ ts) zero none h = find-step p t (take 0 ts) false h
none_suc p (t ∷ ts) (suc i) none h =
    let rest = find_rest p t (take i ts) (p t) refl none in
    find-step p t (take (suc i) ts) false rest.0 ∙ none_suc p ts i rest.1 h

-- none passes of one more
pub none_more : (p : TrackState → Bool) (ts : List TrackState) (i : ℕ) → find p (take i ts) ≡ None → IfSome (slice_get ts i) (λ t. p t ≡ false) → find p (take (i + 1) ts) ≡ None
none_more p ts i none h = subst (λ k. find p (take k ts) ≡ None) (let e : suc i ≡ i + 1 = omega arith in e) (none_suc p ts i none h)

pub all_none : (p : TrackState → Bool) (ts : List TrackState) (i : ℕ) → length ts ≤ i → find p (take i ts) ≡ None → find p ts ≡ None
all_none p [] i past h = refl
all_none p (t ∷ ts) zero past h = absurd (omega arith)
all_none p (t ∷ ts) (suc i) past h =
    let rest = find_rest p t (take i ts) (p t) refl h in
    find-step p t ts false rest.0 ∙ all_none p ts i (omega arith) rest.1

pub if_state : {S : Type 0} (frames : S → List Stored) (ts : List (Track S)) (i : ℕ) (b : Bool) → IfSome (slice_get ts i) (λ t. b ≡ is_video t.kind) → IfSome (slice_get (states_of frames ts) i) (λ t. is_video t.kind ≡ b)
if_state frames [] i b h = tt
if_state frames (t ∷ ts) zero b h = sym h
if_state frames (t ∷ ts) (suc i) b h = if_state frames ts i b h

or_found : (o p q : Option TrackState) (t : TrackState) → q ≡ Some t → q ≡ o → q ≡ option_or o p
or_found None p q t e h = absurd (let none = sym e ∙ h in cc)
or_found (Some u) p q t e h = h

pub lead_here : (ts : List TrackState) (i : ℕ) → i < length ts → slice_get ts i ≡ find (λ t. is_video t.kind) ts → slice_get ts i ≡ lead_of ts
lead_here ts i here e =
    elim (slice_get_cases ts i).1 [
      | inl found ↦ or_found (find (λ t. is_video t.kind) ts) (slice_get ts 0) (slice_get ts i) found.0 found.2 e
      | inr past ↦ absurd (omega arith)
    ]

pub lead_first : (ts : List TrackState) → find (λ t. is_video t.kind) ts ≡ None → slice_get ts 0 ≡ lead_of ts
lead_first ts e = ap (λ o. option_or o (slice_get ts 0)) (sym e)

-- ---- the times of the track at a place

pub times_here : {S : Type 0} (frames : S → List Stored) (ts : List (Track S)) (k : ℕ) (t : Track S) → slice_get ts k ≡ Some t → times_at k (states_of frames ts) ≡ sync_times (frames t.store)
times_here frames ts k t e = ap (λ o. sync_times (frames_of o)) (slice_get-map (state_of frames) ts k ∙ ap (option_map (state_of frames)) e)

pub times_nowhere : {S : Type 0} (frames : S → List Stored) (ts : List (Track S)) (k : ℕ) → slice_get ts k ≡ None → times_at k (states_of frames ts) ≡ []
times_nowhere frames ts k e = ap (λ o. sync_times (frames_of o)) (slice_get-map (state_of frames) ts k ∙ ap (option_map (state_of frames)) e)

-- ---- the next tick

next_le : (t v : ℤ) → not (int_lt v (t +ℤ pos 1)) ≡ int_lt t v
next_le t v = grind (arith, ints)

-- the times from the next tick on are those after a time
pub after_tick : (t u : ℤ) (ts : List ℤ) → tick (t +ℤ pos 1) ≡ Some u → filter (λ v. not (is_before v (At u))) ts ≡ filter (int_lt t) ts
after_tick t u ts e = filter_same _ (int_lt t) ts (each_of _ ts (λ v. ap (λ w. not (int_lt v w)) (tick_some _ u e) ∙ next_le t v))

next_tick : (t v top : ℤ) → t <ℤ v → v ≤ℤ top → IsTick t → IsTick top → IsTick (t +ℤ pos 1)
next_tick t v top less most h k = let low = h.0 in let high = k.1 in (omega (arith, ints), omega (arith, ints))

none_pick : (t v top : ℤ) (b : Bool) → int_lt t v ≡ b → tick (t +ℤ pos 1) ≡ None → IsTick t → v ≤ℤ top → IsTick top → b ≡ false
none_pick t v top true e none h most k = absurd (tick_none _ none (next_tick t v top (let less : t <ℤ v = grind (arith, ints) in less) most h k))
none_pick t v top false e none h most k = refl

-- after the last time that is in range there is none
none_after : (t top : ℤ) (ts : List ℤ) → tick (t +ℤ pos 1) ≡ None → IsTick t → IsTick top → AllByRecursion (λ v. v ≤ℤ top) ts → None ≡ first_of (filter (int_lt t) ts)
none_after t top ts none h k all = sym (ap first_of (filter_none (int_lt t) ts (all_along (λ v. v ≤ℤ top) (λ v. int_lt t v ≡ false) ts (λ v most. none_pick t v top (int_lt t v) refl none h most k) all)))

-- ---- the highest start

abbrev IsThere : Option ℤ → Type 0
IsThere None = ⊥
IsThere (Some t) = Unit {0}

greater_there : (o : Option ℤ) (t : ℤ) → IsThere (greater_of o t)
greater_there None t = tt
greater_there (Some s) t = tt

some_high : (o : Option ℤ) (ts : List ℤ) → IsThere o → fold greater_of o ts ≡ None → ⊥
some_high o [] there e = subst IsThere e there
some_high o (t ∷ ts) there e = some_high (greater_of o t) ts (greater_there o t) e

none_high : (fs : List Stored) (low : ℤ) → greatest (starts fs) ≡ None → IsAmong low (sync_times fs) → AllByRecursion (λ u. u ≤ℤ low) (sync_times fs)
none_high [] low e has = tt
none_high (f ∷ fs) low e has = absurd (some_high (Some f.frame.pts) (starts fs) tt e)

pub highest_is : (next : Option ℤ) (low : ℤ) (fs : List Stored) (o : Option ℤ) → o ≡ greatest (starts fs) → IsAmong low (sync_times fs) → AllByRecursion (λ u. u ≤ℤ unwrap_or o low) (sync_times fs)
highest_is next low fs None e has = none_high fs low (sym e) has
highest_is next low fs (Some h) e has = times_under h fs (sym e)

none_of_none : (t : ℤ) (fs : List Stored) → greatest (starts fs) ≡ None → None ≡ first_of (filter (int_lt t) (sync_times fs))
none_of_none t [] e = refl
none_of_none t (f ∷ fs) e = absurd (some_high (Some f.frame.pts) (starts fs) tt e)

-- no random access point is after the last time that is in range
pub none_past : (t : ℤ) (fs : List Stored) (o : Option ℤ) → o ≡ greatest (starts fs) → IfSome o IsTick → tick (t +ℤ pos 1) ≡ None → IsTick t → None ≡ first_of (filter (int_lt t) (sync_times fs))
none_past t fs None e range none h = none_of_none t fs (sym e)
none_past t fs (Some top) e range none h = none_after t top (sync_times fs) none h range (times_under top fs (sym e))
