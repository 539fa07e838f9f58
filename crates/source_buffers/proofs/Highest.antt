-- The highest end of all buffers bounds the ends of all frames.
use Rattle.std.proofs.Common.{◌≡◌, ◌∙◌, ℤ, ◌≤ℤ◌, List, [], ◌∷◌, ◌++◌, refl, ap}
use Rattle.std.specs.Prelude.{Option, Some, None, option_to_list, flat_map}
use Rattle.std.specs.List.{AllByRecursion}
use Rattle.mse_base.specs.declared.ticks.Moment.TheVariants.{Nan, At}
use Rattle.mse_base.specs.Moments.{greatest}
use Rattle.track_store.specs.declared.store.Stored.{Stored}
use Rattle.track_store.specs.Frames.{ends}
use Rattle.track_store.specs.State.{TrackState}
use Rattle.track_buffers.specs.Media.{Media, AreEndedWithin}
use Rattle.track_buffers.specs.Frames.{highest_end_in}
use Rattle.track_buffers.proofs.KeptTracks.{endby_none}
use Rattle.track_buffers.proofs.Durations.{greatest_bounds, greatest_none, highest_bounds, highest_none, end_by_up}
use Rattle.source_buffers.specs.All.{IsSlotWithin, AreSlotsWithin, slot_times, highest_end_of_all}

all_left : (P : ℤ → Type 0) (xs ys : List ℤ) → AllByRecursion P (xs ++ ys) → AllByRecursion P xs × AllByRecursion P ys
all_left P [] ys h = (tt, h)
all_left P (x ∷ xs) ys h = let rest = all_left P xs ys h.1 in ((h.0, rest.0), rest.1)

media_by : (e : ℤ) (m : Media) (o : Option ℤ) → highest_end_in m ≡ o → AllByRecursion (λ t. t ≤ℤ e) (option_to_list o) → AreEndedWithin (At e) m.tracks
media_by e m (Some d) is h = end_by_up d e m.tracks h.0 (highest_bounds m d is)
media_by e m None is h = endby_none e m.tracks (highest_none m is)

slot_by : (e : ℤ) (m : Option Media) → AllByRecursion (λ t. t ≤ℤ e) (slot_times highest_end_in m) → IsSlotWithin (At e) m
slot_by e None h = tt
slot_by e (Some m) h = media_by e m (highest_end_in m) refl h

slots_by : (e : ℤ) (ms : List (Option Media)) → AllByRecursion (λ t. t ≤ℤ e) (flat_map (slot_times highest_end_in) ms) → AreSlotsWithin (At e) ms
slots_by e [] h = tt
slots_by e (m ∷ ms) h =
    let split = all_left (λ t. t ≤ℤ e) (slot_times highest_end_in m) (flat_map (slot_times highest_end_in) ms) h in
    (slot_by e m split.0, slots_by e ms split.1)

pub all_bounded : (ms : List (Option Media)) (e : ℤ) → highest_end_of_all ms ≡ Some e → AreSlotsWithin (At e) ms
all_bounded ms e h = slots_by e ms (greatest_bounds (flat_map (slot_times highest_end_in) ms) e h)

-- where there is no highest end, there is no frame
no_times : (o : Option ℤ) (rest : List ℤ) → option_to_list o ++ rest ≡ [] → (o ≡ None) × (rest ≡ [])
no_times None rest h = (refl, h)
no_times (Some t) rest h = absurd cc

slot_none : (m : Option Media) (rest : List ℤ) → slot_times highest_end_in m ++ rest ≡ [] → IsSlotWithin Nan m × (rest ≡ [])
slot_none None rest h = (tt, h)
slot_none (Some m) rest h =
    let both = no_times (highest_end_in m) rest h in
    (highest_none m both.0, both.1)

slots_none : (ms : List (Option Media)) → flat_map (slot_times highest_end_in) ms ≡ [] → AreSlotsWithin Nan ms
slots_none [] h = tt
slots_none (m ∷ ms) h =
    let both = slot_none m (flat_map (slot_times highest_end_in) ms) h in
    (both.0, slots_none ms both.1)

pub none_stored : (ms : List (Option Media)) → highest_end_of_all ms ≡ None → AreSlotsWithin Nan ms
none_stored ms h = slots_none ms (greatest_none (flat_map (slot_times highest_end_in) ms) h)

-- and where there is no frame, there is no highest end
no_ends : (ts : List TrackState) → AllByRecursion (λ t. t.frames ≡ []) ts → flat_map (λ t. ends t.frames) ts ≡ []
no_ends [] h = refl
no_ends (t ∷ ts) h = ap (λ (fs : List Stored). ends fs ++ flat_map (λ t. ends t.frames) ts) h.0 ∙ no_ends ts h.1

slot_without : (m : Option Media) → IsSlotWithin Nan m → slot_times highest_end_in m ≡ []
slot_without None h = refl
slot_without (Some m) h = ap (λ (ts : List ℤ). option_to_list (greatest ts)) (no_ends m.tracks h)

slots_without : (ms : List (Option Media)) → AreSlotsWithin Nan ms → flat_map (slot_times highest_end_in) ms ≡ []
slots_without [] h = refl
slots_without (m ∷ ms) h = ap (λ (ts : List ℤ). ts ++ flat_map (slot_times highest_end_in) ms) (slot_without m h.0) ∙ slots_without ms h.1

pub no_end : (ms : List (Option Media)) → AreSlotsWithin Nan ms → highest_end_of_all ms ≡ None
no_end ms h = ap greatest (slots_without ms h)
