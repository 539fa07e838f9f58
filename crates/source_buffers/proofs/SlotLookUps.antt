-- What is in the slot of a number, of the media that are kept and of what runs.
use Rattle.std.proofs.Common.{◌≡◌, ◌≢◌, ℕ, ℤ, zero, suc, Bool, true, false, List, [], ◌∷◌, length, slice_get, refl, sym, ap, arith}
use Rattle.std.specs.Prelude.{Option, Some, None}
use Rattle.std.specs.List.{AllByRecursion, find}
use Rattle.std.specs.Option.{IfSome, option_flatten}
use Rattle.mse_base.specs.declared.span.Span.{Span}
use Rattle.mse_base.specs.Moments.{greatest}
use Rattle.mse_base.specs.Spans.{reaches, IsNormalized}
use Rattle.mse_base.proofs.SharedTicks.{all_normalized, covers-all}
use Rattle.track_buffers.specs.Media.{Media}
use Rattle.track_buffers.specs.Buffered.{last_ends, with_common_end, with_end}
use Rattle.track_buffers.proofs.SharedRanges.{buffered_is, grown_all}
use Rattle.buffer_state.specs.declared.running.Running.{Running}
use Rattle.buffer_state.specs.State.{KeptBuffer}
use Rattle.source_buffers.specs.State.{KeptBuffers, in_slot, kept_media, all_kept_media}
use Rattle.source_buffers.specs.All.{AreSound, IsSoundSlot, is_updating_slot}
use Rattle.source_buffers.specs.Buffered.{IsElementBuffered, active_ranges, element_ranges, shared_ranges, slot_ranges}

pub media_in : (ks : KeptBuffers) (k : ℕ) (o : Option KeptBuffer) → in_slot k ks ≡ o → in_slot k (all_kept_media ks) ≡ kept_media o
media_in [] k o e = ap kept_media e
media_in (x ∷ ks) zero o e = ap kept_media e
media_in (x ∷ ks) (suc k) o e = media_in ks k o e

-- at a place of the list
pub media_at : (ks : KeptBuffers) (i : ℕ) (k : Option KeptBuffer) → slice_get ks i ≡ Some k → slice_get (all_kept_media ks) i ≡ Some (kept_media k)
media_at [] i k e = absurd cc
media_at (x ∷ ks) zero k e = let same : x ≡ k = cc in ap (λ (z : Option KeptBuffer). Some (kept_media z)) same
media_at (x ∷ ks) (suc i) k e = media_at ks i k e

pub no_media_at : (ks : KeptBuffers) (i : ℕ) → slice_get ks i ≡ None → slice_get (all_kept_media ks) i ≡ None
no_media_at [] i e = refl
no_media_at (x ∷ ks) zero e = absurd cc
no_media_at (x ∷ ks) (suc i) e = no_media_at ks i e

pub running_at : (b : Bool) (o : Option (Option Running)) → b ≡ is_updating_slot (option_flatten o) → IfSome o (λ x. b ≡ is_updating_slot x)
running_at b None h = tt
running_at b (Some x) h = h

-- ---- the ranges of active buffers

slot_sound : (k : ℕ) (ms : List (Option Media)) → AreSound ms → IsSoundSlot (in_slot k ms)
slot_sound k [] h = tt
slot_sound zero (m ∷ ms) h = h.0
slot_sound (suc k) (m ∷ ms) h = slot_sound k ms h.1

slot_normalized : (ended : Bool) (m : Option Media) → IsSoundSlot m → IsNormalized (slot_ranges ended m)
slot_normalized ended None h = tt
slot_normalized ended (Some m) h = (buffered_is ended m h.1).normalized

pub active_normalized : (ended : Bool) (active : List ℕ) (ms : List (Option Media)) → AreSound ms → AllByRecursion IsNormalized (active_ranges ended active ms)
active_normalized ended [] ms h = tt
active_normalized ended (k ∷ ks) ms h = (slot_normalized ended (in_slot k ms) (slot_sound k ms h), active_normalized ended ks ms h)

shared_normalized : (ended : Bool) (rs : List (List Span)) → AllByRecursion IsNormalized rs → AllByRecursion IsNormalized (with_common_end ended rs)
shared_normalized true rs h = grown_all (greatest (last_ends rs)) rs h
shared_normalized false rs h = h

shared_some : (ended : Bool) (active : List ℕ) (ms : List (Option Media)) → active ≢ [] → shared_ranges ended active ms ≢ []
shared_some true [] ms some e = some refl
shared_some true (k ∷ ks) ms some e = cc
shared_some false [] ms some e = some refl
shared_some false (k ∷ ks) ms some e = cc

shared_none : (ended : Bool) (active : List ℕ) (ms : List (Option Media)) → active ≡ [] → element_ranges ended active ms ≡ []
shared_none true [] ms none = refl
shared_none false [] ms none = refl
shared_none ended (k ∷ ks) ms none = absurd cc

pub element_buffered : (ended : Bool) (active : List ℕ) (ms : List (Option Media)) → AreSound ms → IsElementBuffered ended active ms
element_buffered ended active ms h = record {
  same = λ t some. covers-all (shared_ranges ended active ms) t (shared_some ended active ms some);
  none = λ none. shared_none ended active ms none;
  normalized = all_normalized (shared_ranges ended active ms) (shared_normalized ended (active_ranges ended active ms) (active_normalized ended active ms h));
}

-- where no buffer is active
none_listed : (active : List ℕ) → length active ≡ 0 → active ≡ []
none_listed [] e = refl
none_listed (k ∷ ks) e = absurd (omega arith)

pub none_active : (ended : Bool) (active : List ℕ) (ms : List (Option Media)) → length active ≡ 0 → [] ≡ element_ranges ended active ms
none_active ended active ms e = sym (shared_none ended active ms (none_listed active e))

-- where no buffer is, no range holds a time
pub none_reached : (t : ℤ) (o : Option ℤ) → None ≡ find (reaches t) (with_end o [])
none_reached t None = refl
none_reached t (Some e) = refl
