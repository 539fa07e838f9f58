-- Every buffer in the list is active exactly where every buffer that is there has had its first initialization segment.
use Rattle.std.proofs.Common.{◌≡◌, ◌∙◌, ℕ, zero, suc, ◌==◌, Bool, true, false, ◌&&◌, ◌||◌, List, [], ◌∷◌, refl, sym, ap, arith}
use Rattle.std.specs.Prelude.{Option, Some, None, is_some}
use Rattle.std.proofs.lemmas.Bool.Decides.{nat_tests}
use Rattle.track_buffers.specs.Media.{Media}
use Rattle.source_state.specs.State.{SourceState, is_listed_in, are_in}
use Rattle.source_buffers.specs.All.{are_initialized, is_initialized_slot}
use Rattle.source_buffers.specs.Slots.{BuffersResult, buffers_turn}
use Rattle.source_buffers.specs.State.{in_slot, media_of_all}
use Rattle.mse_engine.specs.Lists.{AreListsSame, has_first_init}
use Rattle.mse_engine.specs.Replies.{is_loading, state_after, surroundings_in}
use Rattle.mse_engine.specs.State.{Core}
use Rattle.mse_engine.proofs.Lists.{turned-lists}

-- ---- both tests

same_by : (a b : Bool) → (a ≡ true → b ≡ true) → (b ≡ true → a ≡ true) → a ≡ b
same_by true b there back = sym (there refl)
same_by false true there back = back refl
same_by false false there back = refl

first_true : (a b : Bool) → (a && b) ≡ true → a ≡ true
first_true true b h = refl
first_true false b h = absurd cc

second_true : (a b : Bool) → (a && b) ≡ true → b ≡ true
second_true true b h = h
second_true false b h = absurd cc

both_true : (a b : Bool) → a ≡ true → b ≡ true → (a && b) ≡ true
both_true true b h k = k
both_true false b h k = absurd cc

-- ---- a list in another

later : (a b : Bool) → b ≡ true → (a || b) ≡ true
later true b h = refl
later false b h = h

at_head : (n k : ℕ) (ns all : List ℕ) (b : Bool) → (n == k) ≡ b → is_listed_in n all ≡ true → (is_listed_in k ns ≡ true → is_listed_in k all ≡ true) → (b || is_listed_in k ns) ≡ true → is_listed_in k all ≡ true
at_head n k ns all true is here next h = let same : n ≡ k = grind (arith, nat_tests, is) in ap (λ (x : ℕ). is_listed_in x all) (sym same) ∙ here
at_head n k ns all false is here next h = next h

in_another : (ns all : List ℕ) → are_in ns all ≡ true → (k : ℕ) → is_listed_in k ns ≡ true → is_listed_in k all ≡ true
in_another [] all h k e = absurd cc
in_another (n ∷ ns) all h k e =
    at_head n k ns all (n == k) refl (first_true (is_listed_in n all) (are_in ns all) h) (in_another ns all (second_true (is_listed_in n all) (are_in ns all) h) k) e

from_each : (ns all : List ℕ) → ((k : ℕ) → is_listed_in k ns ≡ true → is_listed_in k all ≡ true) → are_in ns all ≡ true
from_each [] all h = refl
from_each (n ∷ ns) all h =
    let here : is_listed_in n (n ∷ ns) ≡ true = head_there (n == n) (is_listed_in n ns) (grind (arith, nat_tests)) in
    both_true (is_listed_in n all) (are_in ns all) (h n here) (from_each ns all (λ k e. h k (later (n == k) (is_listed_in k ns) e)))
  where
    head_there : (a b : Bool) → a ≡ true → (a || b) ≡ true
    head_there true b e = refl
    head_there false b e = absurd cc

-- ---- all slots

each_slot : (ms : List (Option Media)) → are_initialized ms ≡ true → (k : ℕ) → is_initialized_slot (in_slot k ms) ≡ true
each_slot [] h k = refl
each_slot (m ∷ ms) h zero = first_true (is_initialized_slot m) (are_initialized ms) h
each_slot (m ∷ ms) h (suc k) = each_slot ms (second_true (is_initialized_slot m) (are_initialized ms) h) k

from_slots : (ms : List (Option Media)) → ((k : ℕ) → is_initialized_slot (in_slot k ms) ≡ true) → are_initialized ms ≡ true
from_slots [] h = refl
from_slots (m ∷ ms) h = both_true (is_initialized_slot m) (are_initialized ms) (h 0) (from_slots ms (λ k. h (suc k)))

-- ---- one slot

initialized_there : (o : Option Media) → (is_some o ≡ true → has_first_init o ≡ true) → is_initialized_slot o ≡ true
initialized_there None h = refl
initialized_there (Some m) h = h refl

has_first_there : (o : Option Media) → is_initialized_slot o ≡ true → is_some o ≡ true → has_first_init o ≡ true
has_first_there None h e = absurd cc
has_first_there (Some m) h e = h

-- ---- the laws

pub listed-initialized : (s : SourceState) (media : List (Option Media)) → AreListsSame s media → are_in s.listed s.active ≡ are_initialized media
listed-initialized s media h = same_by (are_in s.listed s.active) (are_initialized media) there back
  where
    there : are_in s.listed s.active ≡ true → are_initialized media ≡ true
    there e = from_slots media (λ k. initialized_there (in_slot k media) (λ filled. sym (h.active k) ∙ in_another s.listed s.active e k (h.listed k ∙ filled)))

    back : are_initialized media ≡ true → are_in s.listed s.active ≡ true
    back e = from_each s.listed s.active (λ k listed. h.active k ∙ has_first_there (in_slot k media) (each_slot media e k) (sym (h.listed k) ∙ listed))

pub loading-initialized : (k : ℕ) (c : Core) (result : BuffersResult) → AreListsSame c.source.state (media_of_all c.buffers) → buffers_turn k (surroundings_in k c.source) c.buffers ≡ Some result
    → is_loading k result.reply c.source.blank c.source.state ≡ ((result.reply.received_init && c.source.blank) && are_initialized (media_of_all result.buffers))
loading-initialized k c result h e =
    ap (λ (b : Bool). (result.reply.received_init && c.source.blank) && b) (listed-initialized (state_after k result.reply c.source.state) (media_of_all result.buffers) (turned-lists k c result e h))
