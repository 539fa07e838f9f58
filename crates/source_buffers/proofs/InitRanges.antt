-- An initialization segment of one buffer leaves the ranges of all.
use Rattle.std.proofs.Common.{◌≡◌, ◌∙◌, ℕ, zero, suc, ◌==◌, Bool, true, false, cond, ◌&&◌, List, [], ◌∷◌, refl, sym, ap, subst, arith}
use Rattle.std.specs.Prelude.{Option, Some, None, slice_get, slice_set, IfSome}
use Rattle.std.proofs.lemmas.Bool.Decides.{nat_tests}
use Rattle.mse_base.specs.declared.span.Span.{Span}
use Rattle.buffer_state.specs.declared.reply.Reply.{Reply}
use Rattle.buffer_state.specs.State.{KeptBuffer}
use Rattle.source_buffers.specs.State.{KeptBuffers, in_slot, kept_media, all_kept_media}
use Rattle.source_buffers.specs.Buffered.{AreSlotRangesLeft, AreRangesAfterInit, slot_ranges}

same_suc : (j k : ℕ) → (suc j == suc k) ≡ (j == k)
same_suc j k = grind (arith, nat_tests)

same_zero : (zero == zero) ≡ true
same_zero = grind (arith, nat_tests)

not_suc : (k : ℕ) → (zero == suc k) ≡ false
not_suc k = grind (arith, nat_tests)

not_zero : (k : ℕ) → (suc k == zero) ≡ false
not_zero k = grind (arith, nat_tests)

and_false : (a b : Bool) → b ≡ false → (a && b) ≡ false
and_false true b h = h
and_false false b h = refl

chosen : (a : Bool) (xs ys : List Span) → cond (a && true) xs ys ≡ cond a xs ys
chosen true xs ys = refl
chosen false xs ys = refl

-- the slots of all numbers, where one is written over
set_ranges : (a ended : Bool) (ks : KeptBuffers) (k j : ℕ) (old new : Option KeptBuffer) → slice_get ks k ≡ Some old → slot_ranges ended (kept_media new) ≡ cond a [] (slot_ranges ended (kept_media old)) → slot_ranges ended (in_slot j (all_kept_media (slice_set ks k new))) ≡ cond (a && (j == k)) [] (slot_ranges ended (in_slot j (all_kept_media ks)))
set_ranges a ended [] k j old new e h = absurd cc
set_ranges a ended (x ∷ ks) zero zero old new e h =
    let same : old ≡ x = cc in
    let own : slot_ranges ended (kept_media new) ≡ cond (a && true) [] (slot_ranges ended (kept_media x)) = subst (λ (z : Option KeptBuffer). slot_ranges ended (kept_media new) ≡ cond (a && true) [] (slot_ranges ended (kept_media z))) same (h ∙ sym (chosen a [] (slot_ranges ended (kept_media old)))) in
    own ∙ sym (ap (λ b. cond (a && b) [] (slot_ranges ended (kept_media x))) same_zero)
set_ranges a ended (x ∷ ks) zero (suc j) old new e h = sym (ap (λ b. cond b [] (slot_ranges ended (in_slot j (all_kept_media ks)))) (and_false a (suc j == zero) (not_zero j)))
set_ranges a ended (x ∷ ks) (suc k) zero old new e h = sym (ap (λ b. cond b [] (slot_ranges ended (kept_media x))) (and_false a (zero == suc k) (not_suc k)))
set_ranges a ended (x ∷ ks) (suc k) (suc j) old new e h = set_ranges a ended ks k j old new e h ∙ sym (ap (λ b. cond (a && b) [] (slot_ranges ended (in_slot j (all_kept_media ks)))) (same_suc j k))

leaves : (ks : KeptBuffers) (k : ℕ) (old new : Option KeptBuffer) (reply : Reply) → slice_get ks k ≡ Some old → AreSlotRangesLeft old reply new → AreRangesAfterInit k ks reply (slice_set ks k new)
leaves ks k old new reply e h init ended j = set_ranges reply.activated ended ks k j old new e (h init ended)

pub turn_leaves : (t : Option Reply) (ks : KeptBuffers) (k : ℕ) (old new : Option KeptBuffer) → slice_get ks k ≡ Some old → IfSome t (λ reply. AreSlotRangesLeft old reply new) → IfSome t (λ reply. AreRangesAfterInit k ks reply (slice_set ks k new))
turn_leaves (Some reply) ks k old new e h = leaves ks k old new reply e h
turn_leaves None ks k old new e h = tt
