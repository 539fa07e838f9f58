-- The greatest end of all frames.
use Rattle.std.proofs.Common.{◌≡◌, ◌∙◌, ℤ, Bool, true, false, cond, List, [], ◌∷◌, map, fold, Option, Some, None, refl, sym, ap, subst, int_lt, inl, inr, ◌⊎◌, arith}
use Rattle.std.specs.List.{AllByRecursion}
use Rattle.std.specs.Int.{int_max}
use Rattle.std.proofs.lemmas.Int.{ints}
use Rattle.mse_base.specs.Time.{IsTick, tick}
use Rattle.mse_base.specs.Moments.{greatest, greater_of, greatest_of_two}
use Rattle.mse_base.proofs.TickLemmas.{tick_is}
use Rattle.track_store.specs.declared.store.Stored.{Stored}
use Rattle.track_store.specs.Frames.{ends, IsTimed}
use Rattle.track_index.specs.declared.entry.OrderEntry.{OrderEntry}
use Rattle.track_index.specs.Order.{entries_with, entries_with_all, entry_of, end_of, presentation_order}
use Rattle.track_index.specs.Known.{greatest_end}
use Rattle.track_index.specs.Repair.{AreTimed}
use Rattle.track_index.proofs.BlockEnds.{greatest-append, later_assoc, later_comm, greater_is}
use Rattle.track_index.proofs.KeptStore.{timed_entries}

-- a new entry among others
turn : (a b c : Option ℤ) → greatest_of_two b (greatest_of_two a c) ≡ greatest_of_two a (greatest_of_two b c)
turn a b c = sym (later_assoc b a c) ∙ ap (λ z. greatest_of_two z c) (later_comm b a) ∙ later_assoc a b c

one_end : (o : OrderEntry) (os : List OrderEntry) → greatest_end (o ∷ os) ≡ greatest_of_two (Some (end_of o)) (greatest_end os)
one_end o os = greatest-append (o ∷ []) os

put_cond : (e o : OrderEntry) (os : List OrderEntry) (b : Bool) → greatest_end (entries_with e os) ≡ greatest_of_two (Some (end_of e)) (greatest_end os) → greatest_end (cond b (e ∷ o ∷ os) (o ∷ entries_with e os)) ≡ greatest_of_two (Some (end_of e)) (greatest_end (o ∷ os))
put_cond e o os true h = one_end e (o ∷ os)
put_cond e o os false h = one_end o (entries_with e os) ∙ ap (greatest_of_two (Some (end_of o))) h ∙ turn (Some (end_of e)) (Some (end_of o)) (greatest_end os) ∙ ap (greatest_of_two (Some (end_of e))) (sym (one_end o os))

put_end : (e : OrderEntry) (os : List OrderEntry) → greatest_end (entries_with e os) ≡ greatest_of_two (Some (end_of e)) (greatest_end os)
put_end e [] = refl
put_end e (o ∷ os) = put_cond e o os (int_lt e.pts o.pts) (put_end e os)

all_end : (os : List OrderEntry) (fs : List Stored) → greatest_end (entries_with_all os fs) ≡ fold greater_of (greatest_end os) (ends fs)
all_end os [] = refl
all_end os (f ∷ fs) = all_end (entries_with (entry_of f) os) fs ∙ ap (λ a. fold greater_of a (ends fs)) (put_end (entry_of f) os ∙ later_comm (Some (end_of (entry_of f))) (greatest_end os) ∙ sym (greater_is (greatest_end os) (end_of (entry_of f))))

pub highest_is : (fs : List Stored) (os : List OrderEntry) → os ≡ presentation_order fs → greatest_end os ≡ greatest (ends fs)
highest_is fs os e = ap greatest_end e ∙ all_end [] fs

abbrev IsTickOrNone : Option ℤ → Type 0
IsTickOrNone None = Unit {0}
IsTickOrNone (Some t) = IsTick t

max_cases : (a b : ℤ) → (int_max a b ≡ a) ⊎ (int_max a b ≡ b)
max_cases a b = grind (arith, ints)

tick_step : (a : Option ℤ) (t : ℤ) → IsTickOrNone a → IsTick t → IsTickOrNone (greater_of a t)
tick_step None t k h = h
tick_step (Some s) t k h = elim (max_cases s t) as (λ _. IsTick (int_max s t)) [ inl e ↦ subst IsTick (sym e) k | inr e ↦ subst IsTick (sym e) h ]

end_ticks : (os : List OrderEntry) (a : Option ℤ) → AreTimed os → IsTickOrNone a → IsTickOrNone (fold greater_of a (map end_of os))
end_ticks [] a h k = k
end_ticks (o ∷ os) a h k = end_ticks os (greater_of a (end_of o)) h.1 (tick_step a (end_of o) k h.0)

pub highest_tick : (fs : List Stored) (os : List OrderEntry) (end : ℤ) → os ≡ presentation_order fs → AllByRecursion IsTimed fs → Some end ≡ greatest_end os → tick end ≡ greatest (ends fs)
highest_tick fs os end e t h =
    let at : IsTickOrNone (greatest_end os) = end_ticks os None (timed_entries fs os e t) tt in
    let own : IsTick end = subst IsTickOrNone (sym h) at in
    tick_is end own ∙ h ∙ highest_is fs os e
