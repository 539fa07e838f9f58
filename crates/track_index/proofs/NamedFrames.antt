-- The frame that an entry names.
use Rattle.std.proofs.Common.{◌≡◌, ◌∙◌, ℤ, ◌<◌, Bool, true, false, cond, List, [], ◌∷◌, Option, Some, None, refl, sym, ap, subst, inl, inr, ◌⊎◌, arith, filter, find}
use Rattle.std.specs.Option.{option_map, IfSome}
use Rattle.std.specs.List.{AllByRecursion}
use Rattle.std.proofs.lemmas.Bool.Decides.{nat_tests}
use Rattle.track_store.specs.declared.store.Stored.{Stored}
use Rattle.track_store.specs.Frames.{is_in_frame, overlapped, has_serial, IsAscending}
use Rattle.track_store.proofs.LastOverlap.{fold-each}
use Rattle.track_index.specs.declared.entry.OrderEntry.{OrderEntry}
use Rattle.track_index.specs.Order.{entry_of, is_in_entry, presentation_order, last_that}
use Rattle.track_index.proofs.EntryOrder.{found_ordered}

-- a frame of the list
abbrev IsIn : Stored → List Stored → Type 0
IsIn g [] = ⊥
IsIn g (f ∷ fs) = (g ≡ f) ⊎ IsIn g fs

each_in : (P : Stored → Type 0) (fs : List Stored) (g : Stored) → AllByRecursion P fs → IsIn g fs → P g
each_in P [] g h i = absurd i
each_in P (f ∷ fs) g h (inl same) = subst P (sym same) h.0
each_in P (f ∷ fs) g h (inr later) = each_in P fs g h.1 later

-- a frame is the one of its serial
find_own : (fs : List Stored) (g : Stored) → IsAscending fs → IsIn g fs → find (has_serial g.serial) fs ≡ Some g
find_own [] g up i = absurd i
find_own (f ∷ fs) g up (inl same) =
    let yes : has_serial g.serial f ≡ true = ap (λ x. has_serial g.serial x) (sym same) ∙ grind (arith, nat_tests) in
    ap (λ b. cond b (Some f) (find (has_serial g.serial) fs)) yes ∙ ap (λ x. Some x) (sym same)
find_own (f ∷ fs) g up (inr later) =
    let after : f.serial < g.serial = each_in (λ h. f.serial < h.serial) fs g up.0 later in
    let other : has_serial g.serial f ≡ false = grind (arith, nat_tests) in
    ap (λ b. cond b (Some f) (find (has_serial g.serial) fs)) other ∙ find_own fs g up.1 later

kept_in : (b : Bool) (all : List Stored) (f : Stored) (gs : List Stored) → IsIn f all → AllByRecursion (λ g. IsIn g all) gs → AllByRecursion (λ g. IsIn g all) (cond b (f ∷ gs) gs)
kept_in true all f gs i h = (i, h)
kept_in false all f gs i h = h

each_of_filter : (p : Stored → Bool) (all fs : List Stored) → ((g : Stored) → IsIn g fs → IsIn g all) → AllByRecursion (λ g. IsIn g all) (filter p fs)
each_of_filter p all [] sub = tt
each_of_filter p all (f ∷ fs) sub = kept_in (p f) all f (filter p fs) (sub f (inl refl)) (each_of_filter p all fs (λ g i. sub g (inr i)))

-- the frame that an entry names
abbrev pub named_by : Option OrderEntry → List Stored → Option Stored
named_by None fs = None
named_by (Some e) fs = find (has_serial e.serial) fs

named_same : (fs : List Stored) (o : Option Stored) → IsAscending fs → IfSome o (λ g. IsIn g fs) → named_by (option_map entry_of o) fs ≡ o
named_same fs None up i = refl
named_same fs (Some g) up i = find_own fs g up i

-- what the order names is the overlapped frame
pub named_ordered : (t : ℤ) (fs : List Stored) (os : List OrderEntry) (o : Option OrderEntry) → IsAscending fs → os ≡ presentation_order fs → o ≡ last_that (is_in_entry t) os → named_by o fs ≡ overlapped t fs
named_ordered t fs os o up e h =
    ap (λ z. named_by z fs) (h ∙ ap (last_that (is_in_entry t)) e ∙ found_ordered t fs) ∙ named_same fs (overlapped t fs) up (fold-each (λ g. IsIn g fs) None (filter (is_in_frame t) fs) tt (each_of_filter (is_in_frame t) fs fs (λ g i. i)))
