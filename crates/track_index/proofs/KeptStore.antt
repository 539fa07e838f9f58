-- What the store keeps.
use Rattle.std.proofs.Common.{◌≡◌, ◌∙◌, ℕ, suc, ℤ, pos, ◌+◌, ◌<◌, ◌≤◌, ◌^◌, ◌+ℤ◌, ◌≤ℤ◌, Bool, true, false, cond, ◌||◌, List, [], ◌∷◌, ◌++◌, Option, Some, None, ◌⊎◌, inl, inr, length, map, refl, sym, ap, subst, arith, int_lt}
use Rattle.std.specs.List.{AllByRecursion}
use Rattle.std.proofs.lemmas.List.{map_push, length-append}
use Rattle.std.proofs.lemmas.List.Sums.{sum_by-append, sum_by-cons, fold-append}
use Rattle.mse_base.specs.Time.{IsTick}
use Rattle.mse_base.specs.Bridging.{ranges_with, bridged_ranges, is_near, is_near_any}
use Rattle.mse_base.proofs.JoinedSpans.{ranges_bridged, times_bridged}
use Rattle.mse_base.proofs.Extended.{same_near}
use Rattle.track_store.specs.declared.store.Stored.{Stored}
use Rattle.track_store.specs.Frames.{HasFrameInvariants, IsTimed, IsAscending, bytes_of, interval, intervals, ranges_of, frames_left}
use Rattle.track_store.specs.Sound.{HasPredecessor, IsChained, IsSuccessor, last_serial}
use Rattle.track_store.proofs.Soundness.{chained_push, chained-cleared}
use Rattle.track_store.proofs.ClearedLists.{kept_push, kept-cleared, each-cleared, each-push}
use Rattle.track_index.specs.declared.entry.OrderEntry.{OrderEntry}
use Rattle.track_index.specs.Order.{entries_with, entries_with_all, entry_of, span_of, presentation_order}
use Rattle.track_index.specs.Repair.{AreTimed}
use Rattle.track_index.specs.Syncs.{IsToldBy, AreSyncsOf}
use Rattle.track_index.specs.Indexed.{FrameIndex, IsIndexed}
use Rattle.track_index.proofs.EntryOrder.{each_to_ordered, ordered_push}

-- ---- one more frame

join_push : (gap : ℤ) (fs : List Stored) (x : Stored) → ranges_of gap (fs ++ x ∷ []) ≡ ranges_with gap (ranges_of gap fs) (interval x)
join_push gap fs x = ap (bridged_ranges gap) (map_push interval fs x) ∙ fold-append (ranges_with gap) [] (intervals fs) (interval x ∷ [])

before_last : (before : Option ℕ) (serial : ℕ) (f : Stored) (fs : List Stored) → AllByRecursion (λ g. f.serial < g.serial) fs → AllByRecursion (λ g. g.serial < serial) fs → f.serial + 1 ≡ serial → IsSuccessor (last_serial before (f ∷ fs)) serial
before_last before serial f [] up low e = e
before_last before serial f (g ∷ fs) up low e = let a = up.0 in let b = low.0 in absurd (omega arith)

-- a frame whose predecessor is held, and all others are below it, comes behind the last
behind_last : (before : Option ℕ) (serial : ℕ) (fs : List Stored) → IsAscending fs → AllByRecursion (λ g. g.serial < serial) fs → HasPredecessor serial fs → IsSuccessor (last_serial before fs) serial
behind_last before serial [] up low h = absurd h
behind_last before serial (f ∷ fs) up low h = elim h as (λ _. IsSuccessor (last_serial before (f ∷ fs)) serial) [
  | inl own ↦ before_last before serial f fs up.0 low.1 own
  | inr rest ↦ behind_last (Some f.serial) serial fs up.1 low.1 rest
]

chain_link : (fs : List Stored) (x : Stored) (b : Bool) → x.frame.sync ≡ b → IsAscending fs → AllByRecursion (λ f. f.serial < x.serial) fs → (x.frame.sync ≡ false → HasPredecessor x.serial fs) → (x.frame.sync ≡ true) ⊎ IsSuccessor (last_serial None fs) x.serial
chain_link fs x true e up l link = inl e
chain_link fs x false e up l link = inr (behind_last None x.serial fs up l (link e))

pub indexed_added : (fs hs : List Stored) (old new : FrameIndex) (gap : ℤ) (room next : ℕ) (x : Stored) → IsIndexed fs old gap room → length fs + 1 ≤ next → AllByRecursion (λ f. f.serial < x.serial) fs → IsTimed x → bytes_of fs + length x.frame.payload < 2 ^ 62 → (x.frame.sync ≡ false → HasPredecessor x.serial fs) → AreSyncsOf (fs ++ x ∷ []) new.syncs → hs ≡ fs ++ x ∷ [] → new.order ≡ entries_with (entry_of x) old.order → new.ranges ≡ ranges_with gap old.ranges (interval x) → new.total ≡ old.total + length x.frame.payload → IsIndexed hs new gap next
indexed_added fs hs old new gap room next x h r l t s link syncs eh ep es en = record {
  kept = subst (λ (zs : List Stored). HasFrameInvariants zs) (sym eh) (kept_push fs x h.kept l s);
  chained = subst (λ (zs : List Stored). IsChained None zs) (sym eh) (chained_push None fs x h.chained (chain_link fs x x.frame.sync refl h.kept.ascending l link));
  timed = subst (λ (zs : List Stored). AllByRecursion IsTimed zs) (sym eh) (each-push IsTimed fs x h.timed t);
  gap_from_zero = h.gap_from_zero;
  in_order = ep ∙ ap (entries_with (entry_of x)) h.in_order ∙ sym (ordered_push fs x) ∙ ap presentation_order (sym eh);
  syncs = subst (λ (zs : List Stored). AreSyncsOf zs new.syncs) (sym eh) syncs;
  joined = es ∙ ap (λ qs. ranges_with gap qs (interval x)) h.joined ∙ sym (join_push gap fs x) ∙ ap (ranges_of gap) (sym eh);
  summed = let a = h.summed in let b = sum_by-append (λ f. length f.frame.payload) fs (x ∷ []) in let c = sum_by-cons (λ f. length f.frame.payload) x [] in let d : bytes_of [] ≡ 0 = refl in let e = ap bytes_of eh in omega arith;
  roomy = let a = length-append fs (x ∷ []) in let b : length (x ∷ []) ≡ 1 = refl in let e = ap length eh in omega arith;
}

-- ---- the ranges by the order

or_turn : (a b c : Bool) → ((a || b) || c) ≡ (b || (a || c))
or_turn true true c = refl
or_turn true false c = refl
or_turn false b c = refl

or_swap : (a b c : Bool) → (a || (b || c)) ≡ (b || (a || c))
or_swap true true c = refl
or_swap true false c = refl
or_swap false b c = refl

near_cond : (gap t : ℤ) (e o : OrderEntry) (os : List OrderEntry) (b : Bool) → is_near_any gap t (map span_of (entries_with e os)) ≡ (is_near gap t (span_of e) || is_near_any gap t (map span_of os)) → is_near_any gap t (map span_of (cond b (e ∷ o ∷ os) (o ∷ entries_with e os))) ≡ (is_near gap t (span_of e) || (is_near gap t (span_of o) || is_near_any gap t (map span_of os)))
near_cond gap t e o os true h = refl
near_cond gap t e o os false h = ap (λ b. is_near gap t (span_of o) || b) h ∙ or_swap (is_near gap t (span_of o)) (is_near gap t (span_of e)) (is_near_any gap t (map span_of os))

near_put : (gap t : ℤ) (e : OrderEntry) (os : List OrderEntry) → is_near_any gap t (map span_of (entries_with e os)) ≡ (is_near gap t (span_of e) || is_near_any gap t (map span_of os))
near_put gap t e [] = refl
near_put gap t e (o ∷ os) = near_cond gap t e o os (int_lt e.pts o.pts) (near_put gap t e os)

or_none : (a : Bool) → a ≡ (a || false)
or_none true = refl
or_none false = refl

near_all : (gap t : ℤ) (os : List OrderEntry) (fs : List Stored) → is_near_any gap t (map span_of (entries_with_all os fs)) ≡ (is_near_any gap t (map span_of os) || is_near_any gap t (intervals fs))
near_all gap t os [] = or_none (is_near_any gap t (map span_of os))
near_all gap t os (f ∷ fs) = near_all gap t (entries_with (entry_of f) os) fs ∙ ap (λ b. b || is_near_any gap t (intervals fs)) (near_put gap t (entry_of f) os) ∙ or_turn (is_near gap t (interval f)) (is_near_any gap t (map span_of os)) (is_near_any gap t (intervals fs))

pub near_ordered : (gap t : ℤ) (fs : List Stored) → is_near_any gap t (map span_of (presentation_order fs)) ≡ is_near_any gap t (intervals fs)
near_ordered gap t fs = near_all gap t [] fs

pub ranges_by_order : (gap : ℤ) (fs : List Stored) → pos 0 ≤ℤ gap → bridged_ranges gap (map span_of (presentation_order fs)) ≡ ranges_of gap fs
ranges_by_order gap fs g = same_near gap _ _ g (ranges_bridged gap (map span_of (presentation_order fs)) g) (ranges_bridged gap (intervals fs) g) (λ t. times_bridged gap t (map span_of (presentation_order fs)) g ∙ near_ordered gap t fs ∙ sym (times_bridged gap t (intervals fs) g))

each_second : (fs : List Stored) → AllByRecursion IsTimed fs → AllByRecursion (λ f. IsTick (f.frame.pts +ℤ f.frame.dur)) fs
each_second [] h = tt
each_second (f ∷ fs) h = let one = h.0 in (one.1, each_second fs h.1)

-- the times of the entries
pub timed_entries : (fs : List Stored) (os : List OrderEntry) → os ≡ presentation_order fs → AllByRecursion IsTimed fs → AreTimed os
timed_entries fs os o h = subst (λ (ps : List OrderEntry). AreTimed ps) (sym o) (each_to_ordered (λ e. IsTick (e.pts +ℤ e.dur)) fs (each_second fs h))

length_pick : (b : Bool) (f : Stored) (xs ys : List Stored) (n : ℕ) → length xs ≤ n → length ys ≤ n → length (cond b xs (f ∷ ys)) ≤ suc n
length_pick true f xs ys n p q = omega arith
length_pick false f xs ys n p q = omega arith

-- what the store keeps where frames went
pub indexed_removed : (named : Stored → Bool) (fs gs : List Stored) (old new : FrameIndex) (gap : ℤ) (room next : ℕ) → IsIndexed fs old gap room → room ≤ next → length gs ≤ length fs → gs ≡ frames_left false named fs → new.syncs ≡ old.syncs → new.order ≡ presentation_order gs → new.ranges ≡ bridged_ranges gap (map span_of new.order) → new.total ≡ bytes_of gs → IsIndexed gs new gap next
indexed_removed named fs gs old new gap room next h n m g k o s l = record {
  kept = subst (λ (zs : List Stored). HasFrameInvariants zs) (sym g) (kept-cleared false named fs h.kept);
  chained = subst (λ (zs : List Stored). IsChained None zs) (sym g) (chained-cleared named false None None fs (λ e. refl) h.chained);
  timed = subst (λ (zs : List Stored). AllByRecursion IsTimed zs) (sym g) (each-cleared IsTimed false named fs h.timed);
  gap_from_zero = h.gap_from_zero;
  in_order = o;
  syncs = rw k (record {
    ascending = h.syncs.ascending;
    telling = subst (λ (zs : List Stored). AllByRecursion (IsToldBy old.syncs) zs) (sym g) (each-cleared (IsToldBy old.syncs) false named fs h.syncs.telling);
  });
  joined = s ∙ ap (λ zs. bridged_ranges gap (map span_of zs)) o ∙ ranges_by_order gap gs h.gap_from_zero;
  summed = l;
  roomy = let c = h.roomy in omega arith;
}
