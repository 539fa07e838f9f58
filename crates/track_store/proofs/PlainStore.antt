-- What a plain store keeps.
use Rattle.std.proofs.Common.{◌≡◌, ◌∙◌, ℕ, zero, suc, ℤ, pos, ◌+◌, ◌<◌, ◌≤◌, ◌^◌, ◌+ℤ◌, ◌≤ℤ◌, List, [], ◌∷◌, ◌++◌, length, set, Bool, false, refl, sym, ap, subst, arith, slice_get, Some}
use Rattle.std.specs.List.{AllByRecursion}
use Rattle.std.proofs.lemmas.Int.{ints}
use Rattle.std.proofs.lemmas.List.{map_push, length-map, length-append}
use Rattle.std.proofs.lemmas.List.Sums.{fold-append}
use Rattle.mse_base.specs.Time.{IsTick}
use Rattle.mse_base.specs.declared.span.Span.{Span}
use Rattle.mse_base.specs.Bridging.{IsRanges, ranges_with, bridged_ranges}
use Rattle.mse_base.proofs.JoinedSpans.{ranges_bridged, length_bridged}
use Rattle.track_store.specs.declared.store.Stored.{Stored}
use Rattle.track_store.specs.Frames.{IsTimed, bytes_of, interval, intervals, ranges_of, frames_left, with_dur}
use Rattle.track_store.specs.Listed.{IsPlainStore}
use Rattle.track_store.proofs.ClearedLists.{kept_push, kept-cleared, kept-shortened, each-cleared, each-push, shortened_at}

join_push : (gap : ℤ) (fs : List Stored) (x : Stored) → ranges_of gap (fs ++ x ∷ []) ≡ ranges_with gap (ranges_of gap fs) (interval x)
join_push gap fs x = ap (bridged_ranges gap) (map_push interval fs x) ∙ fold-append (ranges_with gap) [] (intervals fs) (interval x ∷ [])

-- there are no more ranges than frames
pub few_ranges : (gap : ℤ) (fs : List Stored) (rs : List Span) → rs ≡ ranges_of gap fs → length rs ≤ length fs
few_ranges gap fs rs e =
    let a = ap length e in
    let b = length_bridged gap (intervals fs) in
    let c = length-map fs interval in
    omega arith

-- the ranges of frames are ranges with the gap
pub are_ranges : (gap : ℤ) (fs : List Stored) (rs : List Span) → pos 0 ≤ℤ gap → rs ≡ ranges_of gap fs → IsRanges gap rs
are_ranges gap fs rs g e = subst (λ (ps : List Span). IsRanges gap ps) (sym e) (ranges_bridged gap (intervals fs) g)

-- one more frame
pub listed_push : (fs gs : List Stored) (rs ps : List Span) (gap : ℤ) (room next : ℕ) (x : Stored) → IsPlainStore fs rs gap room → gs ≡ fs ++ x ∷ [] → ps ≡ ranges_with gap rs (interval x) → length fs + 1 ≤ next → AllByRecursion (λ f. f.serial < x.serial) fs → IsTimed x → bytes_of fs + length x.frame.payload < 2 ^ 62 → IsPlainStore gs ps gap next
listed_push fs gs rs ps gap room next x h e joined r l t s = record {
  kept = rw e (kept_push fs x h.kept l s);
  timed = rw e (each-push IsTimed fs x h.timed t);
  gap_from_zero = h.gap_from_zero;
  joined = joined ∙ ap (λ qs. ranges_with gap qs (interval x)) h.joined ∙ sym (join_push gap fs x) ∙ ap (ranges_of gap) (sym e);
  roomy = let a = length-append fs (x ∷ []) in let b : length (x ∷ []) ≡ 1 = refl in let c = ap length e in omega arith;
}

-- fewer frames
pub listed_cleared : (named : Stored → Bool) (fs gs : List Stored) (rs ps : List Span) (gap : ℤ) (room next : ℕ) → IsPlainStore fs rs gap room → gs ≡ frames_left false named fs → length gs ≤ length fs → ps ≡ ranges_of gap gs → room ≤ next → IsPlainStore gs ps gap next
listed_cleared named fs gs rs ps gap room next h e few joined more = record {
  kept = rw e (kept-cleared false named fs h.kept);
  timed = rw e (each-cleared IsTimed false named fs h.timed);
  gap_from_zero = h.gap_from_zero;
  joined = joined;
  roomy = let low = h.roomy in omega arith;
}

each-set : (P : Stored → Type 0) (fs : List Stored) (i : ℕ) (x : Stored) → AllByRecursion P fs → P x → AllByRecursion P (set fs i x)
each-set P [] i x h p = h
each-set P (f ∷ fs) zero x h p = (p, h.1)
each-set P (f ∷ fs) (suc i) x h p = (h.0, each-set P fs i x h.1 p)

each_at : (P : Stored → Type 0) (fs : List Stored) (i : ℕ) (x : Stored) → AllByRecursion P fs → slice_get fs i ≡ Some x → P x
each_at P [] i x h e = absurd cc
each_at P (f ∷ fs) zero x h e = let same : f ≡ x = cc in subst P same h.0
each_at P (f ∷ fs) (suc i) x h e = each_at P fs i x h.1 e

length-set_at : (fs : List Stored) (i : ℕ) (x : Stored) → length (set fs i x) ≡ length fs
length-set_at [] i x = refl
length-set_at (f ∷ fs) zero x = refl
length-set_at (f ∷ fs) (suc i) x = ap suc (length-set_at fs i x)

still_ticks : (p d e : ℤ) → IsTick p → IsTick (p +ℤ d) → pos 0 ≤ℤ e → e ≤ℤ d → IsTick (p +ℤ e)
still_ticks p d e a b low less = let x = a.0 in let y = b.1 in (omega (arith, ints), omega (arith, ints))

-- a frame that is cut still ends at a time
pub timed_cut : (fs : List Stored) (i : ℕ) (x : Stored) (dur : ℤ) → AllByRecursion IsTimed fs → slice_get fs i ≡ Some x → IsTick x.frame.pts → pos 0 ≤ℤ dur → dur ≤ℤ x.frame.dur → AllByRecursion IsTimed (set fs i (with_dur dur x))
timed_cut fs i x dur h at begins low less = let own = each_at IsTimed fs i x h at in each-set IsTimed fs i (with_dur dur x) h (low, still_ticks x.frame.pts x.frame.dur dur begins own.1 low less)

-- a frame that is cut
pub listed_cut : (fs : List Stored) (rs ps : List Span) (gap dur : ℤ) (room next : ℕ) (i : ℕ) (x : Stored) → IsPlainStore fs rs gap room → slice_get fs i ≡ Some x → AllByRecursion IsTimed (set fs i (with_dur dur x)) → ps ≡ ranges_of gap (set fs i (with_dur dur x)) → room ≤ next → IsPlainStore (set fs i (with_dur dur x)) ps gap next
listed_cut fs rs ps gap dur room next i x h at timed joined more = record {
  kept = rw (shortened_at fs i x dur h.kept.ascending at) (kept-shortened x.serial dur fs h.kept);
  timed = timed;
  gap_from_zero = h.gap_from_zero;
  joined = joined;
  roomy = let low = h.roomy in let same = length-set_at fs i (with_dur dur x) in omega arith;
}
