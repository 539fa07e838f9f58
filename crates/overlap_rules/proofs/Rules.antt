-- What becomes of an overlapped frame, and of those that are removed.
use Rattle.std.proofs.Common.{◌≡◌, ℕ, ◌-◌, ℤ, pos, ◌+ℤ◌, ◌-ℤ◌, ◌≤ℤ◌, Bool, true, false, cond, ◌&&◌, List, [], ◌∷◌, refl, sym, ap, arith, Option, Some, None, int_le, int_lt}
use Rattle.std.proofs.lemmas.Int.{ints}
use Rattle.std.specs.Ordering.{int_eq}
use Rattle.std.specs.List.{AllByRecursion}
use Rattle.mse_base.specs.Time.{IsTick}
use Rattle.mse_base.specs.declared.track.Kind.{Kind}
use Rattle.mse_base.specs.declared.track.Kind.TheVariants.{Video, Audio, Other}
use Rattle.mse_base.specs.declared.ticks.Moment.TheVariants.{At}
use Rattle.track_store.specs.declared.store.Stored.{Stored}
use Rattle.track_store.specs.Frames.{frames_without, is_in_frame, has_serial, is_between}
use Rattle.track_store.proofs.ClearedLists.{cleared-cleared, cleared-same}
use Rattle.overlap_rules.specs.Overlap.{rule_for, frames_left_by_rule, frames_left_by_overlap, is_removed_from, is_removed, overlapped_after, track_with_room}
use Rattle.overlap_rules.specs.Steps.{IsApplicable, frames_after_rule, frames_after_overlap, track_after_overlap, track_without_older}
use Rattle.track_store.specs.State.{TrackState}
use Rattle.overlap_rules.specs.declared.room.OverlapRule.{OverlapRule}
use Rattle.overlap_rules.specs.declared.room.OverlapRule.TheVariants.{Remove, Shorten, Keep}

can_either : (b : Bool) (x y : OverlapRule) (f : Stored) → IsApplicable x f → IsApplicable y f → IsApplicable (cond b x y) f
can_either true x y f p q = p
can_either false x y f p q = q

part_fits : (p s d : ℤ) → (int_le s p && int_lt p (s +ℤ d)) ≡ true → (pos 0 ≤ℤ (p -ℤ s)) × ((p -ℤ s) ≤ℤ d)
part_fits p s d h = grind (arith, ints)

-- the part of a frame before a time that falls within it has a duration in range
pub part_is_tick : (p s d : ℤ) → (int_le s p && int_lt p (s +ℤ d)) ≡ true → IsTick d → IsTick (p -ℤ s)
part_is_tick p s d h t = let both = part_fits p s d h in let low = both.0 in let less = both.1 in let high = t.1 in (omega (arith, ints), omega (arith, ints))

pub applicable : (kind : Kind) (p : ℤ) (f : Stored) → is_in_frame p f ≡ true → IsApplicable (rule_for kind p f) f
applicable Video p f h = can_either (int_lt p (f.frame.pts +ℤ pos 141120)) Remove Keep f tt tt
applicable Audio p f h = can_either (int_eq f.frame.pts p) Remove (Shorten (p -ℤ f.frame.pts)) f tt (part_fits p f.frame.pts f.frame.dur h)
applicable Other p f h = tt

left_ruled : (rule : OverlapRule) (serial : ℕ) (removed : Stored → Bool) (fs : List Stored) → frames_without removed (frames_after_rule rule serial fs) ≡ frames_left_by_rule rule serial removed fs
left_ruled Remove serial removed fs = cleared-cleared false false (has_serial serial) removed fs
left_ruled (Shorten dur) serial removed fs = refl
left_ruled Keep serial removed fs = refl

left-applied : (kind : Kind) (p : ℤ) (hit : Option Stored) (removed : Stored → Bool) (fs : List Stored) → frames_without removed (frames_after_overlap kind p hit fs) ≡ frames_left_by_overlap kind p hit removed fs
left-applied kind p None removed fs = refl
left-applied kind p (Some g) removed fs = left_ruled (rule_for kind p g) g.serial removed fs

and_true : (b : Bool) → (b && true) ≡ b
and_true true = refl
and_true false = refl

-- where there is no group yet, a frame is older wherever it begins in the time
all_older : (from e : ℤ) (f : Stored) → is_between from (At e) f ≡ is_removed_from (Some from) e None f
all_older from e f = sym (and_true (int_le from f.frame.pts && int_lt f.frame.pts e))

each_older : (from e : ℤ) (fs : List Stored) → AllByRecursion (λ f. is_between from (At e) f ≡ is_removed_from (Some from) e None f) fs
each_older from e [] = tt
each_older from e (f ∷ fs) = (all_older from e f, each_older from e fs)

pub older_of_none : (from e : ℤ) (fs : List Stored) → frames_without (is_between from (At e)) fs ≡ frames_without (is_removed_from (Some from) e None) fs
older_of_none from e fs = cleared-same false _ _ fs (each_older from e fs)

-- the two steps are the one removal of the definition
pub steps_are_one : (p e : ℤ) (t : TrackState) → track_without_older p e (track_after_overlap p t) ≡ track_with_room p e t
steps_are_one p e t = ap (λ fs. record t { frames = fs }) (left-applied t.kind p (overlapped_after t.marks.last_decode p t.frames) (is_removed t.marks p e) t.frames)
