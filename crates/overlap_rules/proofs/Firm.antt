-- What making room keeps of a track buffer: it stays sound.
use Rattle.std.proofs.Common.{◌≡◌, ◌<◌, ◌≤◌, ◌+◌, ◌+ℤ◌, ◌-ℤ◌, ℕ, ℤ, pos, ◌≤ℤ◌, Bool, true, false, cond, ◌&&◌, ◌||◌, List, [], ◌∷◌, refl, sym, subst, arith, Option, Some, None, nat_lt, int_le, int_lt, filter}
use Rattle.std.proofs.lemmas.Int.{ints}
use Rattle.std.proofs.lemmas.Bool.Decides.{nat_tests}
use Rattle.std.specs.Option.{IfSome}
use Rattle.std.specs.List.{AllByRecursion}
use Rattle.mse_base.specs.declared.track.Kind.{Kind}
use Rattle.mse_base.specs.declared.track.Kind.TheVariants.{Video, Audio, Other}
use Rattle.track_store.specs.declared.store.Stored.{Stored}
use Rattle.track_store.specs.Frames.{frames_with_dur, with_dur, has_serial, is_in_frame, overlapped, bytes_of, IsAscending}
use Rattle.track_store.specs.State.{TrackState}
use Rattle.track_store.specs.Sound.{IsSound, IsSuccessor, IsChained, last_serial, IsNotNegative, AreTogether}
use Rattle.track_store.proofs.ClearedLists.{each-cleared, ascending-cleared, used-cleared, pick-each, ascending-shortened, used-shortened}
use Rattle.track_store.proofs.Soundness.{chained-cleared, chained-shortened, last-cleared}
use Rattle.track_store.proofs.LastOverlap.{overlapped-covers, fold-each}
use Rattle.overlap_rules.specs.declared.room.OverlapRule.{OverlapRule}
use Rattle.overlap_rules.specs.declared.room.OverlapRule.TheVariants.{Remove, Shorten, Keep}
use Rattle.overlap_rules.specs.Overlap.{rule_for, overlapped_after, removal_start, is_removed_from, is_removed, frames_left_by_rule, frames_left_by_overlap, track_with_room}

-- what removals and cuts keep of a track's frames
pub record HasRemovalInvariants (received : ℕ) (first : Option ℕ) (fs : List Stored) : Type 0 where
  pub chained : IsChained None fs
  pub ascending : IsAscending fs
  pub below : AllByRecursion (λ f. f.serial < received) fs
  pub not_negative : AllByRecursion IsNotNegative fs
  pub group_sync : IfSome first (λ n. AllByRecursion (λ f. f.serial ≡ n → f.frame.sync ≡ true) fs)

-- ---- the overlapped frame is one of the list

-- each frame of the list that has its serial is the frame itself
abbrev pub IsOwn : List Stored → Stored → Type 0
IsOwn fs g = AllByRecursion (λ f. f.serial ≡ g.serial → f ≡ g) fs

later_own : (f : Stored) (fs : List Stored) → AllByRecursion (λ g. f.serial < g.serial) fs → AllByRecursion (λ g. g.serial ≡ f.serial → g ≡ f) fs
later_own f [] h = h
later_own f (g ∷ fs) h = ((λ e. absurd (let less = h.0 in omega arith)), later_own f fs h.1)

each_more : (f : Stored) (fs gs : List Stored) → AllByRecursion (λ g. f.serial < g.serial) gs → AllByRecursion (IsOwn fs) gs → AllByRecursion (IsOwn (f ∷ fs)) gs
each_more f fs [] less h = h
each_more f fs (g ∷ gs) less h = (((λ e. absurd (let low = less.0 in omega arith)), h.0), each_more f fs gs less.1 h.1)

each-own : (fs : List Stored) → IsAscending fs → AllByRecursion (IsOwn fs) fs
each-own [] h = h
each-own (f ∷ fs) h = (((λ e. refl), later_own f fs h.0), each_more f fs fs h.0 (each-own fs h.1))

filter_step : (P : Stored → Type 0) (b : Bool) (f : Stored) (fs : List Stored) → P f → AllByRecursion P fs → AllByRecursion P (cond b (f ∷ fs) fs)
filter_step P true f fs p h = (p, h)
filter_step P false f fs p h = h

filter-each : (P : Stored → Type 0) (p : Stored → Bool) (fs : List Stored) → AllByRecursion P fs → AllByRecursion P (filter p fs)
filter-each P p [] h = h
filter-each P p (f ∷ fs) h = filter_step P (p f) f (filter p fs) h.0 (filter-each P p fs h.1)

overlapped-each : (P : Stored → Type 0) (p : ℤ) (fs : List Stored) → AllByRecursion P fs → IfSome (overlapped p fs) P
overlapped-each P p fs h = fold-each P None (filter (is_in_frame p) fs) tt (filter-each P (is_in_frame p) fs h)

-- what is known of an overlapped frame
pub record IsHit (p : ℤ) (fs : List Stored) (g : Stored) : Type 0 where
  pub over : is_in_frame p g ≡ true
  pub not_negative : IsNotNegative g
  pub own : IsOwn fs g

hit_of : (p : ℤ) (fs : List Stored) (o : Option Stored) → IfSome o (λ g. is_in_frame p g ≡ true) → IfSome o IsNotNegative → IfSome o (IsOwn fs) → IfSome o (IsHit p fs)
hit_of p fs None a b d = tt
hit_of p fs (Some g) a b d = record { over = a; not_negative = b; own = d }

hit_is : (decode : Option ℤ) (p : ℤ) (received : ℕ) (first : Option ℕ) (fs : List Stored) → HasRemovalInvariants received first fs → IfSome (overlapped_after decode p fs) (IsHit p fs)
hit_is None p received first fs h = hit_of p fs (overlapped p fs) (overlapped-covers p fs) (overlapped-each IsNotNegative p fs h.not_negative) (overlapped-each (IsOwn fs) p fs (each-own fs h.ascending))
hit_is (Some last) p received first fs h = tt

-- ---- what holds of each frame holds of those that are left

own_case : (P : Stored → Type 0) (g f : Stored) (dur : ℤ) (b : Bool) → has_serial g.serial f ≡ b → (f.serial ≡ g.serial → f ≡ g) → P (with_dur dur g) → P f → P (cond b (with_dur dur f) f)
own_case P g f dur true e own p h = let same : f.serial ≡ g.serial = grind (arith, nat_tests) in subst (λ x. P (with_dur dur x)) (sym (own same)) p
own_case P g f dur false e own p h = h

shortened-own : (P : Stored → Type 0) (g : Stored) (dur : ℤ) (fs : List Stored) → IsOwn fs g → P (with_dur dur g) → AllByRecursion P fs → AllByRecursion P (frames_with_dur g.serial dur fs)
shortened-own P g dur [] own p h = h
shortened-own P g dur (f ∷ fs) own p h = (own_case P g f dur (has_serial g.serial f) refl own.0 p h.0, shortened-own P g dur fs own.1 p h.1)

-- the overlapped frame where it ends at the new frame's presentation timestamp
abbrev pub cut_at : ℤ → Stored → Stored
cut_at p g = with_dur (p -ℤ g.frame.pts) g

rule_case : (R : OverlapRule → Type 0) (b : Bool) (x y : OverlapRule) → R x → R y → R (cond b x y)
rule_case R true x y p q = p
rule_case R false x y p q = q

-- a rule removes, keeps or cuts at the new frame's presentation timestamp
pub by_rule : (R : OverlapRule → Type 0) (kind : Kind) (p : ℤ) (g : Stored) → R Remove → R (Shorten (p -ℤ g.frame.pts)) → R Keep → R (rule_for kind p g)
by_rule R Video p g a b c = rule_case R (int_lt p (g.frame.pts +ℤ pos 141120)) Remove Keep a c
by_rule R Audio p g a b c = rule_case R _ Remove (Shorten (p -ℤ g.frame.pts)) a b
by_rule R Other p g a b c = c

left-each : (P : Stored → Type 0) (kind : Kind) (p : ℤ) (hit : Option Stored) (removed : Stored → Bool) (fs : List Stored) → IfSome hit (IsOwn fs) → IfSome hit (λ g. P (cut_at p g)) → AllByRecursion P fs → AllByRecursion P (frames_left_by_overlap kind p hit removed fs)
left-each P kind p None removed fs own cut h = each-cleared P false removed fs h
left-each P kind p (Some g) removed fs own cut h =
    by_rule (λ r. AllByRecursion P (frames_left_by_rule r g.serial removed fs)) kind p g
    (each-cleared P false (λ f. has_serial g.serial f || removed f) fs h)
    (each-cleared P false removed (frames_with_dur g.serial (p -ℤ g.frame.pts) fs) (shortened-own P g (p -ℤ g.frame.pts) fs own cut h))
    (each-cleared P false removed fs h)

shortened-stable : (P : Stored → Type 0) (serial : ℕ) (dur : ℤ) (fs : List Stored) → ((f : Stored) → P f → P (with_dur dur f)) → AllByRecursion P fs → AllByRecursion P (frames_with_dur serial dur fs)
shortened-stable P serial dur [] keep h = h
shortened-stable P serial dur (f ∷ fs) keep h = (pick-each P (has_serial serial f) (with_dur dur f) f (keep f h.0) h.0, shortened-stable P serial dur fs keep h.1)

left-stable : (P : Stored → Type 0) (kind : Kind) (p : ℤ) (hit : Option Stored) (removed : Stored → Bool) (fs : List Stored) → ((dur : ℤ) (f : Stored) → P f → P (with_dur dur f)) → AllByRecursion P fs → AllByRecursion P (frames_left_by_overlap kind p hit removed fs)
left-stable P kind p None removed fs keep h = each-cleared P false removed fs h
left-stable P kind p (Some g) removed fs keep h =
    by_rule (λ r. AllByRecursion P (frames_left_by_rule r g.serial removed fs)) kind p g
    (each-cleared P false (λ f. has_serial g.serial f || removed f) fs h)
    (each-cleared P false removed (frames_with_dur g.serial (p -ℤ g.frame.pts) fs) (shortened-stable P g.serial (p -ℤ g.frame.pts) fs (keep (p -ℤ g.frame.pts)) h))
    (each-cleared P false removed fs h)

if_hit : (o : Option Stored) (P Q : Stored → Type 0) → ((g : Stored) → P g → Q g) → IfSome o P → IfSome o Q
if_hit None P Q f h = tt
if_hit (Some g) P Q f h = f g h

forward_cut : (p : ℤ) (fs : List Stored) (g : Stored) → IsHit p fs g → IsNotNegative (cut_at p g)
forward_cut p fs g h = let over = h.over in let begins = h.not_negative.0 in (begins, grind (arith, ints))

cut_end : (p s : ℤ) → s +ℤ (p -ℤ s) ≡ p
cut_end p s = omega (arith, ints)

within : (p s d : ℤ) → (int_le s p && int_lt p (s +ℤ d)) ≡ true → (s ≤ℤ p) × (p ≤ℤ (s +ℤ d))
within p s d h = (grind (arith, ints), grind (arith, ints))

-- ---- the list stays firm

if_some : (o : Option ℕ) (P Q : ℕ → Type 0) → ((n : ℕ) → P n → Q n) → IfSome o P → IfSome o Q
if_some None P Q f h = h
if_some (Some n) P Q f h = f n h

chained-left : (kind : Kind) (p : ℤ) (hit : Option Stored) (removed : Stored → Bool) (fs : List Stored) → IsChained None fs → IsChained None (frames_left_by_overlap kind p hit removed fs)
chained-left kind p None removed fs h = chained-cleared removed false None None fs (λ _. refl) h
chained-left kind p (Some g) removed fs h =
    by_rule (λ r. IsChained None (frames_left_by_rule r g.serial removed fs)) kind p g
    (chained-cleared (λ f. has_serial g.serial f || removed f) false None None fs (λ _. refl) h)
    (chained-cleared removed false None None (frames_with_dur g.serial (p -ℤ g.frame.pts) fs) (λ _. refl) (chained-shortened g.serial (p -ℤ g.frame.pts) None fs h))
    (chained-cleared removed false None None fs (λ _. refl) h)

ascending-left : (kind : Kind) (p : ℤ) (hit : Option Stored) (removed : Stored → Bool) (fs : List Stored) → IsAscending fs → IsAscending (frames_left_by_overlap kind p hit removed fs)
ascending-left kind p None removed fs h = ascending-cleared false removed fs h
ascending-left kind p (Some g) removed fs h =
    by_rule (λ r. IsAscending (frames_left_by_rule r g.serial removed fs)) kind p g
    (ascending-cleared false (λ f. has_serial g.serial f || removed f) fs h)
    (ascending-cleared false removed (frames_with_dur g.serial (p -ℤ g.frame.pts) fs) (ascending-shortened g.serial (p -ℤ g.frame.pts) fs h))
    (ascending-cleared false removed fs h)

firm-left : (received : ℕ) (first : Option ℕ) (kind : Kind) (p : ℤ) (hit : Option Stored) (removed : Stored → Bool) (fs : List Stored) → IfSome hit (IsHit p fs) → HasRemovalInvariants received first fs → HasRemovalInvariants received first (frames_left_by_overlap kind p hit removed fs)
firm-left received first kind p hit removed fs is h =
    let own = if_hit hit (IsHit p fs) (IsOwn fs) (λ g k. k.own) is in
    record {
      chained = chained-left kind p hit removed fs h.chained;
      ascending = ascending-left kind p hit removed fs h.ascending;
      below = left-stable (λ f. f.serial < received) kind p hit removed fs (λ dur f k. k) h.below;
      not_negative = left-each IsNotNegative kind p hit removed fs own (if_hit hit (IsHit p fs) (λ g. IsNotNegative (cut_at p g)) (forward_cut p fs) is) h.not_negative;
      group_sync = if_some first (λ n. AllByRecursion (λ f. f.serial ≡ n → f.frame.sync ≡ true) fs) (λ n. AllByRecursion (λ f. f.serial ≡ n → f.frame.sync ≡ true) (frames_left_by_overlap kind p hit removed fs)) (λ n k. left-stable (λ f. f.serial ≡ n → f.frame.sync ≡ true) kind p hit removed fs (λ dur f j. j) k) h.group_sync;
    }

firm_of : (t : TrackState) → IsSound t → HasRemovalInvariants t.marks.received t.marks.group_first t.frames
firm_of t h = record { chained = h.chained; ascending = h.ascending; below = h.below; not_negative = h.not_negative; group_sync = h.group_sync }

-- the frames that are left
pub firm_room : (p e : ℤ) (t : TrackState) → IsSound t → HasRemovalInvariants t.marks.received t.marks.group_first (track_with_room p e t).frames
firm_room p e t h = let firm = firm_of t h in firm-left _ _ t.kind p (overlapped_after t.marks.last_decode p t.frames) (is_removed t.marks p e) t.frames (hit_is t.marks.last_decode p t.marks.received t.marks.group_first t.frames firm) firm

used-rule : (rule : OverlapRule) (serial : ℕ) (removed : Stored → Bool) (fs : List Stored) → bytes_of (frames_left_by_rule rule serial removed fs) ≤ bytes_of fs
used-rule Remove serial removed fs = used-cleared false (λ f. has_serial serial f || removed f) fs
used-rule (Shorten dur) serial removed fs = let less = used-cleared false removed (frames_with_dur serial dur fs) in let same = used-shortened serial dur fs in omega arith
used-rule Keep serial removed fs = used-cleared false removed fs

used-hit : (kind : Kind) (p : ℤ) (hit : Option Stored) (removed : Stored → Bool) (fs : List Stored) → bytes_of (frames_left_by_overlap kind p hit removed fs) ≤ bytes_of fs
used-hit kind p None removed fs = used-cleared false removed fs
used-hit kind p (Some g) removed fs = used-rule (rule_for kind p g) g.serial removed fs

pub used_room : (p e : ℤ) (t : TrackState) → bytes_of (track_with_room p e t).frames ≤ bytes_of t.frames
used_room p e t = used-hit t.kind p (overlapped_after t.marks.last_decode p t.frames) (is_removed t.marks p e) t.frames

-- no frame of the group is removed
and_no : (a b : Bool) → b ≡ false → (a && b) ≡ false
and_no true b e = e
and_no false b e = refl

spared : (from : Option ℤ) (e : ℤ) (n : ℕ) (fs : List Stored) → AllByRecursion (λ f. n ≤ f.serial → is_removed_from from e (Some n) f ≡ false) fs
spared from e n [] = tt
spared None e n (f ∷ fs) = ((λ _. refl), spared None e n fs)
spared (Some from) e n (f ∷ fs) = ((λ le. let late : nat_lt f.serial n ≡ false = grind (arith, nat_tests) in and_no (int_le from f.frame.pts && int_lt f.frame.pts e) _ late), spared (Some from) e n fs)

next_of : (o : Option ℕ) (received : ℕ) → IsSuccessor o received → (m : ℕ) × (o ≡ Some m) × (m + 1 ≡ received)
next_of None received h = absurd h
next_of (Some m) received h = (m, refl, h)

-- while no random access point is needed the last frame stays
last-left : (kind : Kind) (p e : ℤ) (decode duration end : Option ℤ) (first : Option ℕ) (need : Bool) (received : ℕ) (fs : List Stored) → AreTogether decode duration end first need → need ≡ false → HasRemovalInvariants received first fs → IfSome first (λ n. n < received) → IsSuccessor (last_serial None fs) received → IsSuccessor (last_serial None (frames_left_by_overlap kind p (overlapped_after decode p fs) (is_removed_from (removal_start end p) e first) fs)) received
last-left kind p e (Some decode) (Some duration) (Some end) (Some n) need received fs together none h low next =
    let m = next_of (last_serial None fs) received next in
    let stays = last-cleared (is_removed_from (removal_start (Some end) p) e (Some n)) false None None n m.0 fs (spared (removal_start (Some end) p) e n fs) h.group_sync h.ascending h.chained tt m.1 (omega arith) in
    subst (λ o. IsSuccessor o received) (sym stays) m.2
last-left kind p e None None None None need received fs together none h low next = cc
last-left kind p e decode duration end first need received fs together none h low next = absurd together

pub last_room : (p e : ℤ) (t : TrackState) → IsSound t → t.marks.need_sync ≡ false → IsSuccessor (last_serial None (track_with_room p e t).frames) t.marks.received
last_room p e t h none = last-left t.kind p e _ t.marks.last_duration _ _ _ _ t.frames h.together none (firm_of t h) h.group_below (h.last_held none)

-- a track stays sound where room is made
pub sound_room : (p e : ℤ) (t : TrackState) → IsSound t → IsSound (track_with_room p e t)
sound_room p e t h =
    let firm = firm_room p e t h in
    record {
      chained = firm.chained;
      ascending = firm.ascending;
      below = firm.below;
      not_negative = firm.not_negative;
      last_held = λ none. last_room p e t h none;
      together = h.together;
      group_below = h.group_below;
      group_sync = firm.group_sync;
    }

-- the frames end no later than before
end_cut : (p : ℤ) (limit : ℤ) (fs : List Stored) (g : Stored) → IsHit p fs g → (g.frame.pts +ℤ g.frame.dur) ≤ℤ limit → (g.frame.pts +ℤ (p -ℤ g.frame.pts)) ≤ℤ limit
end_cut p limit fs g h low = let both = within p g.frame.pts g.frame.dur h.over in let high = both.1 in omega (arith, ints)

if_both : (o : Option Stored) (P Q R : Stored → Type 0) → ((g : Stored) → P g → Q g → R g) → IfSome o P → IfSome o Q → IfSome o R
if_both None P Q R f h k = tt
if_both (Some g) P Q R f h k = f g h k

hit-each : (P : Stored → Type 0) (decode : Option ℤ) (p : ℤ) (fs : List Stored) → AllByRecursion P fs → IfSome (overlapped_after decode p fs) P
hit-each P None p fs h = overlapped-each P p fs h
hit-each P (Some last) p fs h = tt

pub end_room : (limit p e : ℤ) (t : TrackState) → IsSound t → AllByRecursion (λ f. (f.frame.pts +ℤ f.frame.dur) ≤ℤ limit) t.frames → AllByRecursion (λ f. (f.frame.pts +ℤ f.frame.dur) ≤ℤ limit) (track_with_room p e t).frames
end_room limit p e t h low =
    let hit = overlapped_after t.marks.last_decode p t.frames in
    let is = hit_is t.marks.last_decode p t.marks.received t.marks.group_first t.frames (firm_of t h) in
    left-each (λ f. (f.frame.pts +ℤ f.frame.dur) ≤ℤ limit) t.kind p hit (is_removed t.marks p e) t.frames
    (if_hit hit (IsHit p t.frames) (IsOwn t.frames) (λ g k. k.own) is)
    (if_both hit (IsHit p t.frames) (λ g. (g.frame.pts +ℤ g.frame.dur) ≤ℤ limit) (λ g. (g.frame.pts +ℤ (p -ℤ g.frame.pts)) ≤ℤ limit) (end_cut p limit t.frames) is (hit-each (λ f. (f.frame.pts +ℤ f.frame.dur) ≤ℤ limit) t.marks.last_decode p t.frames low))
    low
