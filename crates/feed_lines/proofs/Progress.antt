-- Each group ends later than the time that it was given for, at the end of a frame.
use Rattle.std.proofs.Common.{◌≡◌, ◌∙◌, ◌<◌, ◌≤◌, ℕ, zero, suc, ℤ, ◌+ℤ◌, ◌<ℤ◌, ◌≤ℤ◌, Bool, true, false, cond, ◌&&◌, List, [], ◌∷◌, ◌++◌, length, slice_get, Option, Some, None, refl, sym, ap, subst, arith}
use Rattle.std.specs.Prelude.{int_le, int_lt, unwrap_or, IsSome}
use Rattle.std.specs.Option.{IfSome}
use Rattle.std.specs.List.{AllByRecursion}
use Rattle.std.proofs.lemmas.Int.{ints}
use Rattle.mse_base.specs.Moments.{greatest}
use Rattle.track_store.specs.declared.store.Stored.{Stored}
use Rattle.track_store.specs.Frames.{ends, is_in_frame, overlapped}
use Rattle.track_store.specs.Sound.{IsSound}
use Rattle.track_store.specs.State.{TrackState}
use Rattle.track_store.proofs.Limits.{highest_bounds, highest_none}
use Rattle.track_store.proofs.LastOverlap.{overlapped-covers}
use Rattle.decoder_feed.specs.Feed.{IsGroupUpTo, IsLastOf, feed_of}
use Rattle.decoder_feed.specs.Runs.{AreGiven}
use Rattle.decoder_feed.specs.Steps.{feeder_after_seek}
use Rattle.decoder_feed.proofs.FeederAnswers.{feed_given}
use Rattle.decoder_feed.proofs.Groups.{HasPlaceIn, feed_group, shown_placed}
use Rattle.feed_lines.specs.Groups.{end_of, feeding, IsEnd}
use Rattle.feed_lines.specs.Lines.{lines_of_track, groups_lines, none_line, lines_by}
use Rattle.feed_lines.proofs.FeederAnswers.{AreEnough, ends_in_three, frames_same, front_of_all, idle_frames}

-- when a frame ends
abbrev pub end : Stored → ℤ
end f = f.frame.pts +ℤ f.frame.dur

-- how many frames end after a time
abbrev pub later : ℤ → List Stored → ℕ
later at [] = 0
later at (f ∷ fs) = cond (int_lt at (end f)) (suc (later at fs)) (later at fs)

-- ---- the frame that is shown is given

last_bound : (P : Stored → Type 0) (x : Stored) (fs : List Stored) → IsLastOf x fs → AllByRecursion P fs → P x
last_bound P x [] h a = absurd h
last_bound P x (f ∷ []) h a = subst P h a.0
last_bound P x (f ∷ g ∷ fs) h a = last_bound P x (g ∷ fs) h a.1

first_all : (P : Stored → Type 0) (fs gs : List Stored) → AllByRecursion P (fs ++ gs) → AllByRecursion P fs
first_all P [] gs h = tt
first_all P (f ∷ fs) gs h = (h.0, first_all P fs gs h.1)

ends_with : (wanted : Stored) (feed : Option (List Stored)) → IsGroupUpTo (Some wanted) feed → (frames : List Stored) × (feed ≡ Some frames) × IsLastOf wanted frames
ends_with wanted None h = absurd h
ends_with wanted (Some frames) h = (frames, refl, h.1)

enough_received : (t : TrackState) (next given : Option ℕ) → AreEnough t (record { next = next; given = given }) t.marks.received
enough_received t None given = tt
enough_received t (Some n) given = omega arith

-- the feed is given first
pub feed_first : (at : ℤ) (t : TrackState) (feed : List Stored) → IsSound t → feed_of at t.frames ≡ Some feed → (rest : List Stored) × ((feeding at t).frames ≡ feed ++ rest)
feed_first at t feed sound is =
    let all = subst (λ o. AreGiven (feeder_after_seek at t.frames) t o) is (feed_given at t sound) in
    let more = front_of_all (length feed) t (feeder_after_seek at t.frames) t.marks.received (enough_received t (feeder_after_seek at t.frames).next (feeder_after_seek at t.frames).given) in
    (more.0, frames_same t.marks.received t (feeder_after_seek at t.frames) ∙ more.1 ∙ ap (λ xs. xs ++ more.0) all)

-- what is given begins with a list that ends with the frame that is shown
pub record IsShown (at : ℤ) (t : TrackState) (wanted : Stored) : Type 0 where
  pub feed : List Stored
  pub rest : List Stored
  pub given : (feeding at t).frames ≡ feed ++ rest
  pub last : IsLastOf wanted feed

pub shown : (at : ℤ) (t : TrackState) (wanted : Stored) → IsSound t → overlapped at t.frames ≡ Some wanted → IsShown at t wanted
shown at t wanted sound is =
    let group = ends_with wanted (feed_of at t.frames) (subst (λ o. IsGroupUpTo o (feed_of at t.frames)) is (feed_group at t.frames sound.ascending sound.chained)) in
    let more = feed_first at t group.0 sound group.1 in
    record { feed = group.0; rest = more.0; given = more.1; last = group.2 }

none_before : (x : Stored) (feed rest : List Stored) → IsLastOf x feed → feed ++ rest ≡ [] → ⊥
none_before x [] rest h e = h
none_before x (f ∷ fs) rest h e = cc

-- something is given
pub something_given : (at : ℤ) (t : TrackState) (wanted : Stored) → IsSound t → overlapped at t.frames ≡ Some wanted → (feeding at t).frames ≡ [] → ⊥
something_given at t wanted sound is none =
    let h = shown at t wanted sound is in
    none_before wanted h.feed h.rest h.last (sym h.given ∙ none)

-- ---- why no more is given

a_frame : (o : Option Stored) → IsSome o → (wanted : Stored) × (o ≡ Some wanted)
a_frame None h = cc
a_frame (Some wanted) h = (wanted, refl)

some_serial : (o : Option ℕ) → (o ≡ None → ⊥) → IsSome o
some_serial None h = absurd (h refl)
some_serial (Some n) h = refl

pub end_is : (at : ℤ) (t : TrackState) → IsSound t → IsSome (overlapped at t.frames) → IsEnd (feeding at t).end
end_is at t sound some =
    let s = feeder_after_seek at t.frames in
    let wanted = a_frame (overlapped at t.frames) some in
    ends_in_three t.marks.received t s (enough_received t s.next s.given) (some_serial s.next (λ e. something_given at t wanted.0 sound wanted.1 (idle_frames t.marks.received t s e)))

-- ---- it ends later

after_by : (at : ℤ) (wanted : Stored) (fs : List Stored) (o : Option ℤ) → greatest (ends fs) ≡ o → (fs ≡ [] → ⊥) → ((e : ℤ) → greatest (ends fs) ≡ Some e → end wanted ≤ℤ e) → end wanted ≤ℤ unwrap_or o at
after_by at wanted fs None is some h = absurd (some (highest_none fs is))
after_by at wanted fs (Some e) is some h = h e is

ends_after : (at : ℤ) (t : TrackState) (wanted : Stored) → IsSound t → overlapped at t.frames ≡ Some wanted → end wanted ≤ℤ end_of at (feeding at t).frames
ends_after at t wanted sound is =
    let h = shown at t wanted sound is in
    after_by at wanted (feeding at t).frames (greatest (ends (feeding at t).frames)) refl (something_given at t wanted sound is)
    (λ e top. last_bound (λ f. end f ≤ℤ e) wanted h.feed h.last (first_all (λ f. end f ≤ℤ e) h.feed h.rest (subst (λ xs. AllByRecursion (λ f. end f ≤ℤ e) xs) h.given (highest_bounds (feeding at t).frames e top))))

both_hold : (a b : Bool) → (a && b) ≡ true → b ≡ true
both_hold true b e = e
both_hold false b e = cc

-- the frame that is shown ends after the time
before_end : (at : ℤ) (fs : List Stored) (wanted : Stored) → overlapped at fs ≡ Some wanted → int_lt at (end wanted) ≡ true
before_end at fs wanted is =
    let covers : is_in_frame at wanted ≡ true = subst (λ o. IfSome o (λ f. is_in_frame at f ≡ true)) is (overlapped-covers at fs) in
    both_hold (int_le wanted.frame.pts at) (int_lt at (end wanted)) covers

lt_of : (a b : ℤ) → int_lt a b ≡ true → a <ℤ b
lt_of a b h = grind (arith, ints)

not_later : (a b : ℤ) → b ≤ℤ a → int_lt a b ≡ false
not_later a b h = grind (arith, ints)

-- ---- so fewer frames end after it

fewer_one : (a b : ℤ) (x n m : ℕ) (z : ℤ) → a ≤ℤ b → n ≤ m → cond (int_lt b z) (suc n) n ≤ cond (int_lt a z) (suc m) m
fewer_one a b x n m z h le = by (int_lt a z) (int_lt b z) refl refl
  where
    by : (p q : Bool) → int_lt a z ≡ p → int_lt b z ≡ q → cond q (suc n) n ≤ cond p (suc m) m
    by true true e f = omega arith
    by true false e f = omega arith
    by false false e f = omega arith
    by false true e f = absurd (grind (arith, ints))

fewer : (a b : ℤ) (fs : List Stored) → a ≤ℤ b → later b fs ≤ later a fs
fewer a b [] h = omega arith
fewer a b (f ∷ fs) h = fewer_one a b 0 (later b fs) (later a fs) (end f) h (fewer a b fs h)

fewer_at : (a b : ℤ) (fs : List Stored) (i : ℕ) (x : Stored) → slice_get fs i ≡ Some x → a ≤ℤ b → int_lt a (end x) ≡ true → int_lt b (end x) ≡ false → later b fs < later a fs
fewer_at a b [] i x at h p q = cc
fewer_at a b (f ∷ fs) zero x at h p q =
    let own : f ≡ x = cc in
    let le = fewer a b fs h in
    let hi : later a (f ∷ fs) ≡ suc (later a fs) = ap (λ y. cond (int_lt a (end y)) (suc (later a fs)) (later a fs)) own ∙ ap (λ c. cond c (suc (later a fs)) (later a fs)) p in
    let lo : later b (f ∷ fs) ≡ later b fs = ap (λ y. cond (int_lt b (end y)) (suc (later b fs)) (later b fs)) own ∙ ap (λ c. cond c (suc (later b fs)) (later b fs)) q in
    omega (arith, hi, lo, le)
fewer_at a b (f ∷ fs) (suc i) x at h p q =
    let below = fewer_at a b fs i x at h p q in
    let one = fewer_one a b 0 (suc (later b fs)) (later a fs) (end f) h (omega (arith, below)) in
    by (int_lt b (end f)) one
  where
    by : (c : Bool) → cond c (suc (suc (later b fs))) (suc (later b fs)) ≤ later a (f ∷ fs) → cond c (suc (later b fs)) (later b fs) < later a (f ∷ fs)
    by true g = omega (arith, g)
    by false g = omega (arith, g)

pub goes_on : (at : ℤ) (t : TrackState) (wanted : Stored) → IsSound t → overlapped at t.frames ≡ Some wanted → later (end_of at (feeding at t).frames) t.frames < later at t.frames
goes_on at t wanted sound is =
    let next : ℤ = end_of at (feeding at t).frames in
    let after : end wanted ≤ℤ next = ends_after at t wanted sound is in
    let before = before_end at t.frames wanted is in
    let less : at <ℤ end wanted = lt_of at (end wanted) before in
    let up : at ≤ℤ next = omega (arith, ints, after, less) in
    let placed : HasPlaceIn t.frames wanted = subst (λ o. IfSome o (HasPlaceIn t.frames)) is (shown_placed at t.frames) in
    fewer_at at next t.frames placed.0 wanted placed.1 up before (not_later next (end wanted) after)

pub later-length : (at : ℤ) (fs : List Stored) → later at fs ≤ length fs
later-length at [] = omega arith
later-length at (f ∷ fs) = by (int_lt at (end f)) (later-length at fs)
  where
    by : (c : Bool) → later at fs ≤ length fs → cond c (suc (later at fs)) (later at fs) ≤ suc (length fs)
    by true h = omega (arith, h)
    by false h = omega (arith, h)

-- ---- as many groups as frames that end later are enough

none_by : (n : ℕ) (at : ℤ) (t : TrackState) → overlapped at t.frames ≡ None → groups_lines n at t ≡ none_line t.id at ∷ []
none_by zero at t is = refl
none_by (suc n) at t is = ap (λ o. lines_by o at t (groups_lines n (end_of at (feeding at t).frames) t)) is

pub nothing_shown : (n : ℕ) (at : ℤ) (t : TrackState) → overlapped at t.frames ≡ None → groups_lines n at t ≡ none_line t.id at ∷ []
nothing_shown n at t is = none_by n at t is

same_step : (n m : ℕ) (at : ℤ) (t : TrackState) (o : Option Stored) → IsSound t → overlapped at t.frames ≡ o → later at t.frames ≤ n → later at t.frames ≤ m
    → ((k : ℕ) (at' : ℤ) (j : ℕ) → n ≡ suc k → later at' t.frames ≤ k → later at' t.frames ≤ j → groups_lines k at' t ≡ groups_lines j at' t) → groups_lines n at t ≡ groups_lines m at t
same_step n m at t None sound is a b ih = none_by n at t is ∙ sym (none_by m at t is)
same_step zero m at t (Some wanted) sound is a b ih = let less = goes_on at t wanted sound is in absurd (omega (arith, less))
same_step (suc n) zero at t (Some wanted) sound is a b ih = let less = goes_on at t wanted sound is in absurd (omega (arith, less))
same_step (suc n) (suc m) at t (Some wanted) sound is a b ih =
    let less = goes_on at t wanted sound is in
    ap (λ xs. lines_by (overlapped at t.frames) at t xs) (ih n (end_of at (feeding at t).frames) m refl (omega (arith, less)) (omega (arith, less)))

pub same_lines : (n m : ℕ) (at : ℤ) (t : TrackState) → IsSound t → later at t.frames ≤ n → later at t.frames ≤ m → groups_lines n at t ≡ groups_lines m at t
same_lines zero m at t sound a b = same_step zero m at t (overlapped at t.frames) sound refl a b (λ k at' j e h g. cc)
same_lines (suc n) m at t sound a b =
    same_step (suc n) m at t (overlapped at t.frames) sound refl a b
    (λ k at' j e h g. let same : n ≡ k = cc in subst (λ i. groups_lines i at' t ≡ groups_lines j at' t) same (same_lines n j at' t sound (subst (λ i. later at' t.frames ≤ i) (sym same) h) g))

-- the group of the frame that is shown, and the rest
one_by : (n : ℕ) (at : ℤ) (t : TrackState) (wanted : Stored) → IsSound t → overlapped at t.frames ≡ Some wanted → later at t.frames ≤ n
    → groups_lines n at t ≡ lines_by (Some wanted) at t (groups_lines (later (end_of at (feeding at t).frames) t.frames) (end_of at (feeding at t).frames) t)
one_by zero at t wanted sound is h = let less = goes_on at t wanted sound is in absurd (omega (arith, less))
one_by (suc n) at t wanted sound is h =
    let next : ℤ = end_of at (feeding at t).frames in
    let less = goes_on at t wanted sound is in
    ap (λ o. lines_by o at t (groups_lines n next t)) is
    ∙ ap (λ xs. lines_by (Some wanted) at t xs) (same_lines n (later next t.frames) next t sound (omega (arith, less)) (omega arith))

pub one_group : (at : ℤ) (t : TrackState) (wanted : Stored) → IsSound t → overlapped at t.frames ≡ Some wanted
    → groups_lines (later at t.frames) at t ≡ lines_by (Some wanted) at t (groups_lines (later (end_of at (feeding at t).frames) t.frames) (end_of at (feeding at t).frames) t)
one_group at t wanted sound is = one_by (later at t.frames) at t wanted sound is (omega arith)

pub all_groups : (from : ℤ) (t : TrackState) → IsSound t → lines_of_track from t ≡ groups_lines (later from t.frames) from t
unfolding lines_of_track
all_groups from t sound = same_lines (length t.frames) (later from t.frames) from t sound (later-length from t.frames) (omega arith)

-- ---- laws

pub enough_groups : (at : ℤ) (t : TrackState) (n : ℕ) → IsSound t → length t.frames ≤ n → groups_lines n at t ≡ lines_of_track at t
unfolding lines_of_track
enough_groups at t n sound few = let late = later-length at t.frames in same_lines n (length t.frames) at t sound (omega (arith, late)) late
