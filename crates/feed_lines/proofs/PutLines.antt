-- What was put of a track so far.
use Rattle.std.proofs.Common.{◌≡◌, ◌∙◌, ◌+◌, ◌<◌, inl, inr, ℕ, suc, ℤ, List, [], ◌∷◌, ◌++◌, replicate, slice_get, Option, Some, None, refl, sym, ap, subst, arith, append_assoc}
use Rattle.std.specs.Prelude.{IsSome, OnErr, OnOk, Result, Ok, Err, map, option_map, unwrap_or}
use Rattle.std.specs.Option.{IfSome}
use Rattle.std.proofs.lemmas.List.{append-nil, map-append}
use Rattle.std.proofs.lemmas.List.Sums.{fold-append}
use Rattle.mse_base.specs.Moments.{greater_of, greatest}
use Rattle.mse_outside.specs.Outside.{SinkView}
use Rattle.script_run.specs.declared.stop.Halt.{Halt}
use Rattle.script_run.specs.Writes.{IsWritten, IsFrontWritten}
use Rattle.script_run.proofs.PutLines.{front_first, front_more, wrote_more, wrote_none}
use Rattle.track_store.specs.declared.store.Stored.{Stored}
use Rattle.track_store.specs.Frames.{ends, overlapped}
use Rattle.track_store.specs.Sound.{IsSound}
use Rattle.track_store.specs.State.{TrackState}
use Rattle.decoder_feed.specs.declared.steps.FeedNext.{FeedNext}
use Rattle.decoder_feed.specs.declared.steps.FeedNext.TheVariants.{Frame, Idle, Wait, Lost, GroupEnd}
use Rattle.decoder_feed.specs.Runs.{frame_given, frames_given, with_first}
use Rattle.decoder_feed.specs.Steps.{FeederState, next_answer, feeder_after, feeder_after_seek}
use Rattle.decoder_feed.proofs.FeederAnswers.{IsStillOrGiven, still_or_given}
use Rattle.feed_lines.specs.Groups.{end_of, feeding, feeding_from, feeding_with}
use Rattle.feed_lines.specs.Lines.{end_line, lines_of_track, frame_line, given_lines, groups_lines, none_line, wanted_line}
use Rattle.feed_lines.proofs.FeederAnswers.{AreEnough, all_same, calls_left, ends_same, enough_left, frames_same, none_end, none_given, received, rest_of}
use Rattle.feed_lines.proofs.Progress.{all_groups, end, later, nothing_shown, one_group}

-- ---- the frames of a group

-- the time that a group of frames is looked for at, and the track that it is of
pub record GroupPlace : Type 0 where
  pub at : ℤ
  pub track : TrackState

abbrev pub group_place : ℤ → TrackState → GroupPlace
group_place at t = record { at = at; track = t }

-- some of the frames are given and their lines are put
pub record IsGiving (group : GroupPlace) (s : FeederState) (last : Option ℤ) (old new : SinkView) : Type 0 where
  pub done : List Stored
  pub parts : (feeding group.at group.track).frames ≡ done ++ rest_of group.track s
  pub end_left : (feeding group.at group.track).end ≡ (feeding_from (calls_left group.track s.next) s group.track).end
  pub last_is : last ≡ greatest (ends done)
  pub wrote : IsWritten (map frame_line done) old new

enough_received : (t : TrackState) (next given : Option ℕ) → AreEnough t (record { next = next; given = given }) t.marks.received
enough_received t None given = tt
enough_received t (Some n) given = omega arith

pub none_yet : (at : ℤ) (t : TrackState) (s : FeederState) (told : SinkView) → s ≡ feeder_after_seek at t.frames → IsGiving (group_place at t) s None told told
none_yet at t s told is = record {
  done = [];
  parts = frames_same t.marks.received t (feeder_after_seek at t.frames) ∙ ap (λ x. frames_given x (replicate t.marks.received t)) (sym is) ∙ all_same t.marks.received t s (calls_left t s.next) (enough_received t s.next s.given) (enough_left t s.next s.given);
  end_left = ap (λ x. (feeding_from t.marks.received x t).end) (sym is) ∙ ends_same t.marks.received t s (calls_left t s.next) (enough_received t s.next s.given) (enough_left t s.next s.given);
  last_is = refl;
  wrote = wrote_none told;
}

-- where a frame comes next, it is the first of the rest
rest_by : (t : TrackState) (s : FeederState) (place : ℕ) (f : Stored) → next_answer s t ≡ Frame place → slice_get t.frames place ≡ Some f → IsStillOrGiven s t.frames (next_answer s t)
    → (feeder_after (Frame place) s ≡ record { next = Some (f.serial + 1); given = Some f.serial }) × (rest_of t s ≡ f ∷ rest_of t (record { next = Some (f.serial + 1); given = Some f.serial })) × ((feeding_from (calls_left t s.next) s t).end ≡ (feeding_from (calls_left t (Some (f.serial + 1))) (record { next = Some (f.serial + 1); given = Some f.serial }) t).end)
rest_by t s place f is at (inl still) =
    let given : frame_given t.frames (next_answer s t) ≡ Some f = ap (frame_given t.frames) is ∙ at in
    let clash = sym still.none ∙ given in cc
rest_by t s place f is at (inr (g, gives)) =
    let s' : FeederState = record { next = Some (f.serial + 1); given = Some f.serial } in
    let given : frame_given t.frames (next_answer s t) ≡ Some f = ap (frame_given t.frames) is ∙ at in
    let own : g ≡ f = (let both = sym gives.given ∙ given in cc) in
    let after : feeder_after (next_answer s t) s ≡ s' = gives.after ∙ ap (λ (x : Stored). record { next = Some (x.serial + 1); given = Some x.serial }) own in
    let next : s.next ≡ Some f.serial = gives.next ∙ ap (λ (x : Stored). Some x.serial) own in
    let low : f.serial < t.marks.received = subst (λ o. IfSome o (λ n. n < t.marks.received)) next (received t s place is) in
    let left : calls_left t s.next ≡ suc (calls_left t s'.next) = ap (calls_left t) next ∙ omega arith in (
      ap (λ a. feeder_after a s) (sym is) ∙ after,
      ap (λ m. frames_given s (replicate m t)) left
          ∙ ap (λ o. with_first o (frames_given (feeder_after (next_answer s t) s) (replicate (calls_left t s'.next) t))) given
          ∙ ap (λ x. f ∷ frames_given x (replicate (calls_left t s'.next) t)) after,
      ap (λ m. (feeding_from m s t).end) left
          ∙ ap (λ o. (feeding_with o (next_answer s t) (feeding_from (calls_left t s'.next) (feeder_after (next_answer s t) s) t)).end) given
          ∙ ap (λ x. (feeding_from (calls_left t s'.next) x t).end) after,
    )

-- one more frame is given
pub one_more : (at : ℤ) (t : TrackState) (s : FeederState) (place : ℕ) (f : Stored) (last : Option ℤ) (old mid new : SinkView)
    → next_answer s t ≡ Frame place → slice_get t.frames place ≡ Some f → IsGiving (group_place at t) s last old mid → IsWritten (frame_line f ∷ []) mid new
    → IsGiving (group_place at t) (feeder_after (Frame place) s) (greater_of last (end f)) old new
one_more at t s place f last old mid new is there p w =
    let step = rest_by t s place f is there (still_or_given s t) in
    let s' : FeederState = record { next = Some (f.serial + 1); given = Some f.serial } in
    record {
      done = p.done ++ f ∷ [];
      parts = p.parts ∙ ap (λ xs. p.done ++ xs) (step.1 ∙ ap (λ x. f ∷ rest_of t x) (sym step.0)) ∙ sym (append_assoc p.done (f ∷ []) (rest_of t (feeder_after (Frame place) s)));
      end_left = p.end_left ∙ step.2 ∙ ap (λ x. (feeding_from (calls_left t x.next) x t).end) (sym step.0);
      last_is = ap (λ o. greater_of o (end f)) p.last_is ∙ sym (ap greatest (map-append end p.done (f ∷ [])) ∙ fold-append greater_of None (ends p.done) (end f ∷ []));
      wrote = subst (λ xs. IsWritten xs old new) (sym (map-append frame_line p.done (f ∷ []))) (wrote_more (map frame_line p.done) (frame_line f ∷ []) old mid new p.wrote w);
    }

-- the line of the next frame was not put
pub frame_failed : (at : ℤ) (t : TrackState) (s : FeederState) (place : ℕ) (f : Stored) (last : Option ℤ) (old mid new : SinkView)
    → next_answer s t ≡ Frame place → slice_get t.frames place ≡ Some f → IsGiving (group_place at t) s last old mid → IsFrontWritten (frame_line f ∷ []) mid new → IsFrontWritten (given_lines at t) old new
frame_failed at t s place f last old mid new is there p w =
    let step = rest_by t s place f is there (still_or_given s t) in
    let rest : List (List ℕ) = map frame_line (rest_of t (record { next = Some (f.serial + 1); given = Some f.serial })) in
    let end : List (List ℕ) = end_line (feeding at t).end ∷ [] in
    let front : List (List ℕ) = map frame_line p.done in
    let whole : given_lines at t ≡ front ++ (frame_line f ∷ (rest ++ end)) =
    ap (λ xs. map frame_line xs ++ end) (p.parts ∙ ap (λ xs. p.done ++ xs) step.1)
    ∙ ap (λ xs. xs ++ end) (map-append frame_line p.done (f ∷ rest_of t (record { next = Some (f.serial + 1); given = Some f.serial })))
    ∙ append_assoc front (frame_line f ∷ rest) end in
    subst (λ xs. IsFrontWritten xs old new) (sym whole) (front_more front (frame_line f ∷ (rest ++ end)) old mid new p.wrote (front_first (frame_line f ∷ []) (rest ++ end) mid new w))

-- ---- and why no more are given

no_frame : (fs : List Stored) (a : FeedNext) → ((place : ℕ) → a ≡ Frame place → ⊥) → frame_given fs a ≡ None
no_frame fs (Frame place) h = absurd (h place refl)
no_frame fs Idle h = refl
no_frame fs Wait h = refl
no_frame fs Lost h = refl
no_frame fs GroupEnd h = refl

same_after : (a : FeedNext) (s : FeederState) → ((place : ℕ) → a ≡ Frame place → ⊥) → feeder_after a s ≡ s
same_after (Frame place) s h = absurd (h place refl)
same_after Idle s h = refl
same_after Wait s h = refl
same_after Lost s h = refl
same_after GroupEnd s h = refl

-- all are given
pub record IsGiven (group : GroupPlace) (answer : FeedNext) (last : Option ℤ) (old new : SinkView) : Type 0 where
  pub answer_is : answer ≡ (feeding group.at group.track).end
  pub last_is : last ≡ greatest (ends (feeding group.at group.track).frames)
  pub wrote : IsWritten (map frame_line (feeding group.at group.track).frames) old new

all_given : (at : ℤ) (t : TrackState) (s : FeederState) (wanted : Stored) (answer : FeedNext) (last : Option ℤ) (old new : SinkView) → IsSound t → overlapped at t.frames ≡ Some wanted
    → answer ≡ next_answer s t → ((place : ℕ) → answer ≡ Frame place → ⊥) → IsGiving (group_place at t) s last old new → IsGiven (group_place at t) answer last old new
all_given at t s wanted answer last old new sound shown is other p =
    let no_more : frame_given t.frames (next_answer s t) ≡ None = ap (frame_given t.frames) (sym is) ∙ no_frame t.frames answer other in
    let none = none_given t s (calls_left t s.next) no_more (ap (λ a. feeder_after a s) (sym is) ∙ same_after answer s other) in
    let all : (feeding at t).frames ≡ p.done = p.parts ∙ ap (λ xs. p.done ++ xs) none ∙ append-nil p.done in
    record {
      answer_is = is ∙ sym (p.end_left ∙ none_end t s (calls_left t s.next) no_more);
      last_is = p.last_is ∙ ap (λ xs. greatest (ends xs)) (sym all);
      wrote = subst (λ xs. IsWritten (map frame_line xs) old new) (sym all) p.wrote;
    }

-- ---- one group after another

-- the lines of some groups are put, and a time is left
pub record IsFeeding (from at : ℤ) (t : TrackState) (old new : SinkView) : Type 0 where
  pub front : List (List ℕ)
  pub parts : lines_of_track from t ≡ front ++ groups_lines (later at t.frames) at t
  pub wrote : IsWritten front old new

pub no_group_yet : (from : ℤ) (t : TrackState) (told : SinkView) → IsSound t → IsFeeding from from t told told
no_group_yet from t told sound = record { front = []; parts = all_groups from t sound; wrote = wrote_none told }

-- no frame is shown
ends_feeding : (from at : ℤ) (t : TrackState) (old mid new : SinkView) → overlapped at t.frames ≡ None → IsFeeding from at t old mid → IsWritten (none_line t.id at ∷ []) mid new → IsWritten (lines_of_track from t) old new
ends_feeding from at t old mid new is p w =
    subst (λ xs. IsWritten xs old new) (sym (p.parts ∙ ap (λ xs. p.front ++ xs) (nothing_shown (later at t.frames) at t is))) (wrote_more p.front (none_line t.id at ∷ []) old mid new p.wrote w)

none_failed : (from at : ℤ) (t : TrackState) (old mid new : SinkView) → overlapped at t.frames ≡ None → IsFeeding from at t old mid → IsFrontWritten (none_line t.id at ∷ []) mid new
    → IsFrontWritten (lines_of_track from t) old new
none_failed from at t old mid new is p w =
    subst (λ xs. IsFrontWritten xs old new) (sym (p.parts ∙ ap (λ xs. p.front ++ xs) (nothing_shown (later at t.frames) at t is))) (front_more p.front (none_line t.id at ∷ []) old mid new p.wrote w)

-- a frame is shown
shown_parts : (from at : ℤ) (t : TrackState) (wanted : Stored) (old mid : SinkView) → IsSound t → overlapped at t.frames ≡ Some wanted → (p : IsFeeding from at t old mid)
    → lines_of_track from t ≡ p.front ++ (wanted_line t.id at wanted.serial ∷ (given_lines at t ++ groups_lines (later (end_of at (feeding at t).frames) t.frames) (end_of at (feeding at t).frames) t))
shown_parts from at t wanted old mid sound is p = p.parts ∙ ap (λ xs. p.front ++ xs) (one_group at t wanted sound is)

pub wanted_failed : (from at : ℤ) (t : TrackState) (wanted : Stored) (old mid new : SinkView) → IsSound t → overlapped at t.frames ≡ Some wanted → IsFeeding from at t old mid
    → IsFrontWritten (wanted_line t.id at wanted.serial ∷ []) mid new → IsFrontWritten (lines_of_track from t) old new
wanted_failed from at t wanted old mid new sound is p w =
    let next : ℤ = end_of at (feeding at t).frames in
    let rest : List (List ℕ) = given_lines at t ++ groups_lines (later next t.frames) next t in
    subst (λ xs. IsFrontWritten xs old new) (sym (shown_parts from at t wanted old mid sound is p))
    (front_more p.front (wanted_line t.id at wanted.serial ∷ rest) old mid new p.wrote (front_first (wanted_line t.id at wanted.serial ∷ []) rest mid new w))

pub given_failed : (from at : ℤ) (t : TrackState) (wanted : Stored) (old mid put new : SinkView) → IsSound t → overlapped at t.frames ≡ Some wanted → IsFeeding from at t old mid
    → IsWritten (wanted_line t.id at wanted.serial ∷ []) mid put → IsFrontWritten (given_lines at t) put new → IsFrontWritten (lines_of_track from t) old new
given_failed from at t wanted old mid put new sound is p w v =
    let next : ℤ = end_of at (feeding at t).frames in
    let rest : List (List ℕ) = groups_lines (later next t.frames) next t in
    subst (λ xs. IsFrontWritten xs old new) (sym (shown_parts from at t wanted old mid sound is p))
    (front_more p.front (wanted_line t.id at wanted.serial ∷ (given_lines at t ++ rest)) old mid new p.wrote
    (front_more (wanted_line t.id at wanted.serial ∷ []) (given_lines at t ++ rest) mid put new w (front_first (given_lines at t) rest put new v)))

pub group_put : (from at next : ℤ) (t : TrackState) (wanted : Stored) (old mid put new : SinkView) → IsSound t → overlapped at t.frames ≡ Some wanted → IsFeeding from at t old mid
    → IsWritten (wanted_line t.id at wanted.serial ∷ []) mid put → IsWritten (given_lines at t) put new → next ≡ end_of at (feeding at t).frames → IsFeeding from next t old new
group_put from at next t wanted old mid put new sound is p w v ends =
    let then : ℤ = end_of at (feeding at t).frames in
    let line : List (List ℕ) = wanted_line t.id at wanted.serial ∷ [] in
    let rest : List (List ℕ) = groups_lines (later then t.frames) then t in
    subst (λ (x : ℤ). IsFeeding from x t old new) (sym ends) (record {
      front = p.front ++ (line ++ given_lines at t);
      parts = shown_parts from at t wanted old mid sound is p ∙ ap (λ xs. p.front ++ xs) (sym (append_assoc line (given_lines at t) rest)) ∙ sym (append_assoc p.front (line ++ given_lines at t) rest);
      wrote = wrote_more p.front (line ++ given_lines at t) old mid new p.wrote (wrote_more line (given_lines at t) mid put new w v);
    })

-- the frame that is shown is one whose serial a seek answers
pub wanted_frame : (serial : ℕ) (o : Option Stored) → Some serial ≡ option_map (λ f. f.serial) o → (wanted : Stored) × (o ≡ Some wanted) × (serial ≡ wanted.serial)
wanted_frame serial None e = cc
wanted_frame serial (Some wanted) e = (wanted, refl, cc)

pub no_frame_shown : (o : Option Stored) → None ≡ option_map (λ f. f.serial) o → o ≡ None
no_frame_shown None e = refl
no_frame_shown (Some wanted) e = cc

some_frame : (o : Option Stored) → IsSome o → (wanted : Stored) × (o ≡ Some wanted)
some_frame None h = cc
some_frame (Some wanted) h = (wanted, refl)

-- the frames were given and their end was told
pub given_end : (at : ℤ) (t : TrackState) (answer : FeedNext) (last : Option ℤ) (old mid : SinkView) → IsGiven (group_place at t) answer last old mid → unwrap_or last at ≡ end_of at (feeding at t).frames
given_end at t answer last old mid p = ap (λ o. unwrap_or o at) p.last_is

pub given_put : (at : ℤ) (t : TrackState) (answer : FeedNext) (last : Option ℤ) (old mid new : SinkView) → IsGiven (group_place at t) answer last old mid → IsWritten (end_line answer ∷ []) mid new → IsWritten (given_lines at t) old new
given_put at t answer last old mid new p w =
    wrote_more (map frame_line (feeding at t).frames) (end_line (feeding at t).end ∷ []) old mid new p.wrote (subst (λ a. IsWritten (end_line a ∷ []) mid new) p.answer_is w)

pub end_failed : (at : ℤ) (t : TrackState) (answer : FeedNext) (last : Option ℤ) (old mid new : SinkView) → IsGiven (group_place at t) answer last old mid → IsFrontWritten (end_line answer ∷ []) mid new → IsFrontWritten (given_lines at t) old new
end_failed at t answer last old mid new p w =
    front_more (map frame_line (feeding at t).frames) (end_line (feeding at t).end ∷ []) old mid new p.wrote (subst (λ a. IsFrontWritten (end_line a ∷ []) mid new) p.answer_is w)

-- the answer is no frame
pub all_answered : (at : ℤ) (t : TrackState) (s : FeederState) (answer : FeedNext) (last : Option ℤ) (old new : SinkView) → IsSound t → IsSome (overlapped at t.frames)
    → answer ≡ next_answer s t → ((place : ℕ) → answer ≡ Frame place → ⊥) → IsGiving (group_place at t) s last old new → IsGiven (group_place at t) answer last old new
all_answered at t s answer last old new sound shown is other p =
    let wanted = some_frame (overlapped at t.frames) shown in
    all_given at t s wanted.0 answer last old new sound wanted.1 is other p

-- what was put is a front of the text, whether or not the last line was
pub none_by : (from at : ℤ) (t : TrackState) (old mid new : SinkView) (result : Result (Unit {0}) Halt) → overlapped at t.frames ≡ None → IsFeeding from at t old mid → OnErr result (IsFrontWritten (none_line t.id at ∷ []) mid new)
    → OnErr result (IsFrontWritten (lines_of_track from t) old new)
none_by from at t old mid new (Ok u) is p w = tt
none_by from at t old mid new (Err h) is p w = none_failed from at t old mid new is p w

pub ends_by : (from at : ℤ) (t : TrackState) (old mid new : SinkView) (result : Result (Unit {0}) Halt) → overlapped at t.frames ≡ None → IsFeeding from at t old mid → OnOk result (IsWritten (none_line t.id at ∷ []) mid new)
    → OnOk result (IsWritten (lines_of_track from t) old new)
ends_by from at t old mid new (Ok u) is p w = ends_feeding from at t old mid new is p w
ends_by from at t old mid new (Err h) is p w = tt
