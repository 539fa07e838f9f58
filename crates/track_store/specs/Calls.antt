-- What the contract of a store says of lists of calls.
use Rattle.std.specs.Prelude.{◌≡◌, ◌⊎◌, ◌<◌, ◌≤◌, ◌+◌, ◌-◌, ◌^◌, ℕ, ℤ, pos, ◌≤ℤ◌, ◌+ℤ◌, max, false, List, [], ◌∷◌, ◌++◌, length, slice_get, find, fold, Option, Some, None, Result, Ok, Err, option_copied, ⊤}
use Rattle.std.specs.List.{AllByRecursion, filter, position}
use Rattle.std.specs.Option.{IfSome}
use Rattle.mse_base.specs.Time.{IsTick}
use Rattle.mse_base.specs.Spans.{reaches, last_of, has_end_after, has_start_before, RangesView}
use Rattle.mse_base.specs.declared.memory.OutOfMemory.{OutOfMemory}
use Rattle.mse_base.specs.declared.span.Span.{Span}
use Rattle.track_store.specs.declared.store.Stored.{Stored}
use Rattle.track_store.specs.declared.calls.StoreChange.{StoreChange}
use Rattle.track_store.specs.declared.calls.StoreChange.TheVariants.{Reserve, Add, Cut, RemoveAt, RemoveWhereTime}
use Rattle.track_store.specs.declared.calls.StoreLook.{StoreLook}
use Rattle.track_store.specs.declared.calls.StoreLook.TheVariants.{Len, Get, PlaceOf, GroupStart, Overlapped, SyncAtOrAfter, SpanHolding, FirstSpanAfter, LastSpanBefore, LastSpan, HighestStart, HighestEnd, Used, CopyRanges}
use Rattle.track_store.specs.declared.calls.StoreAnswer.{StoreAnswer}
use Rattle.track_store.specs.declared.calls.StoreAnswer.TheVariants as answers
use Rattle.track_store.specs.declared.calls.StoreCall.{StoreCall}
use Rattle.track_store.specs.declared.calls.StoreCall.TheVariants.{Change, Look}
use Rattle.mse_base.specs.Moments.{least, greatest}
use Rattle.track_store.specs.Frames.{bytes_of, frames_without, frames_with_dur, has_serial, is_within, overlapped, group_start_of, sync_times_from, starts, ends, ranges_of}
use Rattle.track_store.specs.Sound.{HasPredecessor}

-- ---- changes

-- a frame can be added to a list for which there is room
pub record IsAddable (spare : ℕ) (f : Stored) (fs : List Stored) : Type 0 where
  pub room : 1 ≤ spare
  pub later : AllByRecursion (λ g. g.serial < f.serial) fs
  pub predecessor : f.frame.sync ≡ false → HasPredecessor f.serial fs
  pub dur_not_negative : pos 0 ≤ℤ f.frame.dur
  pub end_is_tick : IsTick (f.frame.pts +ℤ f.frame.dur)
  pub small : bytes_of fs + length f.frame.payload < 2 ^ 62

-- what the contract asks of a change
abbrev pub IsAllowedChange : ℕ → StoreChange → List Stored → Type 0
IsAllowedChange spare (Reserve n) fs = ⊤
IsAllowedChange spare (Add f) fs = IsAddable spare f fs
IsAllowedChange spare (Cut i dur) fs =
    (i < length fs) × IfSome (slice_get fs i) (λ f. (pos 0 ≤ℤ dur) × (dur ≤ℤ f.frame.dur))
IsAllowedChange spare (RemoveAt i) fs = i < length fs
IsAllowedChange spare (RemoveWhereTime from to below) fs = ⊤

-- the frames, where the one at a place, if there is one, has another duration
abbrev pub frames_with_dur_at : Option Stored → ℤ → List Stored → List Stored
frames_with_dur_at None dur fs = fs
frames_with_dur_at (Some f) dur fs = frames_with_dur f.serial dur fs

-- the frames without the one at a place, if there is one, and its decoding dependencies
abbrev pub frames_without_one : Option Stored → List Stored → List Stored
frames_without_one None fs = fs
frames_without_one (Some f) fs = frames_without (has_serial f.serial) fs

-- the frames after a change; room leaves them
abbrev pub frames_after : StoreChange → List Stored → List Stored
frames_after (Reserve n) fs = fs
frames_after (Add f) fs = fs ++ f ∷ []
frames_after (Cut i dur) fs = frames_with_dur_at (slice_get fs i) dur fs
frames_after (RemoveAt i) fs = frames_without_one (slice_get fs i) fs
frames_after (RemoveWhereTime from to below) fs = frames_without (is_within from to below) fs

-- for how many more frames there is room after a change of a store with room for `spare`
abbrev pub room_after : StoreChange → ℕ → ℕ
room_after (Reserve n) spare = max n spare
room_after (Add f) spare = spare - 1
room_after (Cut i dur) spare = spare
room_after (RemoveAt i) spare = spare
room_after (RemoveWhereTime from to below) spare = spare

-- only this change takes memory
abbrev pub IsReserve : StoreChange → Type 0
IsReserve (Reserve n) = ⊤
IsReserve change = ⊥

-- ---- look-ups

-- what contracts see of an answer
pub data AnswerView : Type 0 where
  Frames : ℕ → AnswerView
  Bytes : ℕ → AnswerView
  Frame : Option Stored → AnswerView
  Place : Option ℕ → AnswerView
  Time : Option ℤ → AnswerView
  Range : Option Span → AnswerView
  Ranges : List Span → AnswerView
  NoMemory : AnswerView

abbrev pub ranges_answer : Result RangesView OutOfMemory → AnswerView
ranges_answer (Ok r) = Ranges r.spans
ranges_answer (Err e) = NoMemory

abbrev pub answer_view : StoreAnswer → AnswerView
answer_view (answers.Frames n) = Frames n
answer_view (answers.Bytes n) = Bytes n
answer_view (answers.Frame o) = Frame (option_copied o)
answer_view (answers.Place o) = Place o
answer_view (answers.Time o) = Time o
answer_view (answers.Range o) = Range o
answer_view (answers.Ranges r) = ranges_answer r

-- the place of a frame, if there is one
abbrev pub place_of_frame : Option Stored → List Stored → Option ℕ
place_of_frame None fs = None
place_of_frame (Some f) fs = position (has_serial f.serial) fs

-- the answer to a look-up in frames whose ranges join across a gap, where there is memory for it
abbrev pub answer_of : ℤ → StoreLook → List Stored → AnswerView
answer_of gap Len fs = Frames (length fs)
answer_of gap (Get i) fs = Frame (slice_get fs i)
answer_of gap (PlaceOf serial) fs = Place (position (has_serial serial) fs)
answer_of gap (GroupStart i) fs = Place (group_start_of i fs)
answer_of gap (Overlapped t) fs = Place (place_of_frame (overlapped t fs) fs)
answer_of gap (SyncAtOrAfter t) fs = Time (least (sync_times_from t fs))
answer_of gap (SpanHolding t) fs = Range (find (reaches t) (ranges_of gap fs))
answer_of gap (FirstSpanAfter t) fs = Range (find (has_end_after t) (ranges_of gap fs))
answer_of gap (LastSpanBefore t) fs =
    Range (last_of (filter (has_start_before t) (ranges_of gap fs)))
answer_of gap LastSpan fs = Range (last_of (ranges_of gap fs))
answer_of gap HighestStart fs = Time (greatest (starts fs))
answer_of gap HighestEnd fs = Time (greatest (ends fs))
answer_of gap Used fs = Bytes (bytes_of fs)
answer_of gap CopyRanges fs = Ranges (ranges_of gap fs)

-- an answer that was given is the one that was due; a copy of ranges may find no memory
abbrev pub IsGiven : AnswerView → AnswerView → Type 0
IsGiven (Ranges rs) given = (given ≡ Ranges rs) ⊎ (given ≡ NoMemory)
IsGiven due given = given ≡ due

abbrev pub AreGiven : List AnswerView → List AnswerView → Type 0
AreGiven [] [] = ⊤
AreGiven [] (g ∷ gs) = ⊥
AreGiven (d ∷ ds) [] = ⊥
AreGiven (d ∷ ds) (g ∷ gs) = IsGiven d g × AreGiven ds gs

-- ---- runs

-- what calls come to: the frames that are left, and the answers that are due to the look-ups
pub record CallRun : Type 0 where
  pub frames : List Stored
  pub answers : List AnswerView

-- one call more
abbrev pub run_after : ℤ → CallRun → StoreCall → CallRun
run_after gap run (Change c) = record run { frames = frames_after c run.frames }
run_after gap run (Look l) =
    record run { answers = run.answers ++ answer_of gap l run.frames ∷ [] }

-- calls one after another, of a store with these frames
abbrev pub run_of : ℤ → List Stored → List StoreCall → CallRun
run_of gap fs calls = fold (run_after gap) (record { frames = fs; answers = [] }) calls

-- over these calls a store that had the frames `fs` gave these answers, and is left with the frames `gs`
pub record IsCallRun (gap : ℤ) (fs : List Stored) (calls : List StoreCall)
    (given : List AnswerView) (gs : List Stored) : Type 0 where
  pub left : gs ≡ (run_of gap fs calls).frames
  pub answers : AreGiven (run_of gap fs calls).answers given

-- the frames after a call, and for how many more there is room
abbrev pub frames_after_call : StoreCall → List Stored → List Stored
frames_after_call (Change c) fs = frames_after c fs
frames_after_call (Look l) fs = fs

abbrev pub room_after_call : StoreCall → ℕ → ℕ
room_after_call (Change c) spare = room_after c spare
room_after_call (Look l) spare = spare

-- what the contract asks of a call
abbrev pub IsAllowed : ℕ → StoreCall → List Stored → Type 0
IsAllowed spare (Change c) fs = IsAllowedChange spare c fs
IsAllowed spare (Look l) fs = ⊤

-- what it asks of calls one after another, of a store with these frames and room for `spare` more
abbrev pub AreAllowed : ℕ → List StoreCall → List Stored → Type 0
AreAllowed spare [] fs = ⊤
AreAllowed spare (c ∷ cs) fs =
    IsAllowed spare c fs × AreAllowed (room_after_call c spare) cs (frames_after_call c fs)

-- the answers of two stores are the same, but that either may find no memory
abbrev pub IsSameAnswer : AnswerView → AnswerView → Type 0
IsSameAnswer a b = (a ≡ NoMemory) ⊎ ((b ≡ NoMemory) ⊎ (a ≡ b))

abbrev pub AreSameAnswers : List AnswerView → List AnswerView → Type 0
AreSameAnswers [] [] = ⊤
AreSameAnswers [] (y ∷ ys) = ⊥
AreSameAnswers (x ∷ xs) [] = ⊥
AreSameAnswers (x ∷ xs) (y ∷ ys) = IsSameAnswer x y × AreSameAnswers xs ys
