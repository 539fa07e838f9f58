-- Calls of a store one after another, and two stores over the same calls.
use Rattle.std.proofs.Common.{◌≡◌, ◌<◌, ◌≤◌, fold, ℕ, zero, suc, ◌+◌, ℤ, true, false, cond, not, nat_eq, nat_lt, List, [], ◌∷◌, ◌++◌, Option, Some, None, length, slice_get, refl, sym, ap, ◌∙◌, subst, inl, inr, arith}
use Rattle.std.specs.Option.{IfSome}
use Rattle.std.proofs.lemmas.Bool.Decides.{nat_tests}
use Rattle.std.specs.List.{position, position_or_len}
use Rattle.std.proofs.lemmas.List.Sums.{fold-append}
use Rattle.std.proofs.lemmas.Option.{slice_get_cases}
use Rattle.track_store.specs.declared.store.Stored.{Stored}
use Rattle.track_store.specs.declared.calls.StoreChange.{StoreChange}
use Rattle.track_store.specs.declared.calls.StoreChange.TheVariants.{Reserve, Add, Cut, RemoveAt, RemoveWhereTime}
use Rattle.track_store.specs.declared.calls.StoreLook.{StoreLook}
use Rattle.track_store.specs.declared.calls.StoreCall.{StoreCall}
use Rattle.track_store.specs.declared.calls.StoreCall.TheVariants.{Change, Look}
use Rattle.track_store.specs.Frames.{IsAscending, frame_at, has_serial}
use Rattle.track_store.specs.Calls.{AnswerView, Frames, Bytes, Frame, Place, Time, Range, Ranges, NoMemory, CallRun, frames_after, frames_after_call, room_after, room_after_call, IsAddable, IsAllowedChange, IsAllowed, answer_of, place_of_frame, IsGiven, AreGiven, run_after, run_of, IsCallRun, IsSameAnswer, AreSameAnswers}
use Rattle.track_store.proofs.ClearedLists.{each_at}

at_frame : (fs : List Stored) (i : ℕ) → i < length fs → (x : Stored) × (slice_get fs i ≡ Some x)
at_frame fs i low = elim (slice_get_cases fs i).1 [ inl found ↦ (found.0, found.2) | inr past ↦ absurd (omega arith) ]

same_number : (n : ℕ) → nat_eq n n ≡ true
same_number n = grind (arith, nat_tests)

other_number : (n m : ℕ) → n < m → nat_eq n m ≡ false
other_number n m h = grind (arith, nat_tests)

is_less : (n m : ℕ) → n < m → nat_lt n m ≡ true
is_less n m h = grind (arith, nat_tests)

-- in a list with ascending serials the first frame of a serial is the one at its place
serial_at : (fs : List Stored) (i : ℕ) (x : Stored) → IsAscending fs → slice_get fs i ≡ Some x → position_or_len (has_serial x.serial) fs ≡ i
serial_at [] i x up e = cc
serial_at (f ∷ fs) zero x up e =
    let own : f ≡ x = cc in
    ap (λ b. cond (not b) (1 + position_or_len (has_serial x.serial) fs) 0) (subst (λ (y : Stored). has_serial y.serial f ≡ true) own (same_number f.serial))
serial_at (f ∷ fs) (suc i) x up e =
    let less = each_at (λ g. f.serial < g.serial) fs i x up.0 e in
    let rest = serial_at fs i x up.1 e in
    ap (λ b. cond (not b) (1 + position_or_len (has_serial x.serial) fs) 0) (other_number f.serial x.serial less) ∙ omega arith

index_of : (fs : List Stored) (i : ℕ) (x : Stored) → IsAscending fs → i < length fs → slice_get fs i ≡ Some x → position (has_serial x.serial) fs ≡ Some i
index_of fs i x up low e =
    ap (λ n. cond (nat_lt n (length fs)) (Some n) None) (serial_at fs i x up e) ∙ ap (λ b. cond b (Some i) None) (is_less i (length fs) low)

place_at : (fs : List Stored) (i : ℕ) (o : Option Stored) → IsAscending fs → i < length fs → slice_get fs i ≡ o → Some i ≡ place_of_frame o fs
place_at fs i None up low e = (let x = at_frame fs i low in let none = sym e ∙ x.1 in cc)
place_at fs i (Some x) up low e = sym (index_of fs i x up low e)

pub found_place : (fs : List Stored) (p : Option ℕ) (o : Option Stored) → IsAscending fs → frame_at fs p ≡ o → IfSome p (λ i. i < length fs) → p ≡ place_of_frame o fs
found_place fs None None up e low = refl
found_place fs None (Some x) up e low = cc
found_place fs (Some i) o up e low = place_at fs i o up low e

-- ---- runs

pub none_run : (gap : ℤ) (fs : List Stored) → IsCallRun gap fs [] [] fs
none_run gap fs = record { left = refl; answers = tt }

run_push : (gap : ℤ) (fs : List Stored) (calls : List StoreCall) (c : StoreCall) → run_of gap fs (calls ++ c ∷ []) ≡ run_after gap (run_of gap fs calls) c
run_push gap fs calls c = fold-append (run_after gap) (record { frames = fs; answers = [] }) calls (c ∷ [])

given_push : (ds gs : List AnswerView) (d g : AnswerView) → AreGiven ds gs → IsGiven d g → AreGiven (ds ++ d ∷ []) (gs ++ g ∷ [])
given_push [] [] d g h own = (own, tt)
given_push [] (y ∷ gs) d g h own = absurd h
given_push (x ∷ ds) [] d g h own = absurd h
given_push (x ∷ ds) (y ∷ gs) d g h own = (h.0, given_push ds gs d g h.1 own)

pub change_run : (gap : ℤ) (fs gs : List Stored) (calls : List StoreCall) (given : List AnswerView) (c : StoreChange) → IsCallRun gap fs calls given gs → IsCallRun gap fs (calls ++ Change c ∷ []) given (frames_after c gs)
change_run gap fs gs calls given c h = record {
  left = ap (frames_after c) h.left ∙ sym (ap (λ (r : CallRun). r.frames) (run_push gap fs calls (Change c)));
  answers = subst (λ (r : CallRun). AreGiven r.answers given) (sym (run_push gap fs calls (Change c))) h.answers;
}

pub look_run : (gap : ℤ) (fs gs : List Stored) (calls : List StoreCall) (given : List AnswerView) (l : StoreLook) (a : AnswerView) → IsCallRun gap fs calls given gs → IsGiven (answer_of gap l gs) a → IsCallRun gap fs (calls ++ Look l ∷ []) (given ++ a ∷ []) gs
look_run gap fs gs calls given l a h own = record {
  left = h.left ∙ sym (ap (λ (r : CallRun). r.frames) (run_push gap fs calls (Look l)));
  answers = subst (λ (r : CallRun). AreGiven r.answers (given ++ a ∷ [])) (sym (run_push gap fs calls (Look l)))
      (given_push (run_of gap fs calls).answers given _ a h.answers (subst (λ (zs : List Stored). IsGiven (answer_of gap l zs) a) h.left own));
}

-- ---- two stores

equal_answers : (d a b : AnswerView) → a ≡ d → b ≡ d → IsSameAnswer a b
equal_answers d a b h k = inr (inr (h ∙ sym k))

one_answer : (d a b : AnswerView) → IsGiven d a → IsGiven d b → IsSameAnswer a b
one_answer (Frames n) a b h k = equal_answers (Frames n) a b h k
one_answer (Bytes n) a b h k = equal_answers (Bytes n) a b h k
one_answer (Frame o) a b h k = equal_answers (Frame o) a b h k
one_answer (Place o) a b h k = equal_answers (Place o) a b h k
one_answer (Time o) a b h k = equal_answers (Time o) a b h k
one_answer (Range o) a b h k = equal_answers (Range o) a b h k
one_answer (Ranges rs) a b (inr none) k = inl none
one_answer (Ranges rs) a b (inl h) (inr none) = inr (inl none)
one_answer (Ranges rs) a b (inl h) (inl k) = equal_answers (Ranges rs) a b h k
one_answer NoMemory a b h k = equal_answers NoMemory a b h k

all_answers : (ds xs ys : List AnswerView) → AreGiven ds xs → AreGiven ds ys → AreSameAnswers xs ys
all_answers [] [] [] h k = tt
all_answers [] [] (y ∷ ys) h k = absurd k
all_answers [] (x ∷ xs) ys h k = absurd h
all_answers (d ∷ ds) [] ys h k = absurd h
all_answers (d ∷ ds) (x ∷ xs) [] h k = absurd k
all_answers (d ∷ ds) (x ∷ xs) (y ∷ ys) h k = (one_answer d x y h.0 k.0, all_answers ds xs ys h.1 k.1)

pub one_run : (gap : ℤ) (fs gs hs : List Stored) (calls : List StoreCall) (xs ys : List AnswerView) → IsCallRun gap fs calls xs gs → IsCallRun gap fs calls ys hs → AreSameAnswers xs ys × (gs ≡ hs)
one_run gap fs gs hs calls xs ys h k = (all_answers (run_of gap fs calls).answers xs ys h.answers k.answers, h.left ∙ sym k.left)

-- ---- the frames that are left

-- which do not depend on the answers so far
left_by : (gap : ℤ) (calls : List StoreCall) (r s : CallRun) → r.frames ≡ s.frames → (fold (run_after gap) r calls).frames ≡ (fold (run_after gap) s calls).frames
left_by gap [] r s e = e
left_by gap (Change c ∷ cs) r s e = left_by gap cs (run_after gap r (Change c)) (run_after gap s (Change c)) (ap (frames_after c) e)
left_by gap (Look l ∷ cs) r s e = left_by gap cs (run_after gap r (Look l)) (run_after gap s (Look l)) e

first_frames : (gap : ℤ) (fs : List Stored) (c : StoreCall) → (run_after gap (record { frames = fs; answers = [] }) c).frames ≡ frames_after_call c fs
first_frames gap fs (Change c) = refl
first_frames gap fs (Look l) = refl

-- after the first call
pub left_after : (gap : ℤ) (fs gs : List Stored) (c : StoreCall) (cs : List StoreCall) → gs ≡ frames_after_call c fs → (run_of gap fs (c ∷ cs)).frames ≡ (run_of gap gs cs).frames
left_after gap fs gs c cs e = left_by gap cs (run_after gap (record { frames = fs; answers = [] }) c) (record { frames = gs; answers = [] }) (first_frames gap fs c ∙ sym e)

-- more room allows as much
addable_more : (n m : ℕ) (f : Stored) (fs : List Stored) → n ≤ m → IsAddable n f fs → IsAddable m f fs
addable_more n m f fs l h = record {
  room = let r = h.room in omega arith;
  later = h.later;
  predecessor = h.predecessor;
  dur_not_negative = h.dur_not_negative;
  end_is_tick = h.end_is_tick;
  small = h.small;
}

change_more : (n m : ℕ) (c : StoreChange) (fs : List Stored) → n ≤ m → IsAllowedChange n c fs → IsAllowedChange m c fs
change_more n m (Reserve k) fs l h = tt
change_more n m (Add f) fs l h = addable_more n m f fs l h
change_more n m (Cut i dur) fs l h = h
change_more n m (RemoveAt i) fs l h = h
change_more n m (RemoveWhereTime from to below) fs l h = h

pub allowed_more : (n m : ℕ) (c : StoreCall) (fs : List Stored) → n ≤ m → IsAllowed n c fs → IsAllowed m c fs
allowed_more n m (Change c) fs l h = change_more n m c fs l h
allowed_more n m (Look q) fs l h = tt

room_less : (n m : ℕ) (c : StoreChange) → n ≤ m → room_after c n ≤ room_after c m
room_less n m (Reserve k) l = grind (arith, nat_tests)
room_less n m (Add f) l = omega arith
room_less n m (Cut i dur) l = l
room_less n m (RemoveAt i) l = l
room_less n m (RemoveWhereTime from to below) l = l

pub room_grows : (n m : ℕ) (c : StoreCall) → n ≤ m → room_after_call c n ≤ room_after_call c m
room_grows n m (Change c) l = room_less n m c l
room_grows n m (Look q) l = l

pub no_items : (xs : List StoreCall) → length xs ≡ 0 → xs ≡ []
no_items [] e = refl
no_items (x ∷ xs) e = absurd (omega arith)
