-- The turn of a listener, as a dispatch tells it, is steps of a run.
use Rattle.std.proofs.Common.{◌≡◌, ◌≢◌, ℕ, zero, suc, ◌+◌, ◌-◌, ◌<◌, ◌≤◌, List, [], ◌∷◌, ◌++◌, length, refl, ap, sym, subst, ◌∙◌, arith, inl, inr, append_assoc, ◌⊎◌}
use Rattle.std.specs.Prelude.{Some, None, Result, Ok, Err, slice_get, slice_index_or}
use Rattle.std.proofs.lemmas.Bool.Decides.{eqb_tells}
use Rattle.std.proofs.lemmas.List.{append-nil}
use Rattle.mse_calls.specs.declared.answers.Answer.{Answer}
use Rattle.mse_calls.specs.declared.calls.Call.{Call}
use Rattle.mse_calls.specs.declared.events.Event.{Event}
use Rattle.mse_calls.specs.declared.entry.Entry.{Entry}
use Rattle.mse_calls.specs.declared.entry.Entry.TheVariants.{Listener}
use Rattle.mse_engine.specs.State.{State}
use Rattle.mse_engine.specs.Calls.{after_call}
use Rattle.mse_engine.specs.Run.{after_entries, IsReplay}
use Rattle.mse_engine.specs.Standing.{Stands}
use Rattle.run_steps.specs.declared.note.Note.{Note}
use Rattle.run_steps.specs.declared.note.Note.TheVariants.{Heard, Made, Told, Rested}
use Rattle.run_steps.specs.Happenings.{Happening, Did, Noted, entries_in, notes_in, lines_put}
use Rattle.run_steps.specs.Steps.{Run, Setting, Todo, Hear, Ask, Make, Tell, CallBudget, TaskBudget, asked, goes, hears, makes, most_calls, over, run_for, Reaches}
use Rattle.run_steps.specs.Ways.{Way}
use Rattle.run_steps.proofs.Reached.{then, then_by, entry_last, lines_last, noted, noted_other, did_notes}
use Rattle.listeners.specs.declared.event_dispatch.DispatchFault.{DispatchFault}
use Rattle.listeners.specs.declared.event_dispatch.DispatchFault.TheVariants as fault
use Rattle.listeners.specs.Dispatch.{AreCallsInTurn, IsServed, HasTurnNotes}
use Rattle.listeners.specs.Notes.{call_notes, call_count}
use Rattle.listeners.specs.Views.{TurnView}
use Rattle.listeners.specs.Ways.{IsByWay}
use Rattle.listeners.specs.TurnSteps.{IsGrown, IsToDoBehind, IsTurnBegun, IsTurnTo, IsServedInSteps}
use Rattle.listeners.proofs.TurnCalls.{Answering, AreAnswers, AreAllAnswers, all_answers, answers_parts, made_entries, made_notes, split_turn, no_turn, own_of_made, one_more, replays_parts, after_both, length_made, made_one, made_on, one_notes, on_entries, on_notes, on_others, on_lines}

-- What a run has come to in a turn of listener w: these entries came, it has these notes, and so many calls are left; nothing
-- was put, and no other listener did anything.
record HasTurned (ways : List Way) (left : ℕ) (a : Run) (w : ℕ) (entries : List Entry) (notes : List Note) (b : Run) : Type 0 where
  reached : Reaches ways a b
  journal : entries_in b.happened ≡ entries_in a.happened ++ entries
  own : notes_in w b.happened ≡ notes
  others : (v : ℕ) → v ≢ w → notes_in v b.happened ≡ notes_in v a.happened
  put : lines_put b.happened ≡ lines_put a.happened
  state : b.state ≡ after_entries a.setting.blobs a.state entries
  leaves : b.left ≡ left

abbrev at : Setting → List Happening → State → ℕ → List Todo → Run
at setting h st left todo = record { setting = setting; happened = h; state = st; left = left; todo = todo }

-- what the listener of a number answers
abbrev answering : List Way → Setting → ℕ → Answering
answering ways setting w = slice_index_or ways w (λ rules notes. None) (setting.rules w)

-- ---- calls that are made

one_call : (ways : List Way) (setting : Setting) (w k l : ℕ) (h : List Happening) (st : State) (rest : List Todo) (call : Call) (answer : Answer) → answering ways setting w (notes_in w h) ≡ Some call → answer ≡ (after_call setting.blobs call st).answer
    → run_for 3 ways (at setting h st (suc l) (Ask w (suc k) ∷ rest)) ≡ at setting (made_one w h call answer) (after_call setting.blobs call st).state l (Ask w k ∷ rest)
one_call ways setting w k l h st rest call answer e is =
    ap (λ o. run_for 2 ways (asked (at setting h st (suc l) (Ask w (suc k) ∷ rest)) w (suc k) o rest)) e
    ∙ ap (λ x. at setting (made_one w h call x) (after_call setting.blobs call st).state l (Ask w k ∷ rest)) (sym is)

calls : (ms : List (Call × Answer)) (ways : List Way) (setting : Setting) (w k n l left : ℕ) (h : List Happening) (st : State) (rest : List Todo) (more : List Note) → IsReplay setting.blobs st (made_entries w ms)
    → AreAnswers (answering ways setting w) (notes_in w h) (made_notes ms ++ more) → k ≡ length ms + n → l ≡ left + length ms
    → Reaches ways (at setting h st l (Ask w k ∷ rest)) (at setting (made_on w h ms) (after_entries setting.blobs st (made_entries w ms)) left (Ask w n ∷ rest))
calls [] ways setting w k n l left h st rest more r a few e =
    let fuel : k ≡ n = omega (arith, few) in
    let same : l ≡ left = omega (arith, e) in
    (0, ap (λ x. at setting h st x (Ask w k ∷ rest)) same ∙ ap (λ x. at setting h st left (Ask w x ∷ rest)) fuel)
calls (m ∷ ms) ways setting w zero n l left h st rest more r a few e = absurd (omega (arith, few))
calls (m ∷ ms) ways setting w (suc k) n zero left h st rest more r a few e = absurd (omega (arith, e))
calls (m ∷ ms) ways setting w (suc k) n (suc l) left h st rest more r a few e =
    let now : List Happening = made_one w h m.0 m.1 in
    let past : AreAnswers (answering ways setting w) (notes_in w now) (made_notes ms ++ more) = subst (λ ns. AreAnswers (answering ways setting w) ns (made_notes ms ++ more)) (sym (one_notes w h m.0 m.1)) a.1 in
    then_by 3 ways (at setting h st (suc l) (Ask w (suc k) ∷ rest)) (at setting now (after_call setting.blobs m.0 st).state l (Ask w k ∷ rest))
    (at setting (made_on w h (m ∷ ms)) (after_entries setting.blobs st (made_entries w (m ∷ ms))) left (Ask w n ∷ rest))
    (one_call ways setting w k l h st rest m.0 m.1 a.0 r.0)
    (calls ms ways setting w k n l left now (after_call setting.blobs m.0 st).state rest more r.1 past (omega (arith, few)) (omega (arith, e)))

-- ---- where a turn comes to

-- with its calls, where it may make n more
calls_to : (ms : List (Call × Answer)) (ways : List Way) (setting : Setting) (w n l left : ℕ) (way : Way) (event : Event) (h : List Happening) (st : State) (rest : List Todo) (more : List Note) → slice_get ways w ≡ Some way
    → IsReplay setting.blobs st (made_entries w ms) → AreAnswers (answering ways setting w) (notes_in w h ++ Heard event ∷ []) (made_notes ms ++ more) → most_calls ≡ length ms + n → l ≡ left + length ms
    → HasTurned ways left (at setting h st l (Hear event w ∷ rest)) w (made_entries w ms) (notes_in w h ++ Heard event ∷ made_notes ms)
    (at setting (made_on w (h ++ Noted w (Heard event) ∷ []) ms) (after_entries setting.blobs st (made_entries w ms)) left (Ask w n ∷ Hear event (suc w) ∷ rest))
calls_to ms ways setting w n l left way event h st rest more there r a few e =
    let heard : List Happening = h ++ Noted w (Heard event) ∷ [] in
    let past : AreAnswers (answering ways setting w) (notes_in w heard) (made_notes ms ++ more) = subst (λ ns. AreAnswers (answering ways setting w) ns (made_notes ms ++ more)) (sym (noted w h (Heard event))) a in
    record {
      reached = then_by 1 ways (at setting h st l (Hear event w ∷ rest)) (at setting heard st l (Ask w most_calls ∷ Hear event (suc w) ∷ rest))
          (at setting (made_on w heard ms) (after_entries setting.blobs st (made_entries w ms)) left (Ask w n ∷ Hear event (suc w) ∷ rest))
          (ap (λ o. hears (at setting h st l (Hear event w ∷ rest)) event w o rest) there)
          (calls ms ways setting w most_calls n l left heard st (Hear event (suc w) ∷ rest) more r past few e);
      journal = on_entries w heard ms ∙ ap (λ es. es ++ made_entries w ms) (entry_last h (Noted w (Heard event)) ∙ append-nil (entries_in h));
      own = on_notes w heard ms ∙ ap (λ ns. ns ++ made_notes ms) (noted w h (Heard event)) ∙ append_assoc (notes_in w h) (Heard event ∷ []) (made_notes ms);
      others = λ v ne. on_others w v heard ms ne ∙ noted_other w v h (Heard event) ne;
      put = on_lines w heard ms ∙ lines_last h (Noted w (Heard event)) ∙ append-nil (lines_put h);
      state = refl;
      leaves = refl;
    }

-- and one note more, by some steps
note_more : (ways : List Way) (left : ℕ) (a : Run) (w : ℕ) (entries : List Entry) (notes all : List Note) (b : Run) (note : Note) (todo : List Todo) → HasTurned ways left a w entries notes b → all ≡ notes ++ note ∷ []
    → Reaches ways b (record b { happened = b.happened ++ Noted w note ∷ []; todo = todo }) → HasTurned ways left a w entries all (record b { happened = b.happened ++ Noted w note ∷ []; todo = todo })
note_more ways left a w entries notes all b note todo t e p = record {
  reached = then ways a b (record b { happened = b.happened ++ Noted w note ∷ []; todo = todo }) t.reached p;
  journal = entry_last b.happened (Noted w note) ∙ append-nil (entries_in b.happened) ∙ t.journal;
  own = noted w b.happened note ∙ ap (λ ns. ns ++ note ∷ []) t.own ∙ sym e;
  others = λ v ne. noted_other w v b.happened note ne ∙ t.others v ne;
  put = lines_last b.happened (Noted w note) ∙ append-nil (lines_put b.happened) ∙ t.put;
  state = t.state;
  leaves = t.leaves;
}

-- ---- the cases

-- what all cases have: the turn of listener w, and its calls
record IsTurn (ways : List Way) (setting : Setting) (w l left : ℕ) (way : Way) (event : Event) (h : List Happening) (st : State) (ms : List (Call × Answer)) : Type 0 where
  there : slice_get ways w ≡ Some way
  replays : IsReplay setting.blobs st (made_entries w ms)
  few : length ms ≤ most_calls
  left_is : l ≡ left + length ms

abbrev turn_start : Setting → ℕ → ℕ → Event → List Happening → State → List Todo → Run
turn_start setting w l event h st rest = at setting h st l (Hear event w ∷ rest)

abbrev turn_calls : Setting → ℕ → ℕ → Event → List Happening → State → List Todo → List (Call × Answer) → Run
turn_calls setting w left event h st rest ms =
    at setting (made_on w (h ++ Noted w (Heard event) ∷ []) ms) (after_entries setting.blobs st (made_entries w ms)) left (Ask w (most_calls - length ms) ∷ Hear event (suc w) ∷ rest)

called_to : (ways : List Way) (setting : Setting) (w l left : ℕ) (way : Way) (event : Event) (h : List Happening) (st : State) (rest : List Todo) (ms : List (Call × Answer)) (more : List Note) → IsTurn ways setting w l left way event h st ms
    → AreAnswers (answering ways setting w) (notes_in w h ++ Heard event ∷ []) (made_notes ms ++ more)
    → HasTurned ways left (turn_start setting w l event h st rest) w (made_entries w ms) (notes_in w h ++ Heard event ∷ made_notes ms) (turn_calls setting w left event h st rest ms)
called_to ways setting w l left way event h st rest ms more t a =
    calls_to ms ways setting w (most_calls - length ms) l left way event h st rest more t.there t.replays a (omega (arith, t.few)) t.left_is

-- what is answered behind the calls
last_answer : (ways : List Way) (setting : Setting) (w : ℕ) (event : Event) (h : List Happening) (ms : List (Call × Answer)) (more : List Note) → AreAnswers (answering ways setting w) (notes_in w h ++ Heard event ∷ []) (made_notes ms ++ more)
    → AreAnswers (answering ways setting w) (notes_in w (made_on w (h ++ Noted w (Heard event) ∷ []) ms)) more
last_answer ways setting w event h ms more a =
    subst (λ ns. AreAnswers (answering ways setting w) ns more) (sym (on_notes w (h ++ Noted w (Heard event) ∷ []) ms ∙ ap (λ ns. ns ++ made_notes ms) (noted w h (Heard event))))
    (answers_parts (answering ways setting w) (notes_in w h ++ Heard event ∷ []) (made_notes ms) more a).1

-- it rested
rested : (ways : List Way) (setting : Setting) (w l left : ℕ) (way : Way) (event : Event) (h : List Happening) (st : State) (rest : List Todo) (ms : List (Call × Answer)) → IsTurn ways setting w l left way event h st ms
    → AreAnswers (answering ways setting w) (notes_in w h ++ Heard event ∷ []) (made_notes ms ++ Rested ∷ [])
    → (b : Run) × HasTurned ways left (turn_start setting w l event h st rest) w (made_entries w ms) (notes_in w h ++ Heard event ∷ (made_notes ms ++ Rested ∷ [])) b × IsToDoBehind (Hear event (suc w) ∷ rest) b (Ok tt)
rested ways setting w l left way event h st rest ms t a =
    let c : Run = turn_calls setting w left event h st rest ms in (
      record c { happened = c.happened ++ Noted w Rested ∷ []; todo = Hear event (suc w) ∷ rest },
      note_more ways left (turn_start setting w l event h st rest) w (made_entries w ms) (notes_in w h ++ Heard event ∷ made_notes ms) (notes_in w h ++ Heard event ∷ (made_notes ms ++ Rested ∷ [])) c Rested (Hear event (suc w) ∷ rest)
          (called_to ways setting w l left way event h st rest ms (Rested ∷ []) t a) (sym (append_assoc (notes_in w h) (Heard event ∷ made_notes ms) (Rested ∷ [])))
          (1, ap (λ o. asked c w (most_calls - length ms) o (Hear event (suc w) ∷ rest)) (last_answer ways setting w event h ms (Rested ∷ []) a).0),
      refl,
    )

-- it answered a call, which is not made yet
abbrev turn_made : Setting → ℕ → ℕ → Event → List Happening → State → List Todo → List (Call × Answer) → Call → Run
turn_made setting w left event h st rest ms call =
    at setting (made_on w (h ++ Noted w (Heard event) ∷ []) ms ++ Noted w (Made call) ∷ []) (after_entries setting.blobs st (made_entries w ms)) left
    (Make w (most_calls - length ms) call ∷ Hear event (suc w) ∷ rest)

made_to : (ways : List Way) (setting : Setting) (w l left : ℕ) (way : Way) (event : Event) (h : List Happening) (st : State) (rest : List Todo) (ms : List (Call × Answer)) (call : Call) → IsTurn ways setting w l left way event h st ms
    → AreAnswers (answering ways setting w) (notes_in w h ++ Heard event ∷ []) (made_notes ms ++ Made call ∷ [])
    → HasTurned ways left (turn_start setting w l event h st rest) w (made_entries w ms) (notes_in w h ++ Heard event ∷ (made_notes ms ++ Made call ∷ [])) (turn_made setting w left event h st rest ms call)
made_to ways setting w l left way event h st rest ms call t a =
    let c : Run = turn_calls setting w left event h st rest ms in
    note_more ways left (turn_start setting w l event h st rest) w (made_entries w ms) (notes_in w h ++ Heard event ∷ made_notes ms) (notes_in w h ++ Heard event ∷ (made_notes ms ++ Made call ∷ [])) c (Made call)
    (Make w (most_calls - length ms) call ∷ Hear event (suc w) ∷ rest)
    (called_to ways setting w l left way event h st rest ms (Made call ∷ []) t a) (sym (append_assoc (notes_in w h) (Heard event ∷ made_notes ms) (Made call ∷ [])))
    (1, ap (λ o. asked c w (most_calls - length ms) o (Hear event (suc w) ∷ rest)) (last_answer ways setting w event h ms (Made call ∷ []) a).0)

-- and nothing but what is to be done changed
todo_to : (ways : List Way) (left : ℕ) (a : Run) (w : ℕ) (entries : List Entry) (notes : List Note) (b : Run) (todo : List Todo) → HasTurned ways left a w entries notes b → Reaches ways b (record b { todo = todo }) → HasTurned ways left a w entries notes (record b { todo = todo })
todo_to ways left a w entries notes b todo t p = record { reached = then ways a b (record b { todo = todo }) t.reached p; journal = t.journal; own = t.own; others = t.others; put = t.put; state = t.state; leaves = t.leaves }

-- it had made all the calls that it may make for one event
full_to : (ways : List Way) (setting : Setting) (w l left : ℕ) (way : Way) (event : Event) (h : List Happening) (st : State) (rest : List Todo) (ms : List (Call × Answer)) (call : Call) → IsTurn ways setting w l left way event h st ms
    → AreAnswers (answering ways setting w) (notes_in w h ++ Heard event ∷ []) (made_notes ms ++ Made call ∷ []) → length ms ≡ most_calls
    → (b : Run) × HasTurned ways left (turn_start setting w l event h st rest) w (made_entries w ms) (notes_in w h ++ Heard event ∷ (made_notes ms ++ Made call ∷ [])) b × IsToDoBehind (Hear event (suc w) ∷ rest) b (Err (fault.CallBudget w))
full_to ways setting w l left way event h st rest ms call t a all =
    let c : Run = turn_made setting w left event h st rest ms call in
    let none : most_calls - length ms ≡ 0 = omega (arith, all) in (
      goes c (over (CallBudget w)),
      todo_to ways left (turn_start setting w l event h st rest) w (made_entries w ms) (notes_in w h ++ Heard event ∷ (made_notes ms ++ Made call ∷ [])) c (over (CallBudget w)) (made_to ways setting w l left way event h st rest ms call t a)
          (1, ap (λ n. makes c w n left call (Hear event (suc w) ∷ rest)) none),
      refl,
    )

-- no call was left in the line
spent_to : (ways : List Way) (setting : Setting) (w l left : ℕ) (way : Way) (event : Event) (h : List Happening) (st : State) (rest : List Todo) (ms : List (Call × Answer)) (call : Call) → IsTurn ways setting w l left way event h st ms
    → AreAnswers (answering ways setting w) (notes_in w h ++ Heard event ∷ []) (made_notes ms ++ Made call ∷ []) → length ms < most_calls → left ≡ 0
    → (b : Run) × HasTurned ways left (turn_start setting w l event h st rest) w (made_entries w ms) (notes_in w h ++ Heard event ∷ (made_notes ms ++ Made call ∷ [])) b × IsToDoBehind (Hear event (suc w) ∷ rest) b (Err fault.TaskBudget)
spent_to ways setting w l left way event h st rest ms call t a lt none =
    let c : Run = turn_made setting w left event h st rest ms call in
    let some : most_calls - length ms ≡ suc (most_calls - length ms - 1) = omega (arith, lt) in (
      goes c (over TaskBudget),
      todo_to ways left (turn_start setting w l event h st rest) w (made_entries w ms) (notes_in w h ++ Heard event ∷ (made_notes ms ++ Made call ∷ [])) c (over TaskBudget) (made_to ways setting w l left way event h st rest ms call t a)
          (1, ap (λ n. makes c w n left call (Hear event (suc w) ∷ rest)) some ∙ ap (λ x. makes c w (suc (most_calls - length ms - 1)) x call (Hear event (suc w) ∷ rest)) none),
      refl,
    )

-- ---- memory ran out

no_snoc : (xs : List Note) (x : Note) → [] ≡ xs ++ x ∷ [] → ⊥
no_snoc [] x e = absurd (cc)
no_snoc (y ∷ xs) x e = absurd (cc)

snoc_eq : (xs ys : List Note) (x y : Note) → xs ++ x ∷ [] ≡ ys ++ y ∷ [] → (xs ≡ ys) × (x ≡ y)
snoc_eq [] [] x y e = (refl, cc)
snoc_eq [] (b ∷ ys) x y e = absurd (no_snoc ys y (cc))
snoc_eq (a ∷ xs) [] x y e = absurd (no_snoc xs x (cc))
snoc_eq (a ∷ xs) (b ∷ ys) x y e =
    let head : a ≡ b = cc in
    let tail : xs ++ x ∷ [] ≡ ys ++ y ∷ [] = cc in
    let r = snoc_eq xs ys x y tail in
    (ap (λ z. z ∷ xs) head ∙ ap (λ zs. b ∷ zs) r.0, r.1)

-- the last of some calls
abbrev HasLast : List (Call × Answer) → Type 0
HasLast ms = (front : List (Call × Answer)) × (m : Call × Answer) × (ms ≡ front ++ m ∷ [])

last_of : (m : Call × Answer) (ms : List (Call × Answer)) → HasLast (m ∷ ms)
last_of m [] = ([], m, refl)
last_of m (n ∷ ms) = let r = last_of n ms in (m ∷ r.0, r.1, ap (λ xs. m ∷ xs) r.2)

entries_snoc : (w : ℕ) (ms : List (Call × Answer)) (m : Call × Answer) → made_entries w (ms ++ m ∷ []) ≡ made_entries w ms ++ Listener w m.0 m.1 ∷ []
entries_snoc w [] m = refl
entries_snoc w (x ∷ ms) m = ap (λ es. Listener w x.0 x.1 ∷ es) (entries_snoc w ms m)

notes_snoc : (ms : List (Call × Answer)) (m : Call × Answer) → made_notes (ms ++ m ∷ []) ≡ (made_notes ms ++ Made m.0 ∷ []) ++ Told m.1 ∷ []
notes_snoc [] m = refl
notes_snoc (x ∷ ms) m = ap (λ ns. Made x.0 ∷ Told x.1 ∷ ns) (notes_snoc ms m)

length_snoc : (ms : List (Call × Answer)) (m : Call × Answer) → length (ms ++ m ∷ []) ≡ suc (length ms)
length_snoc [] m = refl
length_snoc (x ∷ ms) m = ap suc (length_snoc ms m)

-- the call was made, but the listener was not told
untold_to : (ways : List Way) (setting : Setting) (w l left : ℕ) (way : Way) (event : Event) (h : List Happening) (st : State) (rest : List Todo) (ms : List (Call × Answer)) (m : Call × Answer) → IsTurn ways setting w l left way event h st (ms ++ m ∷ [])
    → AreAnswers (answering ways setting w) (notes_in w h ++ Heard event ∷ []) (made_notes ms ++ Made m.0 ∷ [])
    → (b : Run) × HasTurned ways left (turn_start setting w l event h st rest) w (made_entries w (ms ++ m ∷ [])) (notes_in w h ++ Heard event ∷ (made_notes ms ++ Made m.0 ∷ [])) b
untold_to ways setting w l left way event h st rest ms m t a =
    let all : List Entry = made_entries w (ms ++ m ∷ []) in
    let parts = replays_parts setting.blobs st (made_entries w ms) (Listener w m.0 m.1 ∷ []) (subst (λ es. IsReplay setting.blobs st es) (entries_snoc w ms m) t.replays) in
    let before : IsTurn ways setting w l (suc left) way event h st ms = record { there = t.there; replays = parts.0; few = omega (arith, t.few, length_snoc ms m); left_is = omega (arith, t.left_is, length_snoc ms m) } in
    let now : State = after_entries setting.blobs st (made_entries w ms) in
    let c : Run = turn_made setting w (suc left) event h st rest ms m.0 in
    let some : most_calls - length ms ≡ suc (most_calls - length ms - 1) = omega (arith, t.few, length_snoc ms m) in
    let d : Run = at setting (c.happened ++ Did (Listener w m.0 m.1) ∷ []) (after_call setting.blobs m.0 now).state left (Tell w (most_calls - length ms - 1) m.1 ∷ Hear event (suc w) ∷ rest) in
    let to = made_to ways setting w l (suc left) way event h st rest ms m.0 before a in
    let step : run_for 1 ways c ≡ d =
    ap (λ n. makes c w n (suc left) m.0 (Hear event (suc w) ∷ rest)) some
    ∙ ap (λ x. at setting (c.happened ++ Did (Listener w m.0 x) ∷ []) (after_call setting.blobs m.0 now).state left (Tell w (most_calls - length ms - 1) x ∷ Hear event (suc w) ∷ rest)) (sym parts.1.0) in (
      d,
      record {
        reached = then ways (turn_start setting w l event h st rest) c d to.reached (1, step);
        journal = entry_last c.happened (Did (Listener w m.0 m.1)) ∙ ap (λ es. es ++ Listener w m.0 m.1 ∷ []) to.journal ∙ append_assoc (entries_in h) (made_entries w ms) (Listener w m.0 m.1 ∷ []) ∙ ap (λ es. entries_in h ++ es) (sym (entries_snoc w ms m));
        own = did_notes w c.happened (Listener w m.0 m.1) ∙ to.own;
        others = λ v ne. did_notes v c.happened (Listener w m.0 m.1) ∙ to.others v ne;
        put = lines_last c.happened (Did (Listener w m.0 m.1)) ∙ append-nil (lines_put c.happened) ∙ to.put;
        state = sym (ap (after_entries setting.blobs st) (entries_snoc w ms m) ∙ after_both setting.blobs st (made_entries w ms) (Listener w m.0 m.1 ∷ []));
        leaves = refl;
      },
    )

-- nothing was done
unheard_to : (ways : List Way) (setting : Setting) (w l left : ℕ) (event : Event) (h : List Happening) (st : State) (rest : List Todo) → l ≡ left → HasTurned ways left (turn_start setting w l event h st rest) w [] (notes_in w h) (turn_start setting w l event h st rest)
unheard_to ways setting w l left event h st rest e = record { reached = (0, refl); journal = sym (append-nil (entries_in h)); own = refl; others = λ v ne. refl; put = refl; state = refl; leaves = e }

-- ---- a turn as a dispatch tells it

count_made : (w : ℕ) (ms : List (Call × Answer)) → call_count w (made_entries w ms) ≡ length ms
count_made w [] = refl
count_made w (m ∷ ms) = elim (eqb_tells w w) [
  | inl t ↦
      let one : call_count w (Listener w m.0 m.1 ∷ made_entries w ms) ≡ 1 + call_count w (made_entries w ms) = one_more w w m.0 m.1 (made_entries w ms) ∙ rw t.0 refl in
      omega (arith, one, count_made w ms)
  | inr t ↦ absurd (t.1 refl)
]

-- what the notes of a listener say that it answered
answers_in : (ways : List Way) (setting : Setting) (w : ℕ) (way : Way) (before : List Note) (event : Event) (now more : List Note) → slice_get ways w ≡ Some way → slice_index_or ways w (λ rules notes. None) ≡ way
    → IsByWay (Some way) (setting.rules w) now → now ≡ before ++ Heard event ∷ more → AreAnswers (answering ways setting w) (before ++ Heard event ∷ []) more
answers_in ways setting w way before event now more there is by e =
    let all : AreAllAnswers (way (setting.rules w)) ((before ++ Heard event ∷ []) ++ more) = subst (λ ns. AreAllAnswers (way (setting.rules w)) ns) (e ∙ sym (append_assoc before (Heard event ∷ []) more)) by in
    subst (λ (g : Way). AreAnswers (g (setting.rules w)) (before ++ Heard event ∷ []) more) (sym is) (all_answers (way (setting.rules w)) (before ++ Heard event ∷ []) more all)

to_notes : (ways : List Way) (left : ℕ) (a : Run) (w : ℕ) (entries : List Entry) (notes all : List Note) (b : Run) → notes ≡ all → HasTurned ways left a w entries notes b → HasTurned ways left a w entries all b
to_notes ways left a w entries notes all b e t = subst (λ ns. HasTurned ways left a w entries ns b) e t

no_entries : (w : ℕ) (ms : List (Call × Answer)) → length ms ≡ 0 → [] ≡ made_entries w ms
no_entries w [] e = refl
no_entries w (m ∷ ms) e = absurd (omega (arith, e))

last_view : (ms : List (Call × Answer)) → (ms ≡ []) ⊎ HasLast ms
last_view [] = inl refl
last_view (m ∷ ms) = inr (last_of m ms)

not_told : (event : Event) (answer : Answer) → Told answer ≡ Heard event → ⊥
not_told event answer e = absurd (cc)

-- what a turn came to
abbrev IsCameTo : List Way → Setting → ℕ → ℕ → ℕ → Event → List Happening → State → List Todo → List Entry → List Note → Result (Unit {0}) DispatchFault → Type 0
IsCameTo ways setting w l left event h st rest es now result =
    (b : Run) × HasTurned ways left (turn_start setting w l event h st rest) w es now b × IsToDoBehind (Hear event (suc w) ∷ rest) b result

-- what is known of a turn
record IsKnown (ways : List Way) (setting : Setting) (w l left : ℕ) (way : Way) (event : Event) (h : List Happening) (st : State) (ms : List (Call × Answer)) (now : List Note) : Type 0 where
  turn : IsTurn ways setting w l left way event h st ms
  answers : (more : List Note) → now ≡ notes_in w h ++ Heard event ∷ more → AreAnswers (answering ways setting w) (notes_in w h ++ Heard event ∷ []) more

unmade : (ways : List Way) (setting : Setting) (w l left : ℕ) (way : Way) (event : Event) (h : List Happening) (st : State) (rest : List Todo) (ms : List (Call × Answer)) (now : List Note) (call : Call) → IsKnown ways setting w l left way event h st ms now
    → now ≡ notes_in w h ++ Heard event ∷ (made_notes ms ++ Made call ∷ []) → IsCameTo ways setting w l left event h st rest (made_entries w ms) now (Err fault.OutOfMemory)
unmade ways setting w l left way event h st rest ms now call k e =
    let c : Run = turn_made setting w left event h st rest ms call in (
      c,
      to_notes ways left (turn_start setting w l event h st rest) w (made_entries w ms) (notes_in w h ++ Heard event ∷ (made_notes ms ++ Made call ∷ [])) now c (sym e)
          (made_to ways setting w l left way event h st rest ms call k.turn (k.answers (made_notes ms ++ Made call ∷ []) e)),
      tt,
    )

untold : (ways : List Way) (setting : Setting) (w l left : ℕ) (way : Way) (event : Event) (h : List Happening) (st : State) (rest : List Todo) (ms : List (Call × Answer)) (now : List Note) (answer : Answer) → IsKnown ways setting w l left way event h st ms now
    → now ++ Told answer ∷ [] ≡ notes_in w h ++ Heard event ∷ made_notes ms → IsCameTo ways setting w l left event h st rest (made_entries w ms) now (Err fault.OutOfMemory)
untold ways setting w l left way event h st rest ms now answer k e = elim (last_view ms) [
  | inl none ↦ absurd (not_told event answer (snoc_eq now (notes_in w h) (Told answer) (Heard event) (e ∙ ap (λ xs. notes_in w h ++ Heard event ∷ made_notes xs) none)).1)
  | inr v ↦
      let f : List (Call × Answer) = v.0 in
      let m : Call × Answer = v.1 in
      let all : notes_in w h ++ Heard event ∷ made_notes ms ≡ (notes_in w h ++ Heard event ∷ (made_notes f ++ Made m.0 ∷ [])) ++ Told m.1 ∷ [] =
      ap (λ xs. notes_in w h ++ Heard event ∷ made_notes xs) v.2 ∙ ap (λ ns. notes_in w h ++ Heard event ∷ ns) (notes_snoc f m)
      ∙ sym (append_assoc (notes_in w h) (Heard event ∷ (made_notes f ++ Made m.0 ∷ [])) (Told m.1 ∷ [])) in
      let is : now ≡ notes_in w h ++ Heard event ∷ (made_notes f ++ Made m.0 ∷ []) = (snoc_eq now (notes_in w h ++ Heard event ∷ (made_notes f ++ Made m.0 ∷ [])) (Told answer) (Told m.1) (e ∙ all)).0 in
      let to = untold_to ways setting w l left way event h st rest f m (subst (λ xs. IsTurn ways setting w l left way event h st xs) v.2 k.turn) (k.answers (made_notes f ++ Made m.0 ∷ []) is) in (
        to.0,
        subst (λ xs. HasTurned ways left (turn_start setting w l event h st rest) w (made_entries w xs) now to.0) (sym v.2)
            (to_notes ways left (turn_start setting w l event h st rest) w (made_entries w (f ++ m ∷ [])) (notes_in w h ++ Heard event ∷ (made_notes f ++ Made m.0 ∷ [])) now to.0 (sym is) to.1),
        tt,
      )
]

-- by what the turn ended with
by_result : (result : Result (Unit {0}) DispatchFault) (ways : List Way) (setting : Setting) (w l left : ℕ) (way : Way) (event : Event) (h : List Happening) (st : State) (rest : List Todo) (ms : List (Call × Answer)) (now : List Note) → IsKnown ways setting w l left way event h st ms now
    → HasTurnNotes event (record { listener = w; entries = made_entries w ms; left = left; before = notes_in w h; now = now }) result → call_notes w (made_entries w ms) ≡ made_notes ms
    → IsCameTo ways setting w l left event h st rest (made_entries w ms) now result
by_result (Ok tt) ways setting w l left way event h st rest ms now k e n =
    let is : now ≡ notes_in w h ++ Heard event ∷ (made_notes ms ++ Rested ∷ []) = e ∙ ap (λ ns. notes_in w h ++ Heard event ∷ (ns ++ Rested ∷ [])) n in
    let to = rested ways setting w l left way event h st rest ms k.turn (k.answers (made_notes ms ++ Rested ∷ []) is) in
    (to.0, to_notes ways left (turn_start setting w l event h st rest) w (made_entries w ms) (notes_in w h ++ Heard event ∷ (made_notes ms ++ Rested ∷ [])) now to.0 (sym is) to.1, to.2)
by_result (Err (fault.CallBudget v)) ways setting w l left way event h st rest ms now k e n =
    let is : now ≡ notes_in w h ++ Heard event ∷ (made_notes ms ++ Made e.2.0 ∷ []) = e.2.1 ∙ ap (λ ns. notes_in w h ++ Heard event ∷ (ns ++ Made e.2.0 ∷ [])) n in
    let to = full_to ways setting w l left way event h st rest ms e.2.0 k.turn (k.answers (made_notes ms ++ Made e.2.0 ∷ []) is) (omega (arith, e.1, count_made w ms)) in
    (to.0, to_notes ways left (turn_start setting w l event h st rest) w (made_entries w ms) (notes_in w h ++ Heard event ∷ (made_notes ms ++ Made e.2.0 ∷ [])) now to.0 (sym is) to.1, to.2 ∙ ap (λ x. over (CallBudget x)) (sym e.0))
by_result (Err fault.TaskBudget) ways setting w l left way event h st rest ms now k e n =
    let is : now ≡ notes_in w h ++ Heard event ∷ (made_notes ms ++ Made e.2.0 ∷ []) = e.2.1 ∙ ap (λ ns. notes_in w h ++ Heard event ∷ (ns ++ Made e.2.0 ∷ [])) n in
    let to = spent_to ways setting w l left way event h st rest ms e.2.0 k.turn (k.answers (made_notes ms ++ Made e.2.0 ∷ []) is) (omega (arith, e.1, count_made w ms)) e.0 in
    (to.0, to_notes ways left (turn_start setting w l event h st rest) w (made_entries w ms) (notes_in w h ++ Heard event ∷ (made_notes ms ++ Made e.2.0 ∷ [])) now to.0 (sym is) to.1, to.2)
by_result (Err fault.OutOfMemory) ways setting w l left way event h st rest ms now k (inl e) n =
    let none : [] ≡ made_entries w ms = no_entries w ms (omega (arith, e.no_call, count_made w ms)) in
    let start : Run = turn_start setting w l event h st rest in
    (start, subst (λ es. HasTurned ways left start w es now start) none (to_notes ways left start w [] (notes_in w h) now start (sym e.notes) (unheard_to ways setting w l left event h st rest (omega (arith, k.turn.left_is, e.no_call, count_made w ms)))), tt)
by_result (Err fault.OutOfMemory) ways setting w l left way event h st rest ms now k (inr (inl e)) n =
    let is : now ≡ notes_in w h ++ Heard event ∷ made_notes ms = e ∙ ap (λ ns. notes_in w h ++ Heard event ∷ ns) n in
    let c : Run = turn_calls setting w left event h st rest ms in (
      c,
      to_notes ways left (turn_start setting w l event h st rest) w (made_entries w ms) (notes_in w h ++ Heard event ∷ made_notes ms) now c (sym is)
          (called_to ways setting w l left way event h st rest ms [] k.turn (k.answers (made_notes ms ++ []) (is ∙ ap (λ ns. notes_in w h ++ Heard event ∷ ns) (sym (append-nil (made_notes ms)))))),
      tt,
    )
by_result (Err fault.OutOfMemory) ways setting w l left way event h st rest ms now k (inr (inr (inl e))) n =
    untold ways setting w l left way event h st rest ms now e.0 k (e.1 ∙ ap (λ ns. notes_in w h ++ Heard event ∷ ns) n)
by_result (Err fault.OutOfMemory) ways setting w l left way event h st rest ms now k (inr (inr (inr e))) n =
    unmade ways setting w l left way event h st rest ms now e.1.0 k (e.1.1 ∙ ap (λ ns. notes_in w h ++ Heard event ∷ (ns ++ Made e.1.0 ∷ [])) n)

way_there : (ways : List Way) (w : ℕ) (way none : Way) → slice_get ways w ≡ Some way → slice_index_or ways w none ≡ way
way_there [] w way none e = absurd (cc)
way_there (x ∷ ways) zero way none e = cc
way_there (x ∷ ways) (suc w) way none e = way_there ways w way none e

served_at : (ways : List Way) (r : Run) (way : Way) (event : Event) (old new : TurnView) (rest : List Todo) (result : Result (Unit {0}) DispatchFault) → IsServed r.setting.blobs event old new result
    → new.number ≡ old.number → IsTurnBegun ways r way event old new rest → (b : Run) × IsTurnTo ways r b new × IsToDoBehind (Hear event (suc old.number) ∷ rest) b result
served_at ways r way event old new rest result p same q =
    let w : ℕ = old.number in
    let es : List Entry = p.entries in
    let s = split_turn w (w + 1) es p.own in
    let ms : List (Call × Answer) = s.0 in
    let none : s.1 ≡ [] = no_turn (suc w) s.1 (subst (λ x. AreCallsInTurn (suc w) x s.1) (one_on w) s.3) in
    let mine : es ≡ made_entries w ms ++ [] = s.2 ∙ ap (λ xs. made_entries w ms ++ xs) none in
    let all : es ≡ made_entries w ms = mine ∙ append-nil (made_entries w ms) in
    let own : call_notes w (made_entries w ms) ≡ made_notes ms = ap (call_notes w) (sym (append-nil (made_entries w ms))) ∙ own_of_made w ms [] ∙ append-nil (made_notes ms) in
    let turn : IsTurn ways r.setting w r.left new.run.left way event r.happened r.state ms = record {
      there = q.way_is;
      replays = subst (λ xs. IsReplay r.setting.blobs r.state xs) all (p.calls.engine.replays r.state q.seen.stands);
      few = omega (arith, p.few, ap length all, length_made w ms);
      left_is = omega (arith, q.seen.left, p.calls.left, ap length all, length_made w ms);
    } in
    let known : IsKnown ways r.setting w r.left new.run.left way event r.happened r.state ms new.notes = record {
      turn = turn;
      answers = λ more e. answers_in ways r.setting w way (notes_in w r.happened) event new.notes more q.way_is (way_there ways w way (λ rules notes. None) q.way_is) q.by_way e;
    } in
    let told : HasTurnNotes event (record { listener = w; entries = made_entries w ms; left = new.run.left; before = notes_in w r.happened; now = new.notes }) result =
    subst (λ ns. HasTurnNotes event (record { listener = w; entries = made_entries w ms; left = new.run.left; before = ns; now = new.notes }) result) (sym q.notes)
    (subst (λ xs. HasTurnNotes event (record { listener = w; entries = xs; left = new.run.left; before = old.notes; now = new.notes }) result) all p.notes) in
    let came = by_result result ways r.setting w r.left new.run.left way event r.happened r.state rest ms new.notes known told own in
    let start : turn_start r.setting w r.left event r.happened r.state rest ≡ r = ap (λ t. at r.setting r.happened r.state r.left t) (sym q.todo) in
    let to : HasTurned ways new.run.left r w es new.notes came.0 =
    subst (λ x. HasTurned ways new.run.left x w es new.notes came.0) start (subst (λ xs. HasTurned ways new.run.left (turn_start r.setting w r.left event r.happened r.state rest) w xs new.notes came.0) (sym all) came.1) in (
      came.0,
      record {
        reached = to.reached;
        seen = record {
          stands = subst (λ x. Stands new.run.engine x) (sym to.state) (p.calls.engine.stands r.state q.seen.stands);
          journal = to.journal ∙ ap (λ xs. xs ++ es) q.seen.journal ∙ sym p.calls.journal;
          left = to.leaves;
        };
        own = subst (λ v. notes_in v came.0.happened ≡ new.notes) (sym same) to.own;
        others = λ v ne. to.others v (λ e. ne (e ∙ sym same));
        put = to.put;
      },
      came.2,
    )
  where
    one_on : (w : ℕ) → w + 1 ≡ suc w + 0
    one_on w = omega arith

-- a turn is steps of each run in which it may begin
pub served : (blobs : List (List ℕ)) (event : Event) (old new : TurnView) (result : Result (Unit {0}) DispatchFault) → new.number ≡ old.number → IsServed blobs event old new result → IsServedInSteps blobs event old new result
served blobs event old new result same p ways r way rest e q =
    served_at ways r way event old new rest result (subst (λ bs. IsServed bs event old new result) (sym e) p) same q

-- ---- notes are only added

snoc_split : (x : Note) (xs : List Note) → (front : List Note) × (last : Note) × (x ∷ xs ≡ front ++ last ∷ [])
snoc_split x [] = ([], x, refl)
snoc_split x (y ∷ xs) = let r = snoc_split y xs in (x ∷ r.0, r.1, ap (λ zs. x ∷ zs) r.2)

untold_grown : (before now : List Note) (x : Note) (xs : List Note) (last : Note) → now ++ last ∷ [] ≡ before ++ x ∷ xs → IsGrown before now
untold_grown before now x xs last e =
    let s = snoc_split x xs in
    (s.0, (snoc_eq now (before ++ s.0) last s.1 (e ∙ ap (λ zs. before ++ zs) s.2 ∙ sym (append_assoc before s.0 (s.1 ∷ [])))).0)

grown_by : (result : Result (Unit {0}) DispatchFault) (event : Event) (w left : ℕ) (es : List Entry) (before now : List Note) → HasTurnNotes event (record { listener = w; entries = es; left = left; before = before; now = now }) result → IsGrown before now
grown_by (Ok tt) event w left es before now e = (_, e)
grown_by (Err (fault.CallBudget v)) event w left es before now e = (_, e.2.1)
grown_by (Err fault.TaskBudget) event w left es before now e = (_, e.2.1)
grown_by (Err fault.OutOfMemory) event w left es before now (inl e) = ([], e.notes ∙ sym (append-nil before))
grown_by (Err fault.OutOfMemory) event w left es before now (inr (inl e)) = (_, e)
grown_by (Err fault.OutOfMemory) event w left es before now (inr (inr (inl e))) = untold_grown before now (Heard event) (call_notes w es) (Told e.0) e.1
grown_by (Err fault.OutOfMemory) event w left es before now (inr (inr (inr e))) = (_, e.1.1)

pub served_grown : (blobs : List (List ℕ)) (event : Event) (old new : TurnView) (result : Result (Unit {0}) DispatchFault) → IsServed blobs event old new result → IsGrown old.notes new.notes
served_grown blobs event old new result p = grown_by result event old.number new.run.left p.entries old.notes new.notes p.notes

-- behind a function that changed no notes
pub grown_from : (a b c : List Note) → b ≡ a → IsGrown b c → IsGrown a c
grown_from a b c e g = subst (λ ns. IsGrown ns c) e g
