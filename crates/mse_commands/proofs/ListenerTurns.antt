-- What a listener did is its turn of the play.
use Rattle.std.proofs.Common.{◌≡◌, ℕ, zero, suc, ◌+◌, ◌≤◌, List, [], ◌∷◌, ◌++◌, length, refl, ap, sym, subst, ◌∙◌, arith, append_assoc}
use Rattle.std.specs.Prelude.{Some, None}
use Rattle.mse_calls.specs.declared.answers.Answer.{Answer}
use Rattle.mse_calls.specs.declared.calls.Call.{Call}
use Rattle.mse_calls.specs.declared.entry.Entry.{Entry}
use Rattle.mse_calls.specs.declared.entry.Entry.TheVariants.{Listener}
use Rattle.run_steps.specs.declared.note.Note.{Note}
use Rattle.run_steps.specs.declared.note.Note.TheVariants.{Made, Told, Rested}
use Rattle.script_run.specs.declared.stop.Stop.{Stop}
use Rattle.script_run.specs.declared.stop.Stop.TheVariants.{CallBudget, TaskBudget}
use Rattle.mse_engine.specs.State.{State}
use Rattle.mse_engine.specs.Calls.{after_call}
use Rattle.mse_engine.specs.Run.{after_entries, IsReplay}
use Rattle.mse_commands.specs.Played.{ListenerState, TurnPart, with_notes, turn_rested, turn_stopped, turn_behind, turn_full, turn_call, turn_by, turn_in}
use Rattle.mse_commands.proofs.ListenerAnswers.{AreAnswers}

-- the entries and the notes of calls with their answers
abbrev pub made_entries : ℕ → List (Call × Answer) → List Entry
made_entries w [] = []
made_entries w (m ∷ ms) = Listener w m.0 m.1 ∷ made_entries w ms

abbrev pub made_notes : List (Call × Answer) → List Note
made_notes [] = []
made_notes (m ∷ ms) = Made m.0 ∷ Told m.1 ∷ made_notes ms

abbrev pub pair_notes : Call × Answer → List Note
pair_notes m = Made m.0 ∷ Told m.1 ∷ []

-- a call that is answered is made, and the turn goes on
one_made : (n : ℕ) (blobs : List (List ℕ)) (w : ℕ) (st : State) (left : ℕ) (h : ListenerState) (m : Call × Answer) → h.answers h.notes ≡ Some m.0 → m.1 ≡ (after_call blobs m.0 st).answer
    → turn_in (suc n) blobs w st (suc left) h ≡ turn_behind (Listener w m.0 m.1) (turn_in n blobs w (after_call blobs m.0 st).state left (with_notes h (pair_notes m)))
one_made n blobs w st left h m e is =
    let made = after_call blobs m.0 st in
    ap (turn_by (turn_in n blobs w) blobs w st (suc left) h) e
    ∙ ap (λ (x : Answer). turn_behind (Listener w m.0 x) (turn_in n blobs w made.state left (with_notes h (Made m.0 ∷ Told x ∷ [])))) (sym is)

-- what is answered behind a call
pub past_one : (h : ListenerState) (m : Call × Answer) (more : List Note) → AreAnswers h.answers h.notes (Made m.0 ∷ Told m.1 ∷ more) → AreAnswers h.answers (h.notes ++ pair_notes m) more
past_one h m more a = subst (λ ns. AreAnswers h.answers ns more) (append_assoc h.notes (Made m.0 ∷ []) (Told m.1 ∷ [])) a.1

-- ---- a turn that went through

-- the turn of a listener that made these calls and rested
abbrev pub whole_turn : List (List ℕ) → ℕ → State → ℕ → ListenerState → List (Call × Answer) → TurnPart
whole_turn blobs w st rest h made = record {
  entries = made_entries w made;
  state = after_entries blobs st (made_entries w made);
  left = rest;
  listener = with_notes h (made_notes made ++ Rested ∷ []);
  stop = None;
}

rest_turn : (n : ℕ) (blobs : List (List ℕ)) (w : ℕ) (st : State) (left : ℕ) (h : ListenerState) → h.answers h.notes ≡ None → turn_in n blobs w st left h ≡ turn_rested st left h
rest_turn zero blobs w st left h e = ap (turn_full w st left h) e
rest_turn (suc n) blobs w st left h e = ap (turn_by (turn_in n blobs w) blobs w st left h) e

-- a listener that made these calls with these answers, and rested, had just this turn
pub one_turn : (made : List (Call × Answer)) (n : ℕ) (blobs : List (List ℕ)) (w : ℕ) (st : State) (left rest : ℕ) (h : ListenerState) → IsReplay blobs st (made_entries w made)
    → AreAnswers h.answers h.notes (made_notes made ++ Rested ∷ []) → length made ≤ n → left ≡ rest + length made
    → turn_in n blobs w st left h ≡ whole_turn blobs w st rest h made
one_turn [] n blobs w st left rest h r a few e =
    let same : left ≡ rest = omega (arith, e) in
    rest_turn n blobs w st left h a.0 ∙ ap (λ (l : ℕ). turn_rested st l h) same
one_turn (m ∷ ms) zero blobs w st left rest h r a few e = absurd (omega (arith, few))
one_turn (m ∷ ms) (suc n) blobs w st zero rest h r a few e = absurd (omega (arith, e))
one_turn (m ∷ ms) (suc n) blobs w st (suc left) rest h r a few e =
    let made = after_call blobs m.0 st in
    let next : ListenerState = with_notes h (pair_notes m) in
    let past : AreAnswers h.answers (h.notes ++ pair_notes m) (made_notes ms ++ Rested ∷ []) = past_one h m (made_notes ms ++ Rested ∷ []) a in
    let tail : turn_in n blobs w made.state left next ≡ whole_turn blobs w made.state rest next ms = one_turn ms n blobs w made.state left rest next r.1 past (omega (arith, few)) (omega (arith, e)) in
    one_made n blobs w st left h m a.0 r.0
    ∙ ap (turn_behind (Listener w m.0 m.1)) tail
    ∙ ap (λ (ns : List Note). record (whole_turn blobs w st rest h (m ∷ ms)) { listener = record h { notes = ns } }) (append_assoc h.notes (pair_notes m) (made_notes ms ++ Rested ∷ []))

-- ---- a turn that a limit ended

-- why listener w, which may make n calls more for the event, is stopped where so many are left in the line
abbrev pub IsLimitAt : ℕ → ℕ → ℕ → Stop → Type 0
IsLimitAt zero rest w stop = stop ≡ CallBudget w
IsLimitAt (suc n) rest w stop = (rest ≡ 0) × (stop ≡ TaskBudget)

cut_now : (n : ℕ) (blobs : List (List ℕ)) (w : ℕ) (st : State) (rest : ℕ) (h : ListenerState) (call : Call) (stop : Stop) → h.answers h.notes ≡ Some call → IsLimitAt n rest w stop
    → turn_in n blobs w st rest h ≡ turn_stopped st rest h call stop
cut_now zero blobs w st rest h call stop e c = ap (turn_full w st rest h) e ∙ ap (λ s. turn_stopped st rest h call s) (sym c)
cut_now (suc n) blobs w st rest h call stop e c =
    ap (turn_by (turn_in n blobs w) blobs w st rest h) e
    ∙ ap (λ l. turn_call (turn_in n blobs w) blobs w st l h call) c.0
    ∙ ap (λ l. turn_stopped st l h call TaskBudget) (sym c.0)
    ∙ ap (λ s. turn_stopped st rest h call s) (sym c.1)

abbrev pub cut_turn_of : List (List ℕ) → ℕ → State → ℕ → ListenerState → List (Call × Answer) → Call → Stop → TurnPart
cut_turn_of blobs w st rest h made call stop = record {
  entries = made_entries w made;
  state = after_entries blobs st (made_entries w made);
  left = rest;
  listener = with_notes h (made_notes made ++ Made call ∷ []);
  stop = Some stop;
}

-- a listener that made these calls, and answered one that was not made, had this turn
pub cut_turn : (made : List (Call × Answer)) (k n : ℕ) (blobs : List (List ℕ)) (w : ℕ) (st : State) (left rest : ℕ) (h : ListenerState) (call : Call) (stop : Stop) → IsReplay blobs st (made_entries w made)
    → AreAnswers h.answers h.notes (made_notes made ++ Made call ∷ []) → k ≡ length made + n → left ≡ rest + length made → IsLimitAt n rest w stop
    → turn_in k blobs w st left h ≡ cut_turn_of blobs w st rest h made call stop
cut_turn [] k n blobs w st left rest h call stop r a few e c =
    let same : left ≡ rest = omega (arith, e) in
    let fuel : k ≡ n = omega (arith, few) in
    ap (λ l. turn_in k blobs w st l h) same ∙ ap (λ m. turn_in m blobs w st rest h) fuel ∙ cut_now n blobs w st rest h call stop a.0 c
cut_turn (m ∷ ms) zero n blobs w st left rest h call stop r a few e c = absurd (omega (arith, few))
cut_turn (m ∷ ms) (suc k) n blobs w st zero rest h call stop r a few e c = absurd (omega (arith, e))
cut_turn (m ∷ ms) (suc k) n blobs w st (suc left) rest h call stop r a few e c =
    let made = after_call blobs m.0 st in
    let next : ListenerState = with_notes h (pair_notes m) in
    let more : List Note = made_notes ms ++ Made call ∷ [] in
    let tail : turn_in k blobs w made.state left next ≡ cut_turn_of blobs w made.state rest next ms call stop =
    cut_turn ms k n blobs w made.state left rest next call stop r.1 (past_one h m more a) (omega (arith, few)) (omega (arith, e)) c in
    one_made k blobs w st left h m a.0 r.0
    ∙ ap (turn_behind (Listener w m.0 m.1)) tail
    ∙ ap (λ (ns : List Note). record (cut_turn_of blobs w st rest h (m ∷ ms) call stop) { listener = record h { notes = ns } }) (append_assoc h.notes (pair_notes m) more)

-- ---- a front of a turn

-- the entries are a front of these
abbrev pub IsFront : List Entry → List Entry → Type 0
IsFront front all = (more : List Entry) × (all ≡ front ++ more)

-- a listener that made these calls has them in front of its turn
pub front_turn : (made : List (Call × Answer)) (k n : ℕ) (blobs : List (List ℕ)) (w : ℕ) (st : State) (left rest : ℕ) (h : ListenerState) → IsReplay blobs st (made_entries w made)
    → AreAnswers h.answers h.notes (made_notes made) → k ≡ length made + n → left ≡ rest + length made → IsFront (made_entries w made) (turn_in k blobs w st left h).entries
front_turn [] k n blobs w st left rest h r a few e = ((turn_in k blobs w st left h).entries, refl)
front_turn (m ∷ ms) zero n blobs w st left rest h r a few e = absurd (omega (arith, few))
front_turn (m ∷ ms) (suc k) n blobs w st zero rest h r a few e = absurd (omega (arith, e))
front_turn (m ∷ ms) (suc k) n blobs w st (suc left) rest h r a few e =
    let made = after_call blobs m.0 st in
    let tail = front_turn ms k n blobs w made.state left rest (with_notes h (pair_notes m)) r.1 (past_one h m (made_notes ms) a) (omega (arith, few)) (omega (arith, e)) in
    (tail.0, ap (λ (turn : TurnPart). turn.entries) (one_made k blobs w st left h m a.0 r.0) ∙ ap (λ (es : List Entry). Listener w m.0 m.1 ∷ es) tail.1)
