-- The turn of one listener, call by call.
use Rattle.std.proofs.Common.{◌≡◌, ◌≢◌, ℕ, ◌+◌, ◌<◌, ◌≤◌, List, [], ◌∷◌, ◌++◌, length, refl, sym, ◌∙◌, ap, append_assoc, arith, inl, inr, length-append, eq-eqb, subst, cond}
use Rattle.std.specs.Prelude.{Option, Some, None, Result, Ok, Err, IfOk, OnErr}
use Rattle.std.proofs.lemmas.List.{append-nil}
use Rattle.std.proofs.lemmas.List.Sums.{sum_by-cons}
use Rattle.std.proofs.lemmas.Grind.{flat_map-append}
use Rattle.mse_base.specs.declared.memory.OutOfMemory.{OutOfMemory as NoMemory}
use Rattle.mse_calls.specs.declared.answers.Answer.{Answer}
use Rattle.mse_calls.specs.declared.calls.Call.{Call}
use Rattle.mse_calls.specs.declared.events.Event.{Event}
use Rattle.mse_calls.specs.declared.entry.Entry.{Entry}
use Rattle.mse_calls.specs.declared.entry.Entry.TheVariants.{Step, Script, Listener, Fired, Work, Element}
use Rattle.mse_engine.specs.State.{State}
use Rattle.mse_engine.specs.Standing.{Stands, IsStep}
use Rattle.mse_engine.specs.Calls.{after_call}
use Rattle.mse_engine.specs.Sound.{IsSoundEngine}
use Rattle.mse_engine.proofs.Transitions.{goes_none, goes_then, goes_listener}
use Rattle.run_steps.specs.declared.note.Note.{Note}
use Rattle.run_steps.specs.declared.note.Note.TheVariants.{Heard, Made, Told, Rested}
use Rattle.listeners.specs.declared.event_dispatch.DispatchFault.TheVariants.{OutOfMemory, CallBudget, TaskBudget}
use Rattle.listeners.specs.Notes.{told_note, asked_note, entry_notes, is_call_of, call_notes, call_count}
use Rattle.listeners.specs.Dispatch.{AreCallsInTurn, IsAfterCalls, IsCallTurn, IsServed}
use Rattle.listeners.specs.Views.{RunView, TurnView, turn_view}

-- ---- entries that are calls in turn

-- induction over calls in turn
pub AreCallsInTurn-induction : (P : ℕ → List Entry → Type 0) (high : ℕ) → ((low : ℕ) → P low [])
    → ((low v : ℕ) (call : Call) (answer : Answer) (xs : List Entry) → low ≤ v → v < high → AreCallsInTurn v high xs → P v xs → P low (Listener v call answer ∷ xs))
    → (low : ℕ) (xs : List Entry) → AreCallsInTurn low high xs → P low xs
AreCallsInTurn-induction P high none more low [] h = none low
AreCallsInTurn-induction P high none more low (Listener v call answer ∷ xs) h =
    more low v call answer xs h.0 h.1 h.2 (AreCallsInTurn-induction P high none more v xs h.2)
AreCallsInTurn-induction P high none more low (Step n ∷ xs) h = absurd h
AreCallsInTurn-induction P high none more low (Script call answer ∷ xs) h = absurd h
AreCallsInTurn-induction P high none more low (Fired event ∷ xs) h = absurd h
AreCallsInTurn-induction P high none more low (Work k ∷ xs) h = absurd h
AreCallsInTurn-induction P high none more low (Element ∷ xs) h = absurd h

one_more : (w v : ℕ) (call : Call) (answer : Answer) (xs : List Entry) → v ≡ w → call_count w xs ≡ length xs
    → call_count w (Listener v call answer ∷ xs) ≡ length (Listener v call answer ∷ xs)
one_more w v call answer xs same h =
    sum_by-cons (λ e. cond (is_call_of w e) 1 0) (Listener v call answer) xs ∙ rw (eq-eqb v w same) (omega (arith, h))

-- the calls of listener `w` alone are as many as the entries
count_own : (w : ℕ) (xs : List Entry) → AreCallsInTurn w (w + 1) xs → call_count w xs ≡ length xs
count_own w xs h = AreCallsInTurn-induction (λ low ys. w ≤ low → call_count w ys ≡ length ys) (w + 1)
    (λ low le. refl)
    (λ low v call answer ys le lt rest p from. one_more w v call answer ys (omega (arith, le, lt, from)) (p (omega (arith, le, from))))
    w xs h (omega arith)

-- one more call of listener `w`
calls_one_more : (w : ℕ) (xs : List Entry) (call : Call) (answer : Answer) → AreCallsInTurn w (w + 1) xs → AreCallsInTurn w (w + 1) (xs ++ Listener w call answer ∷ [])
calls_one_more w xs call answer h = AreCallsInTurn-induction (λ low ys. low ≤ w → AreCallsInTurn low (w + 1) (ys ++ Listener w call answer ∷ [])) (w + 1)
    (λ low le. (le, omega arith, tt))
    (λ low v c a ys le lt rest p upto. (le, lt, p (omega (arith, lt))))
    w xs h (omega arith)

-- ---- what the entries do

pub makes_none : (blobs : List (List ℕ)) (r : RunView) → IsAfterCalls blobs r r []
makes_none blobs r = record { journal = sym (append-nil r.entries); engine = goes_none blobs r.engine; left = omega arith }

pub makes_then : (blobs : List (List ℕ)) (r0 r1 r2 : RunView) (xs ys : List Entry)
    → IsAfterCalls blobs r0 r1 xs → IsAfterCalls blobs r1 r2 ys → IsAfterCalls blobs r0 r2 (xs ++ ys)
makes_then blobs r0 r1 r2 xs ys p q = record {
  journal = q.journal ∙ ap (λ (x : List Entry). x ++ ys) p.journal ∙ append_assoc r0.entries xs ys;
  engine = goes_then blobs r0.engine r1.engine r2.engine xs ys p.engine q.engine;
  left = omega (arith, length-append xs ys, p.left, q.left);
}

-- a call of listener `w` that the engine answered, behind which it is sound
pub makes_one : (blobs : List (List ℕ)) (w : ℕ) (call : Call) (answer : Answer) (r0 r1 : RunView)
    → r1.entries ≡ r0.entries ++ Listener w call answer ∷ []
    → ((st : State) → Stands r0.engine st → IsStep answer r1.engine (after_call blobs call st)) → IsSoundEngine r1.engine
    → r0.left ≡ r1.left + 1 → IsAfterCalls blobs r0 r1 (Listener w call answer ∷ [])
makes_one blobs w call answer r0 r1 j a sound l =
    record { journal = j; engine = goes_listener blobs r0.engine r1.engine w call answer a sound; left = l }

-- ---- one call

-- it was not made
pub call_turn_unmade : (blobs : List (List ℕ)) (w : ℕ) (call : Call) (r0 r1 : RunView) (n : List Note) (memory : NoMemory)
    → r1.entries ≡ r0.entries → r1.engine ≡ r0.engine → r1.left ≡ r0.left
    → IsCallTurn blobs call (turn_view w r0 n) (turn_view w r1 n) (Err memory)
call_turn_unmade blobs w call r0 r1 n memory j e l = (
  refl,
  inl (record { journal = j ∙ sym (append-nil r0.entries); engine = rw e (goes_none blobs r0.engine); left = omega (arith, l) }),
)

-- it was made, and what the listener said then
pub call_turn_made : (blobs : List (List ℕ)) (w : ℕ) (call : Call) (answer : Answer) (r0 r1 : RunView) (n0 n1 : List Note) (asked : Result (Option Call) NoMemory)
    → IsAfterCalls blobs r0 r1 (Listener w call answer ∷ []) → IfOk asked (λ next. n1 ≡ n0 ++ (told_note (Some answer) ++ asked_note next)) → OnErr asked (n1 ≡ n0)
    → IsCallTurn blobs call (turn_view w r0 n0) (turn_view w r1 n1) asked
call_turn_made blobs w call answer r0 r1 n0 n1 (Ok next) m ok err = (answer, m, ok)
call_turn_made blobs w call answer r0 r1 n0 n1 (Err memory) m ok err = (err, inr (answer, m))

-- ---- the notes of the turn

-- the event, and the calls that were made
abbrev begun : Event → ℕ → List Entry → List Note
begun event w entries = Heard event ∷ call_notes w entries

call_notes_one : (w : ℕ) (call : Call) (answer : Answer) → call_notes w (Listener w call answer ∷ []) ≡ Made call ∷ Told answer ∷ []
call_notes_one w call answer = rw (eq-eqb w w refl) refl

begun_more : (event : Event) (w : ℕ) (xs : List Entry) (call : Call) (answer : Answer)
    → begun event w (xs ++ Listener w call answer ∷ []) ≡ begun event w xs ++ Made call ∷ Told answer ∷ []
begun_more event w xs call answer =
    ap (λ (n : List Note). Heard event ∷ n) (flat_map-append (entry_notes w) xs (Listener w call answer ∷ []) ∙ ap (λ (n : List Note). call_notes w xs ++ n) (call_notes_one w call answer))

seam : (n b a : List Note) (m t : Note) → (n ++ (b ++ m ∷ [])) ++ t ∷ a ≡ n ++ ((b ++ m ∷ t ∷ []) ++ a)
seam n b a m t = simp append_assoc

-- so many calls were made, and then the listener answered what stands for `next_call`
pub record Asking : Type 0 where
  pub call_count : ℕ
  pub next_call : Option Call

-- The listener heard the event, and was asked so far.
pub record IsServing (blobs : List (List ℕ)) (event : Event) (old new : TurnView) (asking : Asking) : Type 0 where
  pub entries : List Entry
  pub calls : IsAfterCalls blobs old.run new.run entries
  pub own : AreCallsInTurn old.number (old.number + 1) entries
  pub count : length entries ≡ asking.call_count
  pub few : asking.call_count ≤ 1000
  pub notes : new.notes ≡ old.notes ++ (begun event old.number entries ++ asked_note asking.next_call)

pub serving_start : (blobs : List (List ℕ)) (event : Event) (w : ℕ) (r : RunView) (n0 n1 n2 : List Note) (asked : Option Call)
    → n1 ≡ n0 ++ Heard event ∷ [] → n2 ≡ n1 ++ ([] ++ asked_note asked)
    → IsServing blobs event (turn_view w r n0) (turn_view w r n2) (record { call_count = 0; next_call = asked })
serving_start blobs event w r n0 n1 n2 asked p q = record {
  entries = [];
  calls = makes_none blobs r;
  own = tt;
  count = refl;
  few = omega arith;
  notes = q ∙ ap (λ (n : List Note). n ++ asked_note asked) p ∙ append_assoc n0 (Heard event ∷ []) (asked_note asked);
}

pub serving_more : (blobs : List (List ℕ)) (event : Event) (w : ℕ) (r0 r1 r2 : RunView) (n0 n1 n2 : List Note) (call : Call) (asked : Option Call) (made : ℕ)
    → IsServing blobs event (turn_view w r0 n0) (turn_view w r1 n1) (record { call_count = made; next_call = Some call }) → made ≢ 1000
    → IsCallTurn blobs call (turn_view w r1 n1) (turn_view w r2 n2) (Ok asked)
    → IsServing blobs event (turn_view w r0 n0) (turn_view w r2 n2) (record { call_count = made + 1; next_call = asked })
serving_more blobs event w r0 r1 r2 n0 n1 n2 call asked made s ne c =
    let one : List Entry = Listener w call c.0 ∷ [] in
    record {
      entries = s.entries ++ one;
      calls = makes_then blobs r0 r1 r2 s.entries one s.calls c.1;
      own = calls_one_more w s.entries call c.0 s.own;
      count = omega (arith, length-append s.entries one, s.count);
      few = omega (arith, s.few);
      notes = c.2 ∙ ap (λ (x : List Note). x ++ Told c.0 ∷ asked_note asked) s.notes
          ∙ seam n0 (begun event w s.entries) (asked_note asked) (Made call) (Told c.0)
          ∙ ap (λ (x : List Note). n0 ++ (x ++ asked_note asked)) (sym (begun_more event w s.entries call c.0));
    }

-- ---- how a turn ends

-- the event was not heard
pub turn_unheard : (blobs : List (List ℕ)) (event : Event) (w : ℕ) (r : RunView) (n0 n1 : List Note)
    → n1 ≡ n0 → IsServed blobs event (turn_view w r n0) (turn_view w r n1) (Err OutOfMemory)
turn_unheard blobs event w r n0 n1 p = record {
  entries = [];
  calls = makes_none blobs r;
  own = tt;
  few = omega arith;
  notes = inl (record { no_call = refl; notes = p });
}

-- it was not asked
pub turn_unasked : (blobs : List (List ℕ)) (event : Event) (w : ℕ) (r : RunView) (n0 n1 n2 : List Note)
    → n1 ≡ n0 ++ Heard event ∷ [] → n2 ≡ n1 → IsServed blobs event (turn_view w r n0) (turn_view w r n2) (Err OutOfMemory)
turn_unasked blobs event w r n0 n1 n2 p q = record {
  entries = [];
  calls = makes_none blobs r;
  own = tt;
  few = omega arith;
  notes = inr (inl (q ∙ p));
}

-- the call was not made
call_unmade : (blobs : List (List ℕ)) (event : Event) (w : ℕ) (r0 r1 r2 : RunView) (n0 n1 n2 : List Note) (call : Call) (made : ℕ)
    → IsServing blobs event (turn_view w r0 n0) (turn_view w r1 n1) (record { call_count = made; next_call = Some call }) → made ≢ 1000 → r1.left ≢ 0 → n2 ≡ n1 → IsAfterCalls blobs r1 r2 []
    → IsServed blobs event (turn_view w r0 n0) (turn_view w r2 n2) (Err OutOfMemory)
call_unmade blobs event w r0 r1 r2 n0 n1 n2 call made s ne some same stays = record {
  entries = s.entries;
  calls = subst (λ (x : List Entry). IsAfterCalls blobs r0 r2 x) (append-nil s.entries) (makes_then blobs r0 r1 r2 s.entries [] s.calls stays);
  own = s.own;
  few = omega (arith, s.count, s.few);
  notes = inr (inr (inr (
    (omega (arith, count_own w s.entries s.own, s.count, s.few, ne), omega (arith, stays.left, some)),
    (call, same ∙ s.notes),
  )));
}

-- the answer was not told
answer_untold : (blobs : List (List ℕ)) (event : Event) (w : ℕ) (r0 r1 r2 : RunView) (n0 n1 n2 : List Note) (call : Call) (made : ℕ)
    → IsServing blobs event (turn_view w r0 n0) (turn_view w r1 n1) (record { call_count = made; next_call = Some call }) → made ≢ 1000 → n2 ≡ n1
    → (answer : Answer) → IsAfterCalls blobs r1 r2 (Listener w call answer ∷ [])
    → IsServed blobs event (turn_view w r0 n0) (turn_view w r2 n2) (Err OutOfMemory)
answer_untold blobs event w r0 r1 r2 n0 n1 n2 call made s ne same answer m =
    let one : List Entry = Listener w call answer ∷ [] in
    record {
      entries = s.entries ++ one;
      calls = makes_then blobs r0 r1 r2 s.entries one s.calls m;
      own = calls_one_more w s.entries call answer s.own;
      few = omega (arith, length-append s.entries one, s.count, s.few, ne);
      notes = inr (inr (inl (
        answer,
        ap (λ (x : List Note). x ++ Told answer ∷ []) (same ∙ s.notes)
            ∙ seam n0 (begun event w s.entries) [] (Made call) (Told answer)
            ∙ ap (λ (x : List Note). n0 ++ x) (append-nil (begun event w s.entries ++ Made call ∷ Told answer ∷ []) ∙ sym (begun_more event w s.entries call answer)),
      )));
    }

pub turn_unmade : (blobs : List (List ℕ)) (event : Event) (w : ℕ) (r0 r1 r2 : RunView) (n0 n1 n2 : List Note) (call : Call) (made : ℕ) (memory : NoMemory)
    → IsServing blobs event (turn_view w r0 n0) (turn_view w r1 n1) (record { call_count = made; next_call = Some call }) → made ≢ 1000 → r1.left ≢ 0
    → IsCallTurn blobs call (turn_view w r1 n1) (turn_view w r2 n2) (Err memory)
    → IsServed blobs event (turn_view w r0 n0) (turn_view w r2 n2) (Err OutOfMemory)
turn_unmade blobs event w r0 r1 r2 n0 n1 n2 call made memory s ne some c =
    elim c.1 [
      | inl stays ↦ call_unmade blobs event w r0 r1 r2 n0 n1 n2 call made s ne some c.0 stays
      | inr m ↦ answer_untold blobs event w r0 r1 r2 n0 n1 n2 call made s ne c.0 m.0 m.1
    ]

-- it was passed over
pub turn_passed : (blobs : List (List ℕ)) (event : Event) (w : ℕ) (r : RunView) (n0 n1 : List Note)
    → n1 ≡ n0 ++ Heard event ∷ Rested ∷ [] → IsServed blobs event (turn_view w r n0) (turn_view w r n1) (Ok tt)
turn_passed blobs event w r n0 n1 is = record { entries = []; calls = makes_none blobs r; own = tt; few = omega arith; notes = is }

pub turn_done : (blobs : List (List ℕ)) (event : Event) (old new : TurnView) (made : ℕ)
    → IsServing blobs event old new (record { call_count = made; next_call = None }) → IsServed blobs event old new (Ok tt)
turn_done blobs event old new made s = record { entries = s.entries; calls = s.calls; own = s.own; few = omega (arith, s.count, s.few); notes = s.notes }

pub turn_call_budget : (blobs : List (List ℕ)) (event : Event) (old new : TurnView) (call : Call) (made : ℕ)
    → IsServing blobs event old new (record { call_count = made; next_call = Some call }) → made ≡ 1000 → IsServed blobs event old new (Err (CallBudget old.number))
turn_call_budget blobs event old new call made s full = record {
  entries = s.entries;
  calls = s.calls;
  own = s.own;
  few = omega (arith, s.count, s.few);
  notes = (refl, count_own old.number s.entries s.own ∙ s.count ∙ full, (call, s.notes));
}

pub turn_task_budget : (blobs : List (List ℕ)) (event : Event) (old new : TurnView) (call : Call) (made : ℕ)
    → IsServing blobs event old new (record { call_count = made; next_call = Some call }) → made ≢ 1000 → new.run.left ≡ 0 → IsServed blobs event old new (Err TaskBudget)
turn_task_budget blobs event old new call made s ne none = record {
  entries = s.entries;
  calls = s.calls;
  own = s.own;
  few = omega (arith, s.count, s.few);
  notes = (none, omega (arith, count_own old.number s.entries s.own, s.count, s.few), (call, s.notes));
}
