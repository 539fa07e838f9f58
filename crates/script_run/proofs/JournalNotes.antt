-- What a journal tells of listeners, one part after another.
use Rattle.std.proofs.Common.{◌≡◌, ℕ, List, [], ◌∷◌, ◌++◌, refl, sym, ◌∙◌, ap, append_assoc, arith}
use Rattle.std.proofs.lemmas.List.{append-nil}
use Rattle.mse_calls.specs.declared.entry.Entry.{Entry}
use Rattle.mse_calls.specs.declared.entry.Entry.TheVariants.{Step, Script, Listener, Fired, Work, Element}
use Rattle.run_steps.specs.declared.note.Note.{Note}
use Rattle.run_steps.specs.declared.note.Note.TheVariants.{Heard, Rested}
use Rattle.listeners.specs.declared.event_dispatch.DispatchFault.{DispatchFault}
use Rattle.listeners.specs.Notes.{call_notes, entry_notes, event_notes}
use Rattle.listeners.specs.Dispatch.{notes_at}
use Rattle.script_run.specs.Turns.{AreCallsInPlace, CallsLeft}
use Rattle.script_run.specs.NoteHistory.{entries_until_event, note_history, IsAllHeard}
use Rattle.script_run.specs.PlayedParts.{IsDispatchCut}
use Rattle.script_run.proofs.CallsInRow.{calls_before, fresh_calls}

-- the calls before the next event, of a journal that goes on with none
until-append : (xs ys : List Entry) (w : ℕ) → call_notes w (entries_until_event ys) ≡ [] → call_notes w (entries_until_event (xs ++ ys)) ≡ call_notes w (entries_until_event xs)
until-append [] ys w e = e
until-append (Fired event ∷ xs) ys w e = refl
until-append (Step n ∷ xs) ys w e = until-append xs ys w e
until-append (Script call answer ∷ xs) ys w e = until-append xs ys w e
until-append (Work k ∷ xs) ys w e = until-append xs ys w e
until-append (Element ∷ xs) ys w e = until-append xs ys w e
until-append (Listener v call answer ∷ xs) ys w e = ap (λ (x : List Note). entry_notes w (Listener v call answer) ++ x) (until-append xs ys w e)

note_history-append : (xs ys : List Entry) (w : ℕ) → call_notes w (entries_until_event ys) ≡ [] → note_history w (xs ++ ys) ≡ note_history w xs ++ note_history w ys
note_history-append [] ys w e = refl
note_history-append (Fired event ∷ xs) ys w e =
    ap (λ (x : List Note). (Heard event ∷ (x ++ Rested ∷ [])) ++ note_history w (xs ++ ys)) (until-append xs ys w e)
    ∙ ap (λ (x : List Note). event_notes event w (entries_until_event xs) ++ x) (note_history-append xs ys w e)
    ∙ sym (append_assoc (event_notes event w (entries_until_event xs)) (note_history w xs) (note_history w ys))
note_history-append (Step n ∷ xs) ys w e = note_history-append xs ys w e
note_history-append (Script call answer ∷ xs) ys w e = note_history-append xs ys w e
note_history-append (Work k ∷ xs) ys w e = note_history-append xs ys w e
note_history-append (Element ∷ xs) ys w e = note_history-append xs ys w e
note_history-append (Listener v call answer ∷ xs) ys w e = note_history-append xs ys w e

-- nothing was told
pub heard_none : (notes : List (List Note)) → IsAllHeard [] notes notes
heard_none notes = record { count = refl; notes = λ w lt. sym (append-nil (notes_at notes w)) }

-- entries of which nobody hears
pub heard_silence : (es : List Entry) (notes : List (List Note)) → ((w : ℕ) → note_history w es ≡ []) → IsAllHeard es notes notes
heard_silence es notes silent = record { count = refl; notes = λ w lt. rw (silent w) (sym (append-nil (notes_at notes w))) }

pub heard_then : (count : ℕ) (xs ys : List Entry) (n0 n1 n2 : List (List Note)) → IsAllHeard xs n0 n1 → IsAllHeard ys n1 n2 → AreCallsInPlace count ys → IsAllHeard (xs ++ ys) n0 n2
heard_then count xs ys n0 n1 n2 p q calls = record {
  count = q.count ∙ p.count;
  notes = λ w lt.
      let one = p.notes w lt in
      let two = q.notes w (omega (arith, lt, p.count)) in
      two ∙ ap (λ (x : List Note). x ++ note_history w ys) one ∙ append_assoc (notes_at n0 w) (note_history w xs) (note_history w ys)
      ∙ ap (λ (x : List Note). notes_at n0 w ++ x) (sym (note_history-append xs ys w (fresh_calls count ys w calls)));
}

-- a dispatch that was cut, behind others
pub cut_then : (part whole : CallsLeft) (fault : DispatchFault) (count : ℕ) (xs ys : List Entry) (n0 n1 n2 : List (List Note)) → ((left : ℕ) → part ys left → whole (xs ++ ys) left)
    → IsAllHeard xs n0 n1 → IsDispatchCut part fault ys n1 n2 → AreCallsInPlace count ys → IsDispatchCut whole fault (xs ++ ys) n0 n2
cut_then part whole fault count xs ys n0 n1 n2 more p q calls = record {
  before = xs ++ q.before;
  event = q.event;
  calls = q.calls;
  left = q.left;
  middle = q.middle;
  entries_are = ap (λ (x : List Entry). xs ++ x) q.entries_are ∙ sym (append_assoc xs q.before (Fired q.event ∷ q.calls));
  left_is = more q.left q.left_is;
  heard = heard_then count xs q.before n0 n1 q.middle p q.heard (calls_before count q.before (Fired q.event ∷ q.calls) refl (rw q.entries_are at calls));
  in_turn = q.in_turn;
  count = q.count;
  end = q.end;
}
