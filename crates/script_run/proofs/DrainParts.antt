-- The parts of a drain.
use Rattle.std.proofs.Common.{◌≡◌, ℕ, List, [], ◌∷◌, ◌++◌, length, refl, sym, ◌∙◌, ap, append_assoc, arith, inl, inr}
use Rattle.std.specs.Prelude.{Option, Some, None, Bool, true, false, option_map, slice_get}
use Rattle.std.proofs.lemmas.List.{append-nil}
use Rattle.mse_calls.specs.declared.events.Event.{Event}
use Rattle.mse_calls.specs.declared.entry.Entry.{Entry}
use Rattle.mse_calls.specs.declared.entry.Entry.TheVariants.{Fired, Work, Element}
use Rattle.run_steps.specs.declared.note.Note.{Note}
use Rattle.mse_engine.specs.State.{State}
use Rattle.mse_engine.specs.declared.engine.Worked.TheVariants.{Did}
use Rattle.mse_engine.specs.Standing.{IsStanding, IsWork, KeptEngine, Stands}
use Rattle.mse_engine.specs.Run.{after_entries, fire_meaning}
use Rattle.mse_engine.specs.Work.{after_element_turn, is_turn_due, running_in, without_first}
use Rattle.mse_engine.proofs.Transitions.{goes_none, goes_then}
use Rattle.call_script.specs.declared.script.StepLine.TheVariants.{Fire, Drain}
use Rattle.mse_outside.specs.Outside.{SinkView}
use Rattle.script_run.specs.declared.stop.Stop.{Stop}
use Rattle.script_run.specs.DrainSteps.{AreInDrainOrder, IsAtRest, IsQuiet, HasNoEvent, element_step, work_step}
use Rattle.script_run.specs.Progress.{IsCalm, HasFewerTurns}
use Rattle.script_run.specs.Lines.{IsLineFront, IsLineEntries}
use Rattle.listeners.specs.Views.{RunView}
use Rattle.script_run.specs.RunParts.{EntryRelation}
use Rattle.script_run.specs.PlayedParts.{IsSilentDrain, IsPlayedInLine, IsPlayedInLineUpTo, IsOwnStep, IsOwnStepIf}
use Rattle.script_run.specs.RunStates.{RunState, run_at}
use Rattle.script_run.specs.Turns.{AreCallsInPlace}
use Rattle.script_run.proofs.PutLines.{wrote_none}
use Rattle.script_run.proofs.ListenerTurns.{calls_in-append}
use Rattle.script_run.proofs.CallsInRow.{silent_in_place}
use Rattle.script_run.proofs.JournalNotes.{heard_silence}
use Rattle.script_run.proofs.FiredEvents.{fire_in_order}
use Rattle.script_run.proofs.FollowedLines.{order_then}
use Rattle.script_run.proofs.PartsInRow.{ArePartsInRow, ran_as, stop_as, ran_then, ran_stop, ran_none}
use Rattle.script_run.proofs.WorkLeft.{due_turns, running_works, same_running, turn_taken}

-- ---- an event

pub fire_ran_order : (blobs : List (List ℕ)) (a b : RunState) → IsPlayedInLine blobs (λ st part. IsLineEntries blobs st Fire part) a b → IsPlayedInLine blobs (AreInDrainOrder blobs) a b
fire_ran_order blobs a b p = ran_as blobs (λ st part. IsLineEntries blobs st Fire part) (AreInDrainOrder blobs) a b p (λ st es h goes calls d. fire_in_order blobs (length a.notes) st es calls d)

begins_order : (blobs : List (List ℕ)) (count : ℕ) (st : State) (es : List Entry) → AreCallsInPlace count es → IsLineFront blobs st Fire es → AreInDrainOrder blobs st es
begins_order blobs count st es calls (inl e) = rw e tt
begins_order blobs count st es calls (inr d) = fire_in_order blobs count st es calls d

pub fire_stop_order : (blobs : List (List ℕ)) (stop : Stop) (a b : RunState) → IsPlayedInLineUpTo blobs (λ st part. IsLineFront blobs st Fire part) stop a b → IsPlayedInLineUpTo blobs (AreInDrainOrder blobs) stop a b
fire_stop_order blobs stop a b p = stop_as blobs (λ st part. IsLineFront blobs st Fire part) (AreInDrainOrder blobs) stop a b p (λ st es h goes calls d. begins_order blobs (length a.notes) st es calls d)

-- ---- one part after another

pub order_joins : (blobs : List (List ℕ)) → ArePartsInRow blobs (AreInDrainOrder blobs) (AreInDrainOrder blobs) (AreInDrainOrder blobs)
order_joins blobs = λ st xs ys p q. order_then blobs st xs ys p q

pub order_then_ran : (blobs : List (List ℕ)) (a b c : RunState) → IsPlayedInLine blobs (AreInDrainOrder blobs) a b → IsPlayedInLine blobs (AreInDrainOrder blobs) b c → IsPlayedInLine blobs (AreInDrainOrder blobs) a c
order_then_ran blobs a b c p q = ran_then blobs (AreInDrainOrder blobs) (AreInDrainOrder blobs) (AreInDrainOrder blobs) a b c (order_joins blobs) p q

pub order_then_stop : (blobs : List (List ℕ)) (stop : Stop) (a b c : RunState) → IsPlayedInLine blobs (AreInDrainOrder blobs) a b → IsPlayedInLineUpTo blobs (AreInDrainOrder blobs) stop b c → IsPlayedInLineUpTo blobs (AreInDrainOrder blobs) stop a c
order_then_stop blobs stop a b c p q = ran_stop blobs (AreInDrainOrder blobs) (AreInDrainOrder blobs) (AreInDrainOrder blobs) stop a b c (order_joins blobs) p q

pub order_none : (blobs : List (List ℕ)) (a : RunState) → IsPlayedInLine blobs (AreInDrainOrder blobs) a a
order_none blobs a = ran_none blobs (AreInDrainOrder blobs) a (λ st h. tt)

-- the whole, where nothing is left
pub drain_of : (blobs : List (List ℕ)) (a b : RunState) → IsPlayedInLine blobs (AreInDrainOrder blobs) a b → ((st : State) → Stands b.run.engine st → IsAtRest st)
    → IsPlayedInLine blobs (λ st part. IsLineEntries blobs st Drain part) a b
drain_of blobs a b p rest = ran_as blobs (AreInDrainOrder blobs) (λ st part. IsLineEntries blobs st Drain part) a b p
    (λ st es h goes calls d. record { order = d; end = rest (after_entries blobs st es) (goes.stands st h) })

-- ---- a step of work, and a turn

pub work_ran : (blobs : List (List ℕ)) (does : EntryRelation) (k : ℕ) (a b : RunView) (t : SinkView) (n : List (List Note)) → ((st : State) → Stands a.engine st → does st (Work k ∷ []))
    → IsOwnStep blobs (Work k ∷ []) a b → IsPlayedInLine blobs does (run_at a t n) (run_at b t n)
work_ran blobs does k a b t n holds p = record {
  played = record {
    entries = Work k ∷ [];
    grew = record { grew = p.grew; goes = p.goes; holds = holds };
    calls = silent_in_place (length n) (Work k ∷ []) refl;
    wrote = wrote_none t;
    heard = heard_silence (Work k ∷ []) n (λ w. refl);
  };
  left = omega (arith, p.left);
}

pub turn_ran : (blobs : List (List ℕ)) (does : EntryRelation) (a b : RunView) (t : SinkView) (n : List (List Note)) → ((st : State) → Stands a.engine st → does st (Element ∷ []))
    → IsOwnStep blobs (Element ∷ []) a b → IsPlayedInLine blobs does (run_at a t n) (run_at b t n)
turn_ran blobs does a b t n holds p = record {
  played = record {
    entries = Element ∷ [];
    grew = record { grew = p.grew; goes = p.goes; holds = holds };
    calls = silent_in_place (length n) (Element ∷ []) refl;
    wrote = wrote_none t;
    heard = heard_silence (Element ∷ []) n (λ w. refl);
  };
  left = omega (arith, p.left);
}

-- the buffer that runs works
pub did_work : (blobs : List (List ℕ)) (k : ℕ) (worked : Bool) (a b : RunView) → IsStanding a.engine → ((st : State) → Stands a.engine st → running_in st ≡ Some k)
    → IsOwnStepIf blobs (work_step k) a b worked → worked ≡ true
did_work blobs k true a b s runs p = refl
did_work blobs k false a b s runs p = absurd (running_works s.state k (runs s.state s.stands) (p.1 s.state s.stands))

pub working_ran : (blobs : List (List ℕ)) (k : ℕ) (worked : Bool) (a b : RunView) (t : SinkView) (n : List (List Note)) → IsStanding a.engine
    → ((st : State) → Stands a.engine st → HasNoEvent st) → ((st : State) → Stands a.engine st → running_in st ≡ Some k)
    → IsOwnStepIf blobs (work_step k) a b worked → IsPlayedInLine blobs (AreInDrainOrder blobs) (run_at a t n) (run_at b t n)
working_ran blobs k true a b t n s empty runs p = work_ran blobs (AreInDrainOrder blobs) k a b t n (λ st h. ((empty st h, runs st h), tt)) p
working_ran blobs k false a b t n s empty runs p = absurd (running_works s.state k (runs s.state s.stands) (p.1 s.state s.stands))

-- the element takes the turn that is due
pub did_turn : (blobs : List (List ℕ)) (turned : Bool) (a b : RunView) → IsStanding a.engine → ((st : State) → Stands a.engine st → is_turn_due st ≡ true)
    → IsOwnStepIf blobs element_step a b turned → turned ≡ true
did_turn blobs true a b s due p = refl
did_turn blobs false a b s due p = absurd (due_turns s.state (due s.state s.stands) (p.1 s.state s.stands))

pub turning_ran : (blobs : List (List ℕ)) (turned : Bool) (a b : RunView) (t : SinkView) (n : List (List Note)) → IsStanding a.engine
    → ((st : State) → Stands a.engine st → IsQuiet st) → ((st : State) → Stands a.engine st → is_turn_due st ≡ true)
    → IsOwnStepIf blobs element_step a b turned → IsPlayedInLine blobs (AreInDrainOrder blobs) (run_at a t n) (run_at b t n)
turning_ran blobs true a b t n s quiet due p = turn_ran blobs (AreInDrainOrder blobs) a b t n (λ st h. ((quiet st h, due st h), tt)) p
turning_ran blobs false a b t n s quiet due p = absurd (due_turns s.state (due s.state s.stands) (p.1 s.state s.stands))

-- ---- what nobody hears

pub drains_none : (blobs : List (List ℕ)) (a : RunView) → IsSilentDrain blobs a a
drains_none blobs a = record {
  entries = [];
  stepped = record { grew = sym (append-nil a.entries); goes = goes_none blobs a.engine; left = refl };
  order = λ st h. tt;
  silent = refl;
}

pub drains_then : (blobs : List (List ℕ)) (a b c : RunView) → IsSilentDrain blobs a b → IsSilentDrain blobs b c → IsSilentDrain blobs a c
drains_then blobs a b c p q = record {
  entries = p.entries ++ q.entries;
  stepped = record {
    grew = q.stepped.grew ∙ ap (λ (x : List Entry). x ++ q.entries) p.stepped.grew ∙ append_assoc a.entries p.entries q.entries;
    goes = goes_then blobs a.engine b.engine c.engine p.entries q.entries p.stepped.goes q.stepped.goes;
    left = q.stepped.left ∙ p.stepped.left;
  };
  order = λ st h. order_then blobs st p.entries q.entries (p.order st h) (q.order (after_entries blobs st p.entries) (p.stepped.goes.stands st h));
  silent = rw (calls_in-append p.entries q.entries) (omega (arith, p.silent, q.silent));
}

first_event : (st : State) (first : Option Event) (event : Event) → (fire_meaning (option_map (λ e. record { answer = e; state = without_first st }) first) event st).holds → first ≡ Some event
first_event st None event h = absurd h
first_event st (Some x) event h = ap (λ (y : Event). Some y) (sym h)

pub drains_event : (blobs : List (List ℕ)) (a b : RunView) (event : Event) → IsOwnStep blobs (Fired event ∷ []) a b → IsSilentDrain blobs a b
drains_event blobs a b event p = record {
  entries = Fired event ∷ [];
  stepped = p;
  order = λ st h. (first_event st (slice_get st.element.queue 0) event (p.goes.replays st h).0, tt);
  silent = refl;
}

pub drains_work : (blobs : List (List ℕ)) (k : ℕ) (worked : Bool) (a b : RunView) → IsStanding a.engine
    → ((st : State) → Stands a.engine st → HasNoEvent st) → ((st : State) → Stands a.engine st → running_in st ≡ Some k)
    → IsOwnStepIf blobs (work_step k) a b worked → IsSilentDrain blobs a b
drains_work blobs k true a b s empty runs p = record { entries = Work k ∷ []; stepped = p; order = λ st h. ((empty st h, runs st h), tt); silent = refl }
drains_work blobs k false a b s empty runs p = absurd (running_works s.state k (runs s.state s.stands) (p.1 s.state s.stands))

pub drains_turn : (blobs : List (List ℕ)) (turned : Bool) (a b : RunView) → IsStanding a.engine
    → ((st : State) → Stands a.engine st → IsQuiet st) → ((st : State) → Stands a.engine st → is_turn_due st ≡ true)
    → IsOwnStepIf blobs element_step a b turned → IsSilentDrain blobs a b
drains_turn blobs true a b s quiet due p = record { entries = Element ∷ []; stepped = p; order = λ st h. ((quiet st h, due st h), tt); silent = refl }
drains_turn blobs false a b s quiet due p = absurd (due_turns s.state (due s.state s.stands) (p.1 s.state s.stands))

pub calm_then : (a b c : KeptEngine) → IsCalm a b → IsCalm b c → IsCalm a c
calm_then a b c p q = record { buffers = q.buffers ∙ p.buffers; turns = q.turns ∙ p.turns }

-- a turn that was taken
pub turn_did : (a b : KeptEngine) (st : State) → Stands a st → IsWork Did a b (after_element_turn st) → b.buffers ≡ a.buffers → HasFewerTurns a b
turn_did a b st s w same = by_result (after_element_turn st) refl w
  where
    by_result : (r : Option State) → after_element_turn st ≡ r → IsWork Did a b r → HasFewerTurns a b
    by_result None e w = absurd w
    by_result (Some new) e w = turn_taken a b st new s e w same

-- no buffer works where the buffers stayed
pub still_idle : (a b : KeptEngine) → IsStanding a → ((st : State) → Stands a st → IsQuiet st) → b.buffers ≡ a.buffers → (st : State) → Stands b st → running_in st ≡ None
still_idle a b s quiet same st h = same_running a b s.state st s.stands h same ∙ (quiet s.state s.stands).running
