-- The entries of the play are a journal: they replay, do what the lines say, and tell what listeners heard, who call in turn.
use Rattle.std.proofs.Common.{◌≡◌, ℕ, zero, suc, ◌+◌, Bool, true, false, List, [], ◌∷◌, ◌++◌, length, refl, ap, sym, subst, ◌∙◌, arith, inl, inr, eqb-true}
use Rattle.std.specs.Prelude.{Option, Some, None, ◌==◌, drop}
use Rattle.std.proofs.lemmas.List.{append-nil, length-map}
use Rattle.mse_calls.specs.AnswerAndState.{AnswerAndState}
use Rattle.mse_calls.specs.declared.events.Event.{Event}
use Rattle.mse_calls.specs.declared.entry.Entry.{Entry}
use Rattle.mse_calls.specs.declared.entry.Entry.TheVariants.{Step, Script, Listener, Fired, Work, Element}
use Rattle.mse_calls.specs.declared.rules.Rule.{Rule}
use Rattle.call_script.specs.declared.script.Script.{Script as CallScript}
use Rattle.call_script.specs.declared.script.StepLine.{StepLine}
use Rattle.call_script.specs.declared.script.StepLine.TheVariants as step
use Rattle.run_steps.specs.declared.note.Note.{Note}
use Rattle.listeners.specs.declared.event_dispatch.DispatchFault.{DispatchFault}
use Rattle.listeners.specs.declared.event_dispatch.DispatchFault.TheVariants as fault
use Rattle.listeners.specs.Notes.{call_count, event_notes}
use Rattle.listeners.specs.Dispatch.{AreCallsInTurn, IsFailedDispatch, IsFault, dispatch_end, notes_at}
use Rattle.run_steps.specs.Ways.{Way}
use Rattle.script_run.specs.declared.stop.Stop.{Stop}
use Rattle.script_run.specs.declared.stop.Stop.TheVariants.{Memory, Write, CallBudget, TaskBudget}
use Rattle.script_run.specs.DrainSteps.{IsAtRest, IsNextStep, AreInDrainOrder}
use Rattle.script_run.specs.Follows.{AreLinesBegun, AreLinesDone, IsLineDone}
use Rattle.script_run.specs.Lines.{own_of, IsLineEntries, IsLineFront, IsWithin, Limits, PlayInputs, limits, play_inputs}
use Rattle.script_run.specs.NoteHistory.{IsAllHeard, entries_until_event, note_history}
use Rattle.script_run.specs.PlayedParts.{IsDispatchCut}
use Rattle.script_run.specs.Turns.{CallsLeft, HasCallsLeft, HasCallsLeftInLine, calls_in}
use Rattle.script_run.proofs.CallsInPlace.{in_place}
use Rattle.script_run.proofs.CutDispatches.{left_behind, left_in_line, no_step_in_line}
use Rattle.script_run.proofs.FiredEvents.{fire_in_order}
use Rattle.script_run.proofs.FollowedLines.{order_then}
use Rattle.script_run.proofs.JournalNotes.{cut_then, heard_none, heard_silence, heard_then}
use Rattle.script_run.proofs.ListenerTurns.{AreInTurn, calls_in-append, turns_then}
use Rattle.mse_engine.specs.State.{State}
use Rattle.mse_engine.specs.Calls.{after_call}
use Rattle.mse_engine.specs.Work.{after_work, after_element_turn, fire_result, running_in, is_turn_due}
use Rattle.mse_engine.specs.Run.{entry_meaning, fire_meaning, step_meaning, after_entries, IsReplay, fire_entries, entries_if}
use Rattle.cut_law.specs.Plays.{next_entry, next_entry_by, steps_left}
use Rattle.cut_law.proofs.DrainEnds.{turn-holds, work-holds}
use Rattle.mse_commands.specs.Played.{ListenerState, PlayState, Part, DrainContinuations, listeners_from, notes_of_each, nothing, behind, unless_stopped, and_then, one_entry, dispatch_from, fire_by, fire, if_called, fire_waiting, step_by, round_in, rounds_in, drain_played, entry_if, line_played, lines_played}
use Rattle.mse_commands.specs.Endings.{end_of_stop}
use Rattle.mse_commands.specs.Outcomes.{IsOverLimit}
use Rattle.mse_commands.specs.Ends.{IsOwnJournal, empty_notes}
use Rattle.mse_commands.specs.Program.{opening_play, script_played}
use Rattle.mse_commands.proofs.ByWays.{from_length}
use Rattle.mse_commands.proofs.Dispatches.{after_both}
use Rattle.mse_commands.proofs.DrainEnds.{drained_rests, fire_still}
use Rattle.mse_commands.proofs.CutDrains.{calls_all}
use Rattle.mse_commands.proofs.CutJournals.{begun_turns}
use Rattle.mse_commands.proofs.FrontParts.{part_of_begun}
use Rattle.mse_commands.proofs.OwnAnswers.{played_by}
use Rattle.mse_commands.proofs.OwnDispatches.{IsLimitEnd, IsOwnCut, IsOwnDispatchEnd, end_at, own_dispatch, replays_join, turns_of}

-- ---- what listeners heard

-- the dispatch of the last event ended at a call beyond this limit
abbrev pub IsCutAtLimit : Stop → CallsLeft → List Entry → List (List Note) → List (List Note) → Type 0
IsCutAtLimit (CallBudget k) calls_left es old new = IsDispatchCut calls_left (fault.CallBudget k) es old new
IsCutAtLimit TaskBudget calls_left es old new = IsDispatchCut calls_left fault.TaskBudget es old new
IsCutAtLimit Memory calls_left es old new = ⊥
IsCutAtLimit Write calls_left es old new = ⊥

cut_at_then : (stop : Stop) (part whole : CallsLeft) (count : ℕ) (xs ys : List Entry) (n0 n1 n2 : List (List Note)) → ((left : ℕ) → part ys left → whole (xs ++ ys) left) → IsAllHeard xs n0 n1 → AreInTurn count None ys → IsCutAtLimit stop part ys n1 n2
    → IsCutAtLimit stop whole (xs ++ ys) n0 n2
cut_at_then (CallBudget k) part whole count xs ys n0 n1 n2 more all turns c = cut_then part whole (fault.CallBudget k) count xs ys n0 n1 n2 more all c (in_place count ys turns)
cut_at_then TaskBudget part whole count xs ys n0 n1 n2 more all turns c = cut_then part whole fault.TaskBudget count xs ys n0 n1 n2 more all c (in_place count ys turns)
cut_at_then Memory part whole count xs ys n0 n1 n2 more all turns c = absurd c
cut_at_then Write part whole count xs ys n0 n1 n2 more all turns c = absurd c

-- all of it; or up to a call beyond the limit that stopped the play
abbrev pub IsOwnHearing : Option Stop → CallsLeft → List Entry → List ListenerState → List ListenerState → Type 0
IsOwnHearing None calls_left es hs gs = IsAllHeard es (notes_of_each hs) (notes_of_each gs)
IsOwnHearing (Some stop) calls_left es hs gs = IsCutAtLimit stop calls_left es (notes_of_each hs) (notes_of_each gs)

hearing_then : (stop : Option Stop) (part whole : CallsLeft) (count : ℕ) (xs ys : List Entry) (hs middle gs : List ListenerState) → ((left : ℕ) → part ys left → whole (xs ++ ys) left) → IsAllHeard xs (notes_of_each hs) (notes_of_each middle)
    → AreInTurn count None ys → IsOwnHearing stop part ys middle gs → IsOwnHearing stop whole (xs ++ ys) hs gs
hearing_then None part whole count xs ys hs middle gs more all turns h = heard_then count xs ys (notes_of_each hs) (notes_of_each middle) (notes_of_each gs) all h (in_place count ys turns)
hearing_then (Some stop) part whole count xs ys hs middle gs more all turns h = cut_at_then stop part whole count xs ys (notes_of_each hs) (notes_of_each middle) (notes_of_each gs) more all turns h

-- ---- a part

-- the entries of a part replay, bring about its state, and listeners hear them and call in turn
pub record IsOwnPart (blobs : List (List ℕ)) (p : PlayState) (part : Part) : Type 0 where
  pub replays : IsReplay blobs p.state part.entries
  pub state : part.now.state ≡ after_entries blobs p.state part.entries
  pub left : p.left ≡ part.now.left + calls_in part.entries
  pub count : length part.now.listeners ≡ length p.listeners
  pub turns : AreInTurn (length p.listeners) None part.entries
  pub hears : IsOwnHearing part.stop (HasCallsLeft p.left) part.entries p.listeners part.now.listeners

own_nothing : (blobs : List (List ℕ)) (p : PlayState) → IsOwnPart blobs p (nothing p)
own_nothing blobs p = record { replays = tt; state = refl; left = omega arith; count = refl; turns = tt; hears = heard_none (notes_of_each p.listeners) }

-- one part that does not stop, and then another
own_join : (blobs : List (List ℕ)) (p : PlayState) (one two : Part) → one.stop ≡ None → IsOwnPart blobs p one → IsOwnPart blobs one.now two → IsOwnPart blobs p (behind one.entries two)
own_join blobs p one two goes_on a b =
    let heard : IsAllHeard one.entries (notes_of_each p.listeners) (notes_of_each one.now.listeners) =
    subst (λ (s : Option Stop). IsOwnHearing s (HasCallsLeft p.left) one.entries p.listeners one.now.listeners) goes_on a.hears in
    record {
      replays = replays_join blobs p.state one.entries two.entries a.replays (subst (λ s. IsReplay blobs s two.entries) a.state b.replays);
      state = b.state ∙ ap (λ s. after_entries blobs s two.entries) a.state ∙ sym (after_both blobs p.state one.entries two.entries);
      left = omega (arith, a.left, b.left, calls_in-append one.entries two.entries);
      count = b.count ∙ a.count;
      turns = turns_then (length p.listeners) None one.entries two.entries a.turns (subst (λ n. AreInTurn n None two.entries) a.count b.turns);
      hears = hearing_then two.stop (HasCallsLeft one.now.left) (HasCallsLeft p.left) (length one.now.listeners) one.entries two.entries p.listeners one.now.listeners two.now.listeners
          (λ left rest. omega (arith, rest, a.left, calls_in-append one.entries two.entries)) heard b.turns b.hears;
    }

-- ---- a fired event

calls_until : (low high : ℕ) (es : List Entry) → AreCallsInTurn low high es → entries_until_event es ≡ es
calls_until low high [] a = refl
calls_until low high (Listener v call answer ∷ es) a = ap (λ (xs : List Entry). Listener v call answer ∷ xs) (calls_until v high es a.2)
calls_until low high (Step n ∷ es) a = absurd a
calls_until low high (Script call answer ∷ es) a = absurd a
calls_until low high (Fired event ∷ es) a = absurd a
calls_until low high (Work k ∷ es) a = absurd a
calls_until low high (Element ∷ es) a = absurd a

no_history : (w low high : ℕ) (es : List Entry) → AreCallsInTurn low high es → note_history w es ≡ []
no_history w low high [] a = refl
no_history w low high (Listener v call answer ∷ es) a = no_history w v high es a.2
no_history w low high (Step n ∷ es) a = absurd a
no_history w low high (Script call answer ∷ es) a = absurd a
no_history w low high (Fired event ∷ es) a = absurd a
no_history w low high (Work k ∷ es) a = absurd a
no_history w low high (Element ∷ es) a = absurd a

-- what an event and its calls tell of a listener
event_history : (event : Event) (w high : ℕ) (es : List Entry) → AreCallsInTurn 0 high es → event_notes event w es ≡ note_history w (Fired event ∷ es)
event_history event w high es a =
    sym (append-nil (event_notes event w es))
    ∙ ap (λ (ns : List Note). event_notes event w es ++ ns) (sym (no_history w 0 high es a))
    ∙ ap (λ (xs : List Entry). event_notes event w xs ++ note_history w es) (sym (calls_until 0 high es a))

from_zero : (k : ℕ) → 0 + k ≡ k
from_zero k = omega arith

failed_at : (f : DispatchFault) (stop : Stop) (event : Event) (es : List Entry) (left : ℕ) (hs gs : List ListenerState) (c : IsOwnCut stop event 0 es left hs gs) → IsFault f event (end_at c.place es left (notes_at (notes_of_each hs) c.place) (notes_at (notes_of_each gs) c.place))
    → IsFailedDispatch event (dispatch_end es left (notes_of_each hs) (notes_of_each gs)) f
failed_at f stop event es left hs gs c ending = record {
  listener = c.place;
  within = omega (arith, c.within, length-map hs (λ (one : ListenerState). one.notes));
  served = λ w lt. c.served w lt ∙ ap (λ (v : ℕ). notes_at (notes_of_each hs) w ++ event_notes event v es) (from_zero w);
  behind = λ w le. record { no_call = subst (λ (v : ℕ). call_count v es ≡ 0) (from_zero w) (c.silent w (omega (arith, le))); notes = c.unheard w (omega (arith, le)) };
  ending = ending;
}

cut_of_fault : (f : DispatchFault) (stop : Stop) (event : Event) (es : List Entry) (before left : ℕ) (hs gs : List ListenerState) → length gs ≡ length hs → AreCallsInTurn 0 (length hs) es → before ≡ left + calls_in (Fired event ∷ es) → (c : IsOwnCut stop event 0 es left hs gs)
    → IsFault f event (end_at c.place es left (notes_at (notes_of_each hs) c.place) (notes_at (notes_of_each gs) c.place)) → IsDispatchCut (HasCallsLeft before) f (Fired event ∷ es) (notes_of_each hs) (notes_of_each gs)
cut_of_fault f stop event es before left hs gs count turns rest c ending = record {
  before = [];
  event = event;
  calls = es;
  left = left;
  middle = notes_of_each hs;
  entries_are = refl;
  left_is = rest;
  heard = heard_none (notes_of_each hs);
  in_turn = subst (λ (n : ℕ). AreCallsInTurn 0 n es) (sym (length-map hs (λ (one : ListenerState). one.notes))) turns;
  count = omega (arith, count, length-map hs (λ (one : ListenerState). one.notes), length-map gs (λ (one : ListenerState). one.notes));
  end = failed_at f stop event es left hs gs c ending;
}

fired_stop : (stop : Stop) (event : Event) (es : List Entry) (before left : ℕ) (hs gs : List ListenerState) → length gs ≡ length hs → AreCallsInTurn 0 (length hs) es → before ≡ left + calls_in (Fired event ∷ es) → (c : IsOwnCut stop event 0 es left hs gs)
    → IsLimitEnd stop event (end_at c.place es left (notes_at (notes_of_each hs) c.place) (notes_at (notes_of_each gs) c.place)) → IsCutAtLimit stop (HasCallsLeft before) (Fired event ∷ es) (notes_of_each hs) (notes_of_each gs)
fired_stop (CallBudget k) event es before left hs gs count turns rest c ending = cut_of_fault (fault.CallBudget k) (CallBudget k) event es before left hs gs count turns rest c ending
fired_stop TaskBudget event es before left hs gs count turns rest c ending = cut_of_fault fault.TaskBudget TaskBudget event es before left hs gs count turns rest c ending
fired_stop Memory event es before left hs gs count turns rest c ending = absurd ending
fired_stop Write event es before left hs gs count turns rest c ending = absurd ending

fired_hears : (stop : Option Stop) (event : Event) (before : ℕ) (hs : List ListenerState) (part : Part) → length part.now.listeners ≡ length hs → AreCallsInTurn 0 (length hs) part.entries → before ≡ part.now.left + calls_in (Fired event ∷ part.entries)
    → IsOwnDispatchEnd stop event 0 hs part → IsOwnHearing stop (HasCallsLeft before) (Fired event ∷ part.entries) hs part.now.listeners
fired_hears None event before hs part count turns rest served = record {
  count = omega (arith, count, length-map hs (λ (one : ListenerState). one.notes), length-map part.now.listeners (λ (one : ListenerState). one.notes));
  notes = λ w lt.
      served w (omega (arith, lt, length-map hs (λ (one : ListenerState). one.notes)))
      ∙ ap (λ (v : ℕ). notes_at (notes_of_each hs) w ++ event_notes event v part.entries) (from_zero w)
      ∙ ap (λ (ns : List Note). notes_at (notes_of_each hs) w ++ ns) (event_history event w (length hs) part.entries turns);
}
fired_hears (Some stop) event before hs part count turns rest c =
    fired_stop stop event part.entries before part.now.left hs part.now.listeners count turns rest c
    (subst (λ (v : ℕ). IsLimitEnd stop event (end_at v part.entries part.now.left (notes_at (notes_of_each hs) c.place) (notes_at (notes_of_each part.now.listeners) c.place))) (from_zero c.place) c.ending)

own_fired : (o : Option (AnswerAndState Event State)) (blobs : List (List ℕ)) (p : PlayState) → fire_result p.state ≡ o → IsOwnPart blobs p (fire_by blobs p o) × (own_of (fire_by blobs p o).entries ≡ fire_entries o)
own_fired None blobs p e = (own_nothing blobs p, refl)
own_fired (Some fired) blobs p e =
    let event : Event = fired.answer in
    let count : ℕ = length p.listeners in
    let part : Part = dispatch_from blobs event 0 p.listeners fired.state p.left in
    let d = own_dispatch p.listeners blobs event 0 fired.state p.left in
    let in_turn : AreCallsInTurn 0 count part.entries = subst (λ n. AreCallsInTurn 0 n part.entries) (omega arith) d.in_turn in
    let state : (entry_meaning blobs p.state (Fired event)).state ≡ fired.state = ap (λ (o : Option (AnswerAndState Event State)). (fire_meaning o event p.state).state) e in
    let holds : (entry_meaning blobs p.state (Fired event)).holds = subst (λ (o : Option (AnswerAndState Event State)). (fire_meaning o event p.state).holds) (sym e) refl in (
      record {
        replays = (holds, subst (λ s. IsReplay blobs s part.entries) (sym state) d.replays);
        state = d.state ∙ ap (λ s. after_entries blobs s part.entries) (sym state);
        left = omega (arith, d.left, calls_all 0 count part.entries in_turn);
        count = d.count;
        turns = turns_of count 0 0 part.entries in_turn (omega (arith, d.few 0)) d.few;
        hears = fired_hears part.stop event p.left p.listeners part d.count in_turn (omega (arith, d.left, calls_all 0 count part.entries in_turn)) d.ends;
      },
      ap (λ (xs : List Entry). Fired event ∷ xs) (none_own 0 count part.entries in_turn),
    )
  where
    none_own : (low high : ℕ) (es : List Entry) → AreCallsInTurn low high es → own_of es ≡ []
    none_own low high [] a = refl
    none_own low high (Listener v call answer ∷ es) a = none_own v high es a.2
    none_own low high (Step n ∷ es) a = absurd a
    none_own low high (Script call answer ∷ es) a = absurd a
    none_own low high (Fired event ∷ es) a = absurd a
    none_own low high (Work k ∷ es) a = absurd a
    none_own low high (Element ∷ es) a = absurd a

-- ---- a drain

-- and they come in the order of a drain
record IsOwnDrain (blobs : List (List ℕ)) (p : PlayState) (part : Part) : Type 0 where
  own : IsOwnPart blobs p part
  order : AreInDrainOrder blobs p.state part.entries

drain_nothing : (blobs : List (List ℕ)) (p : PlayState) → IsOwnDrain blobs p (nothing p)
drain_nothing blobs p = record { own = own_nothing blobs p; order = tt }

drain_fire : (blobs : List (List ℕ)) (p : PlayState) → IsOwnDrain blobs p (fire blobs p)
drain_fire blobs p =
    let f = own_fired (fire_result p.state) blobs p refl in
    record { own = f.0; order = fire_in_order blobs (length p.listeners) p.state (fire blobs p).entries (in_place (length p.listeners) (fire blobs p).entries f.0.turns) f.1 }

drain_join : (blobs : List (List ℕ)) (p : PlayState) (one two : Part) → one.stop ≡ None → IsOwnDrain blobs p one → IsOwnDrain blobs one.now two → IsOwnDrain blobs p (behind one.entries two)
drain_join blobs p one two goes_on a b = record {
  own = own_join blobs p one two goes_on a.own b.own;
  order = order_then blobs p.state one.entries two.entries a.order (subst (λ s. AreInDrainOrder blobs s two.entries) a.own.state b.order);
}

drain_then : (blobs : List (List ℕ)) (p : PlayState) (part : Part) (next : PlayState → Part) → IsOwnDrain blobs p part → IsOwnDrain blobs part.now (next part.now) → IsOwnDrain blobs p (and_then part next)
drain_then blobs p part next a b = by part.stop refl
  where
    by : (stop : Option Stop) → part.stop ≡ stop → IsOwnDrain blobs p (unless_stopped stop part (behind part.entries (next part.now)))
    by None e = drain_join blobs p part (next part.now) e a b
    by (Some stop) e = a

-- an entry that is no event and no call of a listener
one_own : (blobs : List (List ℕ)) (p : PlayState) (x : Entry) → (entry_meaning blobs p.state x).holds → calls_in (x ∷ []) ≡ 0 → AreInTurn (length p.listeners) None (x ∷ []) → ((w : ℕ) → note_history w (x ∷ []) ≡ []) → IsOwnPart blobs p (one_entry blobs p x)
one_own blobs p x holds none turns silent =
    record { replays = (holds, tt); state = refl; left = omega (arith, none); count = refl; turns = turns; hears = heard_silence (x ∷ []) (notes_of_each p.listeners) silent }

-- an entry of the machine that is next
drain_one : (blobs : List (List ℕ)) (p : PlayState) (entry : Entry) → IsNextStep p.state entry → IsOwnPart blobs p (one_entry blobs p entry) → IsOwnDrain blobs p (one_entry blobs p entry)
drain_one blobs p entry next own = record { own = own; order = (next, tt) }

-- ---- rounds

drain_called : (b : Bool) (blobs : List (List ℕ)) (p : PlayState) (same called : Part) → (b ≡ true → IsOwnDrain blobs p same) → IsOwnDrain blobs p called → IsOwnDrain blobs p (if_called b same called)
drain_called true blobs p same called f g = f refl
drain_called false blobs p same called f g = g

waiting_own : (events : List Event) (blobs : List (List ℕ)) (g : DrainContinuations) (p : PlayState) → p.state.element.queue ≡ events → ((now : PlayState) → IsOwnDrain blobs now (g.again now))
    → ((now : PlayState) → now.state.element.queue ≡ [] → IsOwnDrain blobs now (g.next now)) → IsOwnDrain blobs p (fire_waiting events blobs g p)
waiting_own [] blobs g p e again next = next p e
waiting_own (event ∷ events) blobs g p e again next =
    let part : Part = fire blobs p in
    let s = fire_still blobs p event events e in
    drain_then blobs p part (λ now. if_called (now.left == p.left) (fire_waiting events blobs g now) (g.again now)) (drain_fire blobs p)
    (drain_called (part.now.left == p.left) blobs part.now (fire_waiting events blobs g part.now) (g.again part.now)
    (λ b. waiting_own events blobs g part.now (ap (λ (st : State). st.element.queue) (s.1 (eqb-true part.now.left p.left b)) ∙ ap (λ q. drop 1 q) e) again next)
    (again part.now))

step_own : (low : Option ℕ) (due : Bool) (blobs : List (List ℕ)) (go : PlayState → Part) (p : PlayState) → running_in p.state ≡ low → is_turn_due p.state ≡ due → p.state.element.queue ≡ [] → ((now : PlayState) → IsOwnDrain blobs now (go now))
    → IsOwnDrain blobs p (step_by blobs go p (next_entry_by low due))
step_own (Some k) due blobs go p r d q f =
    let one : Part = one_entry blobs p (Work k) in
    drain_then blobs p one go (drain_one blobs p (Work k) (q, r) (one_own blobs p (Work k) (work-holds p.state k r) refl tt (λ w. refl))) (f one.now)
step_own None true blobs go p r d q f =
    let one : Part = one_entry blobs p Element in
    drain_then blobs p one go (drain_one blobs p Element (record { queue = q; running = r }, d) (one_own blobs p Element (turn-holds p.state d) refl tt (λ w. refl))) (f one.now)
step_own None false blobs go p r d q f = drain_nothing blobs p

round_own : (n : ℕ) (blobs : List (List ℕ)) (again : PlayState → Part) (p : PlayState) → ((now : PlayState) → IsOwnDrain blobs now (again now)) → IsOwnDrain blobs p (round_in n blobs again p)
round_own zero blobs again p f = drain_nothing blobs p
round_own (suc n) blobs again p f =
    waiting_own p.state.element.queue blobs (record { again = again; next = λ now. step_by blobs (round_in n blobs again) now (next_entry now.state) }) p refl f
    (λ now q. step_own (running_in now.state) (is_turn_due now.state) blobs (round_in n blobs again) now refl refl q (λ later. round_own n blobs again later f))

drain_own_in : (n : ℕ) (blobs : List (List ℕ)) (p : PlayState) → IsOwnDrain blobs p (rounds_in n blobs p)
drain_own_in zero blobs p = drain_nothing blobs p
drain_own_in (suc n) blobs p = round_own (suc (steps_left p.state)) blobs (rounds_in n blobs) p (λ now. drain_own_in n blobs now)

drain_own : (blobs : List (List ℕ)) (p : PlayState) → IsOwnDrain blobs p (drain_played blobs p)
unfolding drain_played
drain_own blobs p = drain_own_in (suc p.left) blobs p

-- ---- a line

-- what the entries of a line do: all of it, where the play does not stop
record IsOwnLine (blobs : List (List ℕ)) (p : PlayState) (line : StepLine) (part : Part) : Type 0 where
  own : IsOwnPart blobs p part
  does : part.stop ≡ None → IsLineEntries blobs p.state line part.entries
  begins : IsLineFront blobs p.state line part.entries

if_own : (o : Option State) (blobs : List (List ℕ)) (p : PlayState) (x : Entry) → ((st : State) → o ≡ Some st → IsOwnPart blobs p (one_entry blobs p x)) → IsOwnPart blobs p (entry_if blobs p x o)
if_own None blobs p x f = own_nothing blobs p
if_own (Some st) blobs p x f = f st refl

if_entries : (o : Option State) (blobs : List (List ℕ)) (p : PlayState) (x : Entry) → own_of (x ∷ []) ≡ x ∷ [] → own_of (entry_if blobs p x o).entries ≡ entries_if o x
if_entries None blobs p x e = refl
if_entries (Some st) blobs p x e = e

done_holds : (o : Option State) (st new : State) → o ≡ Some new → (step_meaning o st).holds
done_holds None st new e = absurd (cc)
done_holds (Some x) st new e = tt

line_own : (line : StepLine) (blobs : List (List ℕ)) (p : PlayState) → IsOwnLine blobs p line (line_played blobs p line)
line_own (step.Call call) blobs p = record { own = one_own blobs p (Script call (after_call blobs call p.state).answer) refl refl tt (λ w. refl); does = λ s. refl; begins = inr refl }
line_own step.Fire blobs p = let f = own_fired (fire_result p.state) blobs p refl in record { own = f.0; does = λ s. f.1; begins = inr f.1 }
line_own (step.Work k) blobs p =
    let e = if_entries (after_work k p.state) blobs p (Work k) refl in
    record { own = if_own (after_work k p.state) blobs p (Work k) (λ st s. one_own blobs p (Work k) (done_holds (after_work k p.state) p.state st s) refl tt (λ w. refl)); does = λ s. e; begins = inr e }
line_own step.Element blobs p =
    let e = if_entries (after_element_turn p.state) blobs p Element refl in
    record { own = if_own (after_element_turn p.state) blobs p Element (λ st s. one_own blobs p Element (done_holds (after_element_turn p.state) p.state st s) refl tt (λ w. refl)); does = λ s. e; begins = inr e }
line_own step.Drain blobs p =
    let d = drain_own blobs p in
    record { own = d.own; does = λ s. record { order = d.order; end = subst IsAtRest d.own.state (drained_rests blobs p s) }; begins = d.order }

-- ---- a script

-- The journal of some lines follows them, all of them where the play does not stop, and tells what listeners heard.
record IsOwnPlay (inputs : PlayInputs) (n : ℕ) (lines : List StepLine) (p : PlayState) (part : Part) : Type 0 where
  replays : IsReplay inputs.blobs p.state part.entries
  state : part.now.state ≡ after_entries inputs.blobs p.state part.entries
  whole : part.stop ≡ None → AreLinesDone inputs n p.state lines part.entries
  begun : AreLinesBegun inputs n p.state lines part.entries
  hears : IsOwnHearing part.stop (HasCallsLeftInLine inputs.limits.limit) part.entries p.listeners part.now.listeners

within_own : (blobs : List (List ℕ)) (limits : Limits) (p : PlayState) (line : StepLine) (part : Part) → length p.listeners ≡ limits.count → p.left ≡ limits.limit → IsOwnPart blobs p part → IsWithin limits part.entries
within_own blobs limits p line part count limit own = record { few = omega (arith, own.left, limit); calls = in_place limits.count part.entries (subst (λ n. AreInTurn n None part.entries) count own.turns) }

-- the number of a line tells listeners nothing
number_heard : (n : ℕ) (hs : List ListenerState) → IsAllHeard (Step n ∷ []) (notes_of_each hs) (notes_of_each hs)
number_heard n hs = heard_silence (Step n ∷ []) (notes_of_each hs) (λ w. refl)

own_line_then : (stop : Option Stop) (line : StepLine) (lines : List StepLine) (blobs : List (List ℕ)) (limits : Limits) (n : ℕ) (p : PlayState) (part : Part) (next : PlayState → Part) → part.stop ≡ stop
    → IsOwnLine blobs (record p { left = limits.limit }) line part → IsWithin limits part.entries → IsOwnPlay (play_inputs blobs limits) (suc n) lines part.now (next part.now)
    → IsOwnPlay (play_inputs blobs limits) n (line ∷ lines) p (unless_stopped stop (behind (Step n ∷ []) (record part { stop = stop })) (behind (Step n ∷ part.entries) (next part.now)))
own_line_then (Some s) line lines blobs limits n p part next e l within r =
    let begun : PlayState = record p { left = limits.limit } in
    let hears : IsOwnHearing (Some s) (HasCallsLeft limits.limit) part.entries p.listeners part.now.listeners =
    subst (λ (x : Option Stop). IsOwnHearing x (HasCallsLeft limits.limit) part.entries p.listeners part.now.listeners) e l.own.hears in
    record {
      replays = (tt, l.own.replays);
      state = l.own.state;
      whole = λ none. absurd (cc);
      begun = inr (inl (part.entries, refl, record { begins = l.begins; within = within }));
      hears = hearing_then (Some s) (HasCallsLeft limits.limit) (HasCallsLeftInLine limits.limit) (length p.listeners) (Step n ∷ []) part.entries p.listeners p.listeners part.now.listeners
          (λ left rest. left_in_line limits.limit n part.entries (no_step_in_line blobs p.state line part.entries l.begins) left rest) (number_heard n p.listeners) l.own.turns hears;
    }
own_line_then None line lines blobs limits n p part next e l within r =
    let rest : Part = next part.now in
    let done : IsLineDone (play_inputs blobs limits) p.state line part.entries = record { does = l.does e; within = within } in
    let heard : IsAllHeard part.entries (notes_of_each p.listeners) (notes_of_each part.now.listeners) =
    subst (λ (x : Option Stop). IsOwnHearing x (HasCallsLeft limits.limit) part.entries p.listeners part.now.listeners) e l.own.hears in
    let all : IsAllHeard (Step n ∷ part.entries) (notes_of_each p.listeners) (notes_of_each part.now.listeners) =
    heard_then (length p.listeners) (Step n ∷ []) part.entries (notes_of_each p.listeners) (notes_of_each p.listeners) (notes_of_each part.now.listeners) (number_heard n p.listeners) heard (in_place (length p.listeners) part.entries l.own.turns) in
    record {
      replays = (tt, replays_join blobs p.state part.entries rest.entries l.own.replays (subst (λ s. IsReplay blobs s rest.entries) l.own.state r.replays));
      state = r.state ∙ ap (λ s. after_entries blobs s rest.entries) l.own.state ∙ sym (after_both blobs p.state part.entries rest.entries);
      whole = λ none. (part.entries, rest.entries, refl, done, subst (λ s. AreLinesDone (play_inputs blobs limits) (suc n) s lines rest.entries) l.own.state (r.whole none));
      begun = inr (inr (part.entries, rest.entries, refl, done, subst (λ s. AreLinesBegun (play_inputs blobs limits) (suc n) s lines rest.entries) l.own.state r.begun));
      hears = hearing_then rest.stop (HasCallsLeftInLine limits.limit) (HasCallsLeftInLine limits.limit) limits.count (Step n ∷ part.entries) rest.entries p.listeners part.now.listeners rest.now.listeners
          (λ left some. left_behind limits.limit (Step n ∷ part.entries) rest.entries left some) all (begun_turns (play_inputs blobs limits) (suc n) part.now.state lines rest.entries r.begun) r.hears;
    }

play_own : (lines : List StepLine) (blobs : List (List ℕ)) (limits : Limits) (n : ℕ) (p : PlayState) → length p.listeners ≡ limits.count → IsOwnPlay (play_inputs blobs limits) n lines p (lines_played blobs limits.limit n lines p)
play_own [] blobs limits n p count = record { replays = tt; state = refl; whole = λ s. refl; begun = refl; hears = heard_none (notes_of_each p.listeners) }
play_own (line ∷ lines) blobs limits n p count =
    let begun : PlayState = record p { left = limits.limit } in
    let part : Part = line_played blobs begun line in
    let l = line_own line blobs begun in
    own_line_then part.stop line lines blobs limits n p part (lines_played blobs limits.limit (suc n) lines) refl l (within_own blobs limits begun line part count refl l.own)
    (play_own lines blobs limits (suc n) part.now (l.own.count ∙ count))

-- nobody has heard anything before the first line
opening_notes : (w : ℕ) (rules : List Rule) (ways : List Way) → notes_of_each (listeners_from w rules ways) ≡ empty_notes ways
opening_notes w rules [] = refl
opening_notes w rules (way ∷ ways) = ap (λ (all : List (List Note)). [] ∷ all) (opening_notes (suc w) rules ways)

-- the limit with which a run ends so
limit_of : (stop : Stop) (most : ℕ) (es : List Entry) (old new : List (List Note)) → IsCutAtLimit stop (HasCallsLeftInLine most) es old new → IsOverLimit most (end_of_stop most stop) es old new
limit_of (CallBudget k) most es old new c = c
limit_of TaskBudget most es old new c = (refl, c)
limit_of Memory most es old new c = absurd c
limit_of Write most es old new c = absurd c

pub script_own : (ways : List Way) (script : CallScript) (blobs : List (List ℕ)) → IsOwnJournal ways script blobs (script_played ways script blobs)
unfolding script_played
script_own ways script blobs =
    let part : Part = script_played ways script blobs in
    let old = opening_notes 0 script.rules ways in
    let p = play_own script.steps blobs (limits script.drain (length ways)) 0 (opening_play ways script blobs) (from_length 0 script.rules ways) in
    let hears : (s : Option Stop) → part.stop ≡ s → IsOwnHearing s (HasCallsLeftInLine script.drain) part.entries (listeners_from 0 script.rules ways) part.now.listeners =
    λ s e. subst (λ (x : Option Stop). IsOwnHearing x (HasCallsLeftInLine script.drain) part.entries (listeners_from 0 script.rules ways) part.now.listeners) e p.hears in
    record {
      replays = p.replays;
      state = p.state;
      whole = p.whole;
      front = part_of_begun script.steps blobs (limits script.drain (length ways)) 0 (opening_play ways script blobs).state part.entries p.begun;
      heard = λ e. subst (λ (ns : List (List Note)). IsAllHeard part.entries ns (notes_of_each part.now.listeners)) old (hears None e);
      cause = λ stop e. limit_of stop script.drain part.entries (empty_notes ways) (notes_of_each part.now.listeners)
          (subst (λ (ns : List (List Note)). IsCutAtLimit stop (HasCallsLeftInLine script.drain) part.entries ns (notes_of_each part.now.listeners)) old (hears (Some stop) e));
      by_ways = λ given count rules. played_by ways script blobs given count rules;
    }
