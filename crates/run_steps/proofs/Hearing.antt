-- Where a listener hears an event, each listener rests.
use Rattle.std.proofs.Common.{◌≡◌, ◌≢◌, ℕ, zero, suc, Bool, true, false, List, [], ◌∷◌, ◌++◌, refl, ap, sym, subst, ◌∙◌, inl, inr, ◌⊎◌}
use Rattle.std.specs.Prelude.{Option, Some, None, slice_get, slice_index_or, ⊤}
use Rattle.std.proofs.lemmas.Bool.{cases_eq}
use Rattle.mse_calls.specs.AnswerAndState.{AnswerAndState}
use Rattle.mse_calls.specs.declared.answers.Answer.{Answer}
use Rattle.mse_calls.specs.declared.calls.Call.{Call}
use Rattle.mse_calls.specs.declared.calls.Piece.{Piece}
use Rattle.mse_calls.specs.declared.entry.Entry.{Entry}
use Rattle.mse_calls.specs.declared.entry.Entry.TheVariants.{Step, Script, Listener, Fired, Work, Element}
use Rattle.mse_calls.specs.declared.events.Event.{Event}
use Rattle.mse_calls.specs.declared.views.FaultView.{FaultView}
use Rattle.call_script.specs.declared.script.StepLine.{StepLine}
use Rattle.call_script.specs.declared.script.StepLine.TheVariants as step
use Rattle.mse_engine.specs.State.{State}
use Rattle.mse_engine.specs.Calls.{after_call}
use Rattle.mse_engine.specs.Work.{after_work, after_element_turn, fire_result, is_turn_due, running_in}
use Rattle.run_steps.specs.declared.note.Note.{Note}
use Rattle.run_steps.specs.declared.note.Note.TheVariants.{Heard, Made, Told, Rested}
use Rattle.run_steps.specs.Happenings.{Happening, Did, Noted, Put, notes_in}
use Rattle.run_steps.specs.Steps.{Run, Todo, Line, Do, Hear, Ask, Make, Tell, Show, Append, Close, Print, Ended, appends, asked, call_by, does_if, drains, fires, heard, hears, lines_left, line_done, makes, prints, run_for, shown, step_of, stepped}
use Rattle.run_steps.specs.Ways.{Way}
use Rattle.run_steps.specs.Laws.{AreAtRest, IsResting, IsWhereHeard}
use Rattle.run_steps.proofs.Reached.{noted, noted_other, did_notes, put_notes}

-- ---- what happened

abbrev AllRest : List Happening → Type 0
AllRest h = (v : ℕ) → IsResting v h

abbrev OthersRest : ℕ → List Happening → Type 0
OthersRest w h = (v : ℕ) → v ≢ w → IsResting v h

-- each event was heard where all listeners rested
abbrev HeardWell : List Happening → Type 0
HeardWell h = (w : ℕ) (event : Event) (before after : List Happening) → IsWhereHeard w event before after h → AllRest before

split_last : (xs before after : List Happening) (x n : Happening) → xs ++ x ∷ [] ≡ before ++ n ∷ after
    → ((x ≡ n) × (xs ≡ before)) ⊎ ((rest : List Happening) × (xs ≡ before ++ n ∷ rest))
split_last [] [] after x n e = inl (cc, refl)
split_last [] (b ∷ []) after x n e = absurd (cc)
split_last [] (b ∷ (c ∷ before)) after x n e = absurd (cc)
split_last (y ∷ xs) [] after x n e = let same : y ≡ n = cc in inr (xs, ap (λ (m : Happening). m ∷ xs) same)
split_last (y ∷ xs) (b ∷ before) after x n e =
    let same : y ≡ b = cc in
    let rest : xs ++ x ∷ [] ≡ before ++ n ∷ after = cc in
    elim (split_last xs before after x n rest) [
      | inl p ↦ inl (p.0, rw (same, p.1) refl)
      | inr q ↦ inr (q.0, rw (same, q.1) refl)
    ]

-- one thing more happened, and if it is an event that is heard, all rested
one_more : (h : List Happening) (x : Happening) → HeardWell h → ((w : ℕ) (event : Event) → x ≡ Noted w (Heard event) → AllRest h) → HeardWell (h ++ x ∷ [])
one_more h x well last w event before after e = elim (split_last h before after x (Noted w (Heard event)) e) [
  | inl p ↦ subst (λ hs. AllRest hs) p.1 (last w event p.0)
  | inr q ↦ well w event before q.0 q.1
]

resting_same : (v : ℕ) (h h2 : List Happening) → notes_in v h2 ≡ notes_in v h → IsResting v h → IsResting v h2
resting_same v h h2 e (inl p) = inl (e ∙ p)
resting_same v h h2 e (inr p) = inr (p.0, e ∙ p.1)

rested_last : (w : ℕ) (h : List Happening) → OthersRest w h → AllRest (h ++ Noted w Rested ∷ [])
rested_last w h others v = elim (cases_eq v w) [
  | inl e ↦ inr (notes_in v h, subst (λ x. notes_in v (h ++ Noted x Rested ∷ []) ≡ notes_in v h ++ Rested ∷ []) e (noted v h Rested))
  | inr ne ↦ resting_same v h (h ++ Noted w Rested ∷ []) (noted_other w v h Rested ne) (others v ne)
]

others_on : (w : ℕ) (h : List Happening) (note : Note) → OthersRest w h → OthersRest w (h ++ Noted w note ∷ [])
others_on w h note others v ne = resting_same v h (h ++ Noted w note ∷ []) (noted_other w v h note ne) (others v ne)

-- ---- how far a run has come

-- only what closes a run is to be done
abbrev AreClosing : List Todo → Type 0
AreClosing [] = ⊤
AreClosing (Show ∷ todo) = AreClosing todo
AreClosing (Close reason ∷ todo) = AreClosing todo
AreClosing (Print lines ∷ todo) = AreClosing todo
AreClosing (Ended status ∷ todo) = AreClosing todo
AreClosing (next ∷ todo) = ⊥

-- all rest, and no turn is begun; or only what closes a run is to be done
abbrev IsCalm : List Happening → List Todo → Type 0
IsCalm h todo = (AreAtRest todo × AllRest h) ⊎ AreClosing todo

-- a listener's turn is begun and the others rest, or it is calm
abbrev IsAtTurn : List Happening → List Todo → Type 0
IsAtTurn h [] = IsCalm h []
IsAtTurn h (Ask w n ∷ todo) = OthersRest w h × AreAtRest todo
IsAtTurn h (Make w n call ∷ todo) = OthersRest w h × AreAtRest todo
IsAtTurn h (Tell w n answer ∷ todo) = OthersRest w h × AreAtRest todo
IsAtTurn h (next ∷ todo) = IsCalm h (next ∷ todo)

at_calm : (h : List Happening) (todo : List Todo) → IsCalm h todo → IsAtTurn h todo
at_calm h [] p = p
at_calm h (Line n line ∷ todo) p = p
at_calm h (Do line ∷ todo) p = p
at_calm h (Hear event w ∷ todo) p = p
at_calm h (Ask w n ∷ todo) (inl p) = absurd p.0
at_calm h (Ask w n ∷ todo) (inr p) = absurd p
at_calm h (Make w n call ∷ todo) (inl p) = absurd p.0
at_calm h (Make w n call ∷ todo) (inr p) = absurd p
at_calm h (Tell w n answer ∷ todo) (inl p) = absurd p.0
at_calm h (Tell w n answer ∷ todo) (inr p) = absurd p
at_calm h (Show ∷ todo) p = p
at_calm h (Append pieces ∷ todo) p = p
at_calm h (Close reason ∷ todo) p = p
at_calm h (Print lines ∷ todo) p = p
at_calm h (Ended status ∷ todo) p = p

-- what holds of each run on its way
record IsOrderly (h : List Happening) (todo : List Todo) : Type 0 where
  well : HeardWell h
  turn : IsAtTurn h todo

abbrev Orderly : Run → Type 0
Orderly r = IsOrderly r.happened r.todo

-- it goes on
go : (h : List Happening) (todo : List Todo) → HeardWell h → IsCalm h todo → IsOrderly h todo
go h todo well p = record { well = well; turn = at_calm h todo p }

-- the machine did something, or a line was put
did : (h : List Happening) (entry : Entry) (todo : List Todo) → HeardWell h → AreAtRest todo → AllRest h → IsOrderly (h ++ Did entry ∷ []) todo
did h entry todo well todos rest = record {
  well = one_more h (Did entry) well (λ w event e. absurd (cc));
  turn = at_calm (h ++ Did entry ∷ []) todo (inl (todos, λ v. resting_same v h (h ++ Did entry ∷ []) (did_notes v h entry) (rest v)));
}

put : (h : List Happening) (line : List ℕ) (todo : List Todo) → HeardWell h → IsCalm h todo → IsOrderly (h ++ Put line ∷ []) todo
put h line todo well calm = record {
  well = one_more h (Put line) well (λ w event e. absurd (cc));
  turn = at_calm (h ++ Put line ∷ []) todo (calm_on calm);
}
  where
    calm_on : IsCalm h todo → IsCalm (h ++ Put line ∷ []) todo
    calm_on (inl p) = inl (p.0, λ v. resting_same v h (h ++ Put line ∷ []) (put_notes v h line) (p.1 v))
    calm_on (inr p) = inr p

-- ---- the steps

if_did : (r : Run) (entry : Entry) (o : Option State) (todo : List Todo) → HeardWell r.happened → AreAtRest todo → AllRest r.happened → Orderly (does_if r entry o todo)
if_did r entry None todo well todos rest = go r.happened todo well (inl (todos, rest))
if_did r entry (Some st) todo well todos rest = did r.happened entry todo well todos rest

shown_rest : (told : Bool) (todo : List Todo) → AreAtRest todo → AreAtRest (shown told todo)
shown_rest true todo p = p
shown_rest false todo p = p

heard_rest : (told : Bool) (event : Event) (todo : List Todo) → AreAtRest todo → AreAtRest (heard told event todo)
heard_rest true event todo p = p
heard_rest false event todo p = p

fires_orderly : (r : Run) (o : Option (AnswerAndState Event State)) (todo : List Todo) → HeardWell r.happened → AreAtRest todo → AllRest r.happened → Orderly (fires r o todo)
fires_orderly r None todo well todos rest = go r.happened todo well (inl (todos, rest))
fires_orderly r (Some fired) todo well todos rest =
    did r.happened (Fired fired.answer) (heard r.setting.is_told fired.answer todo) well (heard_rest r.setting.is_told fired.answer todo todos) rest

drains_orderly : (r : Run) (events : List Event) (running : Option ℕ) (due : Bool) (todo : List Todo) → HeardWell r.happened → AreAtRest todo → AllRest r.happened → Orderly (drains r events running due todo)
drains_orderly r (event ∷ events) running due todo well todos rest = go r.happened (Do step.Fire ∷ Do step.Drain ∷ todo) well (inl (todos, rest))
drains_orderly r [] (Some k) due todo well todos rest = if_did r (Work k) (after_work k r.state) (Do step.Drain ∷ todo) well todos rest
drains_orderly r [] None true todo well todos rest = if_did r Element (after_element_turn r.state) (Do step.Drain ∷ todo) well todos rest
drains_orderly r [] None false todo well todos rest = go r.happened todo well (inl (todos, rest))

line_orderly : (r : Run) (line : StepLine) (todo : List Todo) → HeardWell r.happened → AreAtRest todo → AllRest r.happened → Orderly (line_done r line todo)
line_orderly r (step.Call call) todo well todos rest =
    did r.happened (Script call (after_call r.setting.blobs call r.state).answer) (shown r.setting.is_told todo) well (shown_rest r.setting.is_told todo todos) rest
line_orderly r step.Fire todo well todos rest = fires_orderly r (fire_result r.state) todo well todos rest
line_orderly r (step.Work k) todo well todos rest = if_did r (Work k) (after_work k r.state) todo well todos rest
line_orderly r step.Element todo well todos rest = if_did r Element (after_element_turn r.state) todo well todos rest
line_orderly r step.Drain todo well todos rest = drains_orderly r r.state.element.queue (running_in r.state) (is_turn_due r.state) todo well todos rest

hears_orderly : (r : Run) (event : Event) (w : ℕ) (o : Option Way) (todo : List Todo) → HeardWell r.happened → AreAtRest todo → AllRest r.happened → Orderly (hears r event w o todo)
hears_orderly r event w None todo well todos rest = go r.happened todo well (inl (todos, rest))
hears_orderly r event w (Some way) todo well todos rest = record {
  well = one_more r.happened (Noted w (Heard event)) well (λ v e is. rest);
  turn = (others_on w r.happened (Heard event) (λ v ne. rest v), todos);
}

asked_orderly : (r : Run) (w n : ℕ) (o : Option Call) (todo : List Todo) → HeardWell r.happened → AreAtRest todo → OthersRest w r.happened → Orderly (asked r w n o todo)
asked_orderly r w n None todo well todos others = record {
  well = one_more r.happened (Noted w Rested) well (λ v event e. absurd (cc));
  turn = at_calm (r.happened ++ Noted w Rested ∷ []) todo (inl (todos, rested_last w r.happened others));
}
asked_orderly r w n (Some call) todo well todos others = record {
  well = one_more r.happened (Noted w (Made call)) well (λ v event e. absurd (cc));
  turn = (others_on w r.happened (Made call) others, todos);
}

makes_orderly : (r : Run) (w n left : ℕ) (call : Call) (todo : List Todo) → HeardWell r.happened → AreAtRest todo → OthersRest w r.happened → Orderly (makes r w n left call todo)
makes_orderly r w zero left call todo well todos others = record { well = well; turn = inr tt }
makes_orderly r w (suc n) zero call todo well todos others = record { well = well; turn = inr tt }
makes_orderly r w (suc n) (suc left) call todo well todos others =
    let entry : Entry = Listener w call (after_call r.setting.blobs call r.state).answer in
    record {
      well = one_more r.happened (Did entry) well (λ v event e. absurd (cc));
      turn = (λ v ne. resting_same v r.happened (r.happened ++ Did entry ∷ []) (did_notes v r.happened entry) (others v ne), todos);
    }

tells_orderly : (r : Run) (w n : ℕ) (answer : Answer) (todo : List Todo) → HeardWell r.happened → AreAtRest todo → OthersRest w r.happened → IsOrderly (r.happened ++ Noted w (Told answer) ∷ []) (Ask w n ∷ todo)
tells_orderly r w n answer todo well todos others = record {
  well = one_more r.happened (Noted w (Told answer)) well (λ v event e. absurd (cc));
  turn = (others_on w r.happened (Told answer) others, todos);
}

prints_orderly : (r : Run) (lines : List (List ℕ)) (todo : List Todo) → HeardWell r.happened → IsCalm r.happened todo → Orderly (prints r lines todo)
prints_orderly r [] todo well calm = go r.happened todo well calm
prints_orderly r (line ∷ lines) todo well calm = put r.happened line (Print lines ∷ todo) well (on calm)
  where
    on : IsCalm r.happened todo → IsCalm r.happened (Print lines ∷ todo)
    on (inl p) = inl p
    on (inr p) = inr p

appends_orderly : (r : Run) (fault : Option FaultView) (pieces : List Piece) (todo : List Todo) → HeardWell r.happened → AreAtRest todo → AllRest r.happened → Orderly (appends r fault pieces todo)
appends_orderly r None [] todo well todos rest = go r.happened todo well (inl (todos, rest))
appends_orderly r None (piece ∷ pieces) todo well todos rest = record { well = well; turn = inl (todos, rest) }
appends_orderly r (Some fault) pieces todo well todos rest = go r.happened todo well (inl (todos, rest))

-- of what is only to be done in a calm run
tail_calm : (h : List Happening) (todo : List Todo) → (AreAtRest todo × AllRest h) ⊎ AreClosing todo → IsCalm h todo
tail_calm h todo p = p

one_step : (ways : List Way) (r : Run) (todo : List Todo) → r.todo ≡ todo → HeardWell r.happened → IsAtTurn r.happened todo → Orderly (step_of ways r todo)
one_step ways r [] e well p = record { well = well; turn = subst (λ t. IsAtTurn r.happened t) (sym e) p }
one_step ways r (Line n line ∷ todo) e well (inl p) = did r.happened (Step n) (Do line ∷ todo) well p.0 p.1
one_step ways r (Line n line ∷ todo) e well (inr p) = absurd p
one_step ways r (Do line ∷ todo) e well (inl p) = line_orderly r line todo well p.0 p.1
one_step ways r (Do line ∷ todo) e well (inr p) = absurd p
one_step ways r (Hear event w ∷ todo) e well (inl p) = hears_orderly r event w (slice_get ways w) todo well p.0 p.1
one_step ways r (Hear event w ∷ todo) e well (inr p) = absurd p
one_step ways r (Ask w n ∷ todo) e well p = asked_orderly r w n (call_by r w (slice_index_or ways w (λ rules notes. None))) todo well p.1 p.0
one_step ways r (Make w n call ∷ todo) e well p = makes_orderly r w n r.left call todo well p.1 p.0
one_step ways r (Tell w n answer ∷ todo) e well p = tells_orderly r w n answer todo well p.1 p.0
one_step ways r (Show ∷ todo) e well (inl p) = go r.happened (Print (lines_left r) ∷ todo) well (inl p)
one_step ways r (Show ∷ todo) e well (inr p) = go r.happened (Print (lines_left r) ∷ todo) well (inr p)
one_step ways r (Append pieces ∷ todo) e well (inl p) = appends_orderly r r.state.source.fault pieces todo well p.0 p.1
one_step ways r (Append pieces ∷ todo) e well (inr p) = absurd p
one_step ways r (Close reason ∷ todo) e well p = record { well = well; turn = inr tt }
one_step ways r (Print lines ∷ todo) e well (inl p) = prints_orderly r lines todo well (inl p)
one_step ways r (Print lines ∷ todo) e well (inr p) = prints_orderly r lines todo well (inr p)
one_step ways r (Ended status ∷ todo) e well p = record { well = well; turn = subst (λ t. IsAtTurn r.happened t) (sym e) p }

steps : (n : ℕ) (ways : List Way) (r : Run) → Orderly r → Orderly (run_for n ways r)
steps zero ways r p = p
steps (suc n) ways r p = steps n ways (stepped ways r) (one_step ways r r.todo refl p.well p.turn)

nothing_before : (w : ℕ) (event : Event) (before after : List Happening) → [] ≡ before ++ Noted w (Heard event) ∷ after → ⊥
nothing_before w event [] after e = absurd (cc)
nothing_before w event (x ∷ before) after e = absurd (cc)

nothing_heard : HeardWell []
nothing_heard w event before after e = absurd (nothing_before w event before after e)

pub heard_at_rest : (ways : List Way) (r : Run) (n w : ℕ) (event : Event) (before after : List Happening) → r.happened ≡ [] → AreAtRest r.todo
    → IsWhereHeard w event before after (run_for n ways r).happened → (v : ℕ) → IsResting v before
heard_at_rest ways r n w event before after none todos is =
    let none_noted : AllRest r.happened = λ v. inl (ap (notes_in v) none) in
    (steps n ways r (go r.happened r.todo (subst (λ h. HeardWell h) (sym none) nothing_heard) (inl (todos, none_noted)))).well w event before after is
