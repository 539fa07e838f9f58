-- The calls of a dispatch of the play replay, come in turn, and are few; its listeners hear the event and are told the answers.
use Rattle.std.proofs.Common.{◌≡◌, ◌≢◌, ℕ, zero, suc, ◌+◌, ◌<◌, ◌≤◌, List, [], ◌∷◌, ◌++◌, length, refl, ap, sym, subst, ◌∙◌, arith, inl, inr, append_assoc}
use Rattle.std.specs.Prelude.{Option, Some, None, cond}
use Rattle.std.proofs.lemmas.Bool.{cases_eq}
use Rattle.std.proofs.lemmas.Bool.Decides.{eqb_tells}
use Rattle.std.proofs.lemmas.List.{append-nil}
use Rattle.std.proofs.lemmas.Grind.{flat_map-append}
use Rattle.std.proofs.lemmas.List.Sums.{sum_by-cons}
use Rattle.mse_calls.specs.declared.answers.Answer.{Answer}
use Rattle.mse_calls.specs.declared.calls.Call.{Call}
use Rattle.mse_calls.specs.declared.events.Event.{Event}
use Rattle.mse_calls.specs.declared.entry.Entry.{Entry}
use Rattle.mse_calls.specs.declared.entry.Entry.TheVariants.{Step, Script, Listener, Fired, Work, Element}
use Rattle.run_steps.specs.declared.note.Note.{Note}
use Rattle.run_steps.specs.declared.note.Note.TheVariants.{Heard, Made, Told, Rested}
use Rattle.listeners.specs.declared.event_dispatch.DispatchFault.TheVariants as fault
use Rattle.listeners.specs.Notes.{entry_notes, is_call_of, call_notes, call_count, event_notes}
use Rattle.listeners.specs.Dispatch.{AreCallsInTurn, IsFault, TurnEnd, notes_at}
use Rattle.script_run.specs.declared.stop.Stop.{Stop}
use Rattle.script_run.specs.declared.stop.Stop.TheVariants.{Memory, Write, CallBudget, TaskBudget}
use Rattle.script_run.specs.Turns.{most_calls}
use Rattle.script_run.proofs.ListenerTurns.{AreInTurn}
use Rattle.mse_engine.specs.State.{State}
use Rattle.mse_engine.specs.Calls.{after_call}
use Rattle.mse_engine.specs.Run.{entry_meaning, after_entries, IsReplay}
use Rattle.mse_commands.specs.Played.{ListenerState, Part, TurnPart, with_notes, notes_of_each, turn_rested, turn_behind, turn_full, turn_by, turn_in, turn_then, dispatch_then, dispatch_from}
use Rattle.mse_commands.proofs.CutNotes.{none_called}
use Rattle.mse_commands.proofs.Dispatches.{after_both, length_both, none_before, one_more, own_of_made}
use Rattle.mse_commands.proofs.Histories.{count_before, counted_one, other_count}

-- ---- a turn

-- the notes of the listener grew by those of its calls, and by a last one
abbrev HasOwnNotes : ℕ → ListenerState → TurnPart → Note → Type 0
HasOwnNotes w h turn last = turn.listener.notes ≡ h.notes ++ (call_notes w turn.entries ++ last ∷ [])

-- listener w rested; or it answered one call more than the n that it may make, or than are left
abbrev IsOwnEnd : Option Stop → ℕ → ℕ → ListenerState → TurnPart → Type 0
IsOwnEnd None w n h turn = HasOwnNotes w h turn Rested
IsOwnEnd (Some (CallBudget k)) w n h turn = (k ≡ w) × (length turn.entries ≡ n) × ((call : Call) × HasOwnNotes w h turn (Made call))
IsOwnEnd (Some TaskBudget) w n h turn = (turn.left ≡ 0) × (length turn.entries < n) × ((call : Call) × HasOwnNotes w h turn (Made call))
IsOwnEnd (Some Memory) w n h turn = ⊥
IsOwnEnd (Some Write) w n h turn = ⊥

-- the entries of a turn are at most n calls of listener w, which replay
record IsOwnTurn (blobs : List (List ℕ)) (w n : ℕ) (st : State) (before : ℕ) (h : ListenerState) (turn : TurnPart) : Type 0 where
  in_turn : AreCallsInTurn w (w + 1) turn.entries
  replays : IsReplay blobs st turn.entries
  state : turn.state ≡ after_entries blobs st turn.entries
  left : before ≡ turn.left + length turn.entries
  few : length turn.entries ≤ n
  ends : IsOwnEnd turn.stop w n h turn

own_rested : (blobs : List (List ℕ)) (w n : ℕ) (st : State) (left : ℕ) (h : ListenerState) → IsOwnTurn blobs w n st left h (turn_rested st left h)
own_rested blobs w n st left h = record { in_turn = tt; replays = tt; state = refl; left = omega arith; few = omega arith; ends = refl }

own_full : (o : Option Call) (blobs : List (List ℕ)) (w : ℕ) (st : State) (left : ℕ) (h : ListenerState) → IsOwnTurn blobs w 0 st left h (turn_full w st left h o)
own_full None blobs w st left h = own_rested blobs w 0 st left h
own_full (Some call) blobs w st left h = record { in_turn = tt; replays = tt; state = refl; left = omega arith; few = omega arith; ends = (refl, refl, (call, refl)) }

notes_more : (w : ℕ) (h : ListenerState) (call : Call) (answer : Answer) (turn : TurnPart) (last : Note) → HasOwnNotes w (with_notes h (Made call ∷ Told answer ∷ [])) turn last → HasOwnNotes w h (turn_behind (Listener w call answer) turn) last
notes_more w h call answer turn last e =
    e ∙ append_assoc h.notes (Made call ∷ Told answer ∷ []) (call_notes w turn.entries ++ last ∷ [])
    ∙ ap (λ (ns : List Note). h.notes ++ (ns ++ last ∷ [])) (sym (own_of_made w ((call, answer) ∷ []) turn.entries))

-- behind a call of its own
own_more : (stop : Option Stop) (w n : ℕ) (h : ListenerState) (call : Call) (answer : Answer) (turn : TurnPart) → IsOwnEnd stop w n (with_notes h (Made call ∷ Told answer ∷ [])) turn → IsOwnEnd stop w (suc n) h (turn_behind (Listener w call answer) turn)
own_more None w n h call answer turn e = notes_more w h call answer turn Rested e
own_more (Some (CallBudget k)) w n h call answer turn e = (e.0, omega (arith, e.1), (e.2.0, notes_more w h call answer turn (Made e.2.0) e.2.1))
own_more (Some TaskBudget) w n h call answer turn e = (e.0, omega (arith, e.1), (e.2.0, notes_more w h call answer turn (Made e.2.0) e.2.1))
own_more (Some Memory) w n h call answer turn e = absurd e
own_more (Some Write) w n h call answer turn e = absurd e

own_by : (o : Option Call) (go : State → ℕ → ListenerState → TurnPart) (blobs : List (List ℕ)) (w n : ℕ) (st : State) (left : ℕ) (h : ListenerState) → ((new : State) (rest : ℕ) (h : ListenerState) → IsOwnTurn blobs w n new rest h (go new rest h))
    → IsOwnTurn blobs w (suc n) st left h (turn_by go blobs w st left h o)
own_by None go blobs w n st left h f = own_rested blobs w (suc n) st left h
own_by (Some call) go blobs w n st zero h f = record { in_turn = tt; replays = tt; state = refl; left = omega arith; few = omega arith; ends = (refl, omega arith, (call, refl)) }
own_by (Some call) go blobs w n st (suc left) h f =
    let made = after_call blobs call st in
    let next : ListenerState = with_notes h (Made call ∷ Told made.answer ∷ []) in
    let turn : TurnPart = go made.state left next in
    let t = f made.state left next in
    record {
      in_turn = (omega arith, omega arith, t.in_turn);
      replays = (refl, t.replays);
      state = t.state;
      left = omega (arith, t.left);
      few = omega (arith, t.few);
      ends = own_more turn.stop w n h call made.answer turn t.ends;
    }

own_turn : (n : ℕ) (blobs : List (List ℕ)) (w : ℕ) (st : State) (left : ℕ) (h : ListenerState) → IsOwnTurn blobs w n st left h (turn_in n blobs w st left h)
own_turn zero blobs w st left h = own_full (h.answers h.notes) blobs w st left h
own_turn (suc n) blobs w st left h = own_by (h.answers h.notes) (turn_in n blobs w) blobs w n st left h (λ new rest h2. own_turn n blobs w new rest h2)

-- ---- calls of one listener, and then of others

lower : (a b high : ℕ) (es : List Entry) → a ≤ b → AreCallsInTurn b high es → AreCallsInTurn a high es
lower a b high [] le t = tt
lower a b high (Listener v call answer ∷ es) le t = (omega (arith, le, t.0), t.1, t.2)
lower a b high (Step n ∷ es) le t = absurd t
lower a b high (Script call answer ∷ es) le t = absurd t
lower a b high (Fired event ∷ es) le t = absurd t
lower a b high (Work k ∷ es) le t = absurd t
lower a b high (Element ∷ es) le t = absurd t

calls_join : (low w high : ℕ) (xs ys : List Entry) → low ≤ suc w → w < high → AreCallsInTurn low (w + 1) xs → AreCallsInTurn (suc w) high ys → AreCallsInTurn low high (xs ++ ys)
calls_join low w high [] ys le lt a b = lower low (suc w) high ys le b
calls_join low w high (Listener v call answer ∷ xs) ys le lt a b = (a.0, omega (arith, a.1, lt), calls_join v w high xs ys (omega (arith, a.1)) lt a.2 b)
calls_join low w high (Step n ∷ xs) ys le lt a b = absurd a
calls_join low w high (Script call answer ∷ xs) ys le lt a b = absurd a
calls_join low w high (Fired event ∷ xs) ys le lt a b = absurd a
calls_join low w high (Work k ∷ xs) ys le lt a b = absurd a
calls_join low w high (Element ∷ xs) ys le lt a b = absurd a

pub count_join : (k : ℕ) (xs ys : List Entry) → call_count k (xs ++ ys) ≡ call_count k xs + call_count k ys
count_join k [] ys = omega arith
count_join k (x ∷ xs) ys =
    omega (arith, sum_by-cons (λ e. cond (is_call_of k e) 1 0) x (xs ++ ys), sum_by-cons (λ e. cond (is_call_of k e) 1 0) x xs, count_join k xs ys)

-- of one listener
one_count : (low w : ℕ) (xs : List Entry) → AreCallsInTurn low (w + 1) xs → w ≤ low → call_count w xs ≡ length xs
one_count low w [] a le = refl
one_count low w (Listener v call answer ∷ xs) a le =
    let here : v ≡ w = omega (arith, a.0, a.1, le) in
    let one : call_count w (Listener v call answer ∷ xs) ≡ 1 + call_count w xs = subst (λ k. call_count k (Listener v call answer ∷ xs) ≡ 1 + call_count k xs) here (counted_one v call answer xs) in
    omega (arith, one, one_count v w xs a.2 (omega (arith, here)))
one_count low w (Step n ∷ xs) a le = absurd a
one_count low w (Script call answer ∷ xs) a le = absurd a
one_count low w (Fired event ∷ xs) a le = absurd a
one_count low w (Work k ∷ xs) a le = absurd a
one_count low w (Element ∷ xs) a le = absurd a

no_count : (low w k : ℕ) (xs : List Entry) → AreCallsInTurn low (w + 1) xs → w ≤ low → k ≢ w → call_count k xs ≡ 0
no_count low w k [] a le ne = refl
no_count low w k (Listener v call answer ∷ xs) a le ne =
    let here : v ≡ w = omega (arith, a.0, a.1, le) in
    other_count k v call answer xs (omega (arith, here, ne)) ∙ no_count v w k xs a.2 (omega (arith, here)) ne
no_count low w k (Step n ∷ xs) a le ne = absurd a
no_count low w k (Script call answer ∷ xs) a le ne = absurd a
no_count low w k (Fired event ∷ xs) a le ne = absurd a
no_count low w k (Work k2 ∷ xs) a le ne = absurd a
no_count low w k (Element ∷ xs) a le ne = absurd a

-- the notes of listener w, and of another, where its calls come first
first_notes : (w high : ℕ) (xs ys : List Entry) → AreCallsInTurn (suc w) high ys → call_notes w (xs ++ ys) ≡ call_notes w xs
first_notes w high xs ys b = flat_map-append (entry_notes w) xs ys ∙ ap (λ (ns : List Note). call_notes w xs ++ ns) (none_before w (suc w) high ys (omega arith) b) ∙ append-nil (call_notes w xs)

later_notes : (w k : ℕ) (xs ys : List Entry) → AreCallsInTurn w (w + 1) xs → k ≢ w → call_notes k (xs ++ ys) ≡ call_notes k ys
later_notes w k xs ys a ne = flat_map-append (entry_notes k) xs ys ∙ ap (λ (ns : List Note). ns ++ call_notes k ys) (none_called k xs (no_count w w k xs a (omega arith) ne))

later_count : (w k : ℕ) (xs ys : List Entry) → AreCallsInTurn w (w + 1) xs → k ≢ w → call_count k (xs ++ ys) ≡ call_count k ys
later_count w k xs ys a ne = omega (arith, count_join k xs ys, no_count w w k xs a (omega arith) ne)

-- calls in turn, of each listener at most 1000
pub turns_of : (count made low : ℕ) (es : List Entry) → AreCallsInTurn low count es → made + call_count low es ≤ most_calls → ((w : ℕ) → call_count w es ≤ most_calls) → AreInTurn count (Some (record { listener = low; made = made })) es
turns_of count made low [] a few each = tt
turns_of count made low (Listener v call answer ∷ es) a few each =
    let tail : (w : ℕ) → call_count w es ≤ most_calls = λ w. omega (arith, one_more w v call answer es, each w) in
    let own : call_count v (Listener v call answer ∷ es) ≡ 1 + call_count v es = counted_one v call answer es in
    elim (eqb_tells low v) [
      | inl t ↦
          let here : call_count low (Listener v call answer ∷ es) ≡ 1 + call_count v es = ap (λ k. call_count k (Listener v call answer ∷ es)) t.1 ∙ own in
          (a.1, inr (t.1, omega (arith, few, here)), rw t.0 (turns_of count (suc made) v es a.2 (omega (arith, few, here)) tail))
      | inr t ↦ (a.1, inl (omega (arith, a.0, t.1)), rw t.0 (turns_of count 1 v es a.2 (omega (arith, each v, own)) tail))
    ]
turns_of count made low (Step n ∷ es) a few each = absurd a
turns_of count made low (Script call answer ∷ es) a few each = absurd a
turns_of count made low (Fired event ∷ es) a few each = absurd a
turns_of count made low (Work k ∷ es) a few each = absurd a
turns_of count made low (Element ∷ es) a few each = absurd a

-- ---- what listeners hear of a dispatch

-- so many listeners, of which the first has number w, heard the event and answered it
abbrev pub AreOwnServed : Event → ℕ → List Entry → ℕ → List ListenerState → List ListenerState → Type 0
AreOwnServed event w es places hs gs = (k : ℕ) → k < places → notes_at (notes_of_each gs) k ≡ notes_at (notes_of_each hs) k ++ event_notes event (w + k) es

abbrev pub end_at : ℕ → List Entry → ℕ → List Note → List Note → TurnEnd
end_at v es left before now = record { listener = v; entries = es; left = left; before = before; now = now }

-- the turn of a listener ended at a limit
abbrev pub IsLimitEnd : Stop → Event → TurnEnd → Type 0
IsLimitEnd (CallBudget k) event end = IsFault (fault.CallBudget k) event end
IsLimitEnd TaskBudget event end = IsFault fault.TaskBudget event end
IsLimitEnd Memory event end = ⊥
IsLimitEnd Write event end = ⊥

-- the listener at one place answered a call beyond a limit: those before it were served, and those behind it heard nothing
pub record IsOwnCut (stop : Stop) (event : Event) (w : ℕ) (es : List Entry) (left : ℕ) (hs gs : List ListenerState) : Type 0 where
  pub place : ℕ
  pub within : place < length hs
  pub served : AreOwnServed event w es place hs gs
  pub silent : (k : ℕ) → place < k → call_count (w + k) es ≡ 0
  pub unheard : (k : ℕ) → place < k → notes_at (notes_of_each gs) k ≡ notes_at (notes_of_each hs) k
  pub ending : IsLimitEnd stop event (end_at (w + place) es left (notes_at (notes_of_each hs) place) (notes_at (notes_of_each gs) place))

abbrev pub IsOwnDispatchEnd : Option Stop → Event → ℕ → List ListenerState → Part → Type 0
IsOwnDispatchEnd None event w hs part = AreOwnServed event w part.entries (length hs) hs part.now.listeners
IsOwnDispatchEnd (Some stop) event w hs part = IsOwnCut stop event w part.entries part.now.left hs part.now.listeners

-- behind the event
behind_heard : (event : Event) (w : ℕ) (h : ListenerState) (turn : TurnPart) (last : Note) → HasOwnNotes w (with_notes h (Heard event ∷ [])) turn last → turn.listener.notes ≡ h.notes ++ (Heard event ∷ (call_notes w turn.entries ++ last ∷ []))
behind_heard event w h turn last e = e ∙ append_assoc h.notes (Heard event ∷ []) (call_notes w turn.entries ++ last ∷ [])

limit_here : (stop : Stop) (event : Event) (w : ℕ) (h : ListenerState) (turn : TurnPart) → call_count w turn.entries ≡ length turn.entries → IsOwnEnd (Some stop) w most_calls (with_notes h (Heard event ∷ [])) turn
    → IsLimitEnd stop event (end_at w turn.entries turn.left h.notes turn.listener.notes)
limit_here (CallBudget k) event w h turn count e = (e.0, count ∙ e.1, (e.2.0, behind_heard event w h turn (Made e.2.0) e.2.1))
limit_here TaskBudget event w h turn count e = (e.0, omega (arith, count, e.1), (e.2.0, behind_heard event w h turn (Made e.2.0) e.2.1))
limit_here Memory event w h turn count e = absurd e
limit_here Write event w h turn count e = absurd e

limit_later : (stop : Stop) (event : Event) (v : ℕ) (xs ys : List Entry) (left : ℕ) (before now : List Note) → call_notes v (xs ++ ys) ≡ call_notes v ys → call_count v (xs ++ ys) ≡ call_count v ys → IsLimitEnd stop event (end_at v ys left before now)
    → IsLimitEnd stop event (end_at v (xs ++ ys) left before now)
limit_later (CallBudget k) event v xs ys left before now n c e = (e.0, c ∙ e.1, (e.2.0, e.2.1 ∙ ap (λ (ns : List Note). before ++ (Heard event ∷ (ns ++ Made e.2.0 ∷ []))) (sym n)))
limit_later TaskBudget event v xs ys left before now n c e = (e.0, omega (arith, c, e.1), (e.2.0, e.2.1 ∙ ap (λ (ns : List Note). before ++ (Heard event ∷ (ns ++ Made e.2.0 ∷ []))) (sym n)))
limit_later Memory event v xs ys left before now n c e = absurd e
limit_later Write event v xs ys left before now n c e = absurd e

-- the turn of the first listener, and then of others
served_more : (event : Event) (w high places : ℕ) (h g : ListenerState) (hs gs : List ListenerState) (xs ys : List Entry) → AreCallsInTurn w (w + 1) xs → AreCallsInTurn (suc w) high ys → g.notes ≡ h.notes ++ event_notes event w xs
    → AreOwnServed event (suc w) ys places hs gs → (k : ℕ) → k < suc places → notes_at (notes_of_each (g ∷ gs)) k ≡ notes_at (notes_of_each (h ∷ hs)) k ++ event_notes event (w + k) (xs ++ ys)
served_more event w high places h g hs gs xs ys a b e f zero lt =
    let here : w ≡ w + 0 = omega arith in
    e ∙ ap (λ (ns : List Note). h.notes ++ (Heard event ∷ (ns ++ Rested ∷ []))) (sym (first_notes w high xs ys b)) ∙ ap (λ (v : ℕ). h.notes ++ event_notes event v (xs ++ ys)) here
served_more event w high places h g hs gs xs ys a b e f (suc k) lt =
    let next : suc w + k ≡ w + suc k = omega arith in
    let old : List Note = notes_at (notes_of_each hs) k in
    f k (omega (arith, lt))
    ∙ ap (λ (ns : List Note). old ++ (Heard event ∷ (ns ++ Rested ∷ []))) (sym (later_notes w (suc w + k) xs ys a (omega arith)))
    ∙ ap (λ (v : ℕ). old ++ event_notes event v (xs ++ ys)) next

silent_more : (w : ℕ) (place : ℕ) (xs ys : List Entry) → AreCallsInTurn w (w + 1) xs → ((k : ℕ) → place < k → call_count (suc w + k) ys ≡ 0) → (k : ℕ) → suc place < k → call_count (w + k) (xs ++ ys) ≡ 0
silent_more w place xs ys a f zero lt = absurd (omega (arith, lt))
silent_more w place xs ys a f (suc k) lt =
    let next : suc w + k ≡ w + suc k = omega arith in
    subst (λ (v : ℕ). call_count v (xs ++ ys) ≡ 0) next (later_count w (suc w + k) xs ys a (omega arith) ∙ f k (omega (arith, lt)))

unheard_more : (place : ℕ) (h g : ListenerState) (hs gs : List ListenerState) → ((k : ℕ) → place < k → notes_at (notes_of_each gs) k ≡ notes_at (notes_of_each hs) k) → (k : ℕ) → suc place < k → notes_at (notes_of_each (g ∷ gs)) k ≡ notes_at (notes_of_each (h ∷ hs)) k
unheard_more place h g hs gs f zero lt = absurd (omega (arith, lt))
unheard_more place h g hs gs f (suc k) lt = f k (omega (arith, lt))

unheard_rest : (h g : ListenerState) (hs : List ListenerState) (k : ℕ) → 0 < k → notes_at (notes_of_each (g ∷ hs)) k ≡ notes_at (notes_of_each (h ∷ hs)) k
unheard_rest h g hs zero lt = absurd (omega (arith, lt))
unheard_rest h g hs (suc k) lt = refl

cut_first : (stop : Stop) (event : Event) (w : ℕ) (h : ListenerState) (hs : List ListenerState) (turn : TurnPart) → AreCallsInTurn w (w + 1) turn.entries → IsOwnEnd (Some stop) w most_calls (with_notes h (Heard event ∷ [])) turn
    → IsOwnCut stop event w turn.entries turn.left (h ∷ hs) (turn.listener ∷ hs)
cut_first stop event w h hs turn a e =
    let here : w ≡ w + 0 = omega arith in
    record {
      place = 0;
      within = omega arith;
      served = λ k lt. absurd (omega (arith, lt));
      silent = λ k lt. no_count w w (w + k) turn.entries a (omega arith) (omega (arith, lt));
      unheard = λ k lt. unheard_rest h turn.listener hs k lt;
      ending = subst (λ (v : ℕ). IsLimitEnd stop event (end_at v turn.entries turn.left h.notes turn.listener.notes)) here (limit_here stop event w h turn (one_count w w turn.entries a (omega arith)) e);
    }

cut_later : (stop : Stop) (event : Event) (w high left : ℕ) (h g : ListenerState) (hs gs : List ListenerState) (xs ys : List Entry) → AreCallsInTurn w (w + 1) xs → AreCallsInTurn (suc w) high ys → g.notes ≡ h.notes ++ event_notes event w xs
    → IsOwnCut stop event (suc w) ys left hs gs → IsOwnCut stop event w (xs ++ ys) left (h ∷ hs) (g ∷ gs)
cut_later stop event w high left h g hs gs xs ys a b e c =
    let v : ℕ = suc w + c.place in
    let next : suc w + c.place ≡ w + suc c.place = omega arith in
    let old : List Note = notes_at (notes_of_each hs) c.place in
    let new : List Note = notes_at (notes_of_each gs) c.place in
    record {
      place = suc c.place;
      within = omega (arith, c.within);
      served = λ k lt. served_more event w high c.place h g hs gs xs ys a b e c.served k lt;
      silent = λ k lt. silent_more w c.place xs ys a c.silent k lt;
      unheard = λ k lt. unheard_more c.place h g hs gs c.unheard k lt;
      ending = subst (λ (v : ℕ). IsLimitEnd stop event (end_at v (xs ++ ys) left old new)) next
          (limit_later stop event v xs ys left old new (later_notes w v xs ys a (omega arith)) (later_count w v xs ys a (omega arith)) c.ending);
    }

ends_then : (stop : Option Stop) (event : Event) (w high : ℕ) (h : ListenerState) (hs : List ListenerState) (turn : TurnPart) (part : Part) → AreCallsInTurn w (w + 1) turn.entries → AreCallsInTurn (suc w) high part.entries
    → IsOwnEnd None w most_calls (with_notes h (Heard event ∷ [])) turn → IsOwnDispatchEnd stop event (suc w) hs part → IsOwnDispatchEnd stop event w (h ∷ hs) (turn_then turn part)
ends_then None event w high h hs turn part a b e f = λ k lt. served_more event w high (length hs) h turn.listener hs part.now.listeners turn.entries part.entries a b (behind_heard event w h turn Rested e) f k lt
ends_then (Some stop) event w high h hs turn part a b e c = cut_later stop event w high part.now.left h turn.listener hs part.now.listeners turn.entries part.entries a b (behind_heard event w h turn Rested e) c

-- ---- a dispatch

-- the entries of a dispatch are calls in turn, which replay, at most 1000 of each listener
pub record IsOwnDispatch (blobs : List (List ℕ)) (event : Event) (w high : ℕ) (st : State) (before : ℕ) (hs : List ListenerState) (part : Part) : Type 0 where
  pub in_turn : AreCallsInTurn w high part.entries
  pub few : (k : ℕ) → call_count k part.entries ≤ most_calls
  pub replays : IsReplay blobs st part.entries
  pub state : part.now.state ≡ after_entries blobs st part.entries
  pub left : before ≡ part.now.left + length part.entries
  pub count : length part.now.listeners ≡ length hs
  pub ends : IsOwnDispatchEnd part.stop event w hs part

pub replays_join : (blobs : List (List ℕ)) (st : State) (xs ys : List Entry) → IsReplay blobs st xs → IsReplay blobs (after_entries blobs st xs) ys → IsReplay blobs st (xs ++ ys)
replays_join blobs st [] ys r s = s
replays_join blobs st (x ∷ xs) ys r s = (r.0, replays_join blobs (entry_meaning blobs st x).state xs ys r.1 s)

few_of_one : (w k : ℕ) (xs : List Entry) → AreCallsInTurn w (w + 1) xs → length xs ≤ most_calls → call_count k xs ≤ most_calls
few_of_one w k xs a few = elim (cases_eq k w) [
  | inl e ↦ subst (λ v. call_count v xs ≤ most_calls) (sym e) (omega (arith, one_count w w xs a (omega arith), few))
  | inr ne ↦ omega (arith, no_count w w k xs a (omega arith) ne)
]

few_of_all : (w k high : ℕ) (xs ys : List Entry) → AreCallsInTurn w (w + 1) xs → AreCallsInTurn (suc w) high ys → length xs ≤ most_calls → call_count k ys ≤ most_calls → call_count k (xs ++ ys) ≤ most_calls
few_of_all w k high xs ys a b few each = elim (cases_eq k w) [
  | inl e ↦
      let none : call_count k ys ≡ 0 = count_before k (suc w) high ys (omega (arith, e)) b in
      omega (arith, count_join k xs ys, none, few_of_one w k xs a few)
  | inr ne ↦ omega (arith, count_join k xs ys, no_count w w k xs a (omega arith) ne, each)
]

own_then : (stop : Option Stop) (blobs : List (List ℕ)) (event : Event) (w high : ℕ) (st : State) (left : ℕ) (h : ListenerState) (hs : List ListenerState) (next : State → ℕ → Part) (turn : TurnPart) → turn.stop ≡ stop → w < high
    → IsOwnTurn blobs w most_calls st left (with_notes h (Heard event ∷ [])) turn → ((new : State) (rest : ℕ) → IsOwnDispatch blobs event (suc w) high new rest hs (next new rest))
    → IsOwnDispatch blobs event w high st left (h ∷ hs) (dispatch_then hs next (record turn { stop = stop }))
own_then (Some stop) blobs event w high st left h hs next turn e lt t f = record {
  in_turn = subst (λ xs. AreCallsInTurn w high xs) (append-nil turn.entries) (calls_join w w high turn.entries [] (omega arith) lt t.in_turn tt);
  few = λ k. few_of_one w k turn.entries t.in_turn t.few;
  replays = t.replays;
  state = t.state;
  left = t.left;
  count = refl;
  ends = cut_first stop event w h hs turn t.in_turn (subst (λ (s : Option Stop). IsOwnEnd s w most_calls (with_notes h (Heard event ∷ [])) turn) e t.ends);
}
own_then None blobs event w high st left h hs next turn e lt t f =
    let part : Part = next turn.state turn.left in
    let p = f turn.state turn.left in
    let later : IsReplay blobs (after_entries blobs st turn.entries) part.entries = subst (λ s. IsReplay blobs s part.entries) t.state p.replays in
    record {
      in_turn = calls_join w w high turn.entries part.entries (omega arith) lt t.in_turn p.in_turn;
      few = λ k. few_of_all w k high turn.entries part.entries t.in_turn p.in_turn t.few (p.few k);
      replays = replays_join blobs st turn.entries part.entries t.replays later;
      state = p.state ∙ ap (λ s. after_entries blobs s part.entries) t.state ∙ sym (after_both blobs st turn.entries part.entries);
      left = omega (arith, t.left, p.left, length_both turn.entries part.entries);
      count = ap suc p.count;
      ends = ends_then part.stop event w high h hs turn part t.in_turn p.in_turn (subst (λ (s : Option Stop). IsOwnEnd s w most_calls (with_notes h (Heard event ∷ [])) turn) e t.ends) p.ends;
    }

pub own_dispatch : (hs : List ListenerState) (blobs : List (List ℕ)) (event : Event) (w : ℕ) (st : State) (left : ℕ) → IsOwnDispatch blobs event w (w + length hs) st left hs (dispatch_from blobs event w hs st left)
own_dispatch [] blobs event w st left = record { in_turn = tt; few = λ k. omega arith; replays = tt; state = refl; left = omega arith; count = refl; ends = λ k lt. absurd (omega (arith, lt)) }
own_dispatch (h ∷ hs) blobs event w st left =
    let heard : ListenerState = with_notes h (Heard event ∷ []) in
    let turn : TurnPart = turn_in most_calls blobs w st left heard in
    let more : suc w + length hs ≡ w + suc (length hs) = omega arith in
    own_then turn.stop blobs event w (w + suc (length hs)) st left h hs (dispatch_from blobs event (suc w) hs) turn refl (omega arith) (own_turn most_calls blobs w st left heard)
    (λ new rest. subst (λ x. IsOwnDispatch blobs event (suc w) x new rest hs (dispatch_from blobs event (suc w) hs new rest)) more (own_dispatch hs blobs event (suc w) new rest))
