-- A journal in which every line is done is the one of the play.
use Rattle.std.proofs.Common.{◌≡◌, ℕ, ◌+◌, List, [], ◌∷◌, length, refl, ap, sym, subst, ◌∙◌, arith}
use Rattle.std.specs.Prelude.{Option, Some, None}
use Rattle.mse_calls.specs.AnswerAndState.{AnswerAndState}
use Rattle.mse_calls.specs.declared.events.Event.{Event}
use Rattle.mse_calls.specs.declared.entry.Entry.{Entry}
use Rattle.mse_calls.specs.declared.entry.Entry.TheVariants.{Step, Script, Listener, Fired, Work, Element}
use Rattle.call_script.specs.declared.script.StepLine.{StepLine}
use Rattle.call_script.specs.declared.script.StepLine.TheVariants as step
use Rattle.listeners.specs.Dispatch.{AreCallsInTurn}
use Rattle.script_run.specs.Lines.{own_of, IsLineEntries}
use Rattle.script_run.specs.Turns.{calls_in}
use Rattle.mse_engine.specs.State.{State}
use Rattle.mse_engine.specs.Calls.{after_call}
use Rattle.mse_engine.specs.Work.{after_work, after_element_turn, fire_result}
use Rattle.mse_engine.specs.Run.{entry_meaning, fire_meaning, after_entries, IsReplay, fire_entries, entries_if}
use Rattle.cut_law.specs.Plays.{after_entry}
use Rattle.mse_commands.specs.Played.{ListenerState, PlayState, nothing, behind, one_entry, fire_by, entry_if, line_played}
use Rattle.mse_commands.proofs.Dispatches.{AreServed, heard_by, one_dispatch}
use Rattle.mse_commands.proofs.Drains.{led, AreEventsServed, heard_all, whole_part, one_drain}

-- ---- a line without a drain

pub only_led : (es : List Entry) → own_of es ≡ [] → led es ≡ es
only_led [] e = refl
only_led (Listener v call answer ∷ es) e = ap (λ (xs : List Entry). Listener v call answer ∷ xs) (only_led es e)
only_led (Step n ∷ es) e = absurd (cc)
only_led (Script call answer ∷ es) e = absurd (cc)
only_led (Fired event ∷ es) e = absurd (cc)
only_led (Work k ∷ es) e = absurd (cc)
only_led (Element ∷ es) e = absurd (cc)

abbrev pub IsHeaded : Entry → List Entry → Type 0
IsHeaded x es = (rest : List Entry) × (es ≡ x ∷ rest) × (own_of rest ≡ [])

pub headed : (es : List Entry) (x : Entry) → led es ≡ [] → own_of es ≡ x ∷ [] → IsHeaded x es
headed [] x f e = absurd (cc)
headed (Listener v call answer ∷ es) x f e = absurd (cc)
headed (Step n ∷ es) x f e = let same : Step n ≡ x = cc in (es, ap (λ (y : Entry). y ∷ es) same, cc)
headed (Script call answer ∷ es) x f e = let same : Script call answer ≡ x = cc in (es, ap (λ (y : Entry). y ∷ es) same, cc)
headed (Fired event ∷ es) x f e = let same : Fired event ≡ x = cc in (es, ap (λ (y : Entry). y ∷ es) same, cc)
headed (Work k ∷ es) x f e = let same : Work k ≡ x = cc in (es, ap (λ (y : Entry). y ∷ es) same, cc)
headed (Element ∷ es) x f e = let same : Element ≡ x = cc in (es, ap (λ (y : Entry). y ∷ es) same, cc)

-- what is known of the entries of a line
pub record IsLineFrom (blobs : List (List ℕ)) (p : PlayState) (rest : ℕ) (line : StepLine) (es : List Entry) : Type 0 where
  pub front : led es ≡ []
  pub does : IsLineEntries blobs p.state line es
  pub replays : IsReplay blobs p.state es
  pub served : AreEventsServed p.listeners es
  pub left : p.left ≡ rest + calls_in es

pub none_led : (es : List Entry) → led es ≡ [] → own_of es ≡ [] → es ≡ []
none_led es f e = sym (only_led es e) ∙ f

pub calls_of_led : (es : List Entry) → led es ≡ es → calls_in es ≡ length es
calls_of_led [] e = refl
calls_of_led (Listener v call answer ∷ es) e = let rest : led es ≡ es = cc in omega (arith, calls_of_led es rest)
calls_of_led (Step n ∷ es) e = absurd (cc)
calls_of_led (Script call answer ∷ es) e = absurd (cc)
calls_of_led (Fired event ∷ es) e = absurd (cc)
calls_of_led (Work k ∷ es) e = absurd (cc)
calls_of_led (Element ∷ es) e = absurd (cc)

pub heard_of_led : (hs : List ListenerState) (es : List Entry) → led es ≡ es → heard_all hs es ≡ hs
heard_of_led hs [] e = refl
heard_of_led hs (Listener v call answer ∷ es) e = heard_of_led hs es (cc)
heard_of_led hs (Step n ∷ es) e = absurd (cc)
heard_of_led hs (Script call answer ∷ es) e = absurd (cc)
heard_of_led hs (Fired event ∷ es) e = absurd (cc)
heard_of_led hs (Work k ∷ es) e = absurd (cc)
heard_of_led hs (Element ∷ es) e = absurd (cc)

none_part : (blobs : List (List ℕ)) (p : PlayState) (rest : ℕ) (es : List Entry) → es ≡ [] → p.left ≡ rest + calls_in es → nothing p ≡ whole_part blobs p rest es
none_part blobs p rest es e l =
    let same : p.left ≡ rest = omega (arith, l, ap calls_in e) in
    ap (λ (n : ℕ). nothing (record p { left = n })) same ∙ ap (whole_part blobs p rest) (sym e)

-- one entry of the machine behind which nobody calls
single : (blobs : List (List ℕ)) (p : PlayState) (rest : ℕ) (x : Entry) (es : List Entry) → es ≡ x ∷ [] → p.left ≡ rest + calls_in (x ∷ []) → calls_in (x ∷ []) ≡ 0 → heard_all p.listeners (x ∷ []) ≡ p.listeners
    → one_entry blobs p x ≡ whole_part blobs p rest es
single blobs p rest x es e l q h =
    let same : p.left ≡ rest = omega (arith, l, q) in
    ap (λ (n : ℕ). one_entry blobs (record p { left = n }) x) same
    ∙ ap (λ (hs : List ListenerState). record { entries = x ∷ []; now = record { state = after_entry blobs p.state x; left = rest; listeners = hs }; stop = None }) (sym h)
    ∙ ap (whole_part blobs p rest) (sym e)

-- the event of a line `fire`
pub fire_line : (o : Option (AnswerAndState Event State)) (blobs : List (List ℕ)) (p : PlayState) (rest : ℕ) (es : List Entry) → fire_result p.state ≡ o → own_of es ≡ fire_entries o → led es ≡ [] → IsReplay blobs p.state es
    → AreEventsServed p.listeners es → p.left ≡ rest + calls_in es → fire_by blobs p o ≡ whole_part blobs p rest es
fire_line None blobs p rest es same own front r served l = none_part blobs p rest es (none_led es front own) l
fire_line (Some fired) blobs p rest es same own front r served l =
    let h = headed es (Fired fired.answer) front own in
    let calls : List Entry = h.0 in
    let all : led calls ≡ calls = only_led calls h.2 in
    let s = subst (λ xs. AreEventsServed p.listeners xs) h.1 served in
    let replays = subst (λ xs. IsReplay blobs p.state xs) h.1 r in
    let state : (entry_meaning blobs p.state (Fired fired.answer)).state ≡ fired.state = ap (λ (o : Option (AnswerAndState Event State)). (fire_meaning o fired.answer p.state).state) same in
    let mine : IsReplay blobs fired.state calls = subst (λ st. IsReplay blobs st calls) state replays.1 in
    let turns : AreCallsInTurn 0 (0 + length p.listeners) calls = subst (λ n. AreCallsInTurn 0 n calls) (omega arith) (subst (λ xs. AreCallsInTurn 0 (length p.listeners) xs) all s.0) in
    let answered : AreServed fired.answer 0 calls p.listeners = subst (λ xs. AreServed fired.answer 0 xs p.listeners) all s.1 in
    let left : p.left ≡ rest + length calls = omega (arith, l, ap calls_in h.1, calls_of_led calls all) in
    let heard : heard_all (heard_by fired.answer 0 (led calls) p.listeners) calls ≡ heard_by fired.answer 0 calls p.listeners =
    heard_of_led (heard_by fired.answer 0 (led calls) p.listeners) calls all ∙ ap (λ xs. heard_by fired.answer 0 xs p.listeners) all in
    ap (behind (Fired fired.answer ∷ [])) (one_dispatch p.listeners blobs fired.answer 0 calls fired.state p.left rest turns mine answered left)
    ∙ ap (λ (st : State). record { entries = Fired fired.answer ∷ calls; now = record { state = after_entries blobs st calls; left = rest; listeners = heard_by fired.answer 0 calls p.listeners }; stop = None }) (sym state)
    ∙ ap (λ (hs : List ListenerState). record { entries = Fired fired.answer ∷ calls; now = record { state = after_entries blobs p.state (Fired fired.answer ∷ calls); left = rest; listeners = hs }; stop = None }) (sym heard)
    ∙ ap (whole_part blobs p rest) (sym h.1)

pub if_line : (o : Option State) (x : Entry) (blobs : List (List ℕ)) (p : PlayState) (rest : ℕ) (es : List Entry) → own_of es ≡ entries_if o x → led es ≡ [] → (calls_in (x ∷ []) ≡ 0) → heard_all p.listeners (x ∷ []) ≡ p.listeners
    → ((rest : List Entry) → AreEventsServed p.listeners (x ∷ rest) → led rest ≡ []) → AreEventsServed p.listeners es → p.left ≡ rest + calls_in es → entry_if blobs p x o ≡ whole_part blobs p rest es
if_line None x blobs p rest es own front q heard next served l = none_part blobs p rest es (none_led es front own) l
if_line (Some st) x blobs p rest es own front q heard next served l =
    let h = headed es x front own in
    let none : h.0 ≡ [] = none_led h.0 (next h.0 (subst (λ xs. AreEventsServed p.listeners xs) h.1 served)) h.2 in
    let all : es ≡ x ∷ [] = h.1 ∙ ap (λ (xs : List Entry). x ∷ xs) none in
    single blobs p rest x es all (l ∙ ap (λ xs. rest + calls_in xs) all) q heard

pub one_line : (line : StepLine) (blobs : List (List ℕ)) (p : PlayState) (rest : ℕ) (es : List Entry) → IsLineFrom blobs p rest line es → line_played blobs p line ≡ whole_part blobs p rest es
one_line (step.Call call) blobs p rest es d =
    let x : Entry = Script call (after_call blobs call p.state).answer in
    if_line (Some p.state) x blobs p rest es d.does d.front refl refl (λ rest s. s.0) d.served d.left
one_line step.Fire blobs p rest es d = fire_line (fire_result p.state) blobs p rest es refl d.does d.front d.replays d.served d.left
one_line (step.Work k) blobs p rest es d = if_line (after_work k p.state) (Work k) blobs p rest es d.does d.front refl refl (λ rest s. s.0) d.served d.left
one_line step.Element blobs p rest es d = if_line (after_element_turn p.state) Element blobs p rest es d.does d.front refl refl (λ rest s. s.0) d.served d.left
one_line step.Drain blobs p rest es d =
    one_drain es blobs p rest (record { front = d.front; order = d.does.order; end = d.does.end; replays = d.replays; served = d.served; left = d.left })
