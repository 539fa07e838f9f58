-- A whole journal is the one of the play.
use Rattle.std.proofs.Common.{◌≡◌, ℕ, suc, ◌-◌, List, [], ◌∷◌, ◌++◌, length, refl, ap, sym, subst, ◌∙◌, arith}
use Rattle.std.specs.Prelude.{None}
use Rattle.mse_calls.specs.declared.entry.Entry.{Entry}
use Rattle.mse_calls.specs.declared.entry.Entry.TheVariants.{Step, Script, Listener, Fired, Work, Element}
use Rattle.call_script.specs.declared.script.StepLine.{StepLine}
use Rattle.listeners.specs.Dispatch.{AreCallsInTurn}
use Rattle.script_run.specs.Lines.{Limits, PlayInputs, play_inputs}
use Rattle.script_run.specs.Follows.{AreLinesDone}
use Rattle.script_run.specs.Turns.{calls_in}
use Rattle.script_run.proofs.CallsInPlace.{in_turn}
use Rattle.script_run.proofs.ListenerTurns.{AreInTurn, turns_then}
use Rattle.mse_engine.specs.State.{State}
use Rattle.mse_engine.specs.Run.{after_entries, IsReplay}
use Rattle.mse_commands.specs.Played.{ListenerState, PlayState, Part, behind, and_then, line_played, lines_played}
use Rattle.mse_commands.proofs.Dispatches.{AreServed, heard_by, replays_parts, after_both}
use Rattle.mse_commands.proofs.Drains.{led, led_stops, AreEventsServed, heard_all, whole_part}
use Rattle.mse_commands.proofs.Lines.{one_line}

served_parts : (es rest : List Entry) (hs : List ListenerState) → led rest ≡ [] → AreEventsServed hs (es ++ rest) → AreEventsServed hs es × AreEventsServed (heard_all hs es) rest
served_parts [] rest hs e s = (tt, s)
served_parts (Listener v call answer ∷ es) rest hs e s = served_parts es rest hs e s
served_parts (Step n ∷ es) rest hs e s = let p = served_parts es rest hs e s.1 in ((sym (led_stops es rest e) ∙ s.0, p.0), p.1)
served_parts (Script call answer ∷ es) rest hs e s = let p = served_parts es rest hs e s.1 in ((sym (led_stops es rest e) ∙ s.0, p.0), p.1)
served_parts (Work k ∷ es) rest hs e s = let p = served_parts es rest hs e s.1 in ((sym (led_stops es rest e) ∙ s.0, p.0), p.1)
served_parts (Element ∷ es) rest hs e s = let p = served_parts es rest hs e s.1 in ((sym (led_stops es rest e) ∙ s.0, p.0), p.1)
served_parts (Fired event ∷ es) rest hs e s =
    let calls = led_stops es rest e in
    let p = served_parts es rest (heard_by event 0 (led es) hs) e (subst (λ xs. AreEventsServed (heard_by event 0 xs hs) (es ++ rest)) calls s.2) in
    ((subst (λ xs. AreCallsInTurn 0 (length hs) xs) calls s.0, subst (λ xs. AreServed event 0 xs hs) calls s.1, p.0), p.1)

heard_parts : (es rest : List Entry) (hs : List ListenerState) → led rest ≡ [] → heard_all hs (es ++ rest) ≡ heard_all (heard_all hs es) rest
heard_parts [] rest hs e = refl
heard_parts (Listener v call answer ∷ es) rest hs e = heard_parts es rest hs e
heard_parts (Step n ∷ es) rest hs e = heard_parts es rest hs e
heard_parts (Script call answer ∷ es) rest hs e = heard_parts es rest hs e
heard_parts (Work k ∷ es) rest hs e = heard_parts es rest hs e
heard_parts (Element ∷ es) rest hs e = heard_parts es rest hs e
heard_parts (Fired event ∷ es) rest hs e = ap (λ xs. heard_all (heard_by event 0 xs hs) (es ++ rest)) (led_stops es rest e) ∙ heard_parts es rest (heard_by event 0 (led es) hs) e

-- behind a line stands the number of the next
pub begins : (inputs : PlayInputs) (n : ℕ) (st : State) (lines : List StepLine) (entries : List Entry) → AreLinesDone inputs n st lines entries → led entries ≡ []
begins inputs n st [] entries w = ap led w
begins inputs n st (line ∷ lines) entries w = ap led w.2

-- the play comes to these entries, and goes through
abbrev IsPlayedTo : List (List ℕ) → ℕ → ℕ → List StepLine → PlayState → List Entry → Type 0
IsPlayedTo blobs limit n lines p entries = (rest : ℕ) × (lines_played blobs limit n lines p ≡ whole_part blobs p rest entries)

pub one_play : (lines : List StepLine) (blobs : List (List ℕ)) (limits : Limits) (n : ℕ) (p : PlayState) (entries : List Entry) → AreLinesDone (play_inputs blobs limits) n p.state lines entries
    → IsReplay blobs p.state entries → AreEventsServed p.listeners entries → IsPlayedTo blobs limits.limit n lines p entries
one_play [] blobs limits n p entries w r s = (p.left, ap (whole_part blobs p p.left) (sym w))
one_play (line ∷ lines) blobs limits n p entries w r s =
    let part : List Entry = w.0 in
    let rest : List Entry = w.1 in
    let all : entries ≡ Step n ∷ (part ++ rest) = w.2 in
    let front : led rest ≡ [] = begins (play_inputs blobs limits) (suc n) (after_entries blobs p.state part) lines rest w.4 in
    let served = subst (λ xs. AreEventsServed p.listeners xs) all s in
    let both = served_parts part rest p.listeners front served.1 in
    let replays = replays_parts blobs p.state part rest (subst (λ xs. IsReplay blobs p.state xs) all r).1 in
    let left : ℕ = limits.limit - calls_in part in
    let begun : PlayState = record p { left = limits.limit } in
    let now : PlayState = record { state = after_entries blobs p.state part; left = left; listeners = heard_all p.listeners part } in
    let done : line_played blobs begun line ≡ whole_part blobs begun left part =
    one_line line blobs begun left part (record { front = sym (led_stops part rest front) ∙ served.0; does = w.3.does; replays = replays.0; served = both.0; left = omega (arith, w.3.within.few) }) in
    let tail = one_play lines blobs limits (suc n) now rest w.4 replays.1 both.1 in (
      tail.0,
      ap (λ (x : Part). and_then (behind (Step n ∷ []) x) (lines_played blobs limits.limit (suc n) lines)) done
          ∙ ap (behind (Step n ∷ part)) tail.1
          ∙ ap (λ (st : State). record { entries = Step n ∷ (part ++ rest); now = record { state = st; left = tail.0; listeners = heard_all (heard_all p.listeners part) rest }; stop = None }) (sym (after_both blobs p.state part rest))
          ∙ ap (λ (hs : List ListenerState). record { entries = Step n ∷ (part ++ rest); now = record { state = after_entries blobs p.state (part ++ rest); left = tail.0; listeners = hs }; stop = None }) (sym (heard_parts part rest p.listeners front))
          ∙ ap (whole_part blobs p tail.0) (sym all),
    )

-- listeners called in turn
pub lines_turns : (inputs : PlayInputs) (n : ℕ) (st : State) (lines : List StepLine) (entries : List Entry) → AreLinesDone inputs n st lines entries → AreInTurn inputs.limits.count None entries
lines_turns inputs n st [] entries w = subst (λ xs. AreInTurn inputs.limits.count None xs) (sym w) tt
lines_turns inputs n st (line ∷ lines) entries w =
    let rest = lines_turns inputs (suc n) (after_entries inputs.blobs st w.0) lines w.1 w.4 in
    subst (λ xs. AreInTurn inputs.limits.count None xs) (sym w.2) (turns_then inputs.limits.count None w.0 w.1 (in_turn inputs.limits.count w.0 w.3.within.calls) rest)
