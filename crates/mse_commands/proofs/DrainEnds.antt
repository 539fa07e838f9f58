-- A drain of a play has fuel enough: where it does not stop, there is nothing left to do.
use Rattle.std.proofs.Common.{◌≡◌, ℕ, zero, suc, ◌<◌, ◌≤◌, Bool, true, false, List, [], ◌∷◌, refl, ap, ◌∙◌, arith, eqb-true}
use Rattle.std.proofs.lemmas.Bool.{eqb-false}
use Rattle.std.specs.Prelude.{Option, Some, None, option_map, drop, slice_get, ◌≢◌, ◌==◌}
use Rattle.mse_calls.specs.declared.calls.Call.{Call}
use Rattle.mse_calls.specs.declared.events.Event.{Event}
use Rattle.mse_calls.specs.declared.entry.Entry.TheVariants.{Work, Element}
use Rattle.run_steps.specs.declared.note.Note.TheVariants.{Heard, Made, Told}
use Rattle.script_run.specs.declared.stop.Stop.{Stop}
use Rattle.script_run.specs.DrainSteps.{IsAtRest}
use Rattle.script_run.specs.Turns.{most_calls}
use Rattle.mse_engine.specs.State.{State}
use Rattle.mse_engine.specs.Calls.{after_call}
use Rattle.mse_engine.specs.Work.{without_first, running_in, is_turn_due}
use Rattle.cut_law.specs.Plays.{steps_left}
use Rattle.cut_law.specs.Plays.{after_entry, next_entry, next_entry_by}
use Rattle.cut_law.proofs.DrainEnds.{work-falls, turn-falls}
use Rattle.mse_commands.specs.Played.{ListenerState, PlayState, Part, TurnPart, DrainContinuations, behind, unless_stopped, and_then, with_notes, turn_full, turn_by, turn_in, dispatch_then, dispatch_from, fire_by, fire, if_called, fire_waiting, step_by, one_entry, round_in, rounds_in, drain_played}

-- no more calls are left than before, and where as many are the state is as before
abbrev pub IsStill : State → ℕ → State → ℕ → Type 0
IsStill st left new rest = (rest ≤ left) × ((rest ≡ left) → new ≡ st)

still : (st : State) (left : ℕ) → IsStill st left st left
still st left = (omega arith, λ e. refl)

fewer : (st new : State) (left rest : ℕ) → rest < left → IsStill st left new rest
fewer st new left rest lt = (omega (arith, lt), λ e. absurd (omega (arith, lt, e)))

turn_full_still : (w : ℕ) (st : State) (left : ℕ) (h : ListenerState) (call : Option Call) → IsStill st left (turn_full w st left h call).state (turn_full w st left h call).left
turn_full_still w st left h None = still st left
turn_full_still w st left h (Some call) = still st left

turn_by_still : (go : State → ℕ → ListenerState → TurnPart) (blobs : List (List ℕ)) (w : ℕ) (st : State) (left : ℕ) (h : ListenerState) (call : Option Call)
    → ((new : State) (rest : ℕ) (h : ListenerState) → IsStill new rest (go new rest h).state (go new rest h).left)
    → IsStill st left (turn_by go blobs w st left h call).state (turn_by go blobs w st left h call).left
turn_by_still go blobs w st left h None f = still st left
turn_by_still go blobs w st zero h (Some call) f = still st 0
turn_by_still go blobs w st (suc left) h (Some call) f =
    let made = after_call blobs call st in
    let h2 : ListenerState = with_notes h (Made call ∷ Told made.answer ∷ []) in
    fewer st (go made.state left h2).state (suc left) (go made.state left h2).left (omega (arith, (f made.state left h2).0))

turn_still : (n : ℕ) (blobs : List (List ℕ)) (w : ℕ) (st : State) (left : ℕ) (h : ListenerState) → IsStill st left (turn_in n blobs w st left h).state (turn_in n blobs w st left h).left
turn_still zero blobs w st left h = turn_full_still w st left h (h.answers h.notes)
turn_still (suc n) blobs w st left h = turn_by_still (turn_in n blobs w) blobs w st left h (h.answers h.notes) (λ new rest h2. turn_still n blobs w new rest h2)

-- one after the other
then_still : (a b c : State) (l m n : ℕ) → IsStill a l b m → IsStill b m c n → IsStill a l c n
then_still a b c l m n p q = (omega (arith, p.0, q.0), λ e. q.1 (omega (arith, p.0, q.0, e)) ∙ p.1 (omega (arith, p.0, q.0, e)))

dispatch_then_still : (hs : List ListenerState) (next : State → ℕ → Part) (st : State) (left : ℕ) (turn : TurnPart) (stop : Option Stop) → IsStill st left turn.state turn.left
    → ((new : State) (rest : ℕ) → IsStill new rest (next new rest).now.state (next new rest).now.left)
    → IsStill st left (dispatch_then hs next (record turn { stop = stop })).now.state (dispatch_then hs next (record turn { stop = stop })).now.left
dispatch_then_still hs next st left turn None s f = then_still st turn.state (next turn.state turn.left).now.state left turn.left (next turn.state turn.left).now.left s (f turn.state turn.left)
dispatch_then_still hs next st left turn (Some stop) s f = s

dispatch_still : (blobs : List (List ℕ)) (event : Event) (w : ℕ) (hs : List ListenerState) (st : State) (left : ℕ)
    → IsStill st left (dispatch_from blobs event w hs st left).now.state (dispatch_from blobs event w hs st left).now.left
dispatch_still blobs event w [] st left = still st left
dispatch_still blobs event w (h ∷ hs) st left =
    let turn : TurnPart = turn_in most_calls blobs w st left (with_notes h (Heard event ∷ [])) in
    dispatch_then_still hs (dispatch_from blobs event (suc w) hs) st left turn turn.stop (turn_still most_calls blobs w st left (with_notes h (Heard event ∷ []))) (λ new rest. dispatch_still blobs event (suc w) hs new rest)

-- ---- what is said of a part that does not stop

abbrev Rests : Part → Type 0
Rests part = part.stop ≡ None → IsAtRest part.now.state

rests_then : (part : Part) (next : PlayState → Part) → (part.stop ≡ None → Rests (next part.now)) → Rests (and_then part next)
rests_then part next f = by part.stop f
  where
    by : (stop : Option Stop) → (stop ≡ None → Rests (next part.now)) → Rests (unless_stopped stop (record part { stop = stop }) (behind part.entries (next part.now)))
    by None f = f refl
    by (Some stop) f = λ e. absurd (cc)

-- ---- an event

-- the queue lost its first event, where no listener called
pub fire_still : (blobs : List (List ℕ)) (p : PlayState) (event : Event) (events : List Event) → p.state.element.queue ≡ event ∷ events
    → IsStill (without_first p.state) p.left (fire blobs p).now.state (fire blobs p).now.left
fire_still blobs p event events e = by (slice_get p.state.element.queue 0) (ap (λ q. slice_get q 0) e)
  where
    by : (first : Option Event) → first ≡ Some event → IsStill (without_first p.state) p.left (fire_by blobs p (option_map (λ event. record { answer = event; state = without_first p.state }) first)).now.state (fire_by blobs p (option_map (λ event. record { answer = event; state = without_first p.state }) first)).now.left
    by None e = absurd (cc)
    by (Some x) e = dispatch_still blobs x 0 p.listeners (without_first p.state) p.left

called_or_not : (now left : ℕ) (same called : Part) → (now ≡ left → Rests same) → (now ≢ left → Rests called) → Rests (if_called (now == left) same called)
called_or_not now left same called f g = by (now == left) refl
  where
    by : (b : Bool) → (now == left) ≡ b → Rests (if_called b same called)
    by true e = f (eqb-true now left e)
    by false e = g (eqb-false now left e)

-- ---- rounds

-- the queue is empty, and no step or call was made
pub record IsFiredOut (p now : PlayState) : Type 0 where
  pub queue : now.state.element.queue ≡ []
  pub steps : steps_left now.state ≡ steps_left p.state
  pub left : now.left ≡ p.left

fired_rests : (events : List Event) (blobs : List (List ℕ)) (g : DrainContinuations) (p : PlayState) → p.state.element.queue ≡ events
    → ((now : PlayState) → now.left < p.left → Rests (g.again now)) → ((now : PlayState) → IsFiredOut p now → Rests (g.next now))
    → Rests (fire_waiting events blobs g p)
fired_rests [] blobs g p e again next = next p (record { queue = e; steps = refl; left = refl })
fired_rests (event ∷ events) blobs g p e again next =
    let part : Part = fire blobs p in
    let s = fire_still blobs p event events e in
    rests_then part (λ now. if_called (now.left == p.left) (fire_waiting events blobs g now) (g.again now))
    (λ through. called_or_not part.now.left p.left (fire_waiting events blobs g part.now) (g.again part.now)
    (λ same.
    fired_rests events blobs g part.now (ap (λ (st : State). st.element.queue) (s.1 same) ∙ ap (λ q. drop 1 q) e)
    (λ now fewer_left. again now (omega (arith, fewer_left, same)))
    (λ now out. next now (record { queue = out.queue; steps = out.steps ∙ ap steps_left (s.1 same); left = out.left ∙ same })))
    (λ other. again part.now (omega (arith, s.0, other))))

step_rests : (low : Option ℕ) (due : Bool) (n : ℕ) (blobs : List (List ℕ)) (go : PlayState → Part) (p : PlayState) → running_in p.state ≡ low → is_turn_due p.state ≡ due
    → p.state.element.queue ≡ [] → steps_left p.state < suc n → ((now : PlayState) → now.left ≡ p.left → steps_left now.state < n → Rests (go now))
    → Rests (step_by blobs go p (next_entry_by low due))
step_rests (Some k) due n blobs go p r d q l f =
    let now : PlayState = record p { state = after_entry blobs p.state (Work k) } in
    rests_then (one_entry blobs p (Work k)) go (λ e. f now refl (omega (arith, work-falls blobs p.state k r, l)))
step_rests None true n blobs go p r d q l f =
    let now : PlayState = record p { state = after_entry blobs p.state Element } in
    rests_then (one_entry blobs p Element) go (λ e. f now refl (omega (arith, turn-falls blobs p.state r d, l)))
step_rests None false n blobs go p r d q l f = λ e. record { quiet = record { queue = q; running = r }; due = d }

round_rests : (n : ℕ) (blobs : List (List ℕ)) (again : PlayState → Part) (p : PlayState) → steps_left p.state < n
    → ((now : PlayState) → now.left < p.left → Rests (again now)) → Rests (round_in n blobs again p)
round_rests zero blobs again p l f = absurd (omega (arith, l))
round_rests (suc n) blobs again p l f =
    fired_rests p.state.element.queue blobs (record { again = again; next = λ now. step_by blobs (round_in n blobs again) now (next_entry now.state) }) p refl f
    (λ now out. step_rests (running_in now.state) (is_turn_due now.state) n blobs (round_in n blobs again) now refl refl out.queue (omega (arith, out.steps, l))
    (λ later same less. round_rests n blobs again later less (λ new fewer_left. f new (omega (arith, fewer_left, same, out.left)))))

drain_rests : (n : ℕ) (blobs : List (List ℕ)) (p : PlayState) → p.left < n → Rests (rounds_in n blobs p)
drain_rests zero blobs p l = absurd (omega (arith, l))
drain_rests (suc n) blobs p l = round_rests (suc (steps_left p.state)) blobs (rounds_in n blobs) p (omega arith) (λ now less. drain_rests n blobs now (omega (arith, less, l)))

-- a drain that does not stop ends where there is nothing left to do
pub drained_rests : (blobs : List (List ℕ)) (p : PlayState) → (drain_played blobs p).stop ≡ None → IsAtRest (drain_played blobs p).now.state
unfolding drain_played
drained_rests blobs p e = drain_rests (suc p.left) blobs p (omega arith) e
