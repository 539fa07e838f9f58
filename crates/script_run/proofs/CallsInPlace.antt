-- When listeners call, event by event and turn by turn.
use Rattle.std.proofs.Common.{◌≡◌, ◌≢◌, ◌∙◌, ◌<◌, ◌≤◌, ◌+◌, ℕ, suc, Bool, cond, List, [], ◌∷◌, refl, sym, ap, subst, arith, inl, inr}
use Rattle.std.specs.Prelude.{◌⊎◌, if◌then◌else◌, Option, Some, None}
use Rattle.std.proofs.lemmas.Bool.{eq-eqb, ne_eqb}
use Rattle.std.proofs.lemmas.Bool.Decides.{eqb_tells}
use Rattle.std.proofs.lemmas.List.Sums.{sum_by-cons}
use Rattle.mse_calls.specs.declared.answers.Answer.{Answer}
use Rattle.mse_calls.specs.declared.calls.Call.{Call}
use Rattle.mse_calls.specs.declared.entry.Entry.{Entry}
use Rattle.mse_calls.specs.declared.entry.Entry.TheVariants.{Step, Script, Listener, Fired, Work, Element}
use Rattle.listeners.specs.Dispatch.{AreCallsInTurn}
use Rattle.listeners.specs.Notes.{call_count, is_call_of}
use Rattle.script_run.specs.Turns.{AreCallsBehindEach, AreCallsInPlace, calls_in_front}
use Rattle.script_run.proofs.ListenerTurns.{AreInTurn, IsTurnToCall, ListenerTurn, first_turn, turn_after}

-- ---- the number of a listener's calls

call_number : ℕ → Entry → ℕ
call_number w x = cond (is_call_of w x) 1 0

count_more : (w : ℕ) (x : Entry) (es : List Entry) → call_count w (x ∷ es) ≡ call_number w x + call_count w es
unfolding call_number
count_more w x es = sum_by-cons (λ y. cond (is_call_of w y) 1 0) x es

number_here : (v w : ℕ) (call : Call) (answer : Answer) → v ≡ w → call_number w (Listener v call answer) ≡ 1
unfolding call_number
number_here v w call answer e = rw (eq-eqb v w e) refl

number_there : (v w : ℕ) (call : Call) (answer : Answer) → v ≢ w → call_number w (Listener v call answer) ≡ 0
unfolding call_number
number_there v w call answer ne = rw (ne_eqb v w ne) refl

pub count_here : (v w : ℕ) (call : Call) (answer : Answer) (es : List Entry) → v ≡ w → call_count w (Listener v call answer ∷ es) ≡ 1 + call_count w es
count_here v w call answer es e = omega (arith, count_more w (Listener v call answer) es, number_here v w call answer e)

count_there : (v w : ℕ) (call : Call) (answer : Answer) (es : List Entry) → v ≢ w → call_count w (Listener v call answer ∷ es) ≡ call_count w es
count_there v w call answer es ne = omega (arith, count_more w (Listener v call answer) es, number_there v w call answer ne)

pub count_tail : (w : ℕ) (x : Entry) (es : List Entry) → call_count w es ≤ call_count w (x ∷ es)
count_tail w x es = omega (arith, count_more w x es)

no_count : (w : ℕ) → call_count w [] ≡ 0
no_count w = refl

-- a listener has no calls among those of higher numbers
none_below : (low high k : ℕ) (es : List Entry) → k < low → AreCallsInTurn low high es → call_count k es ≡ 0
none_below low high k [] lower h = no_count k
none_below low high k (Listener v call answer ∷ es) lower h = omega (arith, count_there v k call answer es (omega (arith, lower, h.0)), none_below v high k es (omega (arith, lower, h.0)) h.2)
none_below low high k (Fired event ∷ es) lower h = absurd h
none_below low high k (Step n ∷ es) lower h = absurd h
none_below low high k (Script call answer ∷ es) lower h = absurd h
none_below low high k (Work j ∷ es) lower h = absurd h
none_below low high k (Element ∷ es) lower h = absurd h

-- ---- of turns

abbrev once_more : ListenerTurn → ℕ → ListenerTurn
once_more turn w = record { listener = w; made = suc turn.made }

abbrev first_call : ℕ → ListenerTurn
first_call w = record { listener = w; made = 1 }

turn_is : (turn : ListenerTurn) (w : ℕ) → ((turn.listener ≡ w) × (turn_after turn w ≡ once_more turn w)) ⊎ ((turn.listener ≢ w) × (turn_after turn w ≡ first_call w))
turn_is turn w = elim (eqb_tells turn.listener w) [
  | inl t ↦ inl (t.1, ap (λ (test : Bool). if test then once_more turn w else first_call w) t.0)
  | inr t ↦ inr (t.1, ap (λ (test : Bool). if test then once_more turn w else first_call w) t.0)
]

after_listener : (turn : ListenerTurn) (w : ℕ) → (turn_after turn w).listener ≡ w
after_listener turn w = elim (turn_is turn w) [
  | inl t ↦ ap (λ (x : ListenerTurn). x.listener) t.1
  | inr t ↦ ap (λ (x : ListenerTurn). x.listener) t.1
]

after_some : (turn : ListenerTurn) (w : ℕ) → 1 ≤ (turn_after turn w).made
after_some turn w = elim (turn_is turn w) [
  | inl t ↦ subst (λ (x : ListenerTurn). 1 ≤ x.made) (sym t.1) (omega arith)
  | inr t ↦ subst (λ (x : ListenerTurn). 1 ≤ x.made) (sym t.1) (omega arith)
]

turn_low : (turn : ListenerTurn) (w : ℕ) → IsTurnToCall turn w → turn.listener ≤ w
turn_low turn w (inl lower) = omega (arith, lower)
turn_low turn w (inr same) = omega (arith, same.0)

turn_room : (turn : ListenerTurn) (w : ℕ) → IsTurnToCall turn w → turn.listener ≡ w → turn.made < 1000
turn_room turn w (inl lower) e = absurd (omega (arith, lower, e))
turn_room turn w (inr same) e = same.1

after_room : (turn : ListenerTurn) (w : ℕ) → IsTurnToCall turn w → (turn_after turn w).made ≤ 1000
after_room turn w may = elim (turn_is turn w) [
  | inl t ↦ subst (λ (x : ListenerTurn). x.made ≤ 1000) (sym t.1) (omega (arith, turn_room turn w may t.0))
  | inr t ↦ subst (λ (x : ListenerTurn). x.made ≤ 1000) (sym t.1) (omega arith)
]

-- ---- from turns to events

in_order : (count : ℕ) (turn : ListenerTurn) (es : List Entry) → AreInTurn count (Some turn) es → AreCallsInTurn turn.listener count (calls_in_front es)
in_order count turn [] h = tt
in_order count turn (Listener w call answer ∷ es) h =
    (turn_low turn w h.1, h.0, subst (λ (v : ℕ). AreCallsInTurn v count (calls_in_front es)) (after_listener turn w) (in_order count (turn_after turn w) es h.2))
in_order count turn (Fired event ∷ es) h = tt
in_order count turn (Step n ∷ es) h = tt
in_order count turn (Script call answer ∷ es) h = tt
in_order count turn (Work k ∷ es) h = tt
in_order count turn (Element ∷ es) h = tt

-- the listener whose turn it is has its calls left
own_left : (count : ℕ) (turn : ListenerTurn) (es : List Entry) → AreInTurn count (Some turn) es → turn.made ≤ 1000 → call_count turn.listener (calls_in_front es) + turn.made ≤ 1000
own_left count turn [] h room = omega (arith, no_count turn.listener, room)
own_left count turn (Listener w call answer ∷ es) h room = elim (turn_is turn w) [
  | inl t ↦
      let rest : call_count (once_more turn w).listener (calls_in_front es) + (once_more turn w).made ≤ 1000 =
      own_left count (once_more turn w) es (subst (λ (x : ListenerTurn). AreInTurn count (Some x) es) t.1 h.2) (omega (arith, turn_room turn w h.1 t.0)) in
      let same : call_count turn.listener (calls_in_front es) ≡ call_count w (calls_in_front es) = ap (λ (v : ℕ). call_count v (calls_in_front es)) t.0 in
      omega (arith, count_here w turn.listener call answer (calls_in_front es) (sym t.0), rest, same)
  | inr t ↦
      let order : AreCallsInTurn w count (Listener w call answer ∷ calls_in_front es) =
      (omega arith, h.0, subst (λ (v : ℕ). AreCallsInTurn v count (calls_in_front es)) (after_listener turn w) (in_order count (turn_after turn w) es h.2)) in
      let lower : turn.listener < w = omega (arith, turn_low turn w h.1, t.0) in
      omega (arith, none_below w count turn.listener (Listener w call answer ∷ calls_in_front es) lower order, room)
]
own_left count turn (Fired event ∷ es) h room = omega (arith, no_count turn.listener, room)
own_left count turn (Step n ∷ es) h room = omega (arith, no_count turn.listener, room)
own_left count turn (Script call answer ∷ es) h room = omega (arith, no_count turn.listener, room)
own_left count turn (Work k ∷ es) h room = omega (arith, no_count turn.listener, room)
own_left count turn (Element ∷ es) h room = omega (arith, no_count turn.listener, room)

-- and each other one
each_few : (count : ℕ) (turn : ListenerTurn) (es : List Entry) (v : ℕ) → AreInTurn count (Some turn) es → call_count v (calls_in_front es) ≤ 1000
each_few count turn [] v h = omega (arith, no_count v)
each_few count turn (Listener w call answer ∷ es) v h = elim (eqb_tells w v) [
  | inl t ↦
      let own = own_left count (turn_after turn w) es h.2 (after_room turn w h.1) in
      let same : call_count (turn_after turn w).listener (calls_in_front es) ≡ call_count v (calls_in_front es) =
      ap (λ (x : ℕ). call_count x (calls_in_front es)) (after_listener turn w) ∙ ap (λ (x : ℕ). call_count x (calls_in_front es)) t.1 in
      omega (arith, own, same, after_some turn w, count_here w v call answer (calls_in_front es) t.1)
  | inr t ↦ omega (arith, count_there w v call answer (calls_in_front es) t.1, each_few count (turn_after turn w) es v h.2)
]
each_few count turn (Fired event ∷ es) v h = omega (arith, no_count v)
each_few count turn (Step n ∷ es) v h = omega (arith, no_count v)
each_few count turn (Script call answer ∷ es) v h = omega (arith, no_count v)
each_few count turn (Work k ∷ es) v h = omega (arith, no_count v)
each_few count turn (Element ∷ es) v h = omega (arith, no_count v)

none_first : (count : ℕ) (es : List Entry) → AreInTurn count None es → calls_in_front es ≡ []
none_first count [] h = refl
none_first count (Listener w call answer ∷ es) h = absurd h
none_first count (Fired event ∷ es) h = refl
none_first count (Step n ∷ es) h = refl
none_first count (Script call answer ∷ es) h = refl
none_first count (Work k ∷ es) h = refl
none_first count (Element ∷ es) h = refl

behind_each : (count : ℕ) (turn : Option ListenerTurn) (es : List Entry) → AreInTurn count turn es → AreCallsBehindEach count es
behind_each count turn [] h = tt
behind_each count None (Listener w call answer ∷ es) h = absurd h
behind_each count (Some turn) (Listener w call answer ∷ es) h = (tt, behind_each count (Some (turn_after turn w)) es h.2)
behind_each count turn (Fired event ∷ es) h = (record { order = in_order count first_turn es h; few = λ w. each_few count first_turn es w h }, behind_each count (Some first_turn) es h)
behind_each count turn (Step n ∷ es) h = (none_first count es h, behind_each count None es h)
behind_each count turn (Script call answer ∷ es) h = (none_first count es h, behind_each count None es h)
behind_each count turn (Work k ∷ es) h = (none_first count es h, behind_each count None es h)
behind_each count turn (Element ∷ es) h = (none_first count es h, behind_each count None es h)

pub in_place : (count : ℕ) (es : List Entry) → AreInTurn count None es → AreCallsInPlace count es
in_place count es h = record { first = none_first count es h; behind = behind_each count None es h }

-- ---- and back

-- the calls that come first may come in this turn
abbrev AreCallsReady : ℕ → Option ListenerTurn → List Entry → Type 0
AreCallsReady count None calls = calls ≡ []
AreCallsReady count (Some turn) calls =
    AreCallsInTurn turn.listener count calls × (turn.made + call_count turn.listener calls ≤ 1000) × ((w : ℕ) → call_count w calls ≤ 1000)

each_in_turn : (count : ℕ) (turn : Option ListenerTurn) (es : List Entry) → AreCallsReady count turn (calls_in_front es) → AreCallsBehindEach count es → AreInTurn count turn es
each_in_turn count turn [] ready h = tt
each_in_turn count None (Listener w call answer ∷ es) ready h = absurd (cc)
each_in_turn count (Some turn) (Listener w call answer ∷ es) ready h =
    let tail : (v : ℕ) → call_count v (calls_in_front es) ≤ 1000 = λ v. omega (arith, count_tail v (Listener w call answer) (calls_in_front es), ready.2 v) in
    elim (turn_is turn w) [
      | inl t ↦
          let here = count_here w turn.listener call answer (calls_in_front es) (sym t.0) in
          let room : suc turn.made + call_count w (calls_in_front es) ≤ 1000 = subst (λ (v : ℕ). suc turn.made + call_count v (calls_in_front es) ≤ 1000) t.0 (omega (arith, ready.1, here)) in
          (ready.0.1, inr (t.0, omega (arith, ready.1, here)), subst (λ (x : ListenerTurn). AreInTurn count (Some x) es) (sym t.1) (each_in_turn count (Some (once_more turn w)) es (ready.0.2, room, tail) h.1))
      | inr t ↦
          let room : 1 + call_count w (calls_in_front es) ≤ 1000 = omega (arith, ready.2 w, count_here w w call answer (calls_in_front es) refl) in
          (ready.0.1, inl (omega (arith, ready.0.0, t.0)), subst (λ (x : ListenerTurn). AreInTurn count (Some x) es) (sym t.1) (each_in_turn count (Some (first_call w)) es (ready.0.2, room, tail) h.1))
    ]
each_in_turn count turn (Fired event ∷ es) ready h = each_in_turn count (Some first_turn) es (h.0.order, omega (arith, h.0.few 0), h.0.few) h.1
each_in_turn count turn (Step n ∷ es) ready h = each_in_turn count None es h.0 h.1
each_in_turn count turn (Script call answer ∷ es) ready h = each_in_turn count None es h.0 h.1
each_in_turn count turn (Work k ∷ es) ready h = each_in_turn count None es h.0 h.1
each_in_turn count turn (Element ∷ es) ready h = each_in_turn count None es h.0 h.1

pub in_turn : (count : ℕ) (es : List Entry) → AreCallsInPlace count es → AreInTurn count None es
in_turn count es h = each_in_turn count None es h.first h.behind
