-- A journal that ended at one listener is the one of the play up to there.
use Rattle.std.proofs.Common.{◌≡◌, ℕ, suc, ◌+◌, ◌-◌, ◌≤◌, List, [], ◌∷◌, ◌++◌, length, refl, ap, sym, subst, ◌∙◌, arith, inl, inr, append_assoc}
use Rattle.std.specs.Prelude.{Option, Some, None, ◌⊎◌, ⊤}
use Rattle.std.proofs.lemmas.List.{append-nil}
use Rattle.mse_calls.specs.declared.entry.Entry.{Entry}
use Rattle.mse_calls.specs.declared.entry.Entry.TheVariants.{Step, Script, Listener, Fired, Work, Element}
use Rattle.call_script.specs.declared.script.StepLine.{StepLine}
use Rattle.listeners.specs.Dispatch.{AreCallsInTurn}
use Rattle.script_run.specs.declared.stop.Stop.{Stop}
use Rattle.script_run.specs.Follows.{AreLinesBegun}
use Rattle.script_run.specs.Lines.{IsLineFront, Limits, PlayInputs, play_inputs}
use Rattle.script_run.specs.Turns.{HasCallsLeftInLine, calls_in, steps_in}
use Rattle.script_run.proofs.CallsInPlace.{in_turn}
use Rattle.script_run.proofs.CutDispatches.{no_step_in_line}
use Rattle.script_run.proofs.ListenerTurns.{AreInTurn, turns_then}
use Rattle.mse_engine.specs.State.{State}
use Rattle.mse_engine.specs.Run.{after_entries, IsReplay}
use Rattle.mse_commands.specs.Played.{ListenerState, PlayState, Part, nothing, behind, and_then, line_played, numbered_played, lines_played}
use Rattle.mse_commands.proofs.Dispatches.{AreServed, heard_by, replays_parts}
use Rattle.mse_commands.proofs.Drains.{led, led_stops, AreEventsServed, heard_all, whole_part}
use Rattle.mse_commands.proofs.Lines.{one_line}
use Rattle.mse_commands.proofs.CutDispatches.{IsPartTo, same_to, to_behind, to_then, none_to}
use Rattle.mse_commands.proofs.CutDrains.{AreServedUntil}
use Rattle.mse_commands.proofs.CutLines.{cut_line, empty_end, line_front}

-- ---- the calls that are left in the last line

some_step : (front : List Entry) (n : ℕ) (part : List Entry) → steps_in (front ++ Step n ∷ part) ≡ 0 → ⊥
some_step [] n part e = omega (arith, e)
some_step (Listener v call answer ∷ front) n part e = some_step front n part e
some_step (Step m ∷ front) n part e = omega (arith, e)
some_step (Script call answer ∷ front) n part e = some_step front n part e
some_step (Fired event ∷ front) n part e = some_step front n part e
some_step (Work k ∷ front) n part e = some_step front n part e
some_step (Element ∷ front) n part e = some_step front n part e

-- there is one last line
last_line : (front other : List Entry) (n m : ℕ) (part last : List Entry) → front ++ Step n ∷ part ≡ other ++ Step m ∷ last → steps_in part ≡ 0 → steps_in last ≡ 0 → part ≡ last
last_line [] [] n m part last e p q = cc
last_line [] (x ∷ other) n m part last e p q =
    let same : part ≡ other ++ Step m ∷ last = cc in
    absurd (some_step other m last (sym (ap steps_in same) ∙ p))
last_line (x ∷ front) [] n m part last e p q =
    let same : front ++ Step n ∷ part ≡ last = cc in
    absurd (some_step front n part (ap steps_in same ∙ q))
last_line (x ∷ front) (y ∷ other) n m part last e p q =
    let same : front ++ Step n ∷ part ≡ other ++ Step m ∷ last = cc in
    last_line front other n m part last same p q

-- where a limit ends the play, so many calls are left of those that listeners may make in the last line
abbrev pub IsRestIn : Option Stop → ℕ → List Entry → ℕ → Type 0
IsRestIn None limit entries rest = ⊤
IsRestIn (Some stop) limit entries rest = (front : List Entry) (n : ℕ) (part : List Entry) → entries ≡ front ++ Step n ∷ part → steps_in part ≡ 0 → limit ≡ rest + calls_in part

pub rest_in : (end : Option Stop) (limit : ℕ) (entries : List Entry) (rest : ℕ) → HasCallsLeftInLine limit entries rest → IsRestIn end limit entries rest
rest_in None limit entries rest h = tt
rest_in (Some stop) limit entries rest h = λ front n part e none.
    h.calls ∙ ap (λ xs. rest + calls_in xs) (last_line h.front front h.number n h.part part (sym h.entries_are ∙ e) h.one_line none)

rest_behind : (end : Option Stop) (limit n : ℕ) (part ys : List Entry) (rest : ℕ) → IsRestIn end limit (Step n ∷ (part ++ ys)) rest → IsRestIn end limit ys rest
rest_behind None limit n part ys rest f = tt
rest_behind (Some stop) limit n part ys rest f = λ front m last e none.
    f (Step n ∷ (part ++ front)) m last (ap (λ (xs : List Entry). Step n ∷ (part ++ xs)) e ∙ ap (λ (xs : List Entry). Step n ∷ xs) (sym (append_assoc part front (Step m ∷ last)))) none

-- where the play does not stop it does not matter
any_rest : (a b : ℕ) (es : List Entry) (hs : List ListenerState) → AreServedUntil hs a None es → AreServedUntil hs b None es
any_rest a b [] hs s = s
any_rest a b (Listener v call answer ∷ es) hs s = any_rest a b es hs s
any_rest a b (Step n ∷ es) hs s = (s.0, any_rest a b es hs s.1)
any_rest a b (Script call answer ∷ es) hs s = (s.0, any_rest a b es hs s.1)
any_rest a b (Work k ∷ es) hs s = (s.0, any_rest a b es hs s.1)
any_rest a b (Element ∷ es) hs s = (s.0, any_rest a b es hs s.1)
any_rest a b (Fired event ∷ es) hs s = elim s [
  | inl c ↦ inl (record { v = c.v; n = c.n; last = c.last; turns = c.turns; served = c.served; many = c.many; cut = c.cut })
  | inr t ↦ inr (t.0, t.1, any_rest a b es (heard_by event 0 (led es) hs) t.2)
]

-- ---- the last line

-- what is known of a line that was begun last
record IsLastLine (blobs : List (List ℕ)) (limit n : ℕ) (p : PlayState) (rest : ℕ) (end : Option Stop) (line : StepLine) (part : List Entry) : Type 0 where
  begins : IsLineFront blobs p.state line part
  few : calls_in part ≤ limit
  replays : IsReplay blobs p.state part
  served : AreServedUntil p.listeners rest end (Step n ∷ part)
  left : IsRestIn end limit (Step n ∷ part) rest

last_part : (end : Option Stop) (line : StepLine) (blobs : List (List ℕ)) (limit n : ℕ) (p : PlayState) (rest : ℕ) (part : List Entry) → IsLastLine blobs limit n p rest end line part
    → IsPartTo end (line_played blobs (record p { left = limit }) line) blobs p.state rest part
last_part None line blobs limit n p rest part d =
    let left : ℕ = limit - calls_in part in
    cut_line line blobs (record p { left = limit }) left None part
    (record { front = d.served.0; begins = d.begins; replays = d.replays; served = any_rest rest left part p.listeners d.served.1; left = omega (arith, d.few) })
last_part (Some stop) line blobs limit n p rest part d =
    cut_line line blobs (record p { left = limit }) rest (Some stop) part
    (record { front = d.served.0; begins = d.begins; replays = d.replays; served = d.served.1; left = d.left [] n part refl (no_step_in_line blobs p.state line part d.begins) })

last_played : (end : Option Stop) (line : StepLine) (lines : List StepLine) (blobs : List (List ℕ)) (limit n : ℕ) (p : PlayState) (rest : ℕ) (part entries : List Entry) → entries ≡ Step n ∷ part → IsLineFront blobs p.state line part → calls_in part ≤ limit
    → IsReplay blobs p.state entries → AreServedUntil p.listeners rest end entries → IsRestIn end limit entries rest → IsPartTo end (lines_played blobs limit n (line ∷ lines) p) blobs p.state rest entries
last_played end line lines blobs limit n p rest part entries e begins few r s left =
    let d : IsLastLine blobs limit n p rest end line part = record {
      begins = begins;
      few = few;
      replays = (subst (λ xs. IsReplay blobs p.state xs) e r).1;
      served = subst (λ xs. AreServedUntil p.listeners rest end xs) e s;
      left = subst (λ xs. IsRestIn end limit xs rest) e left;
    } in
    let one : IsPartTo end (numbered_played blobs limit n p line) blobs p.state rest (Step n ∷ part) =
    to_behind end (Step n ∷ []) part blobs p.state p.state rest (line_played blobs (record p { left = limit }) line) refl (last_part end line blobs limit n p rest part d) in
    subst (λ xs. IsPartTo end (lines_played blobs limit n (line ∷ lines) p) blobs p.state rest xs) (sym e)
    (to_then end (numbered_played blobs limit n p line) (lines_played blobs limit (suc n) lines) blobs p.state rest (Step n ∷ part) one)

-- ---- the lines before

-- lines that were begun begin with a number
pub begun_head : (inputs : PlayInputs) (n : ℕ) (st : State) (lines : List StepLine) (entries : List Entry) → AreLinesBegun inputs n st lines entries → (entries ≡ []) ⊎ ((m : ℕ) × (rest : List Entry) × (entries ≡ Step m ∷ rest))
begun_head inputs n st [] entries w = inl w
begun_head inputs n st (line ∷ lines) entries w = elim w [
  | inl e ↦ inl e
  | inr v ↦ elim v [
    | inl b ↦ inr (n, b.0, b.1)
    | inr d ↦ inr (n, d.0 ++ d.1, d.2)
  ]
]

pub begun_turns : (inputs : PlayInputs) (n : ℕ) (st : State) (lines : List StepLine) (entries : List Entry) → AreLinesBegun inputs n st lines entries → AreInTurn inputs.limits.count None entries
begun_turns inputs n st [] entries w = subst (λ xs. AreInTurn inputs.limits.count None xs) (sym w) tt
begun_turns inputs n st (line ∷ lines) entries w = elim w [
  | inl e ↦ subst (λ xs. AreInTurn inputs.limits.count None xs) (sym e) tt
  | inr v ↦ elim v [
    | inl b ↦ subst (λ xs. AreInTurn inputs.limits.count None xs) (sym b.1) (in_turn inputs.limits.count b.0 b.2.within.calls)
    | inr d ↦
        let rest = begun_turns inputs (suc n) (after_entries inputs.blobs st d.0) lines d.1 d.4 in
        subst (λ xs. AreInTurn inputs.limits.count None xs) (sym d.2) (turns_then inputs.limits.count None d.0 d.1 (in_turn inputs.limits.count d.0 d.3.within.calls) rest)
  ]
]

no_step : (low high : ℕ) (es : List Entry) (m : ℕ) (ys : List Entry) → AreCallsInTurn low high (es ++ Step m ∷ ys) → ⊥
no_step low high [] m ys a = a
no_step low high (Listener v call answer ∷ es) m ys a = no_step v high es m ys a.2
no_step low high (Step n ∷ es) m ys a = a
no_step low high (Script call answer ∷ es) m ys a = a
no_step low high (Fired event ∷ es) m ys a = a
no_step low high (Work k ∷ es) m ys a = a
no_step low high (Element ∷ es) m ys a = a

-- the events of the lines before the last were answered
until_parts : (es : List Entry) (m : ℕ) (ys : List Entry) (hs : List ListenerState) (rest : ℕ) (end : Option Stop) → AreServedUntil hs rest end (es ++ Step m ∷ ys)
    → AreEventsServed hs es × AreServedUntil (heard_all hs es) rest end (Step m ∷ ys)
until_parts [] m ys hs rest end s = (tt, s)
until_parts (Listener v call answer ∷ es) m ys hs rest end s = until_parts es m ys hs rest end s
until_parts (Step n ∷ es) m ys hs rest end s = let p = until_parts es m ys hs rest end s.1 in ((sym (led_stops es (Step m ∷ ys) refl) ∙ s.0, p.0), p.1)
until_parts (Script call answer ∷ es) m ys hs rest end s = let p = until_parts es m ys hs rest end s.1 in ((sym (led_stops es (Step m ∷ ys) refl) ∙ s.0, p.0), p.1)
until_parts (Work k ∷ es) m ys hs rest end s = let p = until_parts es m ys hs rest end s.1 in ((sym (led_stops es (Step m ∷ ys) refl) ∙ s.0, p.0), p.1)
until_parts (Element ∷ es) m ys hs rest end s = let p = until_parts es m ys hs rest end s.1 in ((sym (led_stops es (Step m ∷ ys) refl) ∙ s.0, p.0), p.1)
until_parts (Fired event ∷ es) m ys hs rest end s = elim s [
  | inl c ↦ absurd (no_step 0 (c.v + 1) es m ys c.turns)
  | inr t ↦
      let calls = led_stops es (Step m ∷ ys) refl in
      let p = until_parts es m ys (heard_by event 0 (led es) hs) rest end (subst (λ xs. AreServedUntil (heard_by event 0 xs hs) rest end (es ++ Step m ∷ ys)) calls t.2) in
      ((subst (λ xs. AreCallsInTurn 0 (length hs) xs) calls t.0, subst (λ xs. AreServed event 0 xs hs) calls t.1, p.0), p.1)
]

-- ---- all lines

-- entries of lines that were begun, up to one listener, are those of the play up to there
pub cut_play : (lines : List StepLine) (blobs : List (List ℕ)) (limits : Limits) (n : ℕ) (p : PlayState) (entries : List Entry) (rest : ℕ) (end : Option Stop) → AreLinesBegun (play_inputs blobs limits) n p.state lines entries
    → IsReplay blobs p.state entries → AreServedUntil p.listeners rest end entries → IsRestIn end limits.limit entries rest → IsPartTo end (lines_played blobs limits.limit n lines p) blobs p.state rest entries
cut_play [] blobs limits n p entries rest end w r s left = none_to end (nothing p) blobs p.state rest entries (empty_end p.listeners rest end entries w s) w
cut_play (line ∷ lines) blobs limits n p entries rest end w r s left = elim w [
  | inl e ↦ none_to end (lines_played blobs limits.limit n (line ∷ lines) p) blobs p.state rest entries (empty_end p.listeners rest end entries e s) e
  | inr v ↦ elim v [
    | inl b ↦ last_played end line lines blobs limits.limit n p rest b.0 entries b.1 b.2.begins b.2.within.few r s left
    | inr d ↦
        let part : List Entry = d.0 in
        let others : List Entry = d.1 in
        elim (begun_head (play_inputs blobs limits) (suc n) (after_entries blobs p.state part) lines others d.4) [
          | inl none ↦
              let all : entries ≡ Step n ∷ part = d.2 ∙ ap (λ (xs : List Entry). Step n ∷ (part ++ xs)) none ∙ ap (λ (xs : List Entry). Step n ∷ xs) (append-nil part) in
              last_played end line lines blobs limits.limit n p rest part entries all (line_front line blobs p.state part d.3.does) d.3.within.few r s left
          | inr head ↦
              let starts : others ≡ Step head.0 ∷ head.1 = head.2 in
              let whole : entries ≡ Step n ∷ (part ++ Step head.0 ∷ head.1) = d.2 ∙ ap (λ (xs : List Entry). Step n ∷ (part ++ xs)) starts in
              let served = subst (λ xs. AreServedUntil p.listeners rest end xs) whole s in
              let both = until_parts part head.0 head.1 p.listeners rest end served.1 in
              let replays = replays_parts blobs p.state part others (subst (λ xs. IsReplay blobs p.state xs) d.2 r).1 in
              let spent : ℕ = limits.limit - calls_in part in
              let begun : PlayState = record p { left = limits.limit } in
              let now : PlayState = record { state = after_entries blobs p.state part; left = spent; listeners = heard_all p.listeners part } in
              let done : line_played blobs begun line ≡ whole_part blobs begun spent part =
              one_line line blobs begun spent part (record { front = sym (led_stops part (Step head.0 ∷ head.1) refl) ∙ served.0; does = d.3.does; replays = replays.0; served = both.0; left = omega (arith, d.3.within.few) }) in
              let tail : IsPartTo end (lines_played blobs limits.limit (suc n) lines now) blobs now.state rest others =
              cut_play lines blobs limits (suc n) now others rest end d.4 replays.1 (subst (λ xs. AreServedUntil now.listeners rest end xs) (sym starts) both.1)
              (rest_behind end limits.limit n part others rest (subst (λ xs. IsRestIn end limits.limit xs rest) d.2 left)) in
              subst (λ xs. IsPartTo end (lines_played blobs limits.limit n (line ∷ lines) p) blobs p.state rest xs) (sym d.2)
              (same_to _ _ end blobs p.state rest (Step n ∷ (part ++ others)) (ap (λ (x : Part). and_then (behind (Step n ∷ []) x) (lines_played blobs limits.limit (suc n) lines)) done)
              (to_behind end (Step n ∷ part) others blobs p.state now.state rest (lines_played blobs limits.limit (suc n) lines now) refl tail))
        ]
  ]
]
