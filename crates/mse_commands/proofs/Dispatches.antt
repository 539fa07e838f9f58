-- A dispatch that went through is the one of the play.
use Rattle.std.proofs.Common.{◌≡◌, ◌≢◌, ℕ, suc, ◌+◌, ◌<◌, ◌≤◌, List, [], ◌∷◌, ◌++◌, length, refl, ap, sym, subst, ◌∙◌, arith, inl, inr, ne_eqb, append_assoc}
use Rattle.std.specs.Prelude.{None, ◌==◌, ⊤, cond}
use Rattle.std.proofs.lemmas.Bool.{cases_eq}
use Rattle.std.proofs.lemmas.Bool.Decides.{eqb_tells}
use Rattle.std.proofs.lemmas.List.{append-nil}
use Rattle.std.proofs.lemmas.List.Sums.{sum_by-cons}
use Rattle.std.proofs.lemmas.List.Concat.{flat_map-cons}
use Rattle.mse_calls.specs.declared.answers.Answer.{Answer}
use Rattle.mse_calls.specs.declared.calls.Call.{Call}
use Rattle.mse_calls.specs.declared.events.Event.{Event}
use Rattle.mse_calls.specs.declared.entry.Entry.{Entry}
use Rattle.mse_calls.specs.declared.entry.Entry.TheVariants.{Step, Script, Listener, Fired, Work, Element}
use Rattle.run_steps.specs.declared.note.Note.{Note}
use Rattle.run_steps.specs.declared.note.Note.TheVariants.{Heard, Made, Told, Rested}
use Rattle.listeners.specs.Notes.{entry_notes, is_call_of, call_notes, call_count, event_notes}
use Rattle.listeners.specs.Dispatch.{AreCallsInTurn}
use Rattle.script_run.specs.Turns.{most_calls}
use Rattle.mse_engine.specs.State.{State}
use Rattle.mse_engine.specs.Run.{entry_meaning, after_entries, IsReplay}
use Rattle.mse_commands.proofs.ListenerAnswers.{AreAnswers}
use Rattle.mse_commands.specs.Played.{ListenerState, Part, with_notes, turn_in, dispatch_then, dispatch_from}
use Rattle.mse_commands.proofs.ListenerTurns.{made_entries, made_notes, whole_turn, one_turn}

-- the calls of listener w come first, and behind them those of later ones
abbrev pub IsSplit : ℕ → ℕ → List Entry → Type 0
IsSplit w high es = (ms : List (Call × Answer)) × (rest : List Entry) × (es ≡ made_entries w ms ++ rest) × AreCallsInTurn (suc w) high rest

pub split_turn : (w high : ℕ) (es : List Entry) → AreCallsInTurn w high es → IsSplit w high es
split_turn w high [] a = ([], [], refl, tt)
split_turn w high (Listener v call answer ∷ es) a = elim (cases_eq v w) [
  | inl e ↦
      let s = split_turn w high es (subst (λ x. AreCallsInTurn x high es) e a.2) in
      ((call, answer) ∷ s.0, s.1, ap (λ (x : ℕ). Listener x call answer ∷ es) e ∙ ap (λ (xs : List Entry). Listener w call answer ∷ xs) s.2, s.3)
  | inr ne ↦ ([], Listener v call answer ∷ es, refl, (omega (arith, a.0, ne), a.1, a.2))
]
split_turn w high (Step n ∷ es) a = absurd a
split_turn w high (Script call answer ∷ es) a = absurd a
split_turn w high (Fired event ∷ es) a = absurd a
split_turn w high (Work k ∷ es) a = absurd a
split_turn w high (Element ∷ es) a = absurd a

-- ---- notes

one_note : (w v : ℕ) (call : Call) (answer : Answer) (es : List Entry) → call_notes w (Listener v call answer ∷ es) ≡ entry_notes w (Listener v call answer) ++ call_notes w es
one_note w v call answer es = flat_map-cons (entry_notes w) (Listener v call answer) es

-- none of a listener before all of these
pub none_before : (w low high : ℕ) (es : List Entry) → w < low → AreCallsInTurn low high es → call_notes w es ≡ []
none_before w low high [] lt a = refl
none_before w low high (Listener v call answer ∷ es) lt a =
    let ne : v ≢ w = omega (arith, lt, a.0) in
    one_note w v call answer es ∙ rw (ne_eqb v w ne) (none_before w v high es (omega (arith, lt, a.0)) a.2)
none_before w low high (Step n ∷ es) lt a = absurd a
none_before w low high (Script call answer ∷ es) lt a = absurd a
none_before w low high (Fired event ∷ es) lt a = absurd a
none_before w low high (Work k ∷ es) lt a = absurd a
none_before w low high (Element ∷ es) lt a = absurd a

pub own_of_made : (w : ℕ) (ms : List (Call × Answer)) (rest : List Entry) → call_notes w (made_entries w ms ++ rest) ≡ made_notes ms ++ call_notes w rest
own_of_made w [] rest = refl
own_of_made w (m ∷ ms) rest = elim (eqb_tells w w) [
  | inl t ↦ one_note w w m.0 m.1 (made_entries w ms ++ rest) ∙ rw t.0 (ap (λ (ns : List Note). Made m.0 ∷ Told m.1 ∷ ns) (own_of_made w ms rest))
  | inr t ↦ absurd (t.1 refl)
]

pub others_of_made : (w k : ℕ) (ms : List (Call × Answer)) (rest : List Entry) → w < k → call_notes k (made_entries w ms ++ rest) ≡ call_notes k rest
others_of_made w k [] rest lt = refl
others_of_made w k (m ∷ ms) rest lt =
    let ne : w ≢ k = omega (arith, lt) in
    one_note k w m.0 m.1 (made_entries w ms ++ rest) ∙ rw (ne_eqb w k ne) (others_of_made w k ms rest lt)

-- ---- numbers of calls

pub one_more : (k v : ℕ) (call : Call) (answer : Answer) (es : List Entry) → call_count k (Listener v call answer ∷ es) ≡ cond (v == k) 1 0 + call_count k es
one_more k v call answer es = sum_by-cons (λ e. cond (is_call_of k e) 1 0) (Listener v call answer) es

pub count_of_made : (w : ℕ) (ms : List (Call × Answer)) (rest : List Entry) → length ms ≤ call_count w (made_entries w ms ++ rest)
count_of_made w [] rest = omega arith
count_of_made w (m ∷ ms) rest = elim (eqb_tells w w) [
  | inl t ↦
      let one : call_count w (Listener w m.0 m.1 ∷ (made_entries w ms ++ rest)) ≡ 1 + call_count w (made_entries w ms ++ rest) = one_more w w m.0 m.1 (made_entries w ms ++ rest) ∙ rw t.0 refl in
      omega (arith, one, count_of_made w ms rest)
  | inr t ↦ absurd (t.1 refl)
]

pub count_of_others : (w k : ℕ) (ms : List (Call × Answer)) (rest : List Entry) → w < k → call_count k (made_entries w ms ++ rest) ≡ call_count k rest
count_of_others w k [] rest lt = refl
count_of_others w k (m ∷ ms) rest lt =
    let ne : w ≢ k = omega (arith, lt) in
    let none : call_count k (Listener w m.0 m.1 ∷ (made_entries w ms ++ rest)) ≡ 0 + call_count k (made_entries w ms ++ rest) = one_more k w m.0 m.1 (made_entries w ms ++ rest) ∙ rw (ne_eqb w k ne) refl in
    omega (arith, none, count_of_others w k ms rest lt)

-- ---- all listeners

-- each from number w on answered the event by these entries, and rested
abbrev pub AreServed : Event → ℕ → List Entry → List ListenerState → Type 0
AreServed event w es [] = ⊤
AreServed event w es (h ∷ hs) =
    AreAnswers h.answers (h.notes ++ Heard event ∷ []) (call_notes w es ++ Rested ∷ []) × (call_count w es ≤ most_calls) × AreServed event (suc w) es hs

abbrev pub heard_by : Event → ℕ → List Entry → List ListenerState → List ListenerState
heard_by event w es [] = []
heard_by event w es (h ∷ hs) = with_notes h (event_notes event w es) ∷ heard_by event (suc w) es hs

served_behind : (event : Event) (w k : ℕ) (ms : List (Call × Answer)) (rest : List Entry) (hs : List ListenerState) → w < k → AreServed event k (made_entries w ms ++ rest) hs → AreServed event k rest hs
served_behind event w k ms rest [] lt a = tt
served_behind event w k ms rest (h ∷ hs) lt a = (
  subst (λ ns. AreAnswers h.answers (h.notes ++ Heard event ∷ []) (ns ++ Rested ∷ [])) (others_of_made w k ms rest lt) a.0,
  subst (λ n. n ≤ most_calls) (count_of_others w k ms rest lt) a.1,
  served_behind event w (suc k) ms rest hs (omega (arith, lt)) a.2,
)

heard_behind : (event : Event) (w k : ℕ) (ms : List (Call × Answer)) (rest : List Entry) (hs : List ListenerState) → w < k → heard_by event k (made_entries w ms ++ rest) hs ≡ heard_by event k rest hs
heard_behind event w k ms rest [] lt = refl
heard_behind event w k ms rest (h ∷ hs) lt =
    ap (λ (ns : List Note). with_notes h (Heard event ∷ (ns ++ Rested ∷ [])) ∷ heard_by event (suc k) (made_entries w ms ++ rest) hs) (others_of_made w k ms rest lt)
    ∙ ap (λ (xs : List ListenerState). with_notes h (event_notes event k rest) ∷ xs) (heard_behind event w (suc k) ms rest hs (omega (arith, lt)))

pub no_turn : (w : ℕ) (es : List Entry) → AreCallsInTurn w (w + 0) es → es ≡ []
no_turn w [] a = refl
no_turn w (Listener v call answer ∷ es) a = absurd (omega (arith, a.0, a.1))
no_turn w (Step n ∷ es) a = absurd a
no_turn w (Script call answer ∷ es) a = absurd a
no_turn w (Fired event ∷ es) a = absurd a
no_turn w (Work k ∷ es) a = absurd a
no_turn w (Element ∷ es) a = absurd a

pub replays_parts : (blobs : List (List ℕ)) (st : State) (xs ys : List Entry) → IsReplay blobs st (xs ++ ys) → IsReplay blobs st xs × IsReplay blobs (after_entries blobs st xs) ys
replays_parts blobs st [] ys r = (tt, r)
replays_parts blobs st (x ∷ xs) ys r = let p = replays_parts blobs (entry_meaning blobs st x).state xs ys r.1 in ((r.0, p.0), p.1)

pub after_both : (blobs : List (List ℕ)) (st : State) (xs ys : List Entry) → after_entries blobs st (xs ++ ys) ≡ after_entries blobs (after_entries blobs st xs) ys
after_both blobs st [] ys = refl
after_both blobs st (x ∷ xs) ys = after_both blobs (entry_meaning blobs st x).state xs ys

pub length_both : (xs ys : List Entry) → length (xs ++ ys) ≡ length xs + length ys
length_both [] ys = omega arith
length_both (x ∷ xs) ys = omega (arith, length_both xs ys)

pub length_made : (w : ℕ) (ms : List (Call × Answer)) → length (made_entries w ms) ≡ length ms
length_made w [] = refl
length_made w (m ∷ ms) = ap suc (length_made w ms)

abbrev pub whole_dispatch : List (List ℕ) → Event → ℕ → List Entry → State → ℕ → List ListenerState → Part
whole_dispatch blobs event w es st rest hs = record {
  entries = es;
  now = record { state = after_entries blobs st es; left = rest; listeners = heard_by event w es hs };
  stop = None;
}

-- entries of listeners in turn, each of which answered the event by them and rested, are those of the play's dispatch
pub one_dispatch : (hs : List ListenerState) (blobs : List (List ℕ)) (event : Event) (w : ℕ) (es : List Entry) (st : State) (left rest : ℕ) → AreCallsInTurn w (w + length hs) es → IsReplay blobs st es
    → AreServed event w es hs → left ≡ rest + length es → dispatch_from blobs event w hs st left ≡ whole_dispatch blobs event w es st rest hs
one_dispatch [] blobs event w es st left rest turns r served e =
    let none : es ≡ [] = no_turn w es turns in
    let same : left ≡ rest = omega (arith, e, ap length none) in
    rw (none, same) refl
one_dispatch (h ∷ hs) blobs event w es st left rest turns r served e =
    let s = split_turn w (w + suc (length hs)) es turns in
    let ms : List (Call × Answer) = s.0 in
    let others : List Entry = s.1 in
    let mine : List Entry = made_entries w ms in
    let both = replays_parts blobs st mine others (subst (λ xs. IsReplay blobs st xs) s.2 r) in
    let all = subst (λ xs. AreServed event w xs (h ∷ hs)) s.2 served in
    let later : AreCallsInTurn (suc w) (suc w + length hs) others = subst (λ n. AreCallsInTurn (suc w) n others) (omega arith) s.3 in
    let notes : call_notes w (mine ++ others) ≡ made_notes ms = own_of_made w ms others ∙ ap (λ ns. made_notes ms ++ ns) (none_before w (suc w) (suc w + length hs) others (omega arith) later) ∙ append-nil (made_notes ms) in
    let few : length ms ≤ most_calls = omega (arith, count_of_made w ms others, all.1) in
    let middle : ℕ = rest + length others in
    let lens : left ≡ middle + length ms = omega (arith, e, ap length s.2, length_both mine others, length_made w ms) in
    let heard : ListenerState = with_notes h (Heard event ∷ []) in
    let turn : turn_in most_calls blobs w st left heard ≡ whole_turn blobs w st middle heard ms =
    one_turn ms most_calls blobs w st left middle heard both.0 (subst (λ ns. AreAnswers h.answers heard.notes (ns ++ Rested ∷ [])) notes all.0) few lens in
    let now : State = after_entries blobs st mine in
    let tail : dispatch_from blobs event (suc w) hs now middle ≡ whole_dispatch blobs event (suc w) others now rest hs =
    one_dispatch hs blobs event (suc w) others now middle rest later both.1 (served_behind event w (suc w) ms others hs (omega arith) all.2) refl in
    let own : heard.notes ++ (made_notes ms ++ Rested ∷ []) ≡ h.notes ++ event_notes event w (mine ++ others) =
    append_assoc h.notes (Heard event ∷ []) (made_notes ms ++ Rested ∷ []) ∙ ap (λ ns. h.notes ++ (Heard event ∷ (ns ++ Rested ∷ []))) (sym notes) in
    ap (dispatch_then hs (dispatch_from blobs event (suc w) hs)) turn
    ∙ ap (λ (part : Part). record part { entries = mine ++ part.entries; now = record part.now { listeners = with_notes heard (made_notes ms ++ Rested ∷ []) ∷ part.now.listeners } }) tail
    ∙ ap (λ (last : State). record { entries = mine ++ others; now = record { state = last; left = rest; listeners = with_notes heard (made_notes ms ++ Rested ∷ []) ∷ heard_by event (suc w) others hs }; stop = None }) (sym (after_both blobs st mine others))
    ∙ ap (λ (ns : List Note). record { entries = mine ++ others; now = record { state = after_entries blobs st (mine ++ others); left = rest; listeners = record h { notes = ns } ∷ heard_by event (suc w) others hs }; stop = None }) own
    ∙ ap (λ (xs : List ListenerState). record { entries = mine ++ others; now = record { state = after_entries blobs st (mine ++ others); left = rest; listeners = with_notes h (event_notes event w (mine ++ others)) ∷ xs }; stop = None }) (sym (heard_behind event w (suc w) ms others hs (omega arith)))
    ∙ ap (λ (xs : List Entry). whole_dispatch blobs event w xs st rest (h ∷ hs)) (sym s.2)
