-- A dispatch that ended at one listener is the one of the play up to there.
use Rattle.std.proofs.Common.{◌≡◌, ℕ, zero, suc, ◌+◌, ◌<◌, ◌≤◌, List, [], ◌∷◌, ◌++◌, length, refl, ap, sym, subst, ◌∙◌, arith, inl, inr, append_assoc}
use Rattle.std.specs.Prelude.{Option, Some, None}
use Rattle.std.proofs.lemmas.Bool.Decides.{eqb_tells}
use Rattle.std.proofs.lemmas.List.{append-nil}
use Rattle.mse_calls.specs.declared.answers.Answer.{Answer}
use Rattle.mse_calls.specs.declared.calls.Call.{Call}
use Rattle.mse_calls.specs.declared.events.Event.{Event}
use Rattle.mse_calls.specs.declared.entry.Entry.{Entry}
use Rattle.mse_calls.specs.declared.entry.Entry.TheVariants.{Listener}
use Rattle.run_steps.specs.declared.note.Note.{Note}
use Rattle.run_steps.specs.declared.note.Note.TheVariants.{Heard, Made, Rested}
use Rattle.listeners.specs.Notes.{call_notes, call_count}
use Rattle.listeners.specs.Dispatch.{AreCallsInTurn}
use Rattle.script_run.specs.declared.stop.Stop.{Stop}
use Rattle.script_run.specs.Turns.{most_calls}
use Rattle.mse_engine.specs.State.{State}
use Rattle.mse_engine.specs.Run.{after_entries, IsReplay}
use Rattle.mse_commands.specs.Played.{ListenerState, PlayState, Part, TurnPart, with_notes, behind, unless_stopped, and_then, turn_in, dispatch_then, dispatch_from}
use Rattle.mse_commands.proofs.ListenerAnswers.{AreAnswers, answers_parts}
use Rattle.mse_commands.proofs.ListenerTurns.{made_entries, made_notes, whole_turn, one_turn, IsLimitAt, cut_turn_of, cut_turn, IsFront, front_turn}
use Rattle.mse_commands.proofs.Dispatches.{split_turn, own_of_made, none_before, no_turn, length_both, length_made, others_of_made, count_of_made, count_of_others, one_more, replays_parts, after_both}

-- ---- how far a part goes

-- The play stops there, behind these entries and with so many calls left; or it is known only that these entries are in front.
abbrev pub IsPartTo : Option Stop → Part → List (List ℕ) → State → ℕ → List Entry → Type 0
IsPartTo None part blobs st rest es = IsFront es part.entries
IsPartTo (Some stop) part blobs st rest es =
    (part.entries ≡ es) × (part.now.state ≡ after_entries blobs st es) × (part.now.left ≡ rest) × (part.stop ≡ Some stop)

pub same_to : (x y : Part) (end : Option Stop) (blobs : List (List ℕ)) (st : State) (rest : ℕ) (es : List Entry) → x ≡ y → IsPartTo end y blobs st rest es → IsPartTo end x blobs st rest es
same_to x y end blobs st rest es e c = subst (λ z. IsPartTo end z blobs st rest es) (sym e) c

-- behind other entries
pub to_behind : (end : Option Stop) (xs es : List Entry) (blobs : List (List ℕ)) (a b : State) (rest : ℕ) (part : Part) → after_entries blobs a xs ≡ b → IsPartTo end part blobs b rest es
    → IsPartTo end (behind xs part) blobs a rest (xs ++ es)
to_behind None xs es blobs a b rest part e c = (c.0, ap (λ ys. xs ++ ys) c.1 ∙ sym (append_assoc xs es c.0))
to_behind (Some stop) xs es blobs a b rest part e c =
    (ap (λ ys. xs ++ ys) c.0, c.1 ∙ ap (λ st. after_entries blobs st es) (sym e) ∙ sym (after_both blobs a xs es), c.2, c.3)

-- with whatever comes behind
pub to_then : (end : Option Stop) (part : Part) (next : PlayState → Part) (blobs : List (List ℕ)) (st : State) (rest : ℕ) (es : List Entry) → IsPartTo end part blobs st rest es → IsPartTo end (and_then part next) blobs st rest es
to_then (Some stop) part next blobs st rest es c =
    same_to (and_then part next) part (Some stop) blobs st rest es (ap (λ s. unless_stopped s part (behind part.entries (next part.now))) c.3) c
to_then None part next blobs st rest es c = by part.stop
  where
    by : (stop : Option Stop) → IsFront es (unless_stopped stop part (behind part.entries (next part.now))).entries
    by None = (c.0 ++ (next part.now).entries, ap (λ xs. xs ++ (next part.now).entries) c.1 ∙ append_assoc es c.0 (next part.now).entries)
    by (Some stop) = c

-- no entry is in front of all
pub none_to : (end : Option Stop) (part : Part) (blobs : List (List ℕ)) (st : State) (rest : ℕ) (es : List Entry) → end ≡ None → es ≡ [] → IsPartTo end part blobs st rest es
none_to end part blobs st rest es e none = subst (λ x. IsPartTo x part blobs st rest es) (sym e) (part.entries, ap (λ xs. xs ++ part.entries) (sym none))

-- all entries of a part are
pub all_to : (end : Option Stop) (part : Part) (blobs : List (List ℕ)) (st : State) (rest : ℕ) (es : List Entry) → end ≡ None → part.entries ≡ es → IsPartTo end part blobs st rest es
all_to end part blobs st rest es e all = subst (λ x. IsPartTo x part blobs st rest es) (sym e) ([], all ∙ sym (append-nil es))

-- ---- where the turn of a listener ends

-- The last notes of listener w, which may make n calls more for the event where so many are left in the line: it answered a call that is not made; or there are none.
abbrev pub IsCutAt : Option Stop → ℕ → ℕ → ℕ → List Note → Type 0
IsCutAt None n rest w last = last ≡ []
IsCutAt (Some stop) n rest w last = (call : Call) × (last ≡ Made call ∷ []) × IsLimitAt n rest w stop

front_dispatch : (hs : List ListenerState) (next : State → ℕ → Part) (turn : TurnPart) (es : List Entry) → IsFront es turn.entries → IsFront es (dispatch_then hs next turn).entries
front_dispatch hs next turn es f = by turn.stop
  where
    by : (stop : Option Stop) → IsFront es (dispatch_then hs next (record turn { stop = stop })).entries
    by None = (f.0 ++ (next turn.state turn.left).entries, ap (λ xs. xs ++ (next turn.state turn.left).entries) f.1 ∙ append_assoc es f.0 (next turn.state turn.left).entries)
    by (Some stop) = f

cut_here : (end : Option Stop) (hs : List ListenerState) (next : State → ℕ → Part) (ms : List (Call × Answer)) (k n : ℕ) (blobs : List (List ℕ)) (w : ℕ) (st : State) (left rest : ℕ) (h : ListenerState) (last : List Note)
    → IsReplay blobs st (made_entries w ms) → AreAnswers h.answers h.notes (made_notes ms ++ last) → k ≡ length ms + n → left ≡ rest + length ms → IsCutAt end n rest w last
    → IsPartTo end (dispatch_then hs next (turn_in k blobs w st left h)) blobs st rest (made_entries w ms)
cut_here None hs next ms k n blobs w st left rest h last r a few e c =
    front_dispatch hs next (turn_in k blobs w st left h) (made_entries w ms) (front_turn ms k n blobs w st left rest h r (answers_parts h.answers h.notes (made_notes ms) last a).0 few e)
cut_here (Some stop) hs next ms k n blobs w st left rest h last r a few e c =
    let answers : AreAnswers h.answers h.notes (made_notes ms ++ Made c.0 ∷ []) = subst (λ ns. AreAnswers h.answers h.notes (made_notes ms ++ ns)) c.1 a in
    let part : dispatch_then hs next (turn_in k blobs w st left h) ≡ dispatch_then hs next (cut_turn_of blobs w st rest h ms c.0 stop) =
    ap (dispatch_then hs next) (cut_turn ms k n blobs w st left rest h c.0 stop r answers few e c.2) in
    (ap (λ (p : Part). p.entries) part, ap (λ (p : Part). p.now.state) part, ap (λ (p : Part). p.now.left) part, ap (λ (p : Part). p.stop) part)

count_all_made : (w : ℕ) (ms : List (Call × Answer)) → call_count w (made_entries w ms ++ []) ≡ length ms
count_all_made w [] = refl
count_all_made w (m ∷ ms) = elim (eqb_tells w w) [
  | inl t ↦
      let one : call_count w (Listener w m.0 m.1 ∷ (made_entries w ms ++ [])) ≡ 1 + call_count w (made_entries w ms ++ []) = one_more w w m.0 m.1 (made_entries w ms ++ []) ∙ rw t.0 refl in
      omega (arith, one, count_all_made w ms)
  | inr t ↦ absurd (t.1 refl)
]

-- ---- all listeners

-- at the listener j places behind number w the dispatch ended, with these last notes of it; those before it were served
abbrev pub AreServedTo : Event → ℕ → List Entry → ℕ → List Note → List ListenerState → Type 0
AreServedTo event w es j last [] = ⊥
AreServedTo event w es zero last (h ∷ hs) = AreAnswers h.answers (h.notes ++ Heard event ∷ []) (call_notes w es ++ last)
AreServedTo event w es (suc j) last (h ∷ hs) =
    AreAnswers h.answers (h.notes ++ Heard event ∷ []) (call_notes w es ++ Rested ∷ []) × (call_count w es ≤ most_calls) × AreServedTo event (suc w) es j last hs

served_to_behind : (event : Event) (w k : ℕ) (ms : List (Call × Answer)) (rest : List Entry) (j : ℕ) (last : List Note) (hs : List ListenerState) → w < k → AreServedTo event k (made_entries w ms ++ rest) j last hs → AreServedTo event k rest j last hs
served_to_behind event w k ms rest j last [] lt a = a
served_to_behind event w k ms rest zero last (h ∷ hs) lt a = subst (λ ns. AreAnswers h.answers (h.notes ++ Heard event ∷ []) (ns ++ last)) (others_of_made w k ms rest lt) a
served_to_behind event w k ms rest (suc j) last (h ∷ hs) lt a = (
  subst (λ ns. AreAnswers h.answers (h.notes ++ Heard event ∷ []) (ns ++ Rested ∷ [])) (others_of_made w k ms rest lt) a.0,
  subst (λ n. n ≤ most_calls) (count_of_others w k ms rest lt) a.1,
  served_to_behind event w (suc k) ms rest j last hs (omega (arith, lt)) a.2,
)

pub cut_dispatch : (hs : List ListenerState) (j v n : ℕ) (blobs : List (List ℕ)) (event : Event) (w : ℕ) (es : List Entry) (st : State) (left rest : ℕ) (last : List Note) (end : Option Stop) → v ≡ w + j
    → AreCallsInTurn w (v + 1) es → IsReplay blobs st es → AreServedTo event w es j last hs → call_count v es + n ≡ most_calls → IsCutAt end n rest v last → left ≡ rest + length es
    → IsPartTo end (dispatch_from blobs event w hs st left) blobs st rest es
cut_dispatch [] j v n blobs event w es st left rest last end at turns r served few c e = absurd served
cut_dispatch (h ∷ hs) zero v n blobs event w es st left rest last end at turns r served few c e =
    let here : v ≡ w = omega (arith, at) in
    let s = split_turn w (v + 1) es turns in
    let ms : List (Call × Answer) = s.0 in
    let none : s.1 ≡ [] = no_turn (suc w) s.1 (subst (λ x. AreCallsInTurn (suc w) x s.1) (omega (arith, here)) s.3) in
    let mine : es ≡ made_entries w ms ++ [] = s.2 ∙ ap (λ xs. made_entries w ms ++ xs) none in
    let all : es ≡ made_entries w ms = mine ∙ append-nil (made_entries w ms) in
    let notes : call_notes w es ≡ made_notes ms = ap (call_notes w) mine ∙ own_of_made w ms [] ∙ append-nil (made_notes ms) in
    let count : call_count w es ≡ length ms = ap (call_count w) mine ∙ count_all_made w ms in
    let counted : call_count w es + n ≡ most_calls = subst (λ x. call_count x es + n ≡ most_calls) here few in
    let heard : ListenerState = with_notes h (Heard event ∷ []) in
    let part : IsPartTo end (dispatch_from blobs event w (h ∷ hs) st left) blobs st rest (made_entries w ms) =
    cut_here end hs (dispatch_from blobs event (suc w) hs) ms most_calls n blobs w st left rest heard last (subst (λ xs. IsReplay blobs st xs) all r) (subst (λ ns. AreAnswers h.answers heard.notes (ns ++ last)) notes served)
    (omega (arith, counted, count)) (omega (arith, e, ap length all, length_made w ms)) (subst (λ x. IsCutAt end n rest x last) here c) in
    subst (λ xs. IsPartTo end (dispatch_from blobs event w (h ∷ hs) st left) blobs st rest xs) (sym all) part
cut_dispatch (h ∷ hs) (suc j) v n blobs event w es st left rest last end at turns r served few c e =
    let s = split_turn w (v + 1) es turns in
    let ms : List (Call × Answer) = s.0 in
    let others : List Entry = s.1 in
    let mine : List Entry = made_entries w ms in
    let both = replays_parts blobs st mine others (subst (λ xs. IsReplay blobs st xs) s.2 r) in
    let all = subst (λ xs. AreServedTo event w xs (suc j) last (h ∷ hs)) s.2 served in
    let notes : call_notes w (mine ++ others) ≡ made_notes ms = own_of_made w ms others ∙ ap (λ ns. made_notes ms ++ ns) (none_before w (suc w) (v + 1) others (omega arith) s.3) ∙ append-nil (made_notes ms) in
    let middle : ℕ = rest + length others in
    let lens : left ≡ middle + length ms = omega (arith, e, ap length s.2, length_both mine others, length_made w ms) in
    let heard : ListenerState = with_notes h (Heard event ∷ []) in
    let turn : turn_in most_calls blobs w st left heard ≡ whole_turn blobs w st middle heard ms =
    one_turn ms most_calls blobs w st left middle heard both.0 (subst (λ ns. AreAnswers h.answers heard.notes (ns ++ Rested ∷ [])) notes all.0) (omega (arith, count_of_made w ms others, all.1)) lens in
    let now : State = after_entries blobs st mine in
    let next : State → ℕ → Part = dispatch_from blobs event (suc w) hs in
    let count : call_count v es ≡ call_count v others = ap (call_count v) s.2 ∙ count_of_others w v ms others (omega (arith, at)) in
    let tail : IsPartTo end (next now middle) blobs now rest others =
    cut_dispatch hs j v n blobs event (suc w) others now middle rest last end (omega (arith, at)) s.3 both.1 (served_to_behind event w (suc w) ms others j last hs (omega arith) all.2) (omega (arith, few, count)) c refl in
    let whole : IsPartTo end (dispatch_then hs next (whole_turn blobs w st middle heard ms)) blobs st rest (mine ++ others) =
    same_now end (behind mine (next now middle)) (dispatch_then hs next (whole_turn blobs w st middle heard ms)) blobs st rest (mine ++ others) refl refl refl refl (to_behind end mine others blobs st now rest (next now middle) refl tail) in
    subst (λ xs. IsPartTo end (dispatch_from blobs event w (h ∷ hs) st left) blobs st rest xs) (sym s.2)
    (same_to (dispatch_from blobs event w (h ∷ hs) st left) (dispatch_then hs next (whole_turn blobs w st middle heard ms)) end blobs st rest (mine ++ others) (ap (dispatch_then hs next) turn) whole)
  where
    same_now : (end : Option Stop) (x y : Part) (blobs : List (List ℕ)) (st : State) (rest : ℕ) (es : List Entry) → y.entries ≡ x.entries → y.now.state ≡ x.now.state → y.now.left ≡ x.now.left → y.stop ≡ x.stop
        → IsPartTo end x blobs st rest es → IsPartTo end y blobs st rest es
    same_now None x y blobs st rest es p q l s c = (c.0, p ∙ c.1)
    same_now (Some stop) x y blobs st rest es p q l s c = (p ∙ c.0, q ∙ c.1, l ∙ c.2, s ∙ c.3)
