-- What each listener of the play does is what its way gives.
use Rattle.std.proofs.Common.{◌≡◌, ℕ, zero, suc, ◌+◌, ◌<◌, Bool, true, false, List, [], ◌∷◌, ◌++◌, length, refl, ap, sym, subst, ◌∙◌, arith, append_assoc}
use Rattle.std.specs.Prelude.{Option, Some, None, ⊤, map, ◌==◌}
use Rattle.std.proofs.lemmas.List.{append-nil}
use Rattle.mse_calls.specs.AnswerAndState.{AnswerAndState}
use Rattle.mse_calls.specs.declared.calls.Call.{Call}
use Rattle.mse_calls.specs.declared.events.Event.{Event}
use Rattle.mse_calls.specs.declared.entry.Entry.{Entry}
use Rattle.mse_calls.specs.declared.entry.Entry.TheVariants.{Work, Element}
use Rattle.mse_calls.specs.declared.rules.Rule.{Rule}
use Rattle.call_script.specs.declared.script.Script.{Script as CallScript}
use Rattle.call_script.specs.declared.script.StepLine.{StepLine}
use Rattle.call_script.specs.declared.script.StepLine.TheVariants as step
use Rattle.run_steps.specs.declared.note.Note.{Note}
use Rattle.run_steps.specs.declared.note.Note.TheVariants.{Heard, Made, Told, Rested}
use Rattle.listeners.specs.Notes.{asked_note}
use Rattle.run_steps.specs.Ways.{Way}
use Rattle.script_run.specs.declared.stop.Stop.{Stop}
use Rattle.script_run.specs.Rules.{rules_for, rules_of_listener}
use Rattle.script_run.specs.Turns.{most_calls}
use Rattle.mse_engine.specs.State.{State}
use Rattle.mse_engine.specs.Calls.{after_call}
use Rattle.mse_engine.specs.Work.{after_work, after_element_turn, fire_result}
use Rattle.cut_law.specs.Plays.{next_entry, steps_left}
use Rattle.mse_commands.specs.Outcomes.{AreRulesOfNumbers}
use Rattle.mse_commands.specs.Ends.{AreByWays}
use Rattle.mse_commands.specs.Played.{ListenerState, PlayState, Part, TurnPart, DrainContinuations, with_notes, notes_of_each, listeners_from, behind, unless_stopped, and_then, one_entry, turn_full, turn_by, turn_in, dispatch_then, dispatch_from, fire_by, fire, if_called, fire_waiting, step_by, round_in, rounds_in, drain_played, entry_if, line_played, numbered_played, lines_played}
use Rattle.mse_commands.specs.Program.{opening_play, script_played}
use Rattle.mse_commands.proofs.ListenerAnswers.{Answering, AreAllAnswers, AreAnswers}

-- ---- answers, one part after the other

answers_join : (answers : Answering) (past xs ys : List Note) → AreAnswers answers past xs → AreAnswers answers (past ++ xs) ys → AreAnswers answers past (xs ++ ys)
answers_join answers past [] ys a b = subst (λ ns. AreAnswers answers ns ys) (append-nil past) b
answers_join answers past (Heard event ∷ xs) ys a b = answers_join answers (past ++ Heard event ∷ []) xs ys a (subst (λ ns. AreAnswers answers ns ys) (sym (append_assoc past (Heard event ∷ []) xs)) b)
answers_join answers past (Made call ∷ xs) ys a b = (a.0, answers_join answers (past ++ Made call ∷ []) xs ys a.1 (subst (λ ns. AreAnswers answers ns ys) (sym (append_assoc past (Made call ∷ []) xs)) b))
answers_join answers past (Told answer ∷ xs) ys a b = answers_join answers (past ++ Told answer ∷ []) xs ys a (subst (λ ns. AreAnswers answers ns ys) (sym (append_assoc past (Told answer ∷ []) xs)) b)
answers_join answers past (Rested ∷ xs) ys a b = (a.0, answers_join answers (past ++ Rested ∷ []) xs ys a.1 (subst (λ ns. AreAnswers answers ns ys) (sym (append_assoc past (Rested ∷ []) xs)) b))

-- those behind the first note
answers_tail : (answers : Answering) (past : List Note) (note : Note) (notes : List Note) → AreAnswers answers past (note ∷ notes) → AreAnswers answers (past ++ note ∷ []) notes
answers_tail answers past (Heard event) notes a = a
answers_tail answers past (Made call) notes a = a.1
answers_tail answers past (Told answer) notes a = a
answers_tail answers past Rested notes a = a.1

-- the first note
answer_first : (answer : Option Call) (answers : Answering) (past : List Note) (note : Note) (notes after : List Note) → AreAnswers answers past (note ∷ notes) → note ∷ notes ≡ asked_note answer ++ after → answer ≡ answers past
answer_first None answers past (Heard event) notes after a e = absurd (cc)
answer_first None answers past (Made call) notes after a e = absurd (cc)
answer_first None answers past (Told told) notes after a e = absurd (cc)
answer_first None answers past Rested notes after a e = sym a.0
answer_first (Some other) answers past (Heard event) notes after a e = absurd (cc)
answer_first (Some other) answers past (Made call) notes after a e =
    let same : other ≡ call = cc in
    ap (λ (c : Call). Some c) same ∙ sym a.0
answer_first (Some other) answers past (Told told) notes after a e = absurd (cc)
answer_first (Some other) answers past Rested notes after a e = absurd (cc)

no_asked : (answer : Option Call) (after : List Note) → [] ≡ asked_note answer ++ after → ⊥
no_asked None after e = cc
no_asked (Some call) after e = cc

each_answer : (answers : Answering) (past notes : List Note) → AreAnswers answers past notes → (before after : List Note) (answer : Option Call) → notes ≡ before ++ (asked_note answer ++ after) → answer ≡ answers (past ++ before)
each_answer answers past [] a [] after answer e = absurd (no_asked answer after e)
each_answer answers past [] a (b ∷ before) after answer e = absurd (cc)
each_answer answers past (note ∷ notes) a [] after answer e = answer_first answer answers past note notes after a e ∙ ap (λ (ns : List Note). answers ns) (sym (append-nil past))
each_answer answers past (note ∷ notes) a (b ∷ before) after answer e =
    let first : note ≡ b = cc in
    let rest : notes ≡ before ++ (asked_note answer ++ after) = cc in
    each_answer answers (past ++ note ∷ []) notes (answers_tail answers past note notes a) before after answer rest
    ∙ ap (λ (ns : List Note). answers ns) (append_assoc past (note ∷ []) before)
    ∙ ap (λ (x : Note). answers (past ++ x ∷ before)) first

-- ---- a listener that answers so

-- all that it did is what these answers give
abbrev IsAnsweringBy : Answering → ListenerState → Type 0
IsAnsweringBy answers h = (h.answers ≡ answers) × AreAnswers answers [] h.notes

-- what it notes behind that
noted_by : (answers : Answering) (h : ListenerState) (more : List Note) → IsAnsweringBy answers h → AreAnswers answers h.notes more → IsAnsweringBy answers (with_notes h more)
noted_by answers h more a b = (a.0, answers_join answers [] h.notes more a.1 b)

answer_by : (answers : Answering) (h : ListenerState) (o : Option Call) → IsAnsweringBy answers h → h.answers h.notes ≡ o → answers h.notes ≡ o
answer_by answers h o a e = ap (λ (f : Answering). f h.notes) (sym a.0) ∙ e

full_by : (o : Option Call) (answers : Answering) (w : ℕ) (st : State) (left : ℕ) (h : ListenerState) → h.answers h.notes ≡ o → IsAnsweringBy answers h → IsAnsweringBy answers (turn_full w st left h o).listener
full_by None answers w st left h e a = noted_by answers h (Rested ∷ []) a (answer_by answers h None a e, tt)
full_by (Some call) answers w st left h e a = noted_by answers h (Made call ∷ []) a (answer_by answers h (Some call) a e, tt)

turn_step : (o : Option Call) (answers : Answering) (go : State → ℕ → ListenerState → TurnPart) (blobs : List (List ℕ)) (w : ℕ) (st : State) (left : ℕ) (h : ListenerState) → h.answers h.notes ≡ o → IsAnsweringBy answers h
    → ((new : State) (rest : ℕ) (g : ListenerState) → IsAnsweringBy answers g → IsAnsweringBy answers (go new rest g).listener) → IsAnsweringBy answers (turn_by go blobs w st left h o).listener
turn_step None answers go blobs w st left h e a f = noted_by answers h (Rested ∷ []) a (answer_by answers h None a e, tt)
turn_step (Some call) answers go blobs w st zero h e a f = noted_by answers h (Made call ∷ []) a (answer_by answers h (Some call) a e, tt)
turn_step (Some call) answers go blobs w st (suc left) h e a f =
    let made = after_call blobs call st in
    let more : List Note = Made call ∷ Told made.answer ∷ [] in
    f made.state left (with_notes h more) (noted_by answers h more a (answer_by answers h (Some call) a e, tt))

turn_by_answers : (n : ℕ) (answers : Answering) (blobs : List (List ℕ)) (w : ℕ) (st : State) (left : ℕ) (h : ListenerState) → IsAnsweringBy answers h → IsAnsweringBy answers (turn_in n blobs w st left h).listener
turn_by_answers zero answers blobs w st left h a = full_by (h.answers h.notes) answers w st left h refl a
turn_by_answers (suc n) answers blobs w st left h a = turn_step (h.answers h.notes) answers (turn_in n blobs w) blobs w st left h refl a (λ new rest g b. turn_by_answers n answers blobs w new rest g b)

-- ---- all listeners

-- each by its answers
abbrev pub AreAnsweringBy : List Answering → List ListenerState → Type 0
AreAnsweringBy [] [] = ⊤
AreAnsweringBy (answers ∷ others) (h ∷ hs) = IsAnsweringBy answers h × AreAnsweringBy others hs
AreAnsweringBy all hs = ⊥

-- so they are behind a part
abbrev IsPartBy : List Answering → Part → Type 0
IsPartBy all part = AreAnsweringBy all part.now.listeners

then_by : (stop : Option Stop) (answers : Answering) (others : List Answering) (hs : List ListenerState) (next : State → ℕ → Part) (turn : TurnPart) → IsAnsweringBy answers turn.listener → AreAnsweringBy others hs → ((new : State) (rest : ℕ) → IsPartBy others (next new rest))
    → IsPartBy (answers ∷ others) (dispatch_then hs next (record turn { stop = stop }))
then_by None answers others hs next turn a b f = (a, f turn.state turn.left)
then_by (Some stop) answers others hs next turn a b f = (a, b)

dispatch_by : (all : List Answering) (hs : List ListenerState) (blobs : List (List ℕ)) (event : Event) (w : ℕ) (st : State) (left : ℕ) → AreAnsweringBy all hs → IsPartBy all (dispatch_from blobs event w hs st left)
dispatch_by [] [] blobs event w st left a = tt
dispatch_by [] (h ∷ hs) blobs event w st left a = absurd a
dispatch_by (answers ∷ others) [] blobs event w st left a = absurd a
dispatch_by (answers ∷ others) (h ∷ hs) blobs event w st left a =
    let heard : ListenerState = with_notes h (Heard event ∷ []) in
    let turn : TurnPart = turn_in most_calls blobs w st left heard in
    then_by turn.stop answers others hs (dispatch_from blobs event (suc w) hs) turn (turn_by_answers most_calls answers blobs w st left heard (noted_by answers h (Heard event ∷ []) a.0 tt)) a.1
    (λ new rest. dispatch_by others hs blobs event (suc w) new rest a.1)

-- ---- parts

-- what keeps the listeners so
abbrev Keeps : List Answering → (PlayState → Part) → Type 0
Keeps all next = (p : PlayState) → AreAnsweringBy all p.listeners → IsPartBy all (next p)

part_then : (all : List Answering) (part : Part) (next : PlayState → Part) → IsPartBy all part → Keeps all next → IsPartBy all (and_then part next)
part_then all part next a f = by part.stop
  where
    by : (stop : Option Stop) → IsPartBy all (unless_stopped stop part (behind part.entries (next part.now)))
    by None = f part.now a
    by (Some stop) = a

fired_by : (o : Option (AnswerAndState Event State)) (all : List Answering) (blobs : List (List ℕ)) (p : PlayState) → AreAnsweringBy all p.listeners → IsPartBy all (fire_by blobs p o)
fired_by None all blobs p a = a
fired_by (Some fired) all blobs p a = dispatch_by all p.listeners blobs fired.answer 0 fired.state p.left a

called_by : (b : Bool) (all : List Answering) (same called : Part) → IsPartBy all same → IsPartBy all called → IsPartBy all (if_called b same called)
called_by true all same called f g = f
called_by false all same called f g = g

waiting_by : (events : List Event) (all : List Answering) (blobs : List (List ℕ)) (g : DrainContinuations) → Keeps all g.again → Keeps all g.next → (p : PlayState) → AreAnsweringBy all p.listeners → IsPartBy all (fire_waiting events blobs g p)
waiting_by [] all blobs g again next p a = next p a
waiting_by (event ∷ events) all blobs g again next p a =
    part_then all (fire blobs p) (λ now. if_called (now.left == p.left) (fire_waiting events blobs g now) (g.again now)) (fired_by (fire_result p.state) all blobs p a)
    (λ now b. called_by (now.left == p.left) all (fire_waiting events blobs g now) (g.again now) (waiting_by events all blobs g again next now b) (again now b))

step_keeps : (o : Option Entry) (all : List Answering) (blobs : List (List ℕ)) (go : PlayState → Part) → Keeps all go → (p : PlayState) → AreAnsweringBy all p.listeners → IsPartBy all (step_by blobs go p o)
step_keeps None all blobs go f p a = a
step_keeps (Some entry) all blobs go f p a = part_then all (one_entry blobs p entry) go a f

round_by : (n : ℕ) (all : List Answering) (blobs : List (List ℕ)) (again : PlayState → Part) → Keeps all again → (p : PlayState) → AreAnsweringBy all p.listeners → IsPartBy all (round_in n blobs again p)
round_by zero all blobs again f p a = a
round_by (suc n) all blobs again f p a =
    waiting_by p.state.element.queue all blobs (record { again = again; next = λ now. step_by blobs (round_in n blobs again) now (next_entry now.state) }) f
    (λ now b. step_keeps (next_entry now.state) all blobs (round_in n blobs again) (λ later c. round_by n all blobs again f later c) now b) p a

drain_by_in : (n : ℕ) (all : List Answering) (blobs : List (List ℕ)) (p : PlayState) → AreAnsweringBy all p.listeners → IsPartBy all (rounds_in n blobs p)
drain_by_in zero all blobs p a = a
drain_by_in (suc n) all blobs p a = round_by (suc (steps_left p.state)) all blobs (rounds_in n blobs) (λ now b. drain_by_in n all blobs now b) p a

drain_by : (all : List Answering) (blobs : List (List ℕ)) (p : PlayState) → AreAnsweringBy all p.listeners → IsPartBy all (drain_played blobs p)
unfolding drain_played
drain_by all blobs p a = drain_by_in (suc p.left) all blobs p a

-- ---- lines

if_by : (o : Option State) (all : List Answering) (blobs : List (List ℕ)) (p : PlayState) (entry : Entry) → AreAnsweringBy all p.listeners → IsPartBy all (entry_if blobs p entry o)
if_by None all blobs p entry a = a
if_by (Some st) all blobs p entry a = a

line_by : (line : StepLine) (all : List Answering) (blobs : List (List ℕ)) (p : PlayState) → AreAnsweringBy all p.listeners → IsPartBy all (line_played blobs p line)
line_by (step.Call call) all blobs p a = a
line_by step.Fire all blobs p a = fired_by (fire_result p.state) all blobs p a
line_by (step.Work k) all blobs p a = if_by (after_work k p.state) all blobs p (Work k) a
line_by step.Element all blobs p a = if_by (after_element_turn p.state) all blobs p Element a
line_by step.Drain all blobs p a = drain_by all blobs p a

lines_by : (lines : List StepLine) (all : List Answering) (blobs : List (List ℕ)) (limit n : ℕ) (p : PlayState) → AreAnsweringBy all p.listeners → IsPartBy all (lines_played blobs limit n lines p)
lines_by [] all blobs limit n p a = a
lines_by (line ∷ lines) all blobs limit n p a =
    part_then all (numbered_played blobs limit n p line) (lines_played blobs limit (suc n) lines) (line_by line all blobs (record p { left = limit }) a) (λ now b. lines_by lines all blobs limit (suc n) now b)

-- ---- by the ways

-- the answers of listeners by their ways
abbrev pub answers_from : ℕ → List Rule → List Way → List Answering
answers_from w rules ways = map (λ one. one.answers) (listeners_from w rules ways)

opening_by : (w : ℕ) (rules : List Rule) (ways : List Way) → AreAnsweringBy (answers_from w rules ways) (listeners_from w rules ways)
opening_by w rules [] = tt
opening_by w rules (way ∷ ways) = ((refl, tt), opening_by (suc w) rules ways)

ways_of_answers : (ways : List Way) (given : List (List Rule)) (w : ℕ) (rules : List Rule) (hs : List ListenerState) → length given ≡ length ways → ((k : ℕ) → k < length given → rules_of_listener given k ≡ rules_for (w + k) rules)
    → AreAnsweringBy (answers_from w rules ways) hs → AreByWays ways given (notes_of_each hs)
ways_of_answers [] [] w rules [] e f a = tt
ways_of_answers [] [] w rules (h ∷ hs) e f a = absurd a
ways_of_answers [] (r ∷ given) w rules hs e f a = absurd (omega (arith, e))
ways_of_answers (way ∷ ways) [] w rules hs e f a = absurd (omega (arith, e))
ways_of_answers (way ∷ ways) (r ∷ given) w rules [] e f a = absurd a
ways_of_answers (way ∷ ways) (r ∷ given) w rules (h ∷ hs) e f a =
    let here : w + 0 ≡ w = omega arith in
    let own : r ≡ rules_for w rules = f 0 (omega arith) ∙ ap (λ (k : ℕ). rules_for k rules) here in
    let all : AreAllAnswers (way (rules_for w rules)) h.notes = λ before after answer is. each_answer (way (rules_for w rules)) [] h.notes a.0.1 before after answer is in (
      subst (λ (rs : List Rule). AreAllAnswers (way rs) h.notes) (sym own) all,
      ways_of_answers ways given (suc w) rules hs (omega (arith, e)) (λ k lt. f (suc k) (omega (arith, lt)) ∙ ap (λ (m : ℕ). rules_for m rules) (next k)) a.1,
    )
  where
    next : (k : ℕ) → w + suc k ≡ suc w + k
    next k = omega arith

-- Listeners of a script that is played, each of which has the rules of its number, did what their ways give.
pub played_by : (ways : List Way) (script : CallScript) (blobs : List (List ℕ)) (given : List (List Rule)) → length given ≡ length ways → AreRulesOfNumbers script.rules given → AreByWays ways given (notes_of_each (script_played ways script blobs).now.listeners)
unfolding script_played
played_by ways script blobs given e own =
    ways_of_answers ways given 0 script.rules (script_played ways script blobs).now.listeners e (λ k lt. own k lt ∙ ap (λ (m : ℕ). rules_for m script.rules) (first k))
    (lines_by script.steps (answers_from 0 script.rules ways) blobs script.drain 0 (opening_play ways script blobs) (opening_by 0 script.rules ways))
  where
    first : (k : ℕ) → k ≡ 0 + k
    first k = omega arith
