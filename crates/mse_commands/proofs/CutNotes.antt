-- What listeners noted tells where the last dispatch ended.
use Rattle.std.proofs.Common.{◌≡◌, ℕ, zero, suc, ◌+◌, ◌-◌, ◌<◌, ◌≤◌, List, [], ◌∷◌, ◌++◌, length, drop, refl, ap, sym, subst, ◌∙◌, arith, inl, inr}
use Rattle.std.specs.Prelude.{Option, Some, None}
use Rattle.std.proofs.lemmas.Bool.{cases_eq, cases_lt}
use Rattle.std.proofs.lemmas.List.{append-nil}
use Rattle.mse_calls.specs.declared.answers.Answer.{Answer}
use Rattle.mse_calls.specs.declared.events.Event.{Event}
use Rattle.mse_calls.specs.declared.entry.Entry.{Entry}
use Rattle.mse_calls.specs.declared.entry.Entry.TheVariants.{Step, Script, Listener, Fired, Work, Element}
use Rattle.run_steps.specs.declared.note.Note.{Note}
use Rattle.run_steps.specs.declared.note.Note.TheVariants.{Heard, Made, Told, Rested}
use Rattle.listeners.specs.declared.event_dispatch.DispatchFault.{DispatchFault}
use Rattle.listeners.specs.declared.event_dispatch.DispatchFault.TheVariants as fault
use Rattle.listeners.specs.Notes.{call_notes, call_count, event_notes}
use Rattle.listeners.specs.Dispatch.{AreCallsInTurn, IsFailedDispatch, IsFault, IsOutOfMemory, notes_at, dispatch_end, turn_end_of}
use Rattle.script_run.specs.declared.stop.Stop.{Stop}
use Rattle.script_run.specs.declared.stop.Stop.TheVariants.{CallBudget, TaskBudget}
use Rattle.script_run.specs.NoteHistory.{IsAllHeard, note_history}
use Rattle.script_run.specs.PlayedParts.{IsDispatchCut}
use Rattle.script_run.specs.Turns.{CallsLeft, most_calls}
use Rattle.script_run.proofs.ListenerTurns.{AreInTurn, ListenerTurn, first_turn, turn_after, turns_front}
use Rattle.mse_commands.specs.Played.{ListenerState}
use Rattle.mse_commands.proofs.ListenerAnswers.{Answering, AreAnswers, answers_parts}
use Rattle.mse_commands.proofs.Dispatches.{AreServed, heard_by, one_more}
use Rattle.mse_commands.proofs.Drains.{led, led_stops, AreEventsServed, heard_all}
use Rattle.mse_commands.proofs.CutDispatches.{IsCutAt, AreServedTo}
use Rattle.mse_commands.proofs.CutDrains.{IsCutEvent, AreServedUntil}
use Rattle.mse_commands.proofs.Histories.{AreHistories, few_of, counted_one, all_length, other_notes, other_count, own_notes, own_count, history_served}

-- ---- what came behind earlier notes

drop_front : (xs ys : List Note) → drop (length xs) (xs ++ ys) ≡ ys
drop_front [] ys = refl
drop_front (x ∷ xs) ys = drop_front xs ys

-- the notes of each listener behind those that it had
abbrev pub notes_behind : List (List Note) → List (List Note) → ℕ → List Note
notes_behind before now w = drop (length (notes_at before w)) (notes_at now w)

behind_is : (before now : List (List Note)) (w : ℕ) (more : List Note) → notes_at now w ≡ notes_at before w ++ more → notes_behind before now w ≡ more
behind_is before now w more e = ap (λ ns. drop (length (notes_at before w)) ns) e ∙ drop_front (notes_at before w) more

with_behind : (before now : List (List Note)) (w : ℕ) (more : List Note) → notes_at now w ≡ notes_at before w ++ more → notes_at now w ≡ notes_at before w ++ notes_behind before now w
with_behind before now w more e = e ∙ ap (λ ns. notes_at before w ++ ns) (sym (behind_is before now w more e))

-- ---- the listener at which the dispatch ended

-- one note more stands behind those before
record IsLastOf (before now more : List Note) (note : Note) : Type 0 where
  behind : List Note
  now_is : now ≡ before ++ behind
  more_is : behind ++ note ∷ [] ≡ more

not_empty : (before : List Note) (x : Note) (more : List Note) → before ++ x ∷ more ≡ [] → ⊥
not_empty [] x more e = absurd (cc)
not_empty (b ∷ before) x more e = absurd (cc)

last_of : (before now : List Note) (x : Note) (more : List Note) (note : Note) → now ++ note ∷ [] ≡ before ++ x ∷ more → IsLastOf before now (x ∷ more) note
last_of [] now x more note e = record { behind = now; now_is = refl; more_is = e }
last_of (b ∷ before) [] x more note e = let none : before ++ x ∷ more ≡ [] = cc in absurd (not_empty before x more none)
last_of (b ∷ before) (n ∷ now) x more note e =
    let rest : now ++ note ∷ [] ≡ before ++ x ∷ more = cc in
    let same : n ≡ b = cc in
    let p = last_of before now x more note rest in
    record { behind = p.behind; now_is = ap (λ (y : Note). y ∷ now) same ∙ ap (λ (ns : List Note). b ∷ ns) p.now_is; more_is = p.more_is }

-- answers and one note more of what was told
told_more : (answers : Answering) (past notes : List Note) (answer : Answer) → AreAnswers answers past notes → AreAnswers answers past (notes ++ Told answer ∷ [])
told_more answers past [] answer a = tt
told_more answers past (Heard event ∷ notes) answer a = told_more answers (past ++ Heard event ∷ []) notes answer a
told_more answers past (Made call ∷ notes) answer a = (a.0, told_more answers (past ++ Made call ∷ []) notes answer a.1)
told_more answers past (Told other ∷ notes) answer a = told_more answers (past ++ Told other ∷ []) notes answer a
told_more answers past (Rested ∷ notes) answer a = (a.0, told_more answers (past ++ Rested ∷ []) notes answer a.1)

-- a listener that made no call has no notes of one
pub none_called : (w : ℕ) (es : List Entry) → call_count w es ≡ 0 → call_notes w es ≡ []
none_called w [] e = refl
none_called w (Listener v call answer ∷ es) e = elim (cases_eq v w) [
  | inl same ↦
      let one : call_count w (Listener v call answer ∷ es) ≡ 1 + call_count w es = subst (λ k. call_count k (Listener v call answer ∷ es) ≡ 1 + call_count k es) same (counted_one v call answer es) in
      absurd (omega (arith, one, e))
  | inr other ↦
      let rest : call_count w es ≡ 0 = omega (arith, other_count w v call answer es other, e) in
      other_notes w v call answer es other ∙ none_called w es rest
]
none_called w (Step n ∷ es) e = own_notes w (Step n) es refl ∙ none_called w es (own_count w (Step n) es refl ∙ e)
none_called w (Script call answer ∷ es) e = own_notes w (Script call answer) es refl ∙ none_called w es (own_count w (Script call answer) es refl ∙ e)
none_called w (Fired event ∷ es) e = own_notes w (Fired event) es refl ∙ none_called w es (own_count w (Fired event) es refl ∙ e)
none_called w (Work k ∷ es) e = own_notes w (Work k) es refl ∙ none_called w es (own_count w (Work k) es refl ∙ e)
none_called w (Element ∷ es) e = own_notes w Element es refl ∙ none_called w es (own_count w Element es refl ∙ e)

-- the notes of the listener at which the dispatch ended: what they tell of it, and the last of them
record IsCutTurn (event : Event) (es : List Entry) (left v : ℕ) (before now : List Note) (end : Option Stop) : Type 0 where
  more : List Note
  last : List Note
  n : ℕ
  now_is : now ≡ before ++ more
  answered : (answers : Answering) (past : List Note) → AreAnswers answers past more → AreAnswers answers (past ++ Heard event ∷ []) (call_notes v es ++ last)
  many : call_count v es + n ≡ most_calls
  cut : IsCutAt end n left v last

-- the stop that a fault of a dispatch is; none at want of memory
abbrev pub end_of : DispatchFault → Option Stop
end_of fault.OutOfMemory = None
end_of (fault.CallBudget k) = Some (CallBudget k)
end_of fault.TaskBudget = Some TaskBudget

memory_turn : (event : Event) (es : List Entry) (left v : ℕ) (before now : List (List Note)) → call_count v es ≤ most_calls → IsOutOfMemory event (turn_end_of v (dispatch_end es left before now))
    → IsCutTurn event es left v (notes_at before v) (notes_at now v) None
memory_turn event es left v before now few (inl unheard) = record {
  more = [];
  last = [];
  n = most_calls - call_count v es;
  now_is = unheard.notes ∙ sym (append-nil (notes_at before v));
  answered = λ answers past a. subst (λ ns. AreAnswers answers (past ++ Heard event ∷ []) (ns ++ [])) (sym (none_called v es unheard.no_call)) tt;
  many = omega (arith, few);
  cut = refl;
}
memory_turn event es left v before now few (inr (inl e)) = record {
  more = Heard event ∷ call_notes v es;
  last = [];
  n = most_calls - call_count v es;
  now_is = e;
  answered = λ answers past a. subst (λ ns. AreAnswers answers (past ++ Heard event ∷ []) ns) (sym (append-nil (call_notes v es))) a;
  many = omega (arith, few);
  cut = refl;
}
memory_turn event es left v before now few (inr (inr (inl untold))) =
    let p = last_of (notes_at before v) (notes_at now v) (Heard event) (call_notes v es) (Told untold.0) untold.1 in
    record {
      more = p.behind;
      last = [];
      n = most_calls - call_count v es;
      now_is = p.now_is;
      answered = λ answers past a. subst (λ ns. AreAnswers answers (past ++ Heard event ∷ []) ns) (sym (append-nil (call_notes v es)))
          (subst (λ ns. AreAnswers answers past ns) p.more_is (told_more answers past p.behind untold.0 a));
      many = omega (arith, few);
      cut = refl;
    }
memory_turn event es left v before now few (inr (inr (inr unmade))) = record {
  more = Heard event ∷ (call_notes v es ++ Made unmade.1.0 ∷ []);
  last = [];
  n = most_calls - call_count v es;
  now_is = unmade.1.1;
  answered = λ answers past a. subst (λ ns. AreAnswers answers (past ++ Heard event ∷ []) ns) (sym (append-nil (call_notes v es)))
      (answers_parts answers (past ++ Heard event ∷ []) (call_notes v es) (Made unmade.1.0 ∷ []) a).0;
  many = omega (arith, few);
  cut = refl;
}

fault_turn : (f : DispatchFault) (event : Event) (es : List Entry) (left v : ℕ) (before now : List (List Note)) → call_count v es ≤ most_calls → IsFault f event (turn_end_of v (dispatch_end es left before now))
    → IsCutTurn event es left v (notes_at before v) (notes_at now v) (end_of f)
fault_turn fault.OutOfMemory event es left v before now few e = memory_turn event es left v before now few e
fault_turn (fault.CallBudget k) event es left v before now few e = record {
  more = Heard event ∷ (call_notes v es ++ Made e.2.0 ∷ []);
  last = Made e.2.0 ∷ [];
  n = 0;
  now_is = e.2.1;
  answered = λ answers past a. a;
  many = omega (arith, e.1);
  cut = (e.2.0, refl, ap (λ x. CallBudget x) e.0);
}
fault_turn fault.TaskBudget event es left v before now few e = record {
  more = Heard event ∷ (call_notes v es ++ Made e.2.0 ∷ []);
  last = Made e.2.0 ∷ [];
  n = suc (999 - call_count v es);
  now_is = e.2.1;
  answered = λ answers past a. a;
  many = omega (arith, e.1);
  cut = (e.2.0, refl, (e.0, refl));
}

-- ---- the dispatch

-- the listeners behind it made no call
turns_to : (low high top : ℕ) (es : List Entry) → AreCallsInTurn low high es → ((w : ℕ) → top ≤ w → call_count w es ≡ 0) → AreCallsInTurn low top es
turns_to low high top [] a none = tt
turns_to low high top (Listener v call answer ∷ es) a none =
    (a.0, below, turns_to v high top es a.2 (λ w le. omega (arith, one_more w v call answer es, none w le)))
  where
    below : v < top
    below = elim (cases_lt v top) [ inl lt ↦ lt | inr ge ↦ absurd (omega (arith, counted_one v call answer es, none v ge)) ]
turns_to low high top (Step n ∷ es) a none = absurd a
turns_to low high top (Script call answer ∷ es) a none = absurd a
turns_to low high top (Fired event ∷ es) a none = absurd a
turns_to low high top (Work k ∷ es) a none = absurd a
turns_to low high top (Element ∷ es) a none = absurd a

served_to : (hs : List ListenerState) (j v : ℕ) (event : Event) (w : ℕ) (es : List Entry) (more : ℕ → List Note) (last : List Note) → v ≡ w + j → j < length hs → ((k : ℕ) → k < v → more k ≡ event_notes event k es) → ((k : ℕ) → call_count k es ≤ most_calls)
    → ((answers : Answering) (past : List Note) → AreAnswers answers past (more v) → AreAnswers answers (past ++ Heard event ∷ []) (call_notes v es ++ last)) → AreHistories w [] more hs → AreServedTo event w es j last hs
served_to [] j v event w es more last at lt before few answered p = absurd (omega (arith, lt))
served_to (h ∷ hs) zero v event w es more last at lt before few answered p =
    let here : v ≡ w = omega (arith, at) in
    subst (λ k. AreAnswers h.answers (h.notes ++ Heard event ∷ []) (call_notes k es ++ last)) here (answered h.answers h.notes (subst (λ k. AreAnswers h.answers h.notes (more k)) (sym here) p.0))
served_to (h ∷ hs) (suc j) v event w es more last at lt before few answered p = (
  subst (λ ns. AreAnswers h.answers h.notes ns) (before w (omega (arith, at))) p.0,
  few w,
  served_to hs j v event (suc w) es more last (omega (arith, at)) (omega (arith, lt)) before few answered p.1,
)

failed_event : (hs : List ListenerState) (event : Event) (es : List Entry) (left : ℕ) (before now : List (List Note)) (f : DispatchFault) → IsFailedDispatch event (dispatch_end es left before now) f → AreCallsInTurn 0 (length before) es
    → ((w : ℕ) → call_count w es ≤ most_calls) → length hs ≡ length before → AreHistories 0 [] (notes_behind before now) hs → IsCutEvent event es hs left (end_of f)
failed_event hs event es left before now f d turns few count p =
    let v : ℕ = d.listener in
    let t = fault_turn f event es left v before now (few v) d.ending in
    let there : notes_behind before now v ≡ t.more = behind_is before now v t.more t.now_is in
    record {
      v = v;
      n = t.n;
      last = t.last;
      turns = turns_to 0 (length before) (v + 1) es turns (λ w le. (d.behind w le).no_call);
      served = served_to hs v v event 0 es (notes_behind before now) t.last (omega arith) (omega (arith, d.within, count)) (λ k lt. behind_is before now k (event_notes event k es) (d.served k lt)) few
          (λ answers past a. t.answered answers past (subst (λ ns. AreAnswers answers past ns) there a)) p;
      many = t.many;
      cut = t.cut;
    }

-- each listener has the notes of before in front
front_notes : (event : Event) (es : List Entry) (left : ℕ) (before now : List (List Note)) (f : DispatchFault) → IsFailedDispatch event (dispatch_end es left before now) f → ((w : ℕ) → call_count w es ≤ most_calls) → (w : ℕ)
    → notes_at now w ≡ notes_at before w ++ notes_behind before now w
front_notes event es left before now f d few w = elim (cases_lt w d.listener) [
  | inl lt ↦ with_behind before now w (event_notes event w es) (d.served w lt)
  | inr ge ↦ elim (cases_eq w d.listener) [
    | inl e ↦
        let t = fault_turn f event es left d.listener before now (few d.listener) d.ending in
        subst (λ k. notes_at now k ≡ notes_at before k ++ notes_behind before now k) (sym e) (with_behind before now d.listener t.more t.now_is)
    | inr ne ↦ with_behind before now w [] ((d.behind w (omega (arith, ge, ne))).notes ∙ sym (append-nil (notes_at before w)))
  ]
]

-- ---- all entries

turns_behind : (count : ℕ) (turn : Option ListenerTurn) (xs : List Entry) (event : Event) (ys : List Entry) → AreInTurn count turn (xs ++ Fired event ∷ ys) → AreInTurn count (Some first_turn) ys
turns_behind count turn [] event ys a = a
turns_behind count None (Listener v call answer ∷ xs) event ys a = absurd a
turns_behind count (Some turn) (Listener v call answer ∷ xs) event ys a = turns_behind count (Some (turn_after turn v)) xs event ys a.2
turns_behind count turn (Step n ∷ xs) event ys a = turns_behind count None xs event ys a
turns_behind count turn (Script call answer ∷ xs) event ys a = turns_behind count None xs event ys a
turns_behind count turn (Fired other ∷ xs) event ys a = turns_behind count (Some first_turn) xs event ys a
turns_behind count turn (Work k ∷ xs) event ys a = turns_behind count None xs event ys a
turns_behind count turn (Element ∷ xs) event ys a = turns_behind count None xs event ys a

all_led : (low high : ℕ) (es : List Entry) → AreCallsInTurn low high es → led es ≡ es
all_led low high [] a = refl
all_led low high (Listener v call answer ∷ es) a = ap (λ (xs : List Entry). Listener v call answer ∷ xs) (all_led v high es a.2)
all_led low high (Step n ∷ es) a = absurd a
all_led low high (Script call answer ∷ es) a = absurd a
all_led low high (Fired event ∷ es) a = absurd a
all_led low high (Work k ∷ es) a = absurd a
all_led low high (Element ∷ es) a = absurd a

served_until : (es : List Entry) (hs : List ListenerState) (event : Event) (calls : List Entry) (rest : ℕ) (end : Option Stop) → AreEventsServed hs es → IsCutEvent event calls (heard_all hs es) rest end
    → AreServedUntil hs rest end (es ++ Fired event ∷ calls)
served_until [] hs event calls rest end s c = inl c
served_until (Listener v call answer ∷ es) hs event calls rest end s c = served_until es hs event calls rest end s c
served_until (Step n ∷ es) hs event calls rest end s c = (led_stops es (Fired event ∷ calls) refl ∙ s.0, served_until es hs event calls rest end s.1 c)
served_until (Script call answer ∷ es) hs event calls rest end s c = (led_stops es (Fired event ∷ calls) refl ∙ s.0, served_until es hs event calls rest end s.1 c)
served_until (Work k ∷ es) hs event calls rest end s c = (led_stops es (Fired event ∷ calls) refl ∙ s.0, served_until es hs event calls rest end s.1 c)
served_until (Element ∷ es) hs event calls rest end s c = (led_stops es (Fired event ∷ calls) refl ∙ s.0, served_until es hs event calls rest end s.1 c)
served_until (Fired x ∷ es) hs event calls rest end s c =
    let same = sym (led_stops es (Fired event ∷ calls) refl) in
    let later = served_until es (heard_by x 0 (led es) hs) event calls rest end s.2 c in
    inr (
      subst (λ xs. AreCallsInTurn 0 (length hs) xs) same s.0,
      subst (λ xs. AreServed x 0 xs hs) same s.1,
      subst (λ xs. AreServedUntil (heard_by x 0 xs hs) rest end (es ++ Fired event ∷ calls)) same later,
    )

-- where all events were answered the play does not stop
pub events_until : (es : List Entry) (hs : List ListenerState) (rest : ℕ) → AreEventsServed hs es → AreServedUntil hs rest None es
events_until [] hs rest s = refl
events_until (Listener v call answer ∷ es) hs rest s = events_until es hs rest s
events_until (Step n ∷ es) hs rest s = (s.0, events_until es hs rest s.1)
events_until (Script call answer ∷ es) hs rest s = (s.0, events_until es hs rest s.1)
events_until (Work k ∷ es) hs rest s = (s.0, events_until es hs rest s.1)
events_until (Element ∷ es) hs rest s = (s.0, events_until es hs rest s.1)
events_until (Fired event ∷ es) hs rest s = inr (s.0, s.1, events_until es (heard_by event 0 (led es) hs) rest s.2)

-- The notes of all listeners now are by what they answer: so are those that a journal tells of each, and then some more, where these are all.
abbrev pub AreNotesBy : List ListenerState → List (List Note) → Type 0
AreNotesBy hs now = (es : List Entry) (more : ℕ → List Note) → ((w : ℕ) → w < length hs → notes_at now w ≡ note_history w es ++ more w) → AreHistories 0 es more hs

-- nobody heard anything before
abbrev pub AreFresh : List (List Note) → Type 0
AreFresh notes = (w : ℕ) → notes_at notes w ≡ []

-- each event was answered, by what all heard
pub all_served : (hs : List ListenerState) (es : List Entry) (old now : List (List Note)) → AreNotesBy hs now → AreFresh old → length old ≡ length hs → AreInTurn (length hs) None es → IsAllHeard es old now → AreEventsServed hs es
all_served hs es old now by fresh count turns heard =
    let none : ℕ → List Note = λ w. [] in
    let p : AreHistories 0 es none hs = by es none (λ w lt. heard.notes w (omega (arith, lt, count)) ∙ ap (λ ns. ns ++ note_history w es) (fresh w) ∙ sym (append-nil (note_history w es))) in
    (history_served es hs None none turns p).0

-- each event but the last was, and there the dispatch ended
pub cut_served : (calls_left : CallsLeft) (f : DispatchFault) (hs : List ListenerState) (es : List Entry) (old now : List (List Note)) (c : IsDispatchCut calls_left f es old now) → AreNotesBy hs now → AreFresh old → length old ≡ length hs → AreInTurn (length hs) None es
    → AreServedUntil hs c.left (end_of f) es
cut_served calls_left f hs es old now c by fresh count turns =
    let all : AreInTurn (length hs) None (c.before ++ Fired c.event ∷ c.calls) = subst (λ xs. AreInTurn (length hs) None xs) c.entries_are turns in
    let many : length hs ≡ length c.middle = omega (arith, count, c.heard.count) in
    let led_calls : led c.calls ≡ c.calls = all_led 0 (length c.middle) c.calls c.in_turn in
    let few : (w : ℕ) → call_count w c.calls ≤ most_calls = λ w. subst (λ xs. call_count w xs ≤ most_calls) led_calls (few_of w (length hs) c.calls (turns_behind (length hs) None c.before c.event c.calls all)) in
    let more : ℕ → List Note = notes_behind c.middle now in
    let p : AreHistories 0 c.before more hs = by c.before more (λ w lt.
    front_notes c.event c.calls c.left c.middle now f c.end few w
    ∙ ap (λ ns. ns ++ more w) (c.heard.notes w (omega (arith, lt, count)) ∙ ap (λ ns. ns ++ note_history w c.before) (fresh w))) in
    let s = history_served c.before hs None more (turns_front (length hs) None c.before (Fired c.event ∷ c.calls) all) p in
    let event = failed_event (heard_all hs c.before) c.event c.calls c.left c.middle now f c.end c.in_turn few (all_length c.before hs ∙ many) s.1 in
    subst (λ xs. AreServedUntil hs c.left (end_of f) xs) (sym c.entries_are) (served_until c.before hs c.event c.calls c.left (end_of f) s.0 event)
