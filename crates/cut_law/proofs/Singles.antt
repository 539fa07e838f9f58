-- A script has one journal that follows it, replays and has no call of a listener: that of its play.
use Rattle.std.proofs.Common.{◌≡◌, ℕ, zero, suc, ◌<◌, Bool, true, false, List, [], ◌∷◌, ◌++◌, refl, ap, sym, subst, ◌∙◌, arith}
use Rattle.std.specs.Prelude.{Option, Some, None, slice_get}
use Rattle.mse_calls.specs.AnswerAndState.{AnswerAndState}
use Rattle.mse_calls.specs.declared.answers.Answer.{Answer}
use Rattle.mse_calls.specs.declared.calls.Call.TheVariants.{AppendBuffer}
use Rattle.mse_calls.specs.declared.calls.Piece.{Piece}
use Rattle.mse_calls.specs.declared.events.Event.{Event}
use Rattle.mse_calls.specs.declared.entry.Entry.{Entry}
use Rattle.mse_calls.specs.declared.entry.Entry.TheVariants.{Step, Script, Listener, Fired, Work, Element}
use Rattle.call_script.specs.declared.script.StepLine.{StepLine}
use Rattle.call_script.specs.declared.script.StepLine.TheVariants as step
use Rattle.mse_engine.specs.State.{State}
use Rattle.mse_engine.specs.Work.{after_work, after_element_turn, fire_result, running_in, is_turn_due}
use Rattle.mse_engine.specs.Run.{entry_meaning, step_meaning, fire_meaning, after_entries, IsReplay, fire_entries, entries_if}
use Rattle.script_run.specs.DrainSteps.{IsDrain, IsNextStep, IsAtRest, AreInDrainOrder}
use Rattle.script_run.specs.Turns.{calls_in}
use Rattle.script_run.specs.Lines.{own_of, IsLineEntries, Limits, IsWithin, PlayInputs, play_inputs}
use Rattle.script_run.proofs.CallsInRow.{silent_in_place}
use Rattle.script_run.specs.Follows.{AreLinesDone}
use Rattle.cut_law.specs.Plays.{after_entry, fired_entries, next_entry_by, next_entry, entries_behind, entries_then, drain_in, drain_entries, steps_left, line_entries, after_line, play_entries, play_of}
use Rattle.cut_law.specs.Files.{after_piece}
use Rattle.cut_law.specs.Outcomes.{AreAlike}
use Rattle.cut_law.specs.Silent.{AreCutsAlike, IsSilentJournal}
use Rattle.cut_law.proofs.AwaitedAppends.{recutting}
use Rattle.cut_law.proofs.DrainEnds.{with_queue, without-events, work-falls, work-holds, turn-holds, turn-falls}

-- ---- no listener calls

-- what is said of entries of which none is a listener's call
quiet-parts : (xs ys : List Entry) → calls_in (xs ++ ys) ≡ 0 → (calls_in xs ≡ 0) × (calls_in ys ≡ 0)
quiet-parts [] ys q = (refl, q)
quiet-parts (Listener w call answer ∷ xs) ys q = absurd (omega (arith, q))
quiet-parts (Script call answer ∷ xs) ys q = quiet-parts xs ys q
quiet-parts (Step n ∷ xs) ys q = quiet-parts xs ys q
quiet-parts (Fired event ∷ xs) ys q = quiet-parts xs ys q
quiet-parts (Work k ∷ xs) ys q = quiet-parts xs ys q
quiet-parts (Element ∷ xs) ys q = quiet-parts xs ys q

own-all : (xs : List Entry) → calls_in xs ≡ 0 → own_of xs ≡ xs
own-all [] q = refl
own-all (Listener w call answer ∷ xs) q = absurd (omega (arith, q))
own-all (Script call answer ∷ xs) q = ap (λ es. Script call answer ∷ es) (own-all xs q)
own-all (Step n ∷ xs) q = ap (λ es. Step n ∷ es) (own-all xs q)
own-all (Fired event ∷ xs) q = ap (λ es. Fired event ∷ es) (own-all xs q)
own-all (Work k ∷ xs) q = ap (λ es. Work k ∷ es) (own-all xs q)
own-all (Element ∷ xs) q = ap (λ es. Element ∷ es) (own-all xs q)

-- ---- what a drain does next is one thing

abbrev due_by : Option Event → Option Entry → Option Entry
due_by (Some event) next = Some (Fired event)
due_by None next = next

abbrev due : State → Option Entry
due st = due_by (slice_get st.element.queue 0) (next_entry st)

no-event : (queue : List Event) → queue ≡ [] → slice_get queue 0 ≡ None
no-event [] e = refl
no-event (x ∷ xs) e = absurd (cc)

next-due : (st : State) (entry : Entry) (entries : List Entry) → IsNextStep st entry → calls_in (entry ∷ entries) ≡ 0 → due st ≡ Some entry
next-due st (Fired event) entries n q = ap (λ x. due_by x (next_entry st)) n
next-due st (Work k) entries n q =
    ap (λ x. due_by x (next_entry st)) (no-event st.element.queue n.0)
    ∙ ap (λ low. next_entry_by low (is_turn_due st)) n.1
next-due st Element entries n q =
    ap (λ x. due_by x (next_entry st)) (no-event st.element.queue n.0.queue)
    ∙ ap (λ low. next_entry_by low (is_turn_due st)) n.0.running
    ∙ ap (λ t. next_entry_by None t) n.1
next-due st (Listener w call answer) entries n q = absurd (omega (arith, q))
next-due st (Script call answer) entries n q = absurd n
next-due st (Step n) entries next q = absurd next

rest-due : (st : State) → IsAtRest st → due st ≡ None
rest-due st r =
    ap (λ x. due_by x (next_entry st)) (no-event st.element.queue r.quiet.queue)
    ∙ ap (λ low. next_entry_by low (is_turn_due st)) r.quiet.running
    ∙ ap (λ t. next_entry_by None t) r.due

one-drain : (blobs : List (List ℕ)) (st : State) (xs ys : List Entry) → AreInDrainOrder blobs st xs → IsAtRest (after_entries blobs st xs) → calls_in xs ≡ 0
    → AreInDrainOrder blobs st ys → IsAtRest (after_entries blobs st ys) → calls_in ys ≡ 0 → xs ≡ ys
one-drain blobs st [] [] a r q b s p = refl
one-drain blobs st [] (y ∷ ys) a r q b s p =
    let here : due st ≡ None = rest-due st r in
    let there : due st ≡ Some y = next-due st y ys b.0 p in
    absurd (cc)
one-drain blobs st (x ∷ xs) [] a r q b s p =
    let here : due st ≡ None = rest-due st s in
    let there : due st ≡ Some x = next-due st x xs a.0 q in
    absurd (cc)
one-drain blobs st (x ∷ xs) (y ∷ ys) a r q b s p =
    let here : due st ≡ Some x = next-due st x xs a.0 q in
    let there : due st ≡ Some y = next-due st y ys b.0 p in
    let same : x ≡ y = cc in
    let order : AreInDrainOrder blobs (after_entry blobs st x) ys = subst (λ e. AreInDrainOrder blobs (after_entry blobs st e) ys) (sym same) b.1 in
    let rest : IsAtRest (after_entries blobs (after_entry blobs st x) ys) = subst (λ e. IsAtRest (after_entries blobs (after_entry blobs st e) ys)) (sym same) s in
    let tails : xs ≡ ys = one-drain blobs (after_entry blobs st x) xs ys a.1 r (quiet-parts (x ∷ []) xs q).1 order rest (quiet-parts (y ∷ []) ys p).1 in
    ap (λ e. e ∷ xs) same ∙ ap (λ es. y ∷ es) tails

-- ---- the drain of the play is one

-- the entries are a drain, without a listener's call, and replay
pub record IsReplayedDrain (blobs : List (List ℕ)) (st : State) (entries : List Entry) : Type 0 where
  pub order : AreInDrainOrder blobs st entries
  pub end : IsAtRest (after_entries blobs st entries)
  pub quiet : calls_in entries ≡ 0
  pub replays : IsReplay blobs st entries

-- one entry that replays, and a drain behind it
drained-more : (blobs : List (List ℕ)) (st : State) (entry : Entry) (entries : List Entry) → IsNextStep st entry → calls_in (entry ∷ []) ≡ 0 → (entry_meaning blobs st entry).holds
    → IsReplayedDrain blobs (after_entry blobs st entry) entries → IsReplayedDrain blobs st (entry ∷ entries)
drained-more blobs st entry entries n q h d =
    record { order = (n, d.order); end = d.end; quiet = quiet-more (entry ∷ []) entries q d.quiet; replays = (h, d.replays) }
  where
    quiet-more : (xs ys : List Entry) → calls_in xs ≡ 0 → calls_in ys ≡ 0 → calls_in (xs ++ ys) ≡ 0
    quiet-more [] ys p q = q
    quiet-more (Listener w call answer ∷ xs) ys p q = absurd (omega (arith, p))
    quiet-more (Script call answer ∷ xs) ys p q = quiet-more xs ys p q
    quiet-more (Step n ∷ xs) ys p q = quiet-more xs ys p q
    quiet-more (Fired event ∷ xs) ys p q = quiet-more xs ys p q
    quiet-more (Work k ∷ xs) ys p q = quiet-more xs ys p q
    quiet-more (Element ∷ xs) ys p q = quiet-more xs ys p q

drained-events : (blobs : List (List ℕ)) (st : State) (queue : List Event) (entries : List Entry) → IsReplayedDrain blobs (with_queue [] st) entries → IsReplayedDrain blobs (with_queue queue st) (fired_entries queue ++ entries)
drained-events blobs st [] entries d = d
drained-events blobs st (event ∷ events) entries d =
    drained-more blobs (with_queue (event ∷ events) st) (Fired event) (fired_entries events ++ entries) refl refl refl (drained-events blobs st events entries d)

then-drained : (low : Option ℕ) (t : Bool) (n : ℕ) (blobs : List (List ℕ)) (st : State) → running_in st ≡ low → is_turn_due st ≡ t → st.element.queue ≡ [] → steps_left st < suc n
    → ((new : State) → steps_left new < n → IsReplayedDrain blobs new (drain_in n blobs new))
    → IsReplayedDrain blobs st (entries_behind (next_entry_by low t) (λ entry. drain_in n blobs (after_entry blobs st entry)))
then-drained (Some k) t n blobs st r d q l f =
    let fewer : steps_left (after_entry blobs st (Work k)) < steps_left st = work-falls blobs st k r in
    drained-more blobs st (Work k) (drain_in n blobs (after_entry blobs st (Work k))) (q, r) refl (work-holds st k r) (f (after_entry blobs st (Work k)) (omega (arith, fewer, l)))
then-drained None true n blobs st r d q l f =
    let fewer : steps_left (after_entry blobs st Element) < steps_left st = turn-falls blobs st r d in
    drained-more blobs st Element (drain_in n blobs (after_entry blobs st Element)) (record { queue = q; running = r }, d) refl
    (turn-holds st d)
    (f (after_entry blobs st Element) (omega (arith, fewer, l)))
then-drained None false n blobs st r d q l f = record { order = tt; end = record { quiet = record { queue = q; running = r }; due = d }; quiet = refl; replays = tt }

drained-in : (n : ℕ) (blobs : List (List ℕ)) (st : State) → steps_left st < n → IsReplayedDrain blobs st (drain_in n blobs st)
drained-in zero blobs st l = absurd (omega arith)
drained-in (suc n) blobs st l =
    let still : State = with_queue [] st in
    let rest : IsReplayedDrain blobs still (entries_then (drain_in n blobs) blobs still) = then-drained (running_in still) (is_turn_due still) n blobs still refl refl refl l (λ new fewer. drained-in n blobs new fewer) in
    let all : IsReplayedDrain blobs st (fired_entries st.element.queue ++ entries_then (drain_in n blobs) blobs still) = drained-events blobs st st.element.queue (entries_then (drain_in n blobs) blobs still) rest in
    subst (λ s. IsReplayedDrain blobs st (fired_entries st.element.queue ++ entries_then (drain_in n blobs) blobs s)) (sym (without-events blobs st st.element.queue)) all

drained : (blobs : List (List ℕ)) (st : State) → IsReplayedDrain blobs st (drain_entries blobs st)
unfolding drain_entries
drained blobs st = drained-in (suc (steps_left st)) blobs st (omega arith)

-- a drain without a listener's call is the one of the play
pub quiet-drain : (blobs : List (List ℕ)) (st : State) (part : List Entry) → IsDrain blobs st part → calls_in part ≡ 0 → part ≡ drain_entries blobs st
quiet-drain blobs st part d q =
    let e = drained blobs st in
    one-drain blobs st part (drain_entries blobs st) d.order d.end q e.order e.end e.quiet

-- ---- lines

within : (limits : Limits) (xs : List Entry) → calls_in xs ≡ 0 → IsWithin limits xs
within limits xs q = record { few = omega (arith, q); calls = silent_in_place limits.count xs q }

-- the entries of a line do what the line says, replay, and have no listener's call
pub record IsReplayedLine (blobs : List (List ℕ)) (st : State) (line : StepLine) (part : List Entry) : Type 0 where
  pub does : IsLineEntries blobs st line part
  pub quiet : calls_in part ≡ 0
  pub replays : IsReplay blobs st part

fired-own : (o : Option (AnswerAndState Event State)) → own_of (fire_entries o) ≡ fire_entries o
fired-own None = refl
fired-own (Some a) = refl

fired-quiet : (o : Option (AnswerAndState Event State)) → calls_in (fire_entries o) ≡ 0
fired-quiet None = refl
fired-quiet (Some a) = refl

fired-replays : (o : Option (AnswerAndState Event State)) (blobs : List (List ℕ)) (st : State) → fire_result st ≡ o → IsReplay blobs st (fire_entries o)
fired-replays None blobs st e = tt
fired-replays (Some a) blobs st e = (subst (λ o. (fire_meaning o a.answer st).holds) (sym e) refl, tt)

if-work : (o : Option State) (k : ℕ) → (own_of (entries_if o (Work k)) ≡ entries_if o (Work k)) × (calls_in (entries_if o (Work k)) ≡ 0)
if-work None k = (refl, refl)
if-work (Some new) k = (refl, refl)

if-turn : (o : Option State) → (own_of (entries_if o Element) ≡ entries_if o Element) × (calls_in (entries_if o Element) ≡ 0)
if-turn None = (refl, refl)
if-turn (Some new) = (refl, refl)

work-replays : (o : Option State) (blobs : List (List ℕ)) (st : State) (k : ℕ) → after_work k st ≡ o → IsReplay blobs st (entries_if o (Work k))
work-replays None blobs st k e = tt
work-replays (Some new) blobs st k e = (subst (λ o. (step_meaning o st).holds) (sym e) tt, tt)

turn-replays : (o : Option State) (blobs : List (List ℕ)) (st : State) → after_element_turn st ≡ o → IsReplay blobs st (entries_if o Element)
turn-replays None blobs st e = tt
turn-replays (Some new) blobs st e = (subst (λ o. (step_meaning o st).holds) (sym e) tt, tt)

pub line-done : (blobs : List (List ℕ)) (st : State) (line : StepLine) → IsReplayedLine blobs st line (line_entries blobs st line)
line-done blobs st (step.Call call) = record { does = refl; quiet = refl; replays = (refl, tt) }
line-done blobs st step.Fire = record { does = fired-own (fire_result st); quiet = fired-quiet (fire_result st); replays = fired-replays (fire_result st) blobs st refl }
line-done blobs st (step.Work k) =
    let p = if-work (after_work k st) k in
    record { does = p.0; quiet = p.1; replays = work-replays (after_work k st) blobs st k refl }
line-done blobs st step.Element =
    let p = if-turn (after_element_turn st) in
    record { does = p.0; quiet = p.1; replays = turn-replays (after_element_turn st) blobs st refl }
line-done blobs st step.Drain =
    let d = drained blobs st in
    record { does = record { order = d.order; end = d.end }; quiet = d.quiet; replays = d.replays }

one-line : (blobs : List (List ℕ)) (st : State) (line : StepLine) (part : List Entry) → IsLineEntries blobs st line part → IsReplay blobs st part → calls_in part ≡ 0 → part ≡ line_entries blobs st line
one-line blobs st (step.Call call) part d r q = sym (own-all part q) ∙ d
one-line blobs st step.Fire part d r q = sym (own-all part q) ∙ d
one-line blobs st (step.Work k) part d r q = sym (own-all part q) ∙ d
one-line blobs st step.Element part d r q = sym (own-all part q) ∙ d
one-line blobs st step.Drain part d r q = quiet-drain blobs st part d q

-- ---- scripts

replays-parts : (blobs : List (List ℕ)) (st : State) (xs ys : List Entry) → IsReplay blobs st (xs ++ ys) → IsReplay blobs st xs × IsReplay blobs (after_entries blobs st xs) ys
replays-parts blobs st [] ys r = (tt, r)
replays-parts blobs st (x ∷ xs) ys r = let p = replays-parts blobs (after_entry blobs st x) xs ys r.1 in ((r.0, p.0), p.1)

replays-join : (blobs : List (List ℕ)) (st : State) (xs ys : List Entry) → IsReplay blobs st xs → IsReplay blobs (after_entries blobs st xs) ys → IsReplay blobs st (xs ++ ys)
replays-join blobs st [] ys r s = s
replays-join blobs st (x ∷ xs) ys r s = (r.0, replays-join blobs (after_entry blobs st x) xs ys r.1 s)

quiet-join : (xs ys : List Entry) → calls_in xs ≡ 0 → calls_in ys ≡ 0 → calls_in (xs ++ ys) ≡ 0
quiet-join [] ys p q = q
quiet-join (Listener w call answer ∷ xs) ys p q = absurd (omega (arith, p))
quiet-join (Script call answer ∷ xs) ys p q = quiet-join xs ys p q
quiet-join (Step n ∷ xs) ys p q = quiet-join xs ys p q
quiet-join (Fired event ∷ xs) ys p q = quiet-join xs ys p q
quiet-join (Work k ∷ xs) ys p q = quiet-join xs ys p q
quiet-join (Element ∷ xs) ys p q = quiet-join xs ys p q

-- what holds of the journal of some lines, of which the first has the number n
pub record IsPlayFrom (inputs : PlayInputs) (n : ℕ) (st : State) (lines : List StepLine) (entries : List Entry) : Type 0 where
  pub whole : AreLinesDone inputs n st lines entries
  pub replays : IsReplay inputs.blobs st entries
  pub silent : calls_in entries ≡ 0

pub some-play : (blobs : List (List ℕ)) (limits : Limits) (n : ℕ) (st : State) (lines : List StepLine) → IsPlayFrom (play_inputs blobs limits) n st lines (play_entries blobs n st lines)
some-play blobs limits n st [] = record { whole = refl; replays = tt; silent = refl }
some-play blobs limits n st (line ∷ lines) =
    let part : List Entry = line_entries blobs st line in
    let rest : List Entry = play_entries blobs (suc n) (after_line blobs st line) lines in
    let d = line-done blobs st line in
    let p = some-play blobs limits (suc n) (after_line blobs st line) lines in
    record {
      whole = (part, rest, refl, record { does = d.does; within = within limits part d.quiet }, p.whole);
      replays = (tt, replays-join blobs st part rest d.replays p.replays);
      silent = quiet-join part rest d.quiet p.silent;
    }

pub one-play : (blobs : List (List ℕ)) (limits : Limits) (n : ℕ) (st : State) (lines : List StepLine) (entries : List Entry) → AreLinesDone (play_inputs blobs limits) n st lines entries → IsReplay blobs st entries → calls_in entries ≡ 0
    → entries ≡ play_entries blobs n st lines
one-play blobs limits n st [] entries w r q = w
one-play blobs limits n st (line ∷ lines) entries w r q =
    let part : List Entry = w.0 in
    let rest : List Entry = w.1 in
    let replays : IsReplay blobs st (Step n ∷ (part ++ rest)) = subst (λ es. IsReplay blobs st es) w.2 r in
    let both = replays-parts blobs st part rest replays.1 in
    let none : calls_in (part ++ rest) ≡ 0 = ap calls_in (sym w.2) ∙ q in
    let quiet = quiet-parts part rest none in
    let same : part ≡ line_entries blobs st line = one-line blobs st line part w.3.does both.0 quiet.0 in
    let later : AreLinesDone (play_inputs blobs limits) (suc n) (after_line blobs st line) lines rest = subst (λ es. AreLinesDone (play_inputs blobs limits) (suc n) (after_entries blobs st es) lines rest) same w.4 in
    let behind : IsReplay blobs (after_line blobs st line) rest = subst (λ es. IsReplay blobs (after_entries blobs st es) rest) same both.1 in
    let tail : rest ≡ play_entries blobs (suc n) (after_line blobs st line) lines = one-play blobs limits (suc n) (after_line blobs st line) lines rest later behind quiet.1 in
    w.2 ∙ ap (λ es. Step n ∷ (es ++ rest)) same ∙ ap (λ es. Step n ∷ (line_entries blobs st line ++ es)) tail

pub silent-play : (blobs : List (List ℕ)) (limits : Limits) (st : State) (lines : List StepLine) → IsSilentJournal blobs limits st lines (play_entries blobs 0 st lines)
silent-play blobs limits st lines = let p = some-play blobs limits 0 st lines in record { whole = p.whole; replays = p.replays; silent = p.silent }

pub cuts-alike : (blobs : List (List ℕ)) (limits : Limits) (st : State) (s : List StepLine) (entries : List Entry) → IsSilentJournal blobs limits st s entries
    → AreCutsAlike blobs st s (after_entries blobs st entries)
cuts-alike blobs limits st s entries j = λ cuts t us are.
    let same : play_of blobs st s ≡ after_entries blobs st entries =
    sym (ap (λ es. after_entries blobs st es) (one-play blobs limits 0 st s entries j.whole j.replays j.silent)) in
    subst (λ last. AreAlike (play_of blobs st t) last) same (recutting cuts blobs st s t us are)

-- an append that is drained without a listener's call comes to what the same lines of the play come to
pub append-drained : (blobs : List (List ℕ)) (k : ℕ) (st : State) (piece : Piece) (answer : Answer) (part : List Entry) → IsDrain blobs (after_entries blobs st (Script (AppendBuffer k piece) answer ∷ [])) part → calls_in part ≡ 0
    → after_entries blobs st (Script (AppendBuffer k piece) answer ∷ part) ≡ after_piece blobs k st piece
append-drained blobs k st piece answer part d q =
    let now : State = after_line blobs st (step.Call (AppendBuffer k piece)) in
    ap (λ es. after_entries blobs now es) (quiet-drain blobs now part d q)

-- a drain without a listener's call
pub some-drain : (blobs : List (List ℕ)) (st : State) → IsDrain blobs st (drain_entries blobs st) × (calls_in (drain_entries blobs st) ≡ 0)
some-drain blobs st = let d = line-done blobs st step.Drain in (d.does, d.quiet)
