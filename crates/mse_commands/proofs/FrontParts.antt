-- A front of a script: lines that are done and a part of the next are the front of a whole journal, and the other way round.
use Rattle.std.proofs.Common.{◌≡◌, ◌∙◌, ℕ, suc, List, [], ◌∷◌, ◌++◌, refl, sym, ap, subst, inl, inr, append_assoc, arith}
use Rattle.std.specs.Prelude.{◌⊎◌, Option, Some, None}
use Rattle.std.proofs.lemmas.List.{append-nil}
use Rattle.mse_calls.specs.AnswerAndState.{AnswerAndState}
use Rattle.mse_calls.specs.declared.events.Event.{Event}
use Rattle.mse_calls.specs.declared.entry.Entry.{Entry}
use Rattle.mse_calls.specs.declared.entry.Entry.TheVariants.{Step, Script, Listener, Fired, Work, Element}
use Rattle.call_script.specs.declared.script.StepLine.{StepLine}
use Rattle.call_script.specs.declared.script.StepLine.TheVariants as step
use Rattle.mse_engine.specs.State.{State}
use Rattle.mse_engine.specs.Calls.{after_call}
use Rattle.mse_engine.specs.Work.{after_work, after_element_turn, fire_result}
use Rattle.mse_engine.specs.Run.{after_entries, entries_if, entry_meaning, fire_entries}
use Rattle.mse_engine.proofs.Transitions.{after_entries-append}
use Rattle.script_run.specs.DrainSteps.{AreInDrainOrder, IsAtRest}
use Rattle.script_run.specs.Follows.{AreLinesBegun, AreLinesDone, IsLineBegun, IsLineDone}
use Rattle.script_run.specs.Lines.{IsLineEntries, IsLineFront, IsWithin, Limits, own_of, play_inputs}
use Rattle.script_run.specs.Turns.{calls_in}
use Rattle.script_run.proofs.CallsInPlace.{in_place, in_turn}
use Rattle.script_run.proofs.CallsInRow.{silent_in_place}
use Rattle.script_run.proofs.FollowedLines.{order_then}
use Rattle.script_run.proofs.ListenerTurns.{AreInTurn, calls_in-append, turns_front, turns_then}
use Rattle.cut_law.specs.Plays.{drain_entries, line_entries, play_entries}
use Rattle.cut_law.proofs.Singles.{line-done, some-drain, some-play}

-- ---- what comes behind a front, without a call of a listener

-- the line has not begun, or is whole
short_rest : (blobs : List (List ℕ)) (st : State) (line : StepLine) (part : List Entry) → (part ≡ []) ⊎ IsLineEntries blobs st line part → (rest : List Entry) × IsLineEntries blobs st line (part ++ rest) × (calls_in rest ≡ 0)
short_rest blobs st line part (inl none) =
    let d = line-done blobs st line in
    (line_entries blobs st line, subst (λ (x : List Entry). IsLineEntries blobs st line (x ++ line_entries blobs st line)) (sym none) d.does, d.quiet)
short_rest blobs st line part (inr whole) = ([], subst (λ (x : List Entry). IsLineEntries blobs st line x) (sym (append-nil part)) whole, refl)

rest_of_line : (line : StepLine) (blobs : List (List ℕ)) (st : State) (part : List Entry) → IsLineFront blobs st line part → (rest : List Entry) × IsLineEntries blobs st line (part ++ rest) × (calls_in rest ≡ 0)
rest_of_line (step.Call call) blobs st part h = short_rest blobs st (step.Call call) part h
rest_of_line step.Fire blobs st part h = short_rest blobs st step.Fire part h
rest_of_line (step.Work k) blobs st part h = short_rest blobs st (step.Work k) part h
rest_of_line step.Element blobs st part h = short_rest blobs st step.Element part h
rest_of_line step.Drain blobs st part h =
    let now : State = after_entries blobs st part in
    let rest = some-drain blobs now in (
      drain_entries blobs now,
      record {
        order = order_then blobs st part (drain_entries blobs now) h rest.0.order;
        end = subst IsAtRest (sym (after_entries-append blobs st part (drain_entries blobs now))) rest.0.end;
      },
      rest.1,
    )

within_then : (limits : Limits) (xs ys : List Entry) → IsWithin limits xs → calls_in ys ≡ 0 → IsWithin limits (xs ++ ys)
within_then limits xs ys p silent = record {
  few = omega (arith, p.few, silent, calls_in-append xs ys);
  calls = in_place limits.count (xs ++ ys)
      (turns_then limits.count None xs ys (in_turn limits.count xs p.calls) (in_turn limits.count ys (silent_in_place limits.count ys silent)));
}

pub part_of_begun : (lines : List StepLine) (blobs : List (List ℕ)) (limits : Limits) (n : ℕ) (st : State) (entries : List Entry) → AreLinesBegun (play_inputs blobs limits) n st lines entries
    → (rest : List Entry) × AreLinesDone (play_inputs blobs limits) n st lines (entries ++ rest)
part_of_begun [] blobs limits n st entries none = ([], append-nil entries ∙ none)
part_of_begun (line ∷ lines) blobs limits n st entries (inl none) =
    let play : List Entry = play_entries blobs n st (line ∷ lines) in
    (play, subst (λ (x : List Entry). AreLinesDone (play_inputs blobs limits) n st (line ∷ lines) (x ++ play)) (sym none) (some-play blobs limits n st (line ∷ lines)).whole)
part_of_begun (line ∷ lines) blobs limits n st entries (inr (inl b)) =
    let more = rest_of_line line blobs st b.0 b.2.begins in
    let whole : List Entry = b.0 ++ more.0 in
    let now : State = after_entries blobs st whole in
    let play : List Entry = play_entries blobs (suc n) now lines in
    let done : AreLinesDone (play_inputs blobs limits) n st (line ∷ lines) (entries ++ (more.0 ++ play)) = (
      whole,
      play,
      ap (λ (x : List Entry). x ++ (more.0 ++ play)) b.1 ∙ ap (λ (x : List Entry). Step n ∷ x) (sym (append_assoc b.0 more.0 play)),
      record { does = more.1; within = within_then limits b.0 more.0 b.2.within more.2 },
      (some-play blobs limits (suc n) now lines).whole,
    ) in
    (more.0 ++ play, done)
part_of_begun (line ∷ lines) blobs limits n st entries (inr (inr d)) =
    let later = part_of_begun lines blobs limits (suc n) (after_entries blobs st d.0) d.1 d.4 in
    let done : AreLinesDone (play_inputs blobs limits) n st (line ∷ lines) (entries ++ later.0) = (
      d.0,
      d.1 ++ later.0,
      ap (λ (x : List Entry). x ++ later.0) d.2 ∙ ap (λ (x : List Entry). Step n ∷ x) (append_assoc d.0 d.1 later.0),
      d.3,
      later.1,
    ) in
    (later.0, done)

-- ---- a front of what is whole

-- one list cut at two places
cut_twice : (xs ys zs ws : List Entry) → xs ++ ys ≡ zs ++ ws → ((more : List Entry) × (zs ≡ xs ++ more)) ⊎ ((more : List Entry) × (xs ≡ zs ++ more) × (ws ≡ more ++ ys))
cut_twice [] ys zs ws e = inl (zs, refl)
cut_twice (x ∷ xs) ys [] ws e = inr (x ∷ xs, refl, sym e)
cut_twice (x ∷ xs) ys (z ∷ zs) ws e =
    let head : x ≡ z = cc in
    let tail : xs ++ ys ≡ zs ++ ws = cc in
    elim (cut_twice xs ys zs ws tail) [
      | inl p ↦ inl (p.0, ap (λ (a : Entry). a ∷ zs) (sym head) ∙ ap (λ (a : List Entry). x ∷ a) p.1)
      | inr p ↦ inr (p.0, ap (λ (a : Entry). a ∷ xs) head ∙ ap (λ (a : List Entry). z ∷ a) p.1, p.2)
    ]

none_left : (xs ys : List Entry) → xs ++ ys ≡ [] → xs ≡ []
none_left [] ys e = refl
none_left (x ∷ xs) ys e = absurd (cc)

-- where nothing but calls is in all, nothing but calls is in a front
own_none : (xs ys : List Entry) → own_of (xs ++ ys) ≡ [] → own_of xs ≡ []
own_none [] ys e = refl
own_none (Listener w call answer ∷ xs) ys e = own_none xs ys e
own_none (Step n ∷ xs) ys e = absurd (cc)
own_none (Script call answer ∷ xs) ys e = absurd (cc)
own_none (Fired event ∷ xs) ys e = absurd (cc)
own_none (Work k ∷ xs) ys e = absurd (cc)
own_none (Element ∷ xs) ys e = absurd (cc)

own_behind : (x y : Entry) (xs ys : List Entry) → y ∷ own_of (xs ++ ys) ≡ x ∷ [] → y ∷ own_of xs ≡ x ∷ []
own_behind x y xs ys e =
    let head : y ≡ x = cc in
    let tail : own_of (xs ++ ys) ≡ [] = cc in
    ap (λ (a : Entry). a ∷ own_of xs) head ∙ ap (λ (a : List Entry). x ∷ a) (own_none xs ys tail)

-- a front of the entries of a thing that is done: nothing, or the thing with some of the calls behind it
own_front : (count : ℕ) (xs ys : List Entry) (x : Entry) → AreInTurn count None xs → own_of (xs ++ ys) ≡ x ∷ [] → (xs ≡ []) ⊎ (own_of xs ≡ x ∷ [])
own_front count [] ys x t e = inl refl
own_front count (Listener w call answer ∷ xs) ys x t e = absurd t
own_front count (Step n ∷ xs) ys x t e = inr (own_behind x (Step n) xs ys e)
own_front count (Script call answer ∷ xs) ys x t e = inr (own_behind x (Script call answer) xs ys e)
own_front count (Fired event ∷ xs) ys x t e = inr (own_behind x (Fired event) xs ys e)
own_front count (Work k ∷ xs) ys x t e = inr (own_behind x (Work k) xs ys e)
own_front count (Element ∷ xs) ys x t e = inr (own_behind x Element xs ys e)

fire_front : (o : Option (AnswerAndState Event State)) (count : ℕ) (xs ys : List Entry) → AreInTurn count None xs → own_of (xs ++ ys) ≡ fire_entries o → (xs ≡ []) ⊎ (own_of xs ≡ fire_entries o)
fire_front None count xs ys t e = inr (own_none xs ys e)
fire_front (Some fired) count xs ys t e = own_front count xs ys (Fired fired.answer) t e

if_front : (o : Option State) (x : Entry) (count : ℕ) (xs ys : List Entry) → AreInTurn count None xs → own_of (xs ++ ys) ≡ entries_if o x → (xs ≡ []) ⊎ (own_of xs ≡ entries_if o x)
if_front None x count xs ys t e = inr (own_none xs ys e)
if_front (Some st) x count xs ys t e = own_front count xs ys x t e

order_front : (blobs : List (List ℕ)) (st : State) (xs ys : List Entry) → AreInDrainOrder blobs st (xs ++ ys) → AreInDrainOrder blobs st xs
order_front blobs st [] ys p = tt
order_front blobs st (x ∷ xs) ys p = (p.0, order_front blobs (entry_meaning blobs st x).state xs ys p.1)

front_of_line : (line : StepLine) (blobs : List (List ℕ)) (st : State) (count : ℕ) (xs ys : List Entry) → AreInTurn count None xs → IsLineEntries blobs st line (xs ++ ys) → IsLineFront blobs st line xs
front_of_line (step.Call call) blobs st count xs ys t d = own_front count xs ys (Script call (after_call blobs call st).answer) t d
front_of_line step.Fire blobs st count xs ys t d = fire_front (fire_result st) count xs ys t d
front_of_line (step.Work k) blobs st count xs ys t d = if_front (after_work k st) (Work k) count xs ys t d
front_of_line step.Element blobs st count xs ys t d = if_front (after_element_turn st) Element count xs ys t d
front_of_line step.Drain blobs st count xs ys t d = order_front blobs st xs ys d.order

within_front : (limits : Limits) (xs ys : List Entry) → IsWithin limits (xs ++ ys) → IsWithin limits xs
within_front limits xs ys p = record {
  few = omega (arith, p.few, calls_in-append xs ys);
  calls = in_place limits.count xs (turns_front limits.count None xs ys (in_turn limits.count (xs ++ ys) p.calls));
}

line_begun : (line : StepLine) (blobs : List (List ℕ)) (limits : Limits) (st : State) (xs ys part : List Entry) → part ≡ xs ++ ys → IsLineDone (play_inputs blobs limits) st line part → IsLineBegun (play_inputs blobs limits) st line xs
line_begun line blobs limits st xs ys part is d =
    let within : IsWithin limits xs = within_front limits xs ys (subst (λ (a : List Entry). IsWithin limits a) is d.within) in
    record {
      begins = front_of_line line blobs st limits.count xs ys (in_turn limits.count xs within.calls) (subst (λ (a : List Entry). IsLineEntries blobs st line a) is d.does);
      within = within;
    }

pub begun_of_part : (lines : List StepLine) (blobs : List (List ℕ)) (limits : Limits) (n : ℕ) (st : State) (entries rest : List Entry) → AreLinesDone (play_inputs blobs limits) n st lines (entries ++ rest)
    → AreLinesBegun (play_inputs blobs limits) n st lines entries
begun_of_part [] blobs limits n st entries rest d = none_left entries rest d
begun_of_part (line ∷ lines) blobs limits n st [] rest d = inl refl
begun_of_part (line ∷ lines) blobs limits n st (x ∷ xs) rest d =
    let whole : x ∷ (xs ++ rest) ≡ Step n ∷ (d.0 ++ d.1) = d.2 in
    let head : x ≡ Step n = cc (whole) in
    let tail : xs ++ rest ≡ d.0 ++ d.1 = cc (whole) in
    elim (cut_twice xs rest d.0 d.1 tail) [
      | inl p ↦ inr (inl (xs, ap (λ (a : Entry). a ∷ xs) head, line_begun line blobs limits st xs p.0 d.0 p.1 d.3))
      | inr p ↦ inr (inr (
        d.0,
        p.0,
        ap (λ (a : Entry). a ∷ xs) head ∙ ap (λ (a : List Entry). Step n ∷ a) p.1,
        d.3,
        begun_of_part lines blobs limits (suc n) (after_entries blobs st d.0) p.0 rest (subst (λ (a : List Entry). AreLinesDone (play_inputs blobs limits) (suc n) (after_entries blobs st d.0) lines a) p.2 d.4),
      ))
    ]
