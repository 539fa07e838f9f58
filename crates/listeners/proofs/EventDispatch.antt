-- The dispatch of an event, listener by listener.
use Rattle.std.proofs.Common.{◌≡◌, ◌≢◌, ℕ, ◌+◌, ◌<◌, ◌≤◌, List, [], ◌∷◌, ◌++◌, length, refl, sym, ◌∙◌, ap, arith, inl, inr, length-set, get_or-set_other, get_or-set_same, map, ne_eqb, subst, cond}
use Rattle.std.specs.Prelude.{Ok, Err, slice_set, get_or}
use Rattle.std.proofs.lemmas.List.{append-nil, get_or-map, map-set, length-map}
use Rattle.std.proofs.lemmas.Grind.{flat_map-append}
use Rattle.std.proofs.lemmas.List.Sums.{count_by-le-length, sum_by-append, sum_by-cons}
use Rattle.std.proofs.lemmas.List.Concat.{flat_map-cons}
use Rattle.std.proofs.Math.Seq.{map-set_same}
use Rattle.std.proofs.lemmas.Bool.{cases_lt}
use Rattle.mse_calls.specs.declared.answers.Answer.{Answer}
use Rattle.mse_calls.specs.declared.calls.Call.{Call}
use Rattle.mse_calls.specs.declared.events.Event.{Event}
use Rattle.mse_calls.specs.declared.entry.Entry.{Entry}
use Rattle.mse_calls.specs.declared.entry.Entry.TheVariants.{Listener}
use Rattle.mse_calls.specs.declared.rules.Rule.{Rule}
use Rattle.run_steps.specs.declared.note.Note.{Note}
use Rattle.listeners.specs.declared.event_dispatch.DispatchFault.{DispatchFault}
use Rattle.listeners.specs.Notes.{entry_notes, is_call_of, call_notes, call_count, event_notes}
use Rattle.listeners.specs.declared.event_dispatch.DispatchFault.TheVariants.{OutOfMemory, CallBudget, TaskBudget}
use Rattle.listeners.specs.Dispatch.{AreCallsInTurn, IsAfterCalls, TurnEnd, IsFault, IsServed, IsDispatch, AreServedBelow, AreUnheardFrom, notes_at}
use Rattle.listeners.specs.Views.{RunView, DispatchView, turn_view, dispatch_view}
use Rattle.listeners.proofs.ListenerTurns.{AreCallsInTurn-induction, makes_none, makes_then}

-- the listeners below `w` were served, and the others heard nothing
pub record IsDispatchUpTo (blobs : List (List ℕ)) (event : Event) (w : ℕ) (old new : DispatchView) : Type 0 where
  pub entries : List Entry
  pub calls : IsAfterCalls blobs old.run new.run entries
  pub in_turn : AreCallsInTurn 0 w entries
  pub few : (k : ℕ) → call_count k entries ≤ 1000
  pub same : length new.notes ≡ length old.notes
  pub served : AreServedBelow event entries w old.notes new.notes
  pub behind : AreUnheardFrom w entries old.notes new.notes

-- a listener has no calls among those of others
abbrev pub HasNoCalls : ℕ → List Entry → Type 0
HasNoCalls k xs = (call_notes k xs ≡ []) × (call_count k xs ≡ 0)

no_calls_with : (v k : ℕ) (call : Call) (answer : Answer) (xs : List Entry) → v ≢ k → HasNoCalls k xs → HasNoCalls k (Listener v call answer ∷ xs)
no_calls_with v k call answer xs ne h = (
  flat_map-cons (entry_notes k) (Listener v call answer) xs ∙ rw (ne_eqb v k ne) h.0,
  sum_by-cons (λ e. cond (is_call_of k e) 1 0) (Listener v call answer) xs ∙ rw (ne_eqb v k ne) (omega (arith, h.1)),
)

-- one of a number below those of the calls, or above them
pub no_calls_below : (low high k : ℕ) (xs : List Entry) → k < low → AreCallsInTurn low high xs → HasNoCalls k xs
no_calls_below low high k xs lt h = AreCallsInTurn-induction (λ l ys. k < l → HasNoCalls k ys) high
    (λ l lt. (refl, refl))
    (λ l v call answer ys le up rest p lt. no_calls_with v k call answer ys (omega (arith, le, lt)) (p (omega (arith, le, lt))))
    low xs h lt

pub no_calls_above : (low high k : ℕ) (xs : List Entry) → high ≤ k → AreCallsInTurn low high xs → HasNoCalls k xs
no_calls_above low high k xs above h = AreCallsInTurn-induction (λ l ys. HasNoCalls k ys) high
    (λ l. (refl, refl))
    (λ l v call answer ys le up rest p. no_calls_with v k call answer ys (omega (arith, up, above)) p)
    low xs h

in_turn_from : (low mid high : ℕ) (xs : List Entry) → low ≤ mid → AreCallsInTurn mid high xs → AreCallsInTurn low high xs
in_turn_from low mid high xs le h = AreCallsInTurn-induction (λ l ys. (m : ℕ) → m ≤ l → AreCallsInTurn m high ys) high
    (λ l m le. tt)
    (λ l v call answer ys from up rest p m le. (omega (arith, from, le), up, rest))
    mid xs h low le

-- calls in turn, and then others of higher numbers
in_turn_then : (low mid high : ℕ) (xs ys : List Entry) → low ≤ mid → mid ≤ high → AreCallsInTurn low mid xs → AreCallsInTurn mid high ys → AreCallsInTurn low high (xs ++ ys)
in_turn_then low mid high xs ys le up h q = AreCallsInTurn-induction (λ l zs. l ≤ mid → AreCallsInTurn l high (zs ++ ys)) mid
    (λ l le. in_turn_from l mid high ys le q)
    (λ l v call answer zs from lt rest p le. (from, omega (arith, lt, up), p (omega (arith, lt))))
    low xs h le

in_turn_below : (low mid high : ℕ) (xs : List Entry) → mid ≤ high → AreCallsInTurn low mid xs → AreCallsInTurn low high xs
in_turn_below low mid high xs up h = AreCallsInTurn-induction (λ l ys. AreCallsInTurn l high ys) mid
    (λ l. tt)
    (λ l v call answer ys from lt rest p. (from, omega (arith, lt, up), p))
    low xs h

call_count-append : (k : ℕ) (xs ys : List Entry) → call_count k (xs ++ ys) ≡ call_count k xs + call_count k ys
call_count-append k xs ys = sum_by-append (λ e. cond (is_call_of k e) 1 0) xs ys

-- of entries of listener `w` behind others, what they say of it, and of those of lower numbers
own_calls : (w : ℕ) (xs ys : List Entry) → AreCallsInTurn 0 w xs → (call_notes w (xs ++ ys) ≡ call_notes w ys) × (call_count w (xs ++ ys) ≡ call_count w ys)
own_calls w xs ys h =
    let none = no_calls_above 0 w w xs (omega arith) h in
    (flat_map-append (entry_notes w) xs ys ∙ ap (λ (x : List Note). x ++ call_notes w ys) none.0, omega (arith, call_count-append w xs ys, none.1))

lower_calls : (w k : ℕ) (xs ys : List Entry) → AreCallsInTurn w (w + 1) ys → k < w → call_notes k (xs ++ ys) ≡ call_notes k xs
lower_calls w k xs ys h lt =
    flat_map-append (entry_notes k) xs ys ∙ ap (λ (x : List Note). call_notes k xs ++ x) (no_calls_below w (w + 1) k ys lt h).0 ∙ append-nil (call_notes k xs)

higher_calls : (w k : ℕ) (xs ys : List Entry) → AreCallsInTurn 0 w xs → AreCallsInTurn w (w + 1) ys → w + 1 ≤ k → call_count k (xs ++ ys) ≡ 0
higher_calls w k xs ys h q le = omega (arith, call_count-append k xs ys, (no_calls_above 0 w k xs (omega (arith, le)) h).1, (no_calls_above w (w + 1) k ys le q).1)

-- each listener has at most 1000 calls, and so has the next one
few_more : (w : ℕ) (xs ys : List Entry) → AreCallsInTurn 0 w xs → AreCallsInTurn w (w + 1) ys → ((k : ℕ) → call_count k xs ≤ 1000) → length ys ≤ 1000
    → (k : ℕ) → call_count k (xs ++ ys) ≤ 1000
few_more w xs ys h q few short k =
    let least : call_count k ys ≤ length ys = count_by-le-length (is_call_of k) ys in
    elim (cases_lt k w) [
      | inl lt ↦ omega (arith, call_count-append k xs ys, few k, (no_calls_below w (w + 1) k ys lt q).1)
      | inr ge ↦ omega (arith, call_count-append k xs ys, (no_calls_above 0 w k xs ge h).1, least, short)
    ]

-- ---- the listeners, by their notes

pub progress_none : (blobs : List (List ℕ)) (event : Event) (v : DispatchView) → IsDispatchUpTo blobs event 0 v v
progress_none blobs event v = record {
  entries = [];
  calls = makes_none blobs v.run;
  in_turn = tt;
  few = λ k. omega arith;
  same = refl;
  served = λ k lt. absurd (omega (arith, lt));
  behind = λ k le. record { no_call = refl; notes = refl };
}

-- listener `w` has the notes `m` now: those before it are as they were, and those behind it too
served_before : (event : Event) (w : ℕ) (xs ys : List Entry) (n0 n1 : List (List Note)) (m : List Note)
    → AreCallsInTurn w (w + 1) ys → AreServedBelow event xs w n0 n1 → AreServedBelow event (xs ++ ys) w n0 (slice_set n1 w m)
served_before event w xs ys n0 n1 m q s = λ k lt.
    let ne : k ≢ w = omega (arith, lt) in
    rw (lower_calls w k xs ys q lt) (get_or-set_other n1 w k m [] ne ∙ s k lt)

unheard_behind : (w : ℕ) (xs ys : List Entry) (n0 n1 : List (List Note)) (m : List Note)
    → AreCallsInTurn 0 w xs → AreCallsInTurn w (w + 1) ys → AreUnheardFrom w xs n0 n1 → AreUnheardFrom (w + 1) (xs ++ ys) n0 (slice_set n1 w m)
unheard_behind w xs ys n0 n1 m h q u = λ k le.
    let ne : k ≢ w = omega (arith, le) in
    record { no_call = higher_calls w k xs ys h q le; notes = get_or-set_other n1 w k m [] ne ∙ (u k (omega (arith, le))).notes }

served_now : (event : Event) (w : ℕ) (xs ys : List Entry) (n0 n1 : List (List Note)) (m : List Note) (k : ℕ) → k ≡ w → AreCallsInTurn 0 w xs → w < length n1
    → notes_at n1 w ≡ notes_at n0 w → m ≡ notes_at n1 w ++ event_notes event w ys → notes_at (slice_set n1 w m) k ≡ notes_at n0 k ++ event_notes event k (xs ++ ys)
served_now event w xs ys n0 n1 m k e h lt same is =
    rw e (rw ((own_calls w xs ys h).0, get_or-set_same n1 w m [] lt, is, same) refl)

pub progress_more : (blobs : List (List ℕ)) (event : Event) (w : ℕ) (r0 r1 r2 : RunView) (n0 n1 : List (List Note)) (m : List Note)
    → IsDispatchUpTo blobs event w (dispatch_view r0 n0) (dispatch_view r1 n1) → w < length n1
    → IsServed blobs event (turn_view w r1 (notes_at n1 w)) (turn_view w r2 m) (Ok tt)
    → IsDispatchUpTo blobs event (w + 1) (dispatch_view r0 n0) (dispatch_view r2 (slice_set n1 w m))
progress_more blobs event w r0 r1 r2 n0 n1 m p lt t = record {
  entries = p.entries ++ t.entries;
  calls = makes_then blobs r0 r1 r2 p.entries t.entries p.calls t.calls;
  in_turn = in_turn_then 0 w (w + 1) p.entries t.entries (omega arith) (omega arith) p.in_turn t.own;
  few = few_more w p.entries t.entries p.in_turn t.own p.few t.few;
  same = length-set n1 w m ∙ p.same;
  served = λ k le. elim (cases_lt k w) [
    | inl lt2 ↦ served_before event w p.entries t.entries n0 n1 m t.own p.served k lt2
    | inr ge ↦ served_now event w p.entries t.entries n0 n1 m k (omega (arith, le, ge)) p.in_turn lt (p.behind w (omega arith)).notes t.notes
  ];
  behind = unheard_behind w p.entries t.entries n0 n1 m p.in_turn t.own p.behind;
}

pub dispatch_done : (blobs : List (List ℕ)) (event : Event) (w : ℕ) (old new : DispatchView)
    → IsDispatchUpTo blobs event w old new → w ≡ length old.notes → IsDispatch blobs event old new (Ok tt)
dispatch_done blobs event w old new p e = record {
  entries = p.entries;
  calls = p.calls;
  in_turn = in_turn_below 0 w (length old.notes) p.entries (omega (arith, e)) p.in_turn;
  few = p.few;
  outcome = λ k lt. p.served k (omega (arith, lt, e));
}

-- a fault is told by the listener's own calls, the calls that are left, and its notes
abbrev fault_end : ℕ → ℕ → List Entry → List Note → List Note → TurnEnd
fault_end w left entries before now = record { listener = w; entries = entries; left = left; before = before; now = now }

same_fault : (fault : DispatchFault) (event : Event) (w left : ℕ) (xs ys : List Entry) (b1 b2 m1 m2 : List Note)
    → call_notes w ys ≡ call_notes w xs → call_count w ys ≡ call_count w xs → b2 ≡ b1 → m2 ≡ m1
    → IsFault fault event (fault_end w left xs b1 m1) → IsFault fault event (fault_end w left ys b2 m2)
same_fault OutOfMemory event w left xs ys b1 b2 m1 m2 p q r s t = rw (p, q, r, s) t
same_fault (CallBudget k) event w left xs ys b1 b2 m1 m2 p q r s t = rw (p, q, r, s) t
same_fault TaskBudget event w left xs ys b1 b2 m1 m2 p q r s t = rw (p, q, r, s) t

pub dispatch_ends : (blobs : List (List ℕ)) (event : Event) (w : ℕ) (r0 r1 r2 : RunView) (n0 n1 : List (List Note)) (m : List Note) (fault : DispatchFault)
    → IsDispatchUpTo blobs event w (dispatch_view r0 n0) (dispatch_view r1 n1) → w < length n1
    → IsServed blobs event (turn_view w r1 (notes_at n1 w)) (turn_view w r2 m) (Err fault)
    → IsDispatch blobs event (dispatch_view r0 n0) (dispatch_view r2 (slice_set n1 w m)) (Err fault)
dispatch_ends blobs event w r0 r1 r2 n0 n1 m fault p lt t =
    let own = own_calls w p.entries t.entries p.in_turn in
    let within : w < length n0 = omega (arith, lt, p.same) in
    record {
      entries = p.entries ++ t.entries;
      calls = makes_then blobs r0 r1 r2 p.entries t.entries p.calls t.calls;
      in_turn = in_turn_below 0 (w + 1) (length n0) (p.entries ++ t.entries) (omega (arith, within)) (in_turn_then 0 w (w + 1) p.entries t.entries (omega arith) (omega arith) p.in_turn t.own);
      few = few_more w p.entries t.entries p.in_turn t.own p.few t.few;
      outcome = record {
        listener = w;
        within = within;
        served = served_before event w p.entries t.entries n0 n1 m t.own p.served;
        behind = unheard_behind w p.entries t.entries n0 n1 m p.in_turn t.own p.behind;
        ending = same_fault fault event w r2.left t.entries (p.entries ++ t.entries) (notes_at n1 w) (notes_at n0 w) m (notes_at (slice_set n1 w m) w)
            own.0 own.1 (sym (p.behind w (omega arith)).notes) (get_or-set_same n1 w m [] lt) t.notes;
      };
    }

-- ---- the same of a list of listeners

-- the notes of the listener at a place
notes_of_one : {X : Type 0} (notes : X → List Note) (xs : List X) (w : ℕ) (old : X) → w < length xs → old ≡ get_or xs w old → notes old ≡ notes_at (map notes xs) w
notes_of_one notes xs w old lt is = sym (get_or-map notes xs w old [] lt ∙ ap notes (sym is))

pub listeners_more : {X : Type 0} (notes : X → List Note) (blobs : List (List ℕ)) (event : Event) (w : ℕ) (r0 r1 r2 : RunView) (xs0 xs : List X) (old new : X)
    → IsDispatchUpTo blobs event w (dispatch_view r0 (map notes xs0)) (dispatch_view r1 (map notes xs)) → w < length xs → old ≡ get_or xs w old
    → IsServed blobs event (turn_view w r1 (notes old)) (turn_view w r2 (notes new)) (Ok tt)
    → IsDispatchUpTo blobs event (w + 1) (dispatch_view r0 (map notes xs0)) (dispatch_view r2 (map notes (slice_set xs w new)))
listeners_more notes blobs event w r0 r1 r2 xs0 xs old new p lt is t =
    let t2 = subst (λ (x : List Note). IsServed blobs event (turn_view w r1 x) (turn_view w r2 (notes new)) (Ok tt)) (notes_of_one notes xs w old lt is) t in
    rw (map-set notes xs w new) (progress_more blobs event w r0 r1 r2 (map notes xs0) (map notes xs) (notes new) p (omega (arith, lt, length-map xs notes)) t2)

pub listeners_end : {X : Type 0} (notes : X → List Note) (blobs : List (List ℕ)) (event : Event) (w : ℕ) (r0 r1 r2 : RunView) (xs0 xs : List X) (old new : X) (fault : DispatchFault)
    → IsDispatchUpTo blobs event w (dispatch_view r0 (map notes xs0)) (dispatch_view r1 (map notes xs)) → w < length xs → old ≡ get_or xs w old
    → IsServed blobs event (turn_view w r1 (notes old)) (turn_view w r2 (notes new)) (Err fault)
    → IsDispatch blobs event (dispatch_view r0 (map notes xs0)) (dispatch_view r2 (map notes (slice_set xs w new))) (Err fault)
listeners_end notes blobs event w r0 r1 r2 xs0 xs old new fault p lt is t =
    let t2 = subst (λ (x : List Note). IsServed blobs event (turn_view w r1 x) (turn_view w r2 (notes new)) (Err fault)) (notes_of_one notes xs w old lt is) t in
    rw (map-set notes xs w new) (dispatch_ends blobs event w r0 r1 r2 (map notes xs0) (map notes xs) (notes new) fault p (omega (arith, lt, length-map xs notes)) t2)

-- a listener keeps its rules
pub rules_kept : {X : Type 0} (rules : X → List Rule) (w : ℕ) (xs0 xs : List X) (old new : X)
    → map rules xs ≡ map rules xs0 → old ≡ get_or xs w old → rules new ≡ rules old → map rules (slice_set xs w new) ≡ map rules xs0
rules_kept rules w xs0 xs old new same is e = map-set_same rules xs w new old (e ∙ ap rules is) ∙ same

-- and all that it keeps
pub kept : {X A : Type 0} (f : X → A) (w : ℕ) (xs0 xs : List X) (old new : X)
    → map f xs ≡ map f xs0 → old ≡ get_or xs w old → f new ≡ f old → map f (slice_set xs w new) ≡ map f xs0
kept f w xs0 xs old new same is e = map-set_same f xs w new old (e ∙ ap f is) ∙ same
