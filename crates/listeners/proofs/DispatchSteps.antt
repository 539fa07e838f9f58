-- The dispatch of an event is steps of a run, listener by listener.
use Rattle.std.proofs.Common.{◌≡◌, ℕ, zero, suc, ◌+◌, ◌<◌, List, [], ◌∷◌, ◌++◌, length, refl, sym, ◌∙◌, ap, arith, inl, inr, get_or-set_other, get_or-set_same, map, subst, append_assoc, get_or}
use Rattle.std.specs.Prelude.{Option, Some, None, Result, Ok, Err, slice_set, slice_get}
use Rattle.std.proofs.lemmas.List.{append-nil, get_or-map, map-set, length-map}
use Rattle.std.proofs.lemmas.Option.{slice_get_past}
use Rattle.std.proofs.lemmas.Bool.{cases_eq}
use Rattle.mse_calls.specs.declared.events.Event.{Event}
use Rattle.mse_calls.specs.declared.rules.Rule.{Rule}
use Rattle.run_steps.specs.declared.note.Note.{Note}
use Rattle.run_steps.specs.Happenings.{notes_in}
use Rattle.run_steps.specs.Steps.{Run, Setting, Todo, Hear, goes, hears, run_for, step_of}
use Rattle.run_steps.specs.Ways.{Way}
use Rattle.run_steps.proofs.Grows.{set_alike}
use Rattle.run_steps.proofs.Reached.{then}
use Rattle.listeners.specs.declared.event_dispatch.DispatchFault.{DispatchFault}
use Rattle.listeners.specs.declared.event_dispatch.DispatchFault.TheVariants as fault
use Rattle.listeners.specs.Dispatch.{notes_at}
use Rattle.listeners.specs.Notes.{asked_note}
use Rattle.listeners.specs.TurnSteps.{IsGrown, AreGrown, IsToDoBehind, IsServedInSteps, IsDispatchBegun, IsDispatchTo, IsDispatchInSteps}
use Rattle.listeners.specs.Views.{RunView, DispatchView, turn_view, dispatch_view}
use Rattle.listeners.specs.Ways.{IsByWay}

-- the listeners below `w` have heard the event, by steps after which the next of them hears it
abbrev pub AreStepsUpTo : List (List ℕ) → Event → ℕ → DispatchView → DispatchView → Type 0
AreStepsUpTo blobs event w old new =
    (ways : List Way) (r : Run) (rest : List Todo) → r.setting.blobs ≡ blobs → IsDispatchBegun ways r event old new rest
    → (b : Run) × IsDispatchTo ways r b new × (b.todo ≡ Hear event w ∷ rest)

-- ---- notes that are added

pub grown_none : (notes : List (List Note)) → AreGrown notes notes
grown_none notes w = ([], sym (append-nil (notes_at notes w)))

grown_then : (a b c : List Note) → IsGrown a b → IsGrown b c → IsGrown a c
grown_then a b c p q = (p.0 ++ q.0, q.1 ∙ ap (λ ns. ns ++ q.0) p.1 ∙ append_assoc a p.0 q.0)

-- those of one listener
grown_set : (n1 : List (List Note)) (w : ℕ) (m : List Note) → w < length n1 → IsGrown (notes_at n1 w) m → AreGrown n1 (slice_set n1 w m)
grown_set n1 w m lt g v = elim (cases_eq v w) [
  | inl e ↦ subst (λ x. IsGrown (notes_at n1 x) (notes_at (slice_set n1 w m) x)) (sym e) (g.0, get_or-set_same n1 w m [] lt ∙ g.1)
  | inr ne ↦ ([], get_or-set_other n1 w v m [] ne ∙ sym (append-nil (notes_at n1 v)))
]

-- what is by a way in the end is so before
by_front : (way : Option Way) (rules : List Rule) (old new : List Note) → IsGrown old new → IsByWay way rules new → IsByWay way rules old
by_front way rules old new g by before after answer e =
    by before (after ++ g.0) answer (g.1 ∙ ap (λ ns. ns ++ g.0) e ∙ append_assoc before (asked_note answer ++ after) g.0 ∙ ap (λ ns. before ++ ns) (append_assoc (asked_note answer) after g.0))

-- ---- the listeners, by their notes

pub steps_none : (blobs : List (List ℕ)) (event : Event) (v : DispatchView) → AreStepsUpTo blobs event 0 v v
steps_none blobs event v ways r rest e q = (r, record { reached = (0, refl); seen = q.seen; notes = q.notes; put = refl }, q.todo)

-- a way at each place
way_at : (ways : List Way) (w : ℕ) → w < length ways → (way : Way) × (slice_get ways w ≡ Some way)
way_at [] w lt = absurd (omega (arith, lt))
way_at (way ∷ ways) zero lt = (way, refl)
way_at (way ∷ ways) (suc w) lt = way_at ways w (omega (arith, lt))

-- the turn of one more listener
turn_more : (blobs : List (List ℕ)) (event : Event) (w : ℕ) (r0 r1 r2 : RunView) (n0 n1 : List (List Note)) (m : List Note) (result : Result (Unit {0}) DispatchFault) → AreStepsUpTo blobs event w (dispatch_view r0 n0) (dispatch_view r1 n1)
    → length n1 ≡ length n0 → w < length n1 → IsGrown (notes_at n1 w) m → IsServedInSteps blobs event (turn_view w r1 (notes_at n1 w)) (turn_view w r2 m) result
    → (ways : List Way) (r : Run) (rest : List Todo) → r.setting.blobs ≡ blobs → IsDispatchBegun ways r event (dispatch_view r0 n0) (dispatch_view r2 (slice_set n1 w m)) rest
    → (b : Run) × IsDispatchTo ways r b (dispatch_view r2 (slice_set n1 w m)) × IsToDoBehind (Hear event (suc w) ∷ rest) b result
turn_more blobs event w r0 r1 r2 n0 n1 m result steps same lt grown served ways r rest is q =
    let grows : AreGrown n1 (slice_set n1 w m) = grown_set n1 w m lt grown in
    let first = steps ways r rest is (record {
      todo = q.todo;
      seen = q.seen;
      notes = q.notes;
      count = q.count;
      by_way = λ v way there. by_front (Some way) (r.setting.rules v) (notes_at n1 v) (notes_at (slice_set n1 w m) v) (grows v) (q.by_way v way there);
    }) in
    let b : Run = first.0 in
    let set : b.setting ≡ r.setting = set_alike ways r b first.1.reached in
    let mine = way_at ways w (omega (arith, q.count, same, lt)) in
    let turn = served ways b mine.0 rest (ap (λ (s : Setting). s.blobs) set ∙ is) (record {
      todo = first.2;
      seen = first.1.seen;
      notes = first.1.notes w;
      way_is = mine.1;
      by_way = subst (λ (s : Setting). IsByWay (Some mine.0) (s.rules w) m) (sym set) (subst (λ ns. IsByWay (Some mine.0) (r.setting.rules w) ns) (get_or-set_same n1 w m [] lt) (q.by_way w mine.0 mine.1));
    }) in
    let c : Run = turn.0 in (
      c,
      record {
        reached = then ways r b c first.1.reached turn.1.reached;
        seen = turn.1.seen;
        notes = λ v. elim (cases_eq v w) [
          | inl e ↦ subst (λ x. notes_in x c.happened ≡ notes_at (slice_set n1 w m) x) (sym e) (turn.1.own ∙ sym (get_or-set_same n1 w m [] lt))
          | inr ne ↦ turn.1.others v ne ∙ first.1.notes v ∙ sym (get_or-set_other n1 w v m [] ne)
        ];
        put = turn.1.put ∙ first.1.put;
      },
      turn.2,
    )

-- where all have heard it, one step goes on
pub steps_done : (blobs : List (List ℕ)) (event : Event) (w : ℕ) (old new : DispatchView) → AreStepsUpTo blobs event w old new → length old.notes ≡ w → IsDispatchInSteps blobs event old new (Ok tt)
steps_done blobs event w old new steps all ways r rest is q =
    let first = steps ways r rest is q in
    let b : Run = first.0 in
    let past : slice_get ways w ≡ None = slice_get_past ways w (omega (arith, q.count, all)) in
    let one : run_for 1 ways b ≡ goes b rest = ap (step_of ways b) first.2 ∙ ap (λ o. hears b event w o rest) past in (
      goes b rest,
      record {
        reached = then ways r b (goes b rest) first.1.reached (1, one);
        seen = record { stands = first.1.seen.stands; journal = first.1.seen.journal; left = first.1.seen.left };
        notes = first.1.notes;
        put = first.1.put;
      },
      refl,
    )

-- a limit or want of memory ends it
behind_fault : (f : DispatchFault) (todo rest : List Todo) (b : Run) → IsToDoBehind todo b (Err f) → IsToDoBehind rest b (Err f)
behind_fault fault.OutOfMemory todo rest b p = tt
behind_fault (fault.CallBudget k) todo rest b p = p
behind_fault fault.TaskBudget todo rest b p = p

-- ---- the same of a list of listeners

-- the notes of the listener at a place
notes_of_one : {X : Type 0} (notes : X → List Note) (xs : List X) (w : ℕ) (old : X) → w < length xs → old ≡ get_or xs w old → notes old ≡ notes_at (map notes xs) w
notes_of_one notes xs w old lt is = sym (get_or-map notes xs w old [] lt ∙ ap notes (sym is))

-- where what each keeps is the same, there are as many
pub same_length : {X A : Type 0} (f : X → A) (xs0 xs : List X) → map f xs ≡ map f xs0 → length xs ≡ length xs0
same_length f xs0 xs e = sym (length-map xs f) ∙ ap length e ∙ length-map xs0 f

pub listeners_grown : {X : Type 0} (notes : X → List Note) (w : ℕ) (xs0 xs : List X) (old new : X) → AreGrown (map notes xs0) (map notes xs) → w < length xs → old ≡ get_or xs w old → IsGrown (notes old) (notes new)
    → AreGrown (map notes xs0) (map notes (slice_set xs w new))
listeners_grown notes w xs0 xs old new p lt is g =
    let mine : IsGrown (notes_at (map notes xs) w) (notes new) = subst (λ ns. IsGrown ns (notes new)) (notes_of_one notes xs w old lt is) g in
    rw (map-set notes xs w new)
    (λ v. grown_then (notes_at (map notes xs0) v) (notes_at (map notes xs) v) (notes_at (slice_set (map notes xs) w (notes new)) v) (p v) (grown_set (map notes xs) w (notes new) (omega (arith, lt, length-map xs notes)) mine v))

turn_of_one : {X : Type 0} (notes : X → List Note) (blobs : List (List ℕ)) (event : Event) (w : ℕ) (r0 r1 r2 : RunView) (xs0 xs : List X) (old new : X) (result : Result (Unit {0}) DispatchFault)
    → AreStepsUpTo blobs event w (dispatch_view r0 (map notes xs0)) (dispatch_view r1 (map notes xs)) → length xs ≡ length xs0 → w < length xs → old ≡ get_or xs w old → IsGrown (notes old) (notes new)
    → IsServedInSteps blobs event (turn_view w r1 (notes old)) (turn_view w r2 (notes new)) result
    → (ways : List Way) (r : Run) (rest : List Todo) → r.setting.blobs ≡ blobs → IsDispatchBegun ways r event (dispatch_view r0 (map notes xs0)) (dispatch_view r2 (slice_set (map notes xs) w (notes new))) rest
    → (b : Run) × IsDispatchTo ways r b (dispatch_view r2 (slice_set (map notes xs) w (notes new))) × IsToDoBehind (Hear event (suc w) ∷ rest) b result
turn_of_one notes blobs event w r0 r1 r2 xs0 xs old new result p same lt is g t =
    let here = notes_of_one notes xs w old lt is in
    turn_more blobs event w r0 r1 r2 (map notes xs0) (map notes xs) (notes new) result p (omega (arith, same, length-map xs notes, length-map xs0 notes)) (omega (arith, lt, length-map xs notes))
    (subst (λ ns. IsGrown ns (notes new)) here g) (subst (λ ns. IsServedInSteps blobs event (turn_view w r1 ns) (turn_view w r2 (notes new)) result) here t)

pub listeners_steps : {X : Type 0} (notes : X → List Note) (blobs : List (List ℕ)) (event : Event) (w : ℕ) (r0 r1 r2 : RunView) (xs0 xs : List X) (old new : X)
    → AreStepsUpTo blobs event w (dispatch_view r0 (map notes xs0)) (dispatch_view r1 (map notes xs)) → length xs ≡ length xs0 → w < length xs → old ≡ get_or xs w old → IsGrown (notes old) (notes new)
    → IsServedInSteps blobs event (turn_view w r1 (notes old)) (turn_view w r2 (notes new)) (Ok tt)
    → AreStepsUpTo blobs event (w + 1) (dispatch_view r0 (map notes xs0)) (dispatch_view r2 (map notes (slice_set xs w new)))
listeners_steps notes blobs event w r0 r1 r2 xs0 xs old new p same lt is g t =
    let next : w + 1 ≡ suc w = omega arith in
    rw (map-set notes xs w new, next)
    (turn_of_one notes blobs event w r0 r1 r2 xs0 xs old new (Ok tt) p same lt is g t)

pub listeners_fault : {X : Type 0} (notes : X → List Note) (blobs : List (List ℕ)) (event : Event) (w : ℕ) (r0 r1 r2 : RunView) (xs0 xs : List X) (old new : X) (f : DispatchFault)
    → AreStepsUpTo blobs event w (dispatch_view r0 (map notes xs0)) (dispatch_view r1 (map notes xs)) → length xs ≡ length xs0 → w < length xs → old ≡ get_or xs w old → IsGrown (notes old) (notes new)
    → IsServedInSteps blobs event (turn_view w r1 (notes old)) (turn_view w r2 (notes new)) (Err f)
    → IsDispatchInSteps blobs event (dispatch_view r0 (map notes xs0)) (dispatch_view r2 (map notes (slice_set xs w new))) (Err f)
listeners_fault notes blobs event w r0 r1 r2 xs0 xs old new f p same lt is g t =
    rw (map-set notes xs w new)
    (λ ways r rest e q. let came = turn_of_one notes blobs event w r0 r1 r2 xs0 xs old new (Err f) p same lt is g t ways r rest e q in (came.0, came.1, behind_fault f (Hear event (suc w) ∷ rest) rest came.0 came.2))
