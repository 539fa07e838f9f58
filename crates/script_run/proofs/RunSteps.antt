-- Single steps of a run.
use Rattle.std.proofs.Common.{◌≡◌, ◌==◌, ℕ, suc, false, not, List, [], ◌∷◌, length, refl, ap, arith}
use Rattle.std.specs.Prelude.{Option, Some, None, option_map, slice_get}
use Rattle.std.proofs.lemmas.Bool.Decides.{nat_tests}
use Rattle.mse_calls.specs.AnswerAndState.{AnswerAndState}
use Rattle.mse_calls.specs.declared.events.Event.{Event}
use Rattle.mse_calls.specs.declared.entry.Entry.{Entry}
use Rattle.mse_calls.specs.declared.entry.Entry.TheVariants.{Fired, Work, Element}
use Rattle.mse_engine.specs.declared.engine.Worked.TheVariants.{Did, Idle}
use Rattle.mse_engine.specs.State.{State}
use Rattle.mse_engine.specs.Run.{fire_meaning, step_meaning, fire_entries, entries_if}
use Rattle.mse_engine.specs.Standing.{IsFired, IsWork, KeptEngine, Stands}
use Rattle.mse_engine.specs.Work.{after_element_turn, after_work, fire_result, without_first}
use Rattle.mse_engine.specs.Sound.{IsSoundEngine}
use Rattle.mse_engine.specs.Transitions.{IsTransition}
use Rattle.mse_engine.proofs.Transitions.{goes_one}

fired_holds : (r : Option (AnswerAndState Event State)) (st : State) (event : Event) (a b : KeptEngine) → IsFired (Some event) a b r → (fire_meaning r event st).holds
fired_holds None st event a b h = absurd h
fired_holds (Some meant) st event a b h = h.0

fired_stands : (r : Option (AnswerAndState Event State)) (st : State) (event : Event) (a b : KeptEngine) → IsFired (Some event) a b r → Stands b (fire_meaning r event st).state
fired_stands None st event a b h = absurd h
fired_stands (Some meant) st event a b h = h.1

-- an event was fired
pub fired_goes : (blobs : List (List ℕ)) (a b : KeptEngine) (event : Event) → ((st : State) → Stands a st → IsFired (Some event) a b (fire_result st)) → IsSoundEngine b
    → IsTransition blobs a b (Fired event ∷ [])
fired_goes blobs a b event h sound = goes_one blobs a b (Fired event) (λ st s. fired_holds (fire_result st) st event a b (h st s)) (λ st s. fired_stands (fire_result st) st event a b (h st s)) sound

pub not_fired : (r : Option (AnswerAndState Event State)) (a b : KeptEngine) → IsFired None a b r → b ≡ a
not_fired None a b h = h
not_fired (Some meant) a b h = absurd h

worked_holds : (r : Option State) (st : State) (a b : KeptEngine) → IsWork Did a b r → (step_meaning r st).holds
worked_holds None st a b h = absurd h
worked_holds (Some new) st a b h = tt

worked_stands : (r : Option State) (st : State) (a b : KeptEngine) → IsWork Did a b r → Stands b (step_meaning r st).state
worked_stands None st a b h = absurd h
worked_stands (Some new) st a b h = h

pub worked_goes : (blobs : List (List ℕ)) (a b : KeptEngine) (k : ℕ) → ((st : State) → Stands a st → IsWork Did a b (after_work k st)) → IsSoundEngine b → IsTransition blobs a b (Work k ∷ [])
worked_goes blobs a b k h sound = goes_one blobs a b (Work k) (λ st s. worked_holds (after_work k st) st a b (h st s)) (λ st s. worked_stands (after_work k st) st a b (h st s)) sound

pub turned_goes : (blobs : List (List ℕ)) (a b : KeptEngine) → ((st : State) → Stands a st → IsWork Did a b (after_element_turn st)) → IsSoundEngine b → IsTransition blobs a b (Element ∷ [])
turned_goes blobs a b h sound = goes_one blobs a b Element (λ st s. worked_holds (after_element_turn st) st a b (h st s)) (λ st s. worked_stands (after_element_turn st) st a b (h st s)) sound

pub idle_same : (r : Option State) (a b : KeptEngine) → IsWork Idle a b r → b ≡ a
idle_same None a b h = h
idle_same (Some new) a b h = absurd h

pub idle_none : (r : Option State) (a b : KeptEngine) → IsWork Idle a b r → r ≡ None
idle_none None a b h = refl
idle_none (Some new) a b h = absurd h

-- something was done, so the entry is there
pub done_one : (entry : Entry) (r : Option State) (st : State) → (step_meaning r st).holds → entry ∷ [] ≡ entries_if r entry
done_one entry None st h = absurd h
done_one entry (Some new) st h = refl

pub fired_one : (r : Option (AnswerAndState Event State)) (event : Event) (st : State) → (fire_meaning r event st).holds → Fired event ∷ [] ≡ fire_entries r
fired_one None event st h = absurd h
fired_one (Some meant) event st h = ap (λ (x : Event). Fired x ∷ []) h

pub no_event : (q : List Event) (st : State) (a b : KeptEngine) → IsFired None a b (option_map (λ e. record { answer = e; state = without_first st }) (slice_get q 0)) → q ≡ []
no_event [] st a b h = refl
no_event (e ∷ q) st a b h = absurd h

count_zero : (n : ℕ) → not (n == 0) ≡ false → n ≡ 0
count_zero n h = grind (arith, nat_tests)

pub none_waits : (q : List Event) → not (length q == 0) ≡ false → q ≡ []
none_waits [] h = refl
none_waits (e ∷ q) h = absurd (omega (arith, count_zero (suc (length q)) h))
