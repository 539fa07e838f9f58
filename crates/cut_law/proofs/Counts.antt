-- How many steps a drain has in which no listener calls.
use Rattle.std.proofs.Common.{◌≡◌, ◌∙◌, ℕ, List, [], ◌∷◌, ◌++◌, ap, sym, subst, refl, arith}
use Rattle.std.specs.Prelude.{option_map}
use Rattle.std.proofs.lemmas.List.{append-nil}
use Rattle.mse_calls.specs.declared.entry.Entry.{Entry}
use Rattle.mse_calls.specs.declared.entry.Entry.TheVariants.{Step, Script, Listener, Fired, Work, Element}
use Rattle.mse_engine.specs.State.{State}
use Rattle.mse_engine.specs.Work.{without_first}
use Rattle.mse_engine.specs.Run.{entry_meaning, fire_meaning, fired_events}
use Rattle.mse_engine.specs.DrainCounts.{AreStepsByThemselves}
use Rattle.mse_engine.proofs.DrainCounts.{counted, queued-and-fired}
use Rattle.script_run.specs.DrainSteps.{IsDrain, AreInDrainOrder}
use Rattle.script_run.specs.Turns.{calls_in}
use Rattle.cut_law.specs.Silent.{IsDrainCounted}
use Rattle.cut_law.proofs.DrainEnds.{none-left, turn-holds, work-holds}

by-themselves : (blobs : List (List ℕ)) (entries : List Entry) (st : State) → AreInDrainOrder blobs st entries → calls_in entries ≡ 0 → AreStepsByThemselves blobs st entries
by-themselves blobs [] st n q = tt
by-themselves blobs (Fired event ∷ entries) st n q =
    (subst (λ o. (fire_meaning (option_map (λ x. record { answer = x; state = without_first st }) o) event st).holds) (sym n.0) refl, by-themselves blobs entries (entry_meaning blobs st (Fired event)).state n.1 q)
by-themselves blobs (Work k ∷ entries) st n q =
    (work-holds st k n.0.1, by-themselves blobs entries (entry_meaning blobs st (Work k)).state n.1 q)
by-themselves blobs (Element ∷ entries) st n q =
    ((none-left st n.0.0.running, turn-holds st n.0.1), by-themselves blobs entries (entry_meaning blobs st Element).state n.1 q)
by-themselves blobs (Listener w call answer ∷ entries) st n q = absurd (omega (arith, q))
by-themselves blobs (Script call answer ∷ entries) st n q = absurd n.0
by-themselves blobs (Step k ∷ entries) st n q = absurd n.0

pub drain-counted : (blobs : List (List ℕ)) (st : State) (part : List Entry) → IsDrain blobs st part → calls_in part ≡ 0 → IsDrainCounted blobs st part
drain-counted blobs st part d q =
    let alone : AreStepsByThemselves blobs st part = by-themselves blobs part st d.order q in
    record {
      steps = counted blobs st part alone;
      events =
          sym (append-nil (fired_events part))
          ∙ ap (λ xs. fired_events part ++ xs) (sym d.end.quiet.queue)
          ∙ sym (queued-and-fired blobs st part alone);
    }
