use Rattle.std.proofs.Common.{◌≡◌, ◌∙◌, [], Err, ap, refl, sym, arith, inl}
use Rattle.std.proofs.lemmas.List.{length-map}
use Rattle.std.proofs.lemmas.Grind.{common_steps}
use Rattle.listeners.specs.declared.event_dispatch.DispatchFault.{DispatchFault}
use Rattle.listeners.specs.declared.event_dispatch.DispatchFault.TheVariants.{OutOfMemory}
use Rattle.script_run.specs.declared.stop.Halt.{Halt}
use Rattle.script_run.proofs.FiredEvents.{fired_alone, fired_halted, fired_ran, fired_stopped, fired_unheard, nothing_fired}
use Rattle.script_run.proofs.GoneThrough.{halted_told}
use Rattle.script_run.proofs.PartsInRow.{halt_none, memory_wanting, ran_none}
use Rattle.script_run.proofs.run.ScriptRun.fire.Goals as goal

pub returns-in_default-clause-ran : goal.returns-in_default-clause-ran
returns-in_default-clause-ran g c = rw c.in_default.ensures.err (halt_none _ _ _ _ memory_wanting (λ st h. inl refl))

pub returns-in_default-next_event-clause-ran : goal.returns-in_default-next_event-clause-ran
returns-in_default-next_event-clause-ran g c =
    let took = rw c.in_default-next_event.is at c.in-Ok.ensures.ok in
    rw (took []).0 (ran_none _ _ _ (λ st h. nothing_fired st ((took []).1 st h)))

pub returns-in_default-next_event-clause-none : goal.returns-in_default-next_event-clause-none
returns-in_default-next_event-clause-none g c =
    let took = rw c.in_default-next_event.is at c.in-Ok.ensures.ok in
    λ e. (took []).0

pub returns-in_default-next_event-clause-empty : goal.returns-in_default-next_event-clause-empty
returns-in_default-next_event-clause-empty g c =
    let took = rw c.in_default-next_event.is at c.in-Ok.ensures.ok in
    λ e. (took []).1

pub put_entries-requires : goal.put_entries-requires
put_entries-requires g c =
    let took = rw c.in-Some.is at c.in-Ok.ensures.ok in
    let step = rw (← c.self.view_is, ← c.self-2.view_is) at (took []) in
    let one = step.grew in
    let two = c.dispatch-outcome.ensures.dispatch.calls.journal in
    let from = c.len-from.ensures in
    grind (arith, common_steps)

pub returns-then-is_out_of_memory-clause-ran : goal.returns-then-is_out_of_memory-clause-ran
returns-then-is_out_of_memory-clause-ran g c =
    let took = rw c.in-Some.is at c.in-Ok.ensures.ok in
    let step = rw (← c.self.view_is, ← c.self-2.view_is) at (took c.args.blobs.now) in
    let wanted : c.dispatch-outcome.result ≡ Err OutOfMemory = c.is_out_of_memory.ensures.0 c.if-is_out_of_memory.true in
    let short = rw wanted at c.dispatch-outcome.ensures.dispatch in
    rw (← c.self.view_is) (fired_unheard c.args.blobs.now c.in-Some.event _ _ _ _ _ _ step short (simp length-map (grind (arith, common_steps, c.dispatch-outcome.ensures.count))))

pub returns-in-Err-clause-ran : goal.returns-in-Err-clause-ran
returns-in-Err-clause-ran g c =
    let took = rw c.in-Some.is at c.in-Ok.ensures.ok in
    let step = rw (← c.self.view_is, ← c.self-2.view_is) at (took c.args.blobs.now) in
    let wrote = rw c.len-from.ensures at c.in-Err.ensures.err in
    let short = rw c.len-from.ensures at c.in-Err.ensures.short in
    let not : ¬ (c.dispatch-outcome.result ≡ Err OutOfMemory) = λ e. absurd (cc (c.is_out_of_memory.ensures.1 e, c.if-is_out_of_memory.false)) in
    rw (c.of_halt.ensures, ← c.self.view_is) (fired_halted c.args.blobs.now c.in-Some.event c.in-Err.halt _ _ _ _ _ _ _ c.dispatch-outcome.result not step c.dispatch-outcome.ensures.dispatch
    (simp length-map (grind (arith, common_steps, c.dispatch-outcome.ensures.count))) wrote (λ e. short (ap (λ (x : Halt). Err x) e)))

pub returns-in-Err-clause-puts : goal.returns-in-Err-clause-puts
returns-in-Err-clause-puts g c = rw c.of_halt.ensures (halted_told _ _ c.in-Err.halt c.in-Err.ensures.puts)

pub returns-in-Err-outcome-clause-ran : goal.returns-in-Err-outcome-clause-ran
returns-in-Err-outcome-clause-ran g c =
    let took = rw c.in-Some.is at c.in-Ok.ensures.ok in
    let step = rw (← c.self.view_is, ← c.self-2.view_is) at (took c.args.blobs.now) in
    let wrote = rw c.len-from.ensures at c.in-Ok-put_entries.ensures.ok in
    let not : ¬ (c.in-Err-outcome.fault ≡ OutOfMemory) =
    λ e. absurd (cc (c.is_out_of_memory.ensures.1 (c.in-Err-outcome.is ∙ ap (λ (f : DispatchFault). Err f) e), c.if-is_out_of_memory.false)) in
    rw (c.of.ensures, ← c.self.view_is) (fired_stopped c.args.blobs.now c.in-Some.event c.in-Err-outcome.fault _ _ _ _ _ _ _ not step c.in-Err-outcome.ensures.dispatch
    (simp length-map (grind (arith, common_steps, c.dispatch-outcome.ensures.count))) wrote)

pub returns-clause-ran : goal.returns-clause-ran
returns-clause-ran g c =
    let took = rw c.in-Some.is at c.in-Ok.ensures.ok in
    let step = rw (← c.self.view_is, ← c.self-2.view_is) at (took c.args.blobs.now) in
    let wrote = rw c.len-from.ensures at c.in-Ok-put_entries.ensures.ok in
    rw (← c.self.view_is) (fired_ran c.args.blobs.now c.in-Some.event _ _ _ _ _ _ _ step c.in-Ok-outcome.ensures.dispatch (simp length-map (grind (arith, common_steps, c.dispatch-outcome.ensures.count))) wrote)

pub returns-clause-fewer : goal.returns-clause-fewer
returns-clause-fewer g c = λ e same.
    let took = rw c.in-Some.is at c.in-Ok.ensures.ok in
    let step = rw (← c.self-2.view_is) at (took c.args.blobs.now) in
    let taken = (rw c.in-Some.is at c.in-Ok.ensures.fewer) refl in
    let alone = fired_alone c.args.blobs.now c.in-Some.event _ _ _ _ _ c.dispatch-outcome.ensures.dispatch (same ∙ sym step.left) in
    rw alone (rw (← c.self-2.view_is) at taken)
