use Rattle.std.proofs.Common.{refl, inl}
use Rattle.script_run.proofs.GoneThrough.{halted_told}
use Rattle.script_run.proofs.ScriptLines.{call_halted, called_ran, turn_line_ran, work_line_ran}
use Rattle.script_run.proofs.PartsInRow.{halt_none, halt_wanting, memory_wanting}
use Rattle.script_run.proofs.run.ScriptRun.do_line.Goals as goal

pub returns-in-Ok-clause-ran : goal.returns-in-Ok-clause-ran
returns-in-Ok-clause-ran g c = rw c.in-Call.is (called_ran _ _ _ _ _ _ _ c.in-Ok.ensures.ok)

pub returns-in-Err-clause-ran : goal.returns-in-Err-clause-ran
returns-in-Err-clause-ran g c = rw (c.in-Call.is, c.of_halt.ensures) (call_halted _ _ _ _ _ _ _ _ (halt_wanting c.in-Err.halt) c.in-Err.ensures.err)

pub returns-in-Err-clause-puts : goal.returns-in-Err-clause-puts
returns-in-Err-clause-puts g c = rw c.of_halt.ensures (halted_told _ _ c.in-Err.halt c.in-Err.ensures.puts)

pub returns-in-Ok-fire-clause-ran : goal.returns-in-Ok-fire-clause-ran
returns-in-Ok-fire-clause-ran g c = rw c.in-Fire.is c.in-Ok-fire.ensures.ran

pub returns-in-Err-fire-clause-ran : goal.returns-in-Err-fire-clause-ran
returns-in-Err-fire-clause-ran g c = rw c.in-Fire.is c.in-Err-fire.ensures.ran

pub returns-in-Ok-work-clause-ran : goal.returns-in-Ok-work-clause-ran
returns-in-Ok-work-clause-ran g c = rw c.in-Work.is (work_line_ran _ _ _ _ _ _ _ (c.in-Ok-work.ensures.ok c.args.blobs.now))

pub returns-in-Err-work-clause-ran : goal.returns-in-Err-work-clause-ran
returns-in-Err-work-clause-ran g c = rw (c.in-Work.is, c.in-Err-work.ensures.err) (halt_none _ _ _ _ memory_wanting (λ st h. inl refl))

pub returns-in-Ok-turn-clause-ran : goal.returns-in-Ok-turn-clause-ran
returns-in-Ok-turn-clause-ran g c = rw c.in-Element.is (turn_line_ran _ _ _ _ _ _ (c.in-Ok-turn.ensures.ok c.args.blobs.now))

pub returns-in-Err-turn-clause-ran : goal.returns-in-Err-turn-clause-ran
returns-in-Err-turn-clause-ran g c = rw (c.in-Element.is, c.in-Err-turn.ensures.err) (halt_none _ _ _ _ memory_wanting (λ st h. inl refl))

pub returns-in-Drain-clause-ran : goal.returns-in-Drain-clause-ran
returns-in-Drain-clause-ran g c = rw c.in-Drain.is c.drain.ensures.ran
