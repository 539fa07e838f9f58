-- What went through did not halt; and a halt is told as the stop that it is.
use Rattle.std.proofs.Common.{◌≡◌, ℕ, refl}
use Rattle.std.specs.Prelude.{Result, Ok, Err}
use Rattle.script_run.specs.declared.stop.Halt.{Halt}
use Rattle.script_run.specs.declared.stop.Halt.TheVariants as halt
use Rattle.script_run.specs.declared.stop.Stop.TheVariants as stop
use Rattle.script_run.specs.Keeps.{AreFailuresTold}
use Rattle.script_run.specs.PlayedParts.{stop_of_halt}

pub gone_through : {A E : Type 0} (x : A) (fault : E) → ¬ ◌≡◌ {A = Result A E} (Ok x) (Err fault)
gone_through x fault e = cc

pub halted_told : {A B : Type 0} (old new : ℕ) (h : Halt) → AreFailuresTold {T = A} halt.Write old new (Err h) → AreFailuresTold {T = B} stop.Write old new (Err (stop_of_halt h))
halted_told old new halt.Memory p = record { no_fewer = p.no_fewer; cause = λ e. absurd (cc (e)); told = λ e. p.told (λ x. cc (x)) }
halted_told old new halt.Write p = record { no_fewer = p.no_fewer; cause = λ e. p.cause refl; told = λ e. absurd (e refl) }
