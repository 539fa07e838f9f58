use Rattle.std.proofs.Common.{◌≡◌, sym, subst}
use Rattle.source_state.specs.declared.answers.Changed.{Changed}
use Rattle.mse_engine.specs.Signals.{after_signals}
use Rattle.mse_engine.specs.SourceCalls.{change_signals}
use Rattle.mse_engine.specs.Standing.{view_of}
use Rattle.mse_engine.proofs.DurationChanges.{change_unheard}
use Rattle.mse_engine.proofs.source_calls.tell_change.Goals as goal

pub tell_duration-requires-clause-duration_told : goal.tell_duration-requires-clause-duration_told
tell_duration-requires-clause-duration_told g c = c.requires.duration_told c.in-To.duration c.in-To.is

pub returns-in-To-clause-state : goal.returns-in-To-clause-state
returns-in-To-clause-state g c = subst (λ (ch : Changed). c.tell_duration.new.element.state ≡ after_signals (view_of c.args.source.now c.args.buffers.now.buffers) (change_signals ch) c.args.element.now.state) (sym c.in-To.is) c.tell_duration.ensures.state

pub returns-in_default-clause-state : goal.returns-in_default-clause-state
returns-in_default-clause-state g c = change_unheard (view_of c.args.source.now c.args.buffers.now.buffers) c.args.change c.args.element.now.state c.in_default.not-To
