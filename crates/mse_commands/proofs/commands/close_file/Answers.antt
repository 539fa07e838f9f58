use Rattle.std.proofs.Common.{◌≡◌, ◌++◌, ℕ, refl, subst}
use Rattle.std.specs.Prelude.{false, OnErr}
use Rattle.event_text.specs.Block.{closing_text}
use Rattle.mse_engine.specs.State.{State}
use Rattle.mse_engine.specs.Views.{view_in}
use Rattle.script_run.specs.Text.{lines_in}
use Rattle.script_run.specs.Writes.{IsFrontWritten}
use Rattle.mse_commands.specs.Heading.{heading_of}
use Rattle.mse_commands.specs.Shown.{file_closing}
use Rattle.mse_commands.specs.declared.words.Command.{Command}
use Rattle.mse_commands.specs.declared.words.Command.TheVariants.{Make}
use Rattle.mse_commands.proofs.commands.close_file.Goals as goal

made_closing : (command : Command) (n len : ℕ) (st : State) → command ≡ Make n → lines_in (heading_of command len) ++ lines_in (closing_text (view_in st) false) ≡ file_closing command len st
made_closing command n len st e = rw e refl

pub returns-in-Make-clause-err : goal.returns-in-Make-clause-err
returns-in-Make-clause-err g c = λ st h.
    subst (λ xs. OnErr c.close_block-in-Make.result (IsFrontWritten xs (g.K.Sink.written c.args.sink.now) (g.K.Sink.written c.close_block-in-Make.new.sink)))
    (made_closing c.args.command.now c.in-Make.field-0 c.args.len st c.in-Make.is) (c.close_block-in-Make.ensures.err st h)
