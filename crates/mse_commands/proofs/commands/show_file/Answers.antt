use Rattle.std.proofs.Common.{◌≡◌, ◌∙◌, ap, arith, length}
use Rattle.std.specs.Prelude.{is_some}
use Rattle.std.proofs.lemmas.Grind.{common_steps}
use Rattle.mse_commands.proofs.ShownFiles.{shows_all, shows_half}
use Rattle.mse_commands.proofs.commands.show_file.Goals as goal

pub returns-in-Ok-close_file-clause-shows : goal.returns-in-Ok-close_file-clause-shows
returns-in-Ok-close_file-clause-shows g c =
    let len : c.len-len.result ≡ length c.args.file.items = grind (arith, common_steps) in
    shows_all c.args.command.now c.args.file.items c.args.run.now c.append_file.new.run (g.K.Sink.written c.args.sink.now) (g.K.Sink.written c.close_file.new.sink) c.is_some.result
    c.in-Ok.ensures.ok (λ st h. rw len at (c.in-Ok-close_file.ensures.ok st (rw c.engine.ensures h)))
    (λ st h. c.is_some.ensures ∙ ap is_some (c.fault.ensures st (rw c.engine-in-Ok-close_file.ensures h)))

pub returns-in-Err-clause-shows : goal.returns-in-Err-clause-shows
returns-in-Err-clause-shows g c =
    let len : c.len-len.result ≡ length c.args.file.items = grind (arith, common_steps) in
    rw c.of_halt.ensures (shows_half c.args.command.now c.args.file.items c.args.run.now c.append_file.new.run (g.K.Sink.written c.args.sink.now) (g.K.Sink.written c.close_file.new.sink) c.in-Err.halt
    c.in-Ok.ensures.ok (λ st h. rw len at (c.in-Err.ensures.err st (rw c.engine.ensures h))))
