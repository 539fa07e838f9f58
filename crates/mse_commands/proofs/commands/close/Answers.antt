use Rattle.std.proofs.Common.{◌≡◌, ◌∙◌, ap, string_bytes}
use Rattle.event_text.specs.Block.{closing_text}
use Rattle.mse_calls.specs.declared.views.View.{View}
use Rattle.mse_engine.specs.Views.{view_in}
use Rattle.script_run.specs.Text.{lines_in}
use Rattle.script_run.proofs.PutLines.{front_first}
use Rattle.mse_commands.proofs.PlayedScripts.{err_behind}
use Rattle.mse_commands.proofs.PutTexts.{ok_behind}
use Rattle.mse_commands.proofs.commands.close.Goals as goal

pub returns-in-Err-clause-err : goal.returns-in-Err-clause-err
returns-in-Err-clause-err g c = λ st h.
    front_first (lines_in (string_bytes c.args.before)) (lines_in (closing_text (view_in st) c.args.whole)) (g.K.Sink.written c.args.sink.now) (g.K.Sink.written c.put_lines.new.sink)
    (rw c.as_str.ensures.value at c.in-Err.ensures.err)

pub returns-clause-err : goal.returns-clause-err
returns-clause-err g c = λ st h.
    let same : c.as_str-2.result.now ≡ closing_text (view_in st) c.args.whole =
    c.as_str-2.ensures ∙ c.in-Ok-closing.ensures ∙ ap (λ (v : View). closing_text v c.args.whole) (c.in-Ok.ensures st h) in
    err_behind c.put_lines-2.result (lines_in (string_bytes c.args.before)) (lines_in (closing_text (view_in st) c.args.whole)) (g.K.Sink.written c.args.sink.now) (g.K.Sink.written c.put_lines.new.sink)
    (g.K.Sink.written c.put_lines-2.new.sink) (rw c.as_str.ensures.value at c.in-Ok-put_lines.ensures.ok) (rw same at c.put_lines-2.ensures.err)

pub returns-clause-ok : goal.returns-clause-ok
returns-clause-ok g c = λ st h.
    let same : c.as_str-2.result.now ≡ closing_text (view_in st) c.args.whole =
    c.as_str-2.ensures ∙ c.in-Ok-closing.ensures ∙ ap (λ (v : View). closing_text v c.args.whole) (c.in-Ok.ensures st h) in
    ok_behind c.put_lines-2.result (lines_in (string_bytes c.args.before)) (lines_in (closing_text (view_in st) c.args.whole)) (g.K.Sink.written c.args.sink.now) (g.K.Sink.written c.put_lines.new.sink)
    (g.K.Sink.written c.put_lines-2.new.sink) (rw c.as_str.ensures.value at c.in-Ok-put_lines.ensures.ok) (rw same at c.put_lines-2.ensures.ok)
