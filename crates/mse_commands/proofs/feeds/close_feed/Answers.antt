use Rattle.std.proofs.lemmas.Result.{err_from_is_err_and}
use Rattle.event_text.specs.Block.{fault_lines}
use Rattle.script_run.specs.Text.{line_if_any}
use Rattle.script_run.proofs.PutLines.{front_first}
use Rattle.mse_commands.specs.Feeds.{feeds_in}
use Rattle.mse_commands.proofs.PutTexts.{err_behind, ok_behind}
use Rattle.mse_commands.proofs.feeds.close_feed.Goals as goal

pub returns-in_err-put_tracks-clause-err : goal.returns-in_err-put_tracks-clause-err
returns-in_err-put_tracks-clause-err g c = λ st h.
    let p = err_from_is_err_and c.from_residual.result c.from_residual.ensures.1 in
    rw p.1 (front_first (feeds_in c.args.at st) (line_if_any (fault_lines st.source.fault)) _ _ (c.in_err-put_tracks.ensures.err st h))

pub returns-clause-err : goal.returns-clause-err
returns-clause-err g c = λ st h.
    err_behind c.put_fault.result (feeds_in c.args.at st) (line_if_any (fault_lines st.source.fault)) _ _ _ (c.in_ok-put_tracks.ensures.ok st h) (rw (c.fault.ensures st h) at c.put_fault.ensures.err)

pub returns-clause-ok : goal.returns-clause-ok
returns-clause-ok g c = λ st h.
    ok_behind c.put_fault.result (feeds_in c.args.at st) (line_if_any (fault_lines st.source.fault)) _ _ _ (c.in_ok-put_tracks.ensures.ok st h) (rw (c.fault.ensures st h) at c.put_fault.ensures.ok)
