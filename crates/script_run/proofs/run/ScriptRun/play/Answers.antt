use Rattle.std.proofs.Common.{◌∙◌, refl, sym, vec_len}
use Rattle.script_run.specs.Lines.{limits}
use Rattle.script_run.proofs.KeptListeners.{kept_same, kept_then}
use Rattle.script_run.proofs.CutDispatches.{left_behind}
use Rattle.script_run.proofs.FollowedLines.{lines_join, lines_stop_join}
use Rattle.script_run.proofs.PartsInRow.{played_stop, played_then, ran_none}
use Rattle.script_run.proofs.GoneThrough.{gone_through}
use Rattle.script_run.proofs.run.ScriptRun.play.Goals as goal

pub loop-n-init : goal.loop-n-init
loop-n-init g c = record { count = refl; kept = kept_same _ _ _ _ _; played = (ran_none _ _ _ (λ st h. refl)).played; same_faults = refl }

pub returns-in-Err-clause-played : goal.returns-in-Err-clause-played
returns-in-Err-clause-played g c =
    let played = rw c.loop-n.invariant.count at c.in-Err.ensures.played in
    played_stop _ _ _ _ _ _ c.in-Err.stop _ _ _
    (λ st xs ys p q. lines_stop_join c.args.blobs.now (limits c.args.limit (vec_len c.args.listeners.now)) c.args.lines.now c.loop-n.n c.index-lines-n.result c.loop-n-test.true (sym c.index-lines-n.is) st xs ys p q)
    c.loop-n.invariant.played (λ ys left e. left_behind c.args.limit _ ys left e) played

pub loop-n-preserved : goal.loop-n-preserved
loop-n-preserved g c =
    let played = rw c.loop-n.invariant.count at c.in-Ok.ensures.played in
    record {
      count = c.play_line.ensures.count ∙ c.loop-n.invariant.count;
      kept = kept_then _ _ _ _ _ _ _ c.loop-n.invariant.kept c.play_line.ensures.listeners;
      played = played_then _ _ _ _ _ _ _
          (λ st xs ys p q. lines_join c.args.blobs.now (limits c.args.limit (vec_len c.args.listeners.now)) c.args.lines.now c.loop-n.n c.index-lines-n.result c.loop-n-test.true (sym c.index-lines-n.is) st xs ys p q)
          c.loop-n.invariant.played played;
      same_faults = c.in-Ok.ensures.puts.told (gone_through _ _) ∙ c.loop-n.invariant.same_faults;
    }
