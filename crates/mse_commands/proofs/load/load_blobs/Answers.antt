use Rattle.std.proofs.Common.{◌≤◌, ◌+◌, ◌∙◌, take, drop, arith, length-append}
use Rattle.mse_commands.proofs.FailedLoads.{failed_at, loaded_at}
use Rattle.mse_commands.proofs.LoadedFiles.{blobs_end, blobs_step, more_at, parts_at}
use Rattle.mse_commands.proofs.load.load_blobs.Goals as goal

pub returns-in-Err-clause-early_end : goal.returns-in-Err-clause-early_end
returns-in-Err-clause-early_end g c =
    let i = c.loop-text.text-index in
    blobs_end (g.L.Library.table c.args.library.now) (g.L.Library.table c.loop-text.library) (g.L.Library.faults c.args.library.now) (g.L.Library.faults c.loop-text.library)
    (g.L.Library.faults c.load_blob.new.library) c.args.texts.now (take i c.args.texts.now) c.text-item.result (drop (i + 1) c.args.texts.now) c.loop-text.blobs c.in-Err.end
    c.loop-text.invariant.table c.loop-text.invariant.no_fewer_faults (parts_at c.args.texts.now i c.text-item.result c.loop-text-test.true c.text-item.is) c.loop-text.invariant.made c.in-Err.ensures.early_end

pub returns-in-Err-clause-failed_load : goal.returns-in-Err-clause-failed_load
returns-in-Err-clause-failed_load g c = λ other e.
    failed_at g.L.Library.load_gives c.args.texts.now c.loop-text.text-index c.text-item.result other c.args.library.now c.loop-text.library c.load_blob.new.library c.loop-text-test.true
    c.text-item.is c.loop-text.invariant.loads (c.in-Err.ensures.failed_load other (cc (e)))

pub loop-text-preserved : goal.loop-text-preserved
loop-text-preserved g c =
    let i = c.loop-text.text-index in
    let no_fewer : g.L.Library.faults c.args.library.now ≤ g.L.Library.faults c.load_blob.new.library = omega (arith, c.loop-text.invariant.no_fewer_faults, c.load_blob.ensures.failures.no_fewer) in
    record {
      table = c.load_blob.ensures.table ∙ c.loop-text.invariant.table;
      no_fewer_faults = no_fewer;
      same_faults = c.in-Ok.ensures.failures.told (λ e. e) ∙ c.loop-text.invariant.same_faults;
      count = rw c.in-Ok-push.ensures.ok (grind (arith, length-append, c.loop-text.invariant.count));
      made = blobs_step (g.L.Library.table c.args.library.now) (g.L.Library.table c.loop-text.library) (take i c.args.texts.now) (take (i + 1) c.args.texts.now) c.text-item.result
          c.loop-text.blobs c.push.new.self c.in-Ok.bytes c.loop-text.invariant.table (more_at c.args.texts.now i c.text-item.result c.loop-text-test.true c.text-item.is)
          c.in-Ok-push.ensures.ok c.loop-text.invariant.made c.in-Ok.ensures.ok;
      loads = loaded_at g.L.Library.load_gives c.args.texts.now i c.text-item.result c.args.library.now c.loop-text.library c.load_blob.new.library c.loop-text-test.true c.text-item.is
          c.loop-text.invariant.loads c.in-Ok.ensures.loads;
    }
