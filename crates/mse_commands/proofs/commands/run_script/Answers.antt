use Rattle.std.proofs.Common.{◌≡◌, ◌≤◌, ◌∙◌, ap, refl, arith, length, []}
use Rattle.std.specs.Prelude.{vec_len}
use Rattle.run_journal.specs.JournalView.{JournalView}
use Rattle.mse_commands.proofs.ReadScripts.{steps_few}
use Rattle.mse_commands.proofs.DoneTasks.{blobs_not_loaded, script_not_loaded, script_works}
use Rattle.mse_commands.proofs.FailedLoads.{blob_failed, script_failed}
use Rattle.listeners.proofs.ListenerWays.{unheard_by_way}
use Rattle.mse_commands.proofs.commands.run_script.Goals as goal

pub returns-in-Err-clause-works : goal.returns-in-Err-clause-works
returns-in-Err-clause-works g c =
    script_not_loaded (g.L.Library.table c.args.library.now) (g.L.Library.faults c.args.library.now) (g.L.Library.faults c.load_script.new.library) c.args.name.now c.in-Err.end
    c.args.journal.now.entries c.args.engine.now (g.K.Sink.written c.args.sink.now) (vec_len c.args.listeners.now) _ _ c.requires.journal c.requires.no_engine c.in-Err.ensures.early_end

pub returns-in-Err-load_blobs-clause-works : goal.returns-in-Err-load_blobs-clause-works
returns-in-Err-load_blobs-clause-works g c =
    let ends = rw (c.in-Ok.ensures.table, c.as_slice.ensures) at c.in-Err-load_blobs.ensures.early_end in
    blobs_not_loaded (g.L.Library.table c.args.library.now) (g.L.Library.faults c.args.library.now) (g.L.Library.faults c.load_script.new.library) (g.L.Library.faults c.load_blobs.new.library)
    c.args.name.now c.in-Ok.script c.in-Err-load_blobs.end c.args.journal.now.entries c.args.engine.now (g.K.Sink.written c.args.sink.now) (vec_len c.args.listeners.now) _ _
    c.requires.journal c.requires.no_engine c.in-Ok.ensures.failures.no_fewer c.in-Ok.ensures.ok ends

pub play_script-result-requires-clause-lines : goal.play_script-result-requires-clause-lines
play_script-result-requires-clause-lines g c =
    let few : length c.in-Ok.script.steps ≤ 100000 = steps_few c.in-Ok.ensures.as_read.0 c.in-Ok.script c.in-Ok.ensures.as_read.1 in
    omega (arith, few)

pub returns-clause-works : goal.returns-clause-works
returns-clause-works g c =
    let are = rw (c.in-Ok.ensures.table, c.as_slice.ensures) at c.in-Ok-load_blobs.ensures.ok in
    let len : length c.in-Ok-load_blobs.blobs ≡ length c.in-Ok.script.blobs = rw c.as_slice.ensures at c.in-Ok-load_blobs.ensures.count in
    let stands = rw c.gap_of.ensures at c.new-run.ensures.engine in
    let fresh : c.new-run.result.entries ≡ [] = c.new-run.ensures.entries ∙ ap (λ (b : JournalView). b.entries) c.replace-entries.ensures.value ∙ c.requires.journal in
    rw (c.hand_out.ensures.entries, c.hand_out.ensures.engine)
    (script_works (g.L.Library.table c.args.library.now) (g.L.Library.faults c.args.library.now) (g.L.Library.faults c.load_blobs.new.library) c.args.name.now c.in-Ok.script c.in-Ok-load_blobs.blobs
    _ _ (vec_len c.args.listeners.now) _ _ c.play_script-result.result c.in-Ok.ensures.as_read len c.in-Ok.ensures.ok are stands fresh c.play_script-result.ensures.plays)

pub returns-in-Err-clause-listeners : goal.returns-in-Err-clause-listeners
returns-in-Err-clause-listeners g c = record { kinds = refl; ways = refl; by_way = unheard_by_way _ _ _ _ c.requires.no_notes }

pub returns-in-Err-load_blobs-clause-listeners : goal.returns-in-Err-load_blobs-clause-listeners
returns-in-Err-load_blobs-clause-listeners g c = record { kinds = refl; ways = refl; by_way = unheard_by_way _ _ _ _ c.requires.no_notes }

pub returns-in-Err-clause-failed_load : goal.returns-in-Err-clause-failed_load
returns-in-Err-clause-failed_load g c = λ other e.
    script_failed g.L.Library.load_gives (g.L.Library.table c.args.library.now) c.args.name.now other c.args.library.now c.load_script.new.library (c.in-Err.ensures.failed_load other (cc (e)))

pub returns-in-Err-load_blobs-clause-failed_load : goal.returns-in-Err-load_blobs-clause-failed_load
returns-in-Err-load_blobs-clause-failed_load g c = λ other e.
    let failed = rw c.as_slice.ensures at c.in-Err-load_blobs.ensures.failed_load other (cc (e)) in
    blob_failed g.L.Library.load_gives (g.L.Library.table c.args.library.now) c.args.name.now c.in-Ok.script other c.args.library.now c.load_script.new.library c.load_blobs.new.library
    c.in-Ok.ensures.ok c.in-Ok.ensures.loads failed
