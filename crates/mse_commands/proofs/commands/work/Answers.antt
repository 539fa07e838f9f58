use Rattle.std.proofs.Common.{◌≡◌, refl, map, string_bytes}
use Rattle.std.specs.Prelude.{None, Some, vec_len}
use Rattle.mse_commands.specs.Words.{command_of}
use Rattle.mse_commands.specs.declared.words.Command.TheVariants.{Play, Remux}
use Rattle.mse_commands.proofs.ShownFiles.{asked_by, no_words}
use Rattle.listeners.proofs.ListenerWays.{unheard_by_way}
use Rattle.mse_commands.proofs.commands.work.Goals as goal

pub returns-in_default-clause-works : goal.returns-in_default-clause-works
returns-in_default-clause-works g c =
    let none : None ≡ command_of (map string_bytes c.args.words.now) = cc (c.in_default.is, c.read_command.ensures.value) in
    no_words (g.L.Library.table c.args.library.now) (vec_len c.args.listeners.now) (g.L.Library.faults c.args.library.now) (map string_bytes c.args.words.now)
    c.args.journal.now.entries c.args.engine.now (g.K.Sink.written c.args.sink.now) _ _ none c.requires.journal c.requires.no_engine

pub returns-in_default-clause-listeners : goal.returns-in_default-clause-listeners
returns-in_default-clause-listeners g c = record { kinds = refl; ways = refl; by_way = unheard_by_way _ _ _ _ c.requires.no_notes }

pub returns-in-Play-clause-works : goal.returns-in-Play-clause-works
returns-in-Play-clause-works g c =
    let asked : Some Play ≡ command_of (map string_bytes c.args.words.now) = cc (c.in-Some.is, c.in-Play.is, c.read_command.ensures.value) in
    asked_by (g.L.Library.table c.args.library.now) (map string_bytes c.args.words.now) c.file_name-name.result.now (Some Play) _ c.file_name-name.ensures asked c.run_script.ensures.works

pub returns-in-Play-clause-failed_load : goal.returns-in-Play-clause-failed_load
returns-in-Play-clause-failed_load g c = λ other e.
    let asked : Some Play ≡ command_of (map string_bytes c.args.words.now) = cc (c.in-Some.is, c.in-Play.is, c.read_command.ensures.value) in
    asked_by (g.L.Library.table c.args.library.now) (map string_bytes c.args.words.now) c.file_name-name.result.now (Some Play) _ c.file_name-name.ensures asked (c.run_script.ensures.failed_load other e)

pub returns-in-Remux-clause-works : goal.returns-in-Remux-clause-works
returns-in-Remux-clause-works g c =
    let asked : Some Remux ≡ command_of (map string_bytes c.args.words.now) = cc (c.in-Some.is, c.in-Remux.is, c.read_command.ensures.value) in
    rw (c.requires.journal, c.requires.no_engine)
    (asked_by (g.L.Library.table c.args.library.now) (map string_bytes c.args.words.now) c.file_name-name.result.now (Some Remux) _ c.file_name-name.ensures asked
    (c.run_remux.ensures.works (vec_len c.args.listeners.now) _ _))

pub returns-in-Remux-clause-failed_load : goal.returns-in-Remux-clause-failed_load
returns-in-Remux-clause-failed_load g c = λ other e.
    let asked : Some Remux ≡ command_of (map string_bytes c.args.words.now) = cc (c.in-Some.is, c.in-Remux.is, c.read_command.ensures.value) in
    asked_by (g.L.Library.table c.args.library.now) (map string_bytes c.args.words.now) c.file_name-name.result.now (Some Remux) _ c.file_name-name.ensures asked (c.run_remux.ensures.failed_load other e)

pub returns-in-Remux-clause-listeners : goal.returns-in-Remux-clause-listeners
returns-in-Remux-clause-listeners g c = record { kinds = refl; ways = refl; by_way = unheard_by_way _ _ _ _ c.requires.no_notes }

pub returns-in-Ranges-clause-works : goal.returns-in-Ranges-clause-works
returns-in-Ranges-clause-works g c =
    let asked : Some c.in-Some.command ≡ command_of (map string_bytes c.args.words.now) = cc (c.in-Some.is, c.read_command.ensures.value) in
    asked_by (g.L.Library.table c.args.library.now) (map string_bytes c.args.words.now) c.file_name-name.result.now (Some c.in-Some.command) _ c.file_name-name.ensures asked
    (c.run_file.ensures.works (vec_len c.args.listeners.now) _ _)

pub returns-in-Ranges-clause-failed_load : goal.returns-in-Ranges-clause-failed_load
returns-in-Ranges-clause-failed_load g c = λ other e.
    let asked : Some c.in-Some.command ≡ command_of (map string_bytes c.args.words.now) = cc (c.in-Some.is, c.read_command.ensures.value) in
    asked_by (g.L.Library.table c.args.library.now) (map string_bytes c.args.words.now) c.file_name-name.result.now (Some c.in-Some.command) _ c.file_name-name.ensures asked
    (c.run_file.ensures.failed_load other e)

pub returns-in-Ranges-clause-listeners : goal.returns-in-Ranges-clause-listeners
returns-in-Ranges-clause-listeners g c = record { kinds = refl; ways = refl; by_way = unheard_by_way _ _ _ _ c.requires.no_notes }
