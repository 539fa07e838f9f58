use Rattle.std.proofs.Common.{map, string_bytes}
use Rattle.std.specs.Prelude.{vec_len}
use Rattle.mse_commands.specs.declared.ending.Status.TheVariants as status
use Rattle.mse_commands.proofs.CompleteRuns.{complete_by, cuts_by}
use Rattle.mse_commands.proofs.FailedLoads.{failed_load_said}
use Rattle.mse_commands.proofs.ProgramRuns.{journal_by, output_by, ways_told}
use Rattle.mse_commands.proofs.RunEnds.{broken_at, loads_told, put_failed, puts_told, said_by, whole_by}
use Rattle.mse_commands.proofs.top.run.Goals as goal

pub returns-in-Ok-true-clause-ends : goal.returns-in-Ok-true-clause-ends
returns-in-Ok-true-clause-ends g c = broken_at (g.L.Library.table c.args.library.now) (map string_bytes c.args.words.now) (vec_len c.args.listeners.now) _ (rw c.in-Ok-true.field-0-test at c.in-Ok-true.ensures.works)

pub returns-in-Ok-true-clause-complete : goal.returns-in-Ok-true-clause-complete
returns-in-Ok-true-clause-complete g c =
    complete_by (g.L.Library.table c.args.library.now) (map string_bytes c.args.words.now) (vec_len c.args.listeners.now) _ _ _ status.Media (broken_at (g.L.Library.table c.args.library.now) (map string_bytes c.args.words.now) (vec_len c.args.listeners.now) _ (rw c.in-Ok-true.field-0-test at c.in-Ok-true.ensures.works))
    (λ e. absurd (cc (e)))

pub returns-in-Ok-true-clause-cuts : goal.returns-in-Ok-true-clause-cuts
returns-in-Ok-true-clause-cuts g c = cuts_by (g.L.Library.table c.args.library.now) (map string_bytes c.args.words.now) (vec_len c.args.listeners.now) _ status.Media (broken_at (g.L.Library.table c.args.library.now) (map string_bytes c.args.words.now) (vec_len c.args.listeners.now) _ (rw c.in-Ok-true.field-0-test at c.in-Ok-true.ensures.works))

pub returns-in-Ok-false-clause-ends : goal.returns-in-Ok-false-clause-ends
returns-in-Ok-false-clause-ends g c = whole_by (g.L.Library.table c.args.library.now) (map string_bytes c.args.words.now) (vec_len c.args.listeners.now) _ (rw c.in-Ok-false.field-0-test at c.in-Ok-false.ensures.works)

pub returns-in-Ok-false-clause-complete : goal.returns-in-Ok-false-clause-complete
returns-in-Ok-false-clause-complete g c =
    complete_by (g.L.Library.table c.args.library.now) (map string_bytes c.args.words.now) (vec_len c.args.listeners.now) _ _ _ status.Ok (whole_by (g.L.Library.table c.args.library.now) (map string_bytes c.args.words.now) (vec_len c.args.listeners.now) _ (rw c.in-Ok-false.field-0-test at c.in-Ok-false.ensures.works))
    (λ e. absurd (cc (e)))

pub returns-in-Ok-false-clause-cuts : goal.returns-in-Ok-false-clause-cuts
returns-in-Ok-false-clause-cuts g c = cuts_by (g.L.Library.table c.args.library.now) (map string_bytes c.args.words.now) (vec_len c.args.listeners.now) _ status.Ok (whole_by (g.L.Library.table c.args.library.now) (map string_bytes c.args.words.now) (vec_len c.args.listeners.now) _ (rw c.in-Ok-false.field-0-test at c.in-Ok-false.ensures.works))

pub returns-in-Err-clause-ends : goal.returns-in-Err-clause-ends
returns-in-Err-clause-ends g c =
    said_by (g.L.Library.table c.args.library.now) (map string_bytes c.args.words.now) (vec_len c.args.listeners.now) _ c.in-Err.end
    (g.K.Sink.written c.say.new.sink) c.say.result c.in-Err.ensures.works c.say.ensures.says

pub returns-in-Err-clause-complete : goal.returns-in-Err-clause-complete
returns-in-Err-clause-complete g c =
    let ends =
    said_by (g.L.Library.table c.args.library.now) (map string_bytes c.args.words.now) (vec_len c.args.listeners.now) _ c.in-Err.end
    (g.K.Sink.written c.say.new.sink) c.say.result c.in-Err.ensures.works c.say.ensures.says in
    complete_by (g.L.Library.table c.args.library.now) (map string_bytes c.args.words.now) (vec_len c.args.listeners.now) _ _ _ c.say.result ends
    (put_failed c.in-Err.end c.say.result _ _ _ c.say.ensures.puts.cause c.in-Err.ensures.puts.cause c.in-Err.ensures.puts.no_fewer c.say.ensures.puts.no_fewer)

pub returns-in-Err-clause-cuts : goal.returns-in-Err-clause-cuts
returns-in-Err-clause-cuts g c =
    let ends =
    said_by (g.L.Library.table c.args.library.now) (map string_bytes c.args.words.now) (vec_len c.args.listeners.now) _ c.in-Err.end
    (g.K.Sink.written c.say.new.sink) c.say.result c.in-Err.ensures.works c.say.ensures.says in
    cuts_by (g.L.Library.table c.args.library.now) (map string_bytes c.args.words.now) (vec_len c.args.listeners.now) _ c.say.result ends

pub returns-in-Err-clause-failed_loads_told : goal.returns-in-Err-clause-failed_loads_told
returns-in-Err-clause-failed_loads_told g c = loads_told c.in-Err.end c.say.result _ _ _ _ c.say.ensures.says c.in-Err.ensures.loads.told

pub returns-in-Err-clause-failed_puts_told : goal.returns-in-Err-clause-failed_puts_told
returns-in-Err-clause-failed_puts_told g c = puts_told c.in-Err.end c.say.result _ _ _ _ _ c.say.ensures.says c.in-Err.ensures.puts.told c.say.ensures.puts.told

pub returns-in-Ok-true-clause-program : goal.returns-in-Ok-true-clause-program
returns-in-Ok-true-clause-program g c =
    output_by (g.L.Library.table c.args.library.now) (map string_bytes c.args.words.now) (vec_len c.args.listeners.now) _ (g.K.Sink.faults c.args.sink.now) _ status.Media _
    (broken_at (g.L.Library.table c.args.library.now) (map string_bytes c.args.words.now) (vec_len c.args.listeners.now) _ (rw c.in-Ok-true.field-0-test at c.in-Ok-true.ensures.works))
    (λ e. absurd (cc (e))) c.requires.no_notes
    (ways_told _ _ _ (vec_len c.args.listeners.now) c.args.listeners.now.items _ c.args.listeners.now.ok.0 c.in-Ok-true.ensures.listeners.ways c.in-Ok-true.ensures.listeners.by_way)

pub returns-in-Ok-true-clause-program_journal : goal.returns-in-Ok-true-clause-program_journal
returns-in-Ok-true-clause-program_journal g c =
    journal_by (g.L.Library.table c.args.library.now) (map string_bytes c.args.words.now) (vec_len c.args.listeners.now) _ (g.K.Sink.faults c.args.sink.now) _ status.Media _
    (broken_at (g.L.Library.table c.args.library.now) (map string_bytes c.args.words.now) (vec_len c.args.listeners.now) _ (rw c.in-Ok-true.field-0-test at c.in-Ok-true.ensures.works))
    (λ e. absurd (cc (e))) c.requires.no_notes
    (ways_told _ _ _ (vec_len c.args.listeners.now) c.args.listeners.now.items _ c.args.listeners.now.ok.0 c.in-Ok-true.ensures.listeners.ways c.in-Ok-true.ensures.listeners.by_way)

pub returns-in-Ok-false-clause-program : goal.returns-in-Ok-false-clause-program
returns-in-Ok-false-clause-program g c =
    output_by (g.L.Library.table c.args.library.now) (map string_bytes c.args.words.now) (vec_len c.args.listeners.now) _ (g.K.Sink.faults c.args.sink.now) _ status.Ok _
    (whole_by (g.L.Library.table c.args.library.now) (map string_bytes c.args.words.now) (vec_len c.args.listeners.now) _ (rw c.in-Ok-false.field-0-test at c.in-Ok-false.ensures.works))
    (λ e. absurd (cc (e))) c.requires.no_notes
    (ways_told _ _ _ (vec_len c.args.listeners.now) c.args.listeners.now.items _ c.args.listeners.now.ok.0 c.in-Ok-false.ensures.listeners.ways c.in-Ok-false.ensures.listeners.by_way)

pub returns-in-Ok-false-clause-program_journal : goal.returns-in-Ok-false-clause-program_journal
returns-in-Ok-false-clause-program_journal g c =
    journal_by (g.L.Library.table c.args.library.now) (map string_bytes c.args.words.now) (vec_len c.args.listeners.now) _ (g.K.Sink.faults c.args.sink.now) _ status.Ok _
    (whole_by (g.L.Library.table c.args.library.now) (map string_bytes c.args.words.now) (vec_len c.args.listeners.now) _ (rw c.in-Ok-false.field-0-test at c.in-Ok-false.ensures.works))
    (λ e. absurd (cc (e))) c.requires.no_notes
    (ways_told _ _ _ (vec_len c.args.listeners.now) c.args.listeners.now.items _ c.args.listeners.now.ok.0 c.in-Ok-false.ensures.listeners.ways c.in-Ok-false.ensures.listeners.by_way)

pub returns-in-Err-clause-program : goal.returns-in-Err-clause-program
returns-in-Err-clause-program g c =
    let ends =
    said_by (g.L.Library.table c.args.library.now) (map string_bytes c.args.words.now) (vec_len c.args.listeners.now) _ c.in-Err.end
    (g.K.Sink.written c.say.new.sink) c.say.result c.in-Err.ensures.works c.say.ensures.says in
    output_by (g.L.Library.table c.args.library.now) (map string_bytes c.args.words.now) (vec_len c.args.listeners.now) _ (g.K.Sink.faults c.args.sink.now) _ c.say.result _ ends
    (put_failed c.in-Err.end c.say.result _ _ _ c.say.ensures.puts.cause c.in-Err.ensures.puts.cause c.in-Err.ensures.puts.no_fewer c.say.ensures.puts.no_fewer) c.requires.no_notes
    (ways_told _ _ _ (vec_len c.args.listeners.now) c.args.listeners.now.items _ c.args.listeners.now.ok.0 c.in-Err.ensures.listeners.ways c.in-Err.ensures.listeners.by_way)

pub returns-in-Err-clause-program_journal : goal.returns-in-Err-clause-program_journal
returns-in-Err-clause-program_journal g c =
    let ends =
    said_by (g.L.Library.table c.args.library.now) (map string_bytes c.args.words.now) (vec_len c.args.listeners.now) _ c.in-Err.end
    (g.K.Sink.written c.say.new.sink) c.say.result c.in-Err.ensures.works c.say.ensures.says in
    journal_by (g.L.Library.table c.args.library.now) (map string_bytes c.args.words.now) (vec_len c.args.listeners.now) _ (g.K.Sink.faults c.args.sink.now) _ c.say.result _ ends
    (put_failed c.in-Err.end c.say.result _ _ _ c.say.ensures.puts.cause c.in-Err.ensures.puts.cause c.in-Err.ensures.puts.no_fewer c.say.ensures.puts.no_fewer) c.requires.no_notes
    (ways_told _ _ _ (vec_len c.args.listeners.now) c.args.listeners.now.items _ c.args.listeners.now.ok.0 c.in-Err.ensures.listeners.ways c.in-Err.ensures.listeners.by_way)

pub returns-in-Err-clause-failed_load : goal.returns-in-Err-clause-failed_load
returns-in-Err-clause-failed_load g c =
    failed_load_said g.L.Library.load_gives (g.L.Library.table c.args.library.now) (map string_bytes c.args.words.now) (vec_len c.args.listeners.now) _ c.in-Err.end c.args.library.now
    c.work.new.library (g.K.Sink.written c.say.new.sink) c.say.result c.in-Err.ensures.works c.in-Err.ensures.failed_load c.say.ensures.says
