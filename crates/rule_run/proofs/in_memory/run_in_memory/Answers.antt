use Rattle.std.proofs.Common.{ap, map, refl}
use Rattle.std.specs.Prelude.{Some, string_bytes}
use Rattle.mse_outside.specs.Memory.{SureSinkState}
use Rattle.mse_commands.specs.Program.{by_rules, program_of}
use Rattle.rule_run.proofs.PrintedTexts.{run_of_empty, told_text, zero_stays}
use Rattle.rule_run.proofs.in_memory.run_in_memory.Goals as goal

pub returns-clause-text : goal.returns-clause-text
returns-clause-text g c =
    told_text (g.L.Library.table c.args.library.now) _ _ (λ files. program_of (by_rules c.args.count) files (map string_bytes c.args.words.now)) _ _ _ _
    (ap (λ (s : SureSinkState). Some s.written) c.new-sink.ensures) refl zero_stays c.in_ok-end.ensures.run.program

pub returns-clause-run : goal.returns-clause-run
returns-clause-run g c =
    run_of_empty _ _ _ _ g.L.Library.faults c.args.library.now c.new-sink.result _ _ c.new-sink.ensures c.in_ok-end.ensures.run

pub returns-clause-no_failed_put : goal.returns-clause-no_failed_put
returns-clause-no_failed_put g c = λ e. zero_stays (c.in_ok-end.ensures.run.write e)
