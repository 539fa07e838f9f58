use Rattle.std.proofs.Common.{◌≡◌, ◌∙◌, ℕ, List, [], ap, subst}
use Rattle.std.specs.Prelude.{Some, if◌then◌else◌}
use Rattle.mse_outside.specs.Memory.{LibraryState, SinkState, IsMemoryLoad, table_of}
use Rattle.mse_commands.specs.declared.ending.Status.{Status}
use Rattle.mse_commands.specs.Endings.{status_number}
use Rattle.rule_run.specs.ByRules.{IsRunByRules}
use Rattle.case_runs.specs.declared.printed.Setting.{Setting}
use Rattle.case_runs.specs.Runs.{IsRunOf, library_of, sink_of, library_and_memory}
use Rattle.case_runs.proofs.printed.run_over.Goals as goal

abbrev empty_sink : List (ℕ × ℕ) → SinkState
empty_sink failing = record { written = []; puts = []; failing = failing; calls = 0; faults = 0 }

run_of : (setting : Setting) (words : List (List ℕ)) (count status : ℕ) (end : Status) (library after : LibraryState) (sink left : SinkState) → status ≡ status_number end → count ≡ (if setting.is_heard then 16 else 0) → library ≡ library_of setting → sink ≡ sink_of setting → IsRunByRules count (Some (table_of library.files)) IsMemoryLoad words (library_and_memory library sink) (library_and_memory after left) end → IsRunOf setting words status left
run_of setting words count status end library after sink left number heard given empty run =
    let P : ℕ → LibraryState → SinkState → Type 0 = λ n l s. IsRunByRules n (Some (table_of l.files)) IsMemoryLoad words (library_and_memory l s) (library_and_memory after left) end in
    record {
      end = end;
      number = number;
      library = after;
      run = subst (λ (n : ℕ). P n (library_of setting) (sink_of setting)) heard (subst (λ (l : LibraryState). P count l (sink_of setting)) given (subst (λ (s : SinkState). P count library s) empty run));
    }

pub returns : goal.returns
returns g c =
    run_of c.args.setting.now _ _ _ c.in_ok-status.status c.library-library.result c.run_by_rules.new.library c.new-sink.result c.run_by_rules.new.sink c.number.ensures c.listeners-count.ensures c.library-library.ensures
    (c.new-sink.ensures ∙ ap (λ (failing : List (ℕ × ℕ)). empty_sink failing) c.in_ok-vec.ensures.items) c.in_ok-status.ensures.run
