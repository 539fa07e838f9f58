-- What a run of a case is, and when it is as wanted.
use denote.Ref.{Bor}
use Rattle.std.specs.Prelude.{◌≡◌, ℕ, true, List, [], ◌∷◌, Some, None, IsSomeAnd, map, string_bytes, if◌then◌else◌}
use Rattle.mse_outside.specs.Memory.{LibraryState, SinkState, IsMemoryLoad, table_of}
use Rattle.mse_outside.specs.Outside.{sink_view}
use Rattle.mse_commands.specs.declared.ending.Status.{Status}
use Rattle.mse_commands.specs.Endings.{status_number}
use Rattle.rule_run.specs.ByRules.{IsRunByRules, LibraryAndSink, library_and_sink}
use Rattle.case_runs.specs.declared.files.CaseFile.{CaseFile}
use Rattle.case_runs.specs.declared.list.Case.{Case}
use Rattle.case_runs.specs.declared.printed.Setting.{Setting}
use Rattle.case_runs.specs.declared.printed.Store.{Store}
use Rattle.case_runs.specs.Given.{files_in, with_changed}

-- all files as they are, and nothing fails
abbrev pub plain : Bor (List CaseFile) → Store → Setting
plain files store = record {
  files = files;
  store = store;
  is_heard = true;
  changed = None;
  failing_load = 0;
  failing_put = (0, 0);
}

-- the library of a setting, of which nothing was loaded yet
abbrev pub library_of : Setting → LibraryState
library_of setting = record {
  files = with_changed setting.changed (files_in setting.files.now);
  failing = setting.failing_load ∷ [];
  calls = 0;
  faults = 0;
}

-- its sink, which was given nothing yet
abbrev pub sink_of : Setting → SinkState
sink_of setting = record {
  written = [];
  puts = [];
  failing = setting.failing_put ∷ [];
  calls = 0;
  faults = 0;
}

abbrev pub library_and_memory : LibraryState → SinkState → LibraryAndSink LibraryState
library_and_memory library sink =
    library_and_sink (λ l. l.faults) (λ s. sink_view (Some s.written) (Some s.puts)) (λ s. s.faults)
    library sink

-- The words were run with this setting by the rules of the program: the run came to the status of this number, and left
-- this sink.
pub record IsRunOf (setting : Setting) (words : List (List ℕ)) (status : ℕ) (sink : SinkState)
    : Type 0 where
  pub end : Status
  pub number : status ≡ status_number end
  pub library : LibraryState
  pub run : IsRunByRules (if setting.is_heard then 16 else 0)
      (Some (table_of (library_of setting).files)) IsMemoryLoad words
      (library_and_memory (library_of setting) (sink_of setting))
      (library_and_memory library sink) end

-- Such a run came to this status, and printed this text.
pub record Prints (setting : Setting) (words : List (List ℕ)) (status : ℕ) (text : List ℕ)
    : Type 0 where
  pub sink : SinkState
  pub run : IsRunOf setting words status sink
  pub printed : sink.written ≡ text

-- The words of a case print its text, and come to its status.
abbrev pub IsAsWanted : Setting → Case → Type 0
IsAsWanted setting case = IsSomeAnd (table_of (files_in setting.files.now) case.text.now)
    (Prints setting (map string_bytes case.words.items) case.status)
