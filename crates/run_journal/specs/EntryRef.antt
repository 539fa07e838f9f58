-- The entry that is looked up.
use Rattle.mse_calls.specs.declared.answers.Answer.TheVariants.{Done}
use Rattle.mse_calls.specs.declared.calls.Call.TheVariants.{AppendBuffer}
use Rattle.mse_calls.specs.declared.entry.Entry.{Entry}
use Rattle.mse_calls.specs.declared.entry.Entry.TheVariants as entry
use Rattle.run_journal.specs.declared.entry_ref.EntryRef.{EntryRef}
use Rattle.run_journal.specs.declared.entry_ref.EntryRef.TheVariants.{Step, Script, Append, Listener, Fired, Work, Element}

-- the entry, with what it borrows
abbrev pub entry_of : EntryRef → Entry
entry_of (Step n) = entry.Step n
entry_of (Script call answer) = entry.Script call.now answer.now
entry_of (Append k piece) = entry.Script (AppendBuffer k piece) Done
entry_of (Listener number call answer) = entry.Listener number call.now answer.now
entry_of (Fired event) = entry.Fired event
entry_of (Work k) = entry.Work k
entry_of Element = entry.Element
