use Rattle.std.proofs.Common.{rules, ◌≡◌, ◌∙◌, ap}
use Rattle.std.specs.Prelude.{Err}
use Rattle.call_script.specs.declared.fault.ScriptFault.{ScriptFault}
use Rattle.call_script.specs.declared.fault.ScriptFault.TheVariants.{NotToml}
use Rattle.call_script.proofs.TomlAnswers.{answer_ok, answer_fault, read_ok, read_refused}
use Rattle.call_script.proofs.reading.read_script.Goals as goal

pub returns-in-Ok-clause-ok : goal.returns-in-Ok-clause-ok
returns-in-Ok-clause-ok c = answer_ok c.read_table.result _ (read_ok _ _ c.in-Ok.ensures.ok.0 c.in-Ok.ensures.ok.1) c.read_table.ensures

pub returns-in-Ok-clause-fault : goal.returns-in-Ok-clause-fault
returns-in-Ok-clause-fault c = answer_fault c.read_table.result _ (read_ok _ _ c.in-Ok.ensures.ok.0 c.in-Ok.ensures.ok.1) c.read_table.ensures

pub returns-else-is_memory-clause-fault : goal.returns-else-is_memory-clause-fault
returns-else-is_memory-clause-fault c = λ f e.
    let same : NotToml ≡ f = cc in
    read_refused _ (c.in-Err.ensures.refused (λ m. search (rules, c.is_memory.ensures))) ∙ ap (λ (x : ScriptFault). Err x) same
