use Rattle.std.proofs.Common.{rules, tests, ◌∙◌, sym}
use Rattle.std.specs.Prelude.{string_bytes}
use Rattle.std.specs.BTreeMap.{keys}
use Rattle.std.proofs.lemmas.Iterator.Consumers.{YieldsList-from_rest}
use Rattle.std.proofs.lemmas.Iterator.Search.{all_from_yields_List}
use Rattle.call_script.specs.Keys.{is_rule_key}
use Rattle.call_script.proofs.KeyLists.{all_keys}
use Rattle.call_script.proofs.values.has_rule_keys.Goals as goal

pub returns : goal.returns
returns c =
    all_from_yields_List (λ k. is_rule_key (string_bytes k)) _ _ c.all.result c.all.ensures.ran (YieldsList-from_rest (keys c.args.table.now) c.keys.ensures.rest) (λ x b q k. search (rules, tests))
    ∙ sym (all_keys is_rule_key c.args.table.now.entries)
