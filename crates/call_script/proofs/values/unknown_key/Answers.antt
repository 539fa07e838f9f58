use Rattle.std.proofs.Common.{rules, ◌≡◌, ◌∙◌, sym, ap, refl, Bor}
use borrow.Author.Tests.{tests}
use Rattle.std.specs.Prelude.{string_bytes, not, Option, Some, None, option_map, String}
use Rattle.std.specs.declared.alloc.Global.{Global}
use Rattle.std.specs.BTreeMap.{keys}
use Rattle.std.proofs.lemmas.Iterator.Consumers.{YieldsList-from_rest}
use Rattle.std.proofs.lemmas.Iterator.Search.{find_from_yields_List}
use Rattle.call_script.specs.Keys.{is_script_key}
use Rattle.call_script.proofs.KeyLists.{find_key, unknown_key-sorted}
use Rattle.call_script.proofs.values.unknown_key.Goals as goal

bytes_of_ref : (r : Option (Bor (String Global))) → option_map (λ k. string_bytes k.now) r ≡ option_map (λ k. string_bytes k) (option_map (λ k. k.now) r)
bytes_of_ref None = refl
bytes_of_ref (Some k) = refl

pub returns : goal.returns
returns c =
    let found = find_from_yields_List (λ k. not (is_script_key (string_bytes k))) _ _ c.find.result c.find.ensures.ran (YieldsList-from_rest (keys c.args.table.now) c.keys.ensures.rest) (λ x b q k. search (rules, tests)) in
    bytes_of_ref c.find.result ∙ ap (option_map (λ k. string_bytes k)) found ∙ sym (find_key (λ key. not (is_script_key key)) c.args.table.now.entries)
    ∙ sym (unknown_key-sorted c.args.table.now.entries c.keys.ensures.ordered)
