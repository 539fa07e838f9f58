use Rattle.std.proofs.Common.{rules, ◌≡◌, ◌∙◌, ◌<◌, ap, subst, List, ℕ, false}
use Rattle.std.specs.Prelude.{slice_index, codes, bytes_eq}
use Rattle.std.specs.Char.{is_ascii_digit}
use Rattle.std.specs.List.{list_all}
use borrow.Author.Tests.{tests}
use Rattle.std.proofs.lemmas.Iterator.{YieldsList-from_slice}
use Rattle.std.proofs.lemmas.Iterator.Search.{all_from_yields_List}
use Rattle.call_script.proofs.ParsedNumbers.{number-by-digits}
use Rattle.call_script.proofs.numbers.is_number.Goals as goal

pub returns-in-len1-up : goal.returns-in-len1-up
returns-in-len1-up c =
    let text : List ℕ = c.args.text.now in
    let same = c.as_bytes-digits.ensures.value in
    let all = all_from_yields_List is_ascii_digit _ _ c.all.result c.all.ensures.ran (YieldsList-from_slice c.as_bytes-digits.result.now cc) (λ x b q k. search (rules, tests)) in
    let first : 48 < slice_index text 0 = subst (λ (t : List ℕ). 48 < slice_index t 0) same c.if-first-gt48.true in
    let other : bytes_eq text (codes "0") ≡ false = search rules in
    number-by-digits text c.all.result other first (all ∙ ap (list_all is_ascii_digit) same)
