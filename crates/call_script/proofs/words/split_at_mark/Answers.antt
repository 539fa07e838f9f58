use Rattle.std.proofs.Common.{◌≡◌, ◌∙◌, ap, sym, Some, None, Option, List, ℕ, ◌<◌, Bor}
use Rattle.std.proofs.lemmas.Str.Pattern.{split_once_first, IsSplitOnceResult}
use Rattle.call_script.specs.Words.{rest_after}
use Rattle.call_script.proofs.Marks.{rest_after-none, rest_after-some}
use Rattle.call_script.proofs.words.split_at_mark.Goals as goal

rest_some : (mark : ℕ) (text : List ℕ) (r : Option (Bor (List ℕ) × Bor (List ℕ))) (x : Bor (List ℕ) × Bor (List ℕ)) → mark < 128 → IsSplitOnceResult mark text r → r ≡ Some x → Some x.1.now ≡ rest_after mark text
rest_some mark text (Some y) x small h e =
    let parts = split_once_first mark text (Some y) h small in
    let same : y ≡ x = cc in
    ap (λ (p : Bor (List ℕ) × Bor (List ℕ)). Some p.1.now) (sym same) ∙ ap (λ (t : List ℕ). Some t) parts.2 ∙ sym (rest_after-some mark text parts.0)
rest_some mark text None x small h e = cc

rest_none : (mark : ℕ) (text : List ℕ) (r : Option (Bor (List ℕ) × Bor (List ℕ))) → mark < 128 → IsSplitOnceResult mark text r → r ≡ None → None ≡ rest_after mark text
rest_none mark text None small h e = sym (rest_after-none mark text (split_once_first mark text None h small))
rest_none mark text (Some y) small h e = cc

pub returns-in-Some-clause-rest : goal.returns-in-Some-clause-rest
returns-in-Some-clause-rest c = rest_some c.args.mark c.args.text.now c.split_once.result _ c.requires c.split_once.ensures.cases c.in-Some.is

pub returns-in-None-clause-rest : goal.returns-in-None-clause-rest
returns-in-None-clause-rest c = rest_none c.args.mark c.args.text.now c.split_once.result c.requires c.split_once.ensures.cases c.in-None.is
