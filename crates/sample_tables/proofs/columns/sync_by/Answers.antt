use Rattle.std.proofs.Common.{◌≡◌, ◌+◌, eqb, false, length, ap, ◌∙◌, arith, take_all}
use Rattle.std.specs.List.{list_any}
use Rattle.std.proofs.lemmas.List.FromFn.{fill_by_all}
use Rattle.sample_tables.proofs.columns.sync_by.Goals as goal

pub returns : goal.returns
returns c =
    let numbers = c.args.numbers.now in
    let len : length c.loop-number.each.items ≡ c.args.n = omega (arith, c.loop-number.invariant.len) in
    fill_by_all (λ i. list_any (λ number. eqb number (i + 1)) numbers) c.loop-number.each.items c.args.n false len
    (λ k h. c.loop-number.invariant.marks k h ∙ ap (λ xs. list_any (λ number. eqb number (k + 1)) xs) (take_all c.loop-number.number-index numbers c.loop-number-test.false))
