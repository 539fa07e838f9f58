use Rattle.std.proofs.Common.{◌≡◌, ◌+◌, ◌-◌, ◌∷◌, ◌<◌, ◌++◌, ℕ, List, [], true, false, take, drop, length, subst, ap, arith}
use Rattle.std.specs.List.{AllByRecursion}
use Rattle.mse_base.specs.Rows.{row_items, row}
use Rattle.block_list.proofs.TestedFronts.{cut_row}
use Rattle.block_list.proofs.RemovedStretch.{take_at, drop_at}
use Rattle.block_list.proofs.finding.search.Goals as goal

pub place_in-index-requires : goal.place_in-index-requires
place_in-index-requires g c = record {
  cut = rw c.block-items.ensures.value (cut_row (g.P.Test.is_passed_by c.args.test.now) c.args.list.now.rows (c.block_of-b.result - 1) c.requires (omega (arith, c.block_of-b.ensures.within)));
  small = omega (arith, c.block-items.ensures.at_most_128);
}

pub returns-then-b-eq0-clause-after : goal.returns-then-b-eq0-clause-after
returns-then-b-eq0-clause-after g c = subst (λ (n : ℕ). AllByRecursion (λ x. g.P.Test.is_passed_by c.args.test.now x ≡ false) (row_items (drop n c.args.list.now.rows))) c.if-b-eq0.true c.block_of-b.ensures.after

all_join : {T : Type 0} (P : T → Type 0) (xs ys : List T) → AllByRecursion P xs → AllByRecursion P ys → AllByRecursion P (xs ++ ys)
all_join P [] ys h k = k
all_join P (x ∷ xs) ys h k = (h.0, all_join P xs ys h.1 k)

pub returns-clause-before : goal.returns-clause-before
returns-clause-before g c =
    let rows = c.args.list.now.rows in
    let b = c.block_of-b.result - 1 in
    let l : b < length rows = omega (arith, c.block_of-b.ensures.within) in
    let front = subst (λ r. AllByRecursion (λ x. g.P.Test.is_passed_by c.args.test.now x ≡ true) (take c.place_in-index.result r)) c.block-items.ensures.value c.place_in-index.ensures.before in
    rw (take_at rows b c.place_in-index.result l (omega (arith, c.place_in-index.ensures.within, ap length c.block-items.ensures.value))) (all_join (λ x. g.P.Test.is_passed_by c.args.test.now x ≡ true) (row_items (take b rows)) (take c.place_in-index.result (row rows b)) c.block_of-b.ensures.before front)

pub returns-clause-after : goal.returns-clause-after
returns-clause-after g c =
    let rows = c.args.list.now.rows in
    let b = c.block_of-b.result - 1 in
    let l : b < length rows = omega (arith, c.block_of-b.ensures.within) in
    let z : b + 1 ≡ c.block_of-b.result = omega arith in
    let rest = subst (λ r. AllByRecursion (λ x. g.P.Test.is_passed_by c.args.test.now x ≡ false) (drop c.place_in-index.result r)) c.block-items.ensures.value c.place_in-index.ensures.after in
    rw (drop_at rows b c.place_in-index.result l (omega (arith, c.place_in-index.ensures.within, ap length c.block-items.ensures.value)), z) (all_join (λ x. g.P.Test.is_passed_by c.args.test.now x ≡ false) (drop c.place_in-index.result (row rows b)) (row_items (drop c.block_of-b.result rows)) rest c.block_of-b.ensures.after)
