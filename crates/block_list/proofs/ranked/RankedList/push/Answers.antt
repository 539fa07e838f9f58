use Rattle.std.proofs.Common.{◌≡◌, ◌∙◌, ◌+◌, ◌-◌, ◌++◌, ◌∷◌, [], ℕ, List, length, take, ap, sym, subst, arith}
use Rattle.mse_base.specs.Rows.{row_items}
use Rattle.block_list.specs.Starts.{starts_of, AreStartsUpTo}
use Rattle.block_list.proofs.RowStarts.{length_starts, more_starts, same_starts, kept_more}
use Rattle.block_list.proofs.ranked.RankedList.push.Goals as goal

pub invariant_of-self : goal.invariant_of-self
invariant_of-self g c =
    let old = c.self.inside.list.rows in
    let new = c.push.new.self.rows in
    let kept = c.fit.ensures.starts in
    let n = length_starts 0 old in
    let few1 = c.push.ensures.one_block_apart.1 in
    let longer : length new ≡ length old + 1 = omega (arith, kept.long, n, few1, c.len.ensures, c.blocks-2.ensures, c.if-len-blocks.true, c.fit.new.starts.ok.0) in
    let z : length old ≡ length new - 1 = omega arith in
    let front : take (length old) new ≡ take (length old) old = ap (λ k. take k new) z ∙ c.push.ensures.front ∙ ap (λ k. take k old) (sym z) in
    let all : 0 + length (row_items old) ≡ c.len-len.result = omega (arith, c.len-len.ensures) in
    let more = more_starts 0 old new longer front ∙ ap (λ k. starts_of old ++ k ∷ []) all in
    subst (λ (ks : List ℕ). AreStartsUpTo ks c.fit.new.settled c.fit.new.excess (starts_of new)) (sym c.push_reserved.ensures.items) (kept_more c.fit.new.starts.items (starts_of old) (starts_of new) c.fit.new.settled c.fit.new.excess c.len-len.result kept more)

pub invariant_of-self-else-len-blocks : goal.invariant_of-self-else-len-blocks
invariant_of-self-else-len-blocks g c =
    let old = c.self.inside.list.rows in
    let new = c.push.new.self.rows in
    let kept = c.fit.ensures.starts in
    let n = length_starts 0 old in
    let few0 = c.push.ensures.one_block_apart.0 in
    let same : length old ≡ length new = omega (arith, kept.long, n, few0, c.len.ensures, c.blocks-2.ensures, c.if-len-blocks.false, c.fit.new.starts.ok.0) in
    let z : length old - 1 ≡ length new - 1 = omega arith in
    subst (λ (us : List ℕ). AreStartsUpTo c.fit.new.starts.items c.fit.new.settled c.fit.new.excess us) (same_starts 0 old new same (ap (λ k. take k old) z ∙ sym c.push.ensures.front ∙ ap (λ k. take k new) (sym z))) kept
