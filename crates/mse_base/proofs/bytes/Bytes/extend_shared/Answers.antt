use Rattle.std.proofs.Common.{arith, ◌≡◌, ◌∙◌, ◌++◌, length, take, drop, slice_range, ap}
use Rattle.std.proofs.lemmas.List.{length-take-le}
use Rattle.mse_base.proofs.Slices.{part_longer}
use Rattle.mse_base.proofs.bytes.Bytes.extend_shared.Goals as goal

pub returns-clause-extended : goal.returns-clause-extended
returns-clause-extended c = λ _.
    let items = c.self.inside.shared.value.items in
    let start = c.self.inside.start in
    let end = c.self.inside.end in
    let n = c.args.n in
    let next = c.args.next.now in
    let len = length-take-le n c.as_slice.result.now (omega (arith, ap length c.as_slice.ensures, c.requires)) in
    let at = c.is_at.ensures c.if-not-is_at.false in
    let behind : take n (drop end items) ≡ take n next = cc (len, at, c.as_slice.ensures, c.as_slice-2.ensures.value, c.deref.ensures) in
    part_longer n start end items c.self.invariant.0 ∙ ap (λ xs. slice_range items start end ++ xs) behind ∙ ap (λ xs. xs ++ take n next) c.self.view_is
