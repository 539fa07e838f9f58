use Rattle.std.proofs.Common.{rules, ◌≡◌, ◌*ℤ◌, ◌/◌, ◌%◌, pos, ap, sym, ◌∙◌, arith}
use Rattle.std.proofs.lemmas.Int.{to_z-of_z}
use mir.Syntax.{w128}
use Rattle.mse_base.specs.Time.{tick}
use Rattle.mse_base.proofs.Floors.{exact}
use Rattle.mse_base.proofs.ticks.convert.Goals as goal

pub returns-then-scale-eq0 : goal.returns-then-scale-eq0
returns-then-scale-eq0 c =
    let whole : 141120000000 % c.args.scale ≡ 0 = ap (λ n. 141120000000 % n) (sym c.from-scale.ensures) ∙ c.if-scale-eq0.true in
    let p : c.product.result ≡ (c.args.m *ℤ pos (141120000000 / c.args.scale)) = c.product.ensures ∙ ap (λ z. z *ℤ pos (141120000000 / c.from-scale.result)) (to_z-of_z w128 c.args.m c.ranges.m) ∙ ap (λ n. c.args.m *ℤ pos (141120000000 / n)) c.from-scale.ensures in
    let read : c.new.result ≡ tick c.product.result = search rules in
    read ∙ ap tick (p ∙ sym (exact c.args.m 141120000000 c.args.scale (omega arith) whole))
