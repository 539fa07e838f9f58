use Rattle.std.proofs.Common.{◌+ℤ◌, sym, subst, ℤ, ◌≤ℤ◌, ◌<ℤ◌}
use Rattle.mse_base.specs.Time.{floor_div}
use Rattle.mse_base.proofs.TickLemmas.{tick_some, tick_none}
use Rattle.eviction.proofs.Between.{half_between, half_ticks}
use Rattle.eviction.proofs.latest.middle.Goals as goal

pub unreachable-requires : goal.unreachable-requires
unreachable-requires c =
    let both = half_between c.args.low c.args.high c.requires in
    tick_none (floor_div (c.args.low +ℤ c.args.high) 2) (sym c.in-None.ensures.value) (half_ticks c.args.low c.args.high _ c.in-None.ensures.low_in_range c.in-None.ensures.high_in_range both)

pub returns : goal.returns
returns c =
    let is = tick_some (floor_div (c.args.low +ℤ c.args.high) 2) c.in-Some.t (sym c.in-Some.ensures.value) in
    subst (λ (q : ℤ). (c.args.low ≤ℤ q) × (q <ℤ c.args.high)) (sym is) (half_between c.args.low c.args.high c.requires)
