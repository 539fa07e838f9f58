use Rattle.std.proofs.Common.{◌≡◌, pos, to_z, of_z, sym, ◌∙◌, ap, arith}
use Rattle.std.specs.Int.{w128}
use Rattle.std.proofs.lemmas.Int.{ints}
use Rattle.mse_base.specs.Time.{tick, media_ticks}
use Rattle.bmff_init.proofs.TimeLaws.{moment-end, not-tick}
use Rattle.bmff_init.proofs.movie.moment.Goals as goal

pub unreachable-requires : goal.unreachable-requires
unreachable-requires c =
    let cast : to_z w128 (of_z w128 c.from.result) ≡ pos c.args.duration = omega (arith, ints, c.from.ensures) in
    not-tick c.args.duration c.args.scale c.ranges.duration.fits (sym c.in-None.is ∙ (c.convert.ensures ∙ ap (λ z. tick (media_ticks z c.args.scale)) cast))

pub returns : goal.returns
returns c =
    let cast : to_z w128 (of_z w128 c.from.result) ≡ pos c.args.duration = omega (arith, ints, c.from.ensures) in
    moment-end c.args.duration c.args.scale c.in-Some.end c.if-duration-eq0.false (sym c.in-Some.is ∙ (c.convert.ensures ∙ ap (λ z. tick (media_ticks z c.args.scale)) cast))
