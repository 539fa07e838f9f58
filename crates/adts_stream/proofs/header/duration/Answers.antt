use Rattle.std.proofs.Common.{◌≡◌, ◌∙◌, ◌*◌, pos, is_some, Some, ap, sym, arith}
use Rattle.std.proofs.lemmas.Int.{ints}
use mir.Syntax.{w128}
use mir.Val.{to_z, of_z}
use Rattle.mse_base.specs.Time.{tick, media_ticks}
use Rattle.adts_stream.proofs.Durations.{lasts}
use Rattle.adts_stream.proofs.header.duration.Goals as goal

pub unwrap-requires : goal.unwrap-requires
unwrap-requires c =
    let z = to_z w128 (of_z w128 c.from.result) in
    let e : z ≡ pos (1024 * c.args.blocks) = omega (arith, ints, c.from.ensures, c.requires.four) in
    ap is_some (c.convert.ensures ∙ ap (λ z. tick (media_ticks z c.args.rate)) e ∙ lasts (1024 * c.args.blocks) c.args.rate (omega (arith, c.requires.four)))

pub returns : goal.returns
returns c =
    let z = to_z w128 (of_z w128 c.from.result) in
    let e : z ≡ pos (1024 * c.args.blocks) = omega (arith, ints, c.from.ensures, c.requires.four) in
    let t : Some c.unwrap.result ≡ Some (media_ticks (pos (1024 * c.args.blocks)) c.args.rate) = sym c.unwrap.ensures ∙ c.convert.ensures ∙ ap (λ z. tick (media_ticks z c.args.rate)) e ∙ lasts (1024 * c.args.blocks) c.args.rate (omega (arith, c.requires.four)) in
    cc
