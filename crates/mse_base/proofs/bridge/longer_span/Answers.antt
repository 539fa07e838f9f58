use Rattle.std.proofs.Common.{◌∙◌}
use Rattle.mse_base.proofs.Compared.{max_is}
use Rattle.mse_base.proofs.Late.{round_later}
use Rattle.mse_base.proofs.bridge.longer_span.Goals as goal

pub returns : goal.returns
returns c =
    let s = c.args.s.now in
    let r = c.args.r.now in
    round_later s r c.max.result c.requires (c.max.ensures ∙ max_is s.end r.end)
