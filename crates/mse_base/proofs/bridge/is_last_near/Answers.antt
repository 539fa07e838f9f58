use Rattle.std.proofs.Common.{◌∙◌, ◌+◌, sym, arith}
use Rattle.mse_base.proofs.JoinedSpans.{far_behind, none_behind}
use Rattle.mse_base.proofs.bridge.is_last_near.Goals as goal

pub returns-then-i-len : goal.returns-then-i-len
returns-then-i-len c = λ _. none_behind c.args.gap c.args.s.now c.args.ranges.now.spans c.args.i (omega (arith, c.len-len.ensures))

pub returns : goal.returns
returns c = λ e. far_behind c.args.gap c.args.s.now c.get-next.result c.args.ranges.now.spans (c.args.i + 1) (omega (arith, c.len-len.ensures)) c.get-next.ensures (sym c.is_far_before.ensures ∙ e)
