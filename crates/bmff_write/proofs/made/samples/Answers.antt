use Rattle.std.proofs.Common.{arith}
use Rattle.std.proofs.lemmas.List.FromFn.{map-range_with_len_more}
use Rattle.bmff_write.specs.Made.{made_sample}
use Rattle.bmff_write.proofs.made.samples.Goals as goal

pub loop-i-preserved : goal.loop-i-preserved
loop-i-preserved c =
    let i = c.loop-i.i in
    let more = map-range_with_len_more (made_sample c.args.j) 0 i i (omega arith) in
    cc (more, c.loop-i.invariant, c.in_ok-sample.ensures, c.in_ok-push.ensures.items)
