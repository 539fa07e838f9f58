use Rattle.std.proofs.Common.{◌∙◌, length, ap, arith, None}
use Rattle.track_index.proofs.BlockEnds.{length_running_ends, top_of}
use Rattle.track_index.proofs.tops.top_before.Goals as goal

pub end_before-requires : goal.end_before-requires
end_before-requires c = omega (arith, ap length c.requires.tops ∙ length_running_ends None c.args.list.now.rows, c.requires.within)

pub returns : goal.returns
returns c = top_of c.args.tops.now c.args.list.now.rows c.args.b c.end_before.result c.requires.tops c.requires.within c.end_before.ensures.none c.end_before.ensures.some
