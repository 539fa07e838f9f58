use Rattle.std.proofs.Common.{arith, add-one, ◌<◌, length}
use Rattle.std.proofs.lemmas.Grind.{common_steps}
use Rattle.std.proofs.Math.Seq.{drop-cons}
use Rattle.mse_outside.proofs.memory_library.find_file.Goals as goal

pub loop-i-preserved : goal.loop-i-preserved
loop-i-preserved c =
    let inside : c.loop-i.i < length c.args.names.now = omega arith in
    let there : c.loop-i.i < length c.args.contents.now = omega arith in
    let before = rw (drop-cons c.args.names.now c.loop-i.i c.index-names-i.result inside, drop-cons c.args.contents.now c.loop-i.i c.index-contents-i.result there) at c.loop-i.invariant in
    rw add-one (grind (arith, common_steps))
