use Rattle.std.proofs.Common.{arith}
use Rattle.bmff_write.proofs.MovieLaws.{greatest_next, greatest_take, greatest_below}
use Rattle.bmff_write.proofs.movie.greatest.Goals as goal
use Rattle.bmff_write.proofs.movie.greatest.Goals.{then-greatest-track, else-greatest-track}

pub loop-track-preserved : goal.loop-track-preserved
loop-track-preserved c =
    let next = greatest_next c.args.tracks.now c.loop-track.track-index c.track-item.result c.loop-track-test.true c.track-item.is in
    elim c.if-greatest-track.branch [
      | then-greatest-track w ↦ omega (arith, next)
      | else-greatest-track w ↦ omega (arith, next)
    ]

pub returns-clause-limit : goal.returns-clause-limit
returns-clause-limit c =
    let part = greatest_take c.args.tracks.now c.loop-track.track-index in
    let all = greatest_below c.args.tracks.now c.requires in
    omega (arith, part, all)
