use Rattle.std.proofs.Common.{◌≡◌, ◌+◌, ◌<◌, length, drop, ap, ◌∙◌, arith, length-append}
use Rattle.bmff_write.specs.Movie.{trak_bytes, traks_bytes}
use Rattle.bmff_write.proofs.MovieLaws.{traks_next, traks_end}
use Rattle.bmff_write.proofs.movie.traks_len.Goals as goal

pub loop-i-preserved : goal.loop-i-preserved
loop-i-preserved c =
    let ts = c.args.tracks.now in
    let stsds = c.args.stsds.now in
    let i = c.loop-i.i in
    let t = c.index-tracks-i.result in
    let stsd = c.index-stsds-i.result in
    let inside : i < length ts = omega (arith, c.loop-i-test.true) in
    let there : i < length stsds = omega (arith, c.requires.paired, inside) in
    let next = traks_next ts stsds i t stsd inside there c.index-tracks-i.is c.index-stsds-i.is in
    let both = length-append (trak_bytes t stsd) (traks_bytes (drop (i + 1) ts) (drop (i + 1) stsds)) in
    let size : c.trak_len-len.result ≡ length (trak_bytes t stsd) = c.trak_len-len.ensures.size ∙ ap (λ b. length (trak_bytes t b)) c.as_slice.ensures in
    record {
      sum = omega (arith, ap length next, both, size, c.loop-i.invariant.sum);
      limit = omega (arith, c.loop-i.invariant.limit, c.trak_len-len.ensures.limit);
    }

pub returns-clause-size : goal.returns-clause-size
returns-clause-size c =
    let rest = traks_end c.args.tracks.now (drop c.loop-i.i c.args.stsds.now) c.loop-i.i (omega (arith, c.loop-i-test.false)) in
    omega (arith, ap length rest, c.loop-i.invariant.sum)
