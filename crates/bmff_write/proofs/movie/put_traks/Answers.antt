use Rattle.std.proofs.Common.{◌+◌, ◌++◌, ◌<◌, length, drop, ap, sym, ◌∙◌, arith, append_assoc, append-nil}
use Rattle.bmff_write.specs.Movie.{trak_bytes, traks_bytes}
use Rattle.bmff_write.proofs.MovieLaws.{traks_next, traks_end}
use Rattle.bmff_write.proofs.movie.put_traks.Goals as goal

pub loop-i-preserved : goal.loop-i-preserved
loop-i-preserved c =
    let ts = c.args.tracks.now in
    let stsds = c.args.stsds.now in
    let i = c.loop-i.i in
    let t = c.index-tracks-i.result in
    let stsd = c.index-stsds-i.result in
    let inside : i < length ts = omega (arith, c.loop-i-test.true) in
    let there : i < length stsds = omega (arith, c.requires.paired, inside) in
    let next = traks_next ts stsds i t stsd inside there c.index-tracks-i.is c.index-stsds-i.is in
    let joined = append_assoc c.loop-i.out.items (trak_bytes t stsd) (traks_bytes (drop (i + 1) ts) (drop (i + 1) stsds)) in
    cc (next, joined, c.as_slice.ensures, c.in_ok-put_trak.ensures, c.loop-i.invariant)

pub returns : goal.returns
returns c =
    let rest = traks_end c.args.tracks.now (drop c.loop-i.i c.args.stsds.now) c.loop-i.i (omega (arith, c.loop-i-test.false)) in
    sym (append-nil c.loop-i.out.items) ∙ ap (λ r. c.loop-i.out.items ++ r) (sym rest) ∙ c.loop-i.invariant
