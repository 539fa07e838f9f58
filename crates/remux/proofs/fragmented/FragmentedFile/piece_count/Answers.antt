use Rattle.std.proofs.Common.{length, ap, arith}
use Rattle.remux.proofs.SegmentLaws.{count-pieces}
use Rattle.remux.proofs.fragmented.FragmentedFile.piece_count.Goals as goal

pub returns : goal.returns
returns c =
    let f = c.self.inside in
    omega (arith, c.len.ensures, f.runs.ok.0, ap length c.self.view_is, count-pieces f.file.now f.tracks.now f.runs.items c.self.invariant.1)
