use Rattle.std.proofs.Common.{◌≡◌, map, take}
use Rattle.remux.specs.Pieces.{track_out}
use Rattle.remux.proofs.pieces.init_segment_of.Given as goal

abbrev pub invariant-loop-track : goal.invariant-loop-track
invariant-loop-track l = record {
  tracks : l.outs.items ≡ map track_out (take l.track-index l.tracks);
  stsds : l.stsds.items ≡ map (λ t. t.stsd) (take l.track-index l.tracks);
}
