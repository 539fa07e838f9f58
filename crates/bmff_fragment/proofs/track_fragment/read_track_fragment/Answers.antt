use Rattle.std.proofs.Common.{sym}
use Rattle.mse_base.specs.Presentation.{IsReadable, has_id}
use Rattle.bmff_fragment.proofs.RunSamples.{found_all}
use Rattle.bmff_fragment.proofs.track_fragment.read_track_fragment.Goals as goal

pub returns-clause-readable : goal.returns-clause-readable
returns-clause-readable c = found_all IsReadable (has_id c.in-Some-track_fragment_header.header.track_id) c.args.tracks.now c.in-Some-find.track.now c.requires (sym c.in-Some-find.ensures)
