use Rattle.bmff_write.proofs.MovieLaws.{described}
use Rattle.bmff_write.proofs.movie.write_init_with.Goals as goal

pub init_with-requires : goal.init_with-requires
init_with-requires c = described c.args.tracks.now c.args.stsd.now c.requires.tracks c.requires.descriptions
