use Rattle.std.proofs.Common.{ap, ◌∙◌, length}
use Rattle.std.proofs.lemmas.List.{length-map}
use Rattle.bmff_write.specs.Movie.{stsd_bytes}
use Rattle.bmff_write.proofs.MovieLaws.{writable}
use Rattle.bmff_write.proofs.movie.init.Goals as goal

pub init_with-requires : goal.init_with-requires
init_with-requires c =
    let pairs = ap length c.in_ok-stsds.ensures.value ∙ length-map c.args.tracks.now stsd_bytes in
    rw c.as_slice.ensures.value (writable c.args.tracks.now c.in_ok-stsds.stsds.items c.requires pairs c.in_ok-stsds.ensures.stsds_short)
