use Rattle.std.proofs.Common.{◌∷◌, [], sym, subst}
use Rattle.bmff_write.specs.declared.traf_out.TrafOut.{TrafOut}
use Rattle.bmff_write.specs.Tracks.{AreTrafsOut}
use Rattle.bmff_write.proofs.MadeLaws.{made_writable}
use Rattle.bmff_write.proofs.made.put_made_segment.Goals as goal

pub put_segment-requires : goal.put_segment-requires
put_segment-requires c =
    subst (λ (t : TrafOut). AreTrafsOut (t ∷ [])) (sym c.in_ok-traf.ensures) (made_writable c.args.j)
