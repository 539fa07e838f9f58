use Rattle.std.proofs.Common.{List, [], ◌∷◌, map, ap, sym, ◌∙◌, subst, take_all}
use Rattle.bmff_write.specs.declared.traf_out.SampleOut.{SampleOut}
use Rattle.bmff_write.specs.Tracks.{AreTrafsOut}
use Rattle.remux.specs.Runs.{run_value}
use Rattle.remux.specs.Pieces.{sample_out}
use Rattle.remux.proofs.PieceLaws.{trafs_are}
use Rattle.remux.proofs.pieces.segment_of.Goals as goal

pub write_segment-requires : goal.write_segment-requires
write_segment-requires c =
    let run = c.args.run.now in
    let all = take_all c.loop-sample.sample-index run.samples.now c.loop-sample-test.false in
    record {
      trafs = subst (λ (ss : List SampleOut). AreTrafsOut (record { id = run.id; decode = run.decode; samples = ss } ∷ [])) (sym (c.from_vec.ensures ∙ (c.loop-sample.invariant.items ∙ ap (map (sample_out c.args.file.now)) all)))
          (trafs_are c.args.file.now (run_value run) c.requires);
    }
