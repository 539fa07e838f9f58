use Rattle.std.proofs.Common.{[], ◌∷◌, refl, arith}
use Rattle.bmff_boxes.specs.Children.{child_of}
use Rattle.bmff_boxes.specs.Headers.{header_of}
use Rattle.bmff_boxes.specs.Fields.{field}
use Rattle.bmff_write.specs.Tracks.{IsSampleDescription}
use Rattle.stream_tests.proofs.tests.writers.writes_a_given_sample_description.Goals as goal

described : IsSampleDescription (102 ∷ 76 ∷ 97 ∷ 67 ∷ [])
    (0 ∷ 0 ∷ 0 ∷ 28 ∷ 115 ∷ 116 ∷ 115 ∷ 100 ∷ 0 ∷ 0 ∷ 0 ∷ 0 ∷ 0 ∷ 0 ∷ 0 ∷ 1 ∷ 0 ∷ 0 ∷ 0 ∷ 12 ∷ 102 ∷ 76 ∷ 97 ∷ 67 ∷ 1 ∷ 2 ∷ 3 ∷ 4 ∷ [])
unfolding child_of header_of field
described = record {
  short = omega arith;
  payload = 0 ∷ 0 ∷ 0 ∷ 0 ∷ 0 ∷ 0 ∷ 0 ∷ 1 ∷ 0 ∷ 0 ∷ 0 ∷ 12 ∷ 102 ∷ 76 ∷ 97 ∷ 67 ∷ 1 ∷ 2 ∷ 3 ∷ 4 ∷ [];
  whole = refl;
  counted = omega arith;
  entry = refl;
}

pub write_init_with-requires-clause-descriptions : goal.write_init_with-requires-clause-descriptions
write_init_with-requires-clause-descriptions g c =
    rw (c.in_ok-copy_of.ensures, c.plain_track-track.ensures.codec) (described, tt)
