use Rattle.std.proofs.Common.{◌≡◌, ◌+◌, ◌*◌, ◌≤◌, ◌^◌, pos, [], vec_len, length}
use Rattle.std.specs.Prelude.{unsigned_abs}
use Rattle.std.specs.List.{All}
use lib.Chars.{codes}
use Rattle.bmff_boxes.specs.Rows.{all_of}
use Rattle.bmff_fragment.specs.Steps.{trafs_steps}
use Rattle.bmff_fragment.specs.Slots.{IsWellFormed}
use Rattle.bmff_fragment.proofs.moof.read_trafs.Given as goal

abbrev pub invariant-boxes : goal.invariant-boxes
invariant-boxes l = record {
  same : trafs_steps l.tracks l.at l.slots.items (all_of (codes "traf") l.row) ≡ trafs_steps l.tracks (record { samples = 0; data_end = pos 0 }) [] (all_of (codes "traf") l.fn.row);
  few : l.at.samples ≤ 2 ^ 20;
  data_end_small : unsigned_abs l.at.data_end + length l.row * 2 ^ 53 ≤ 2 ^ 117;
  well_formed : All IsWellFormed l.slots.items;
  slots_within_samples : vec_len l.slots ≤ l.at.samples;
}

abbrev pub decreases-boxes : goal.decreases-boxes
decreases-boxes l = length l.row
