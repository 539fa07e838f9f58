use Rattle.std.proofs.Common.{◌≡◌, ◌+◌, ◌*◌, ◌≤◌, ◌^◌, vec_len, length}
use Rattle.std.specs.Prelude.{unsigned_abs}
use Rattle.std.specs.List.{All}
use lib.Chars.{codes}
use Rattle.bmff_boxes.specs.Rows.{all_of}
use Rattle.bmff_fragment.specs.Steps.{runs_steps, first_run}
use Rattle.bmff_fragment.specs.Slots.{IsWellFormed}
use Rattle.bmff_fragment.proofs.moof.read_runs.Given as goal

abbrev pub invariant-boxes : goal.invariant-boxes
invariant-boxes l = record {
  same : runs_steps l.fragment l.at l.slots.items (all_of (codes "trun") l.row) ≡ runs_steps l.fragment (first_run l.fragment l.samples) l.fn.slots.items (all_of (codes "trun") l.fn.row);
  few : l.at.samples ≤ 2 ^ 20;
  data_end_small : unsigned_abs l.at.data_end ≤ unsigned_abs l.fragment.base + 2 ^ 31 + l.at.samples * 2 ^ 32;
  time_small : l.at.decode_time ≤ 2 ^ 64 + l.at.samples * 2 ^ 32;
  well_formed : All IsWellFormed l.slots.items;
  slots_within_samples : vec_len l.slots ≤ l.at.samples;
}

abbrev pub decreases-boxes : goal.decreases-boxes
decreases-boxes l = length l.row
