use Rattle.std.proofs.Common.{◌≡◌, ◌-◌, ◌++◌, length, take, drop, vec_capacity}
use Rattle.track_index.specs.Tops.{running_ends, tops_of}
use Rattle.track_index.proofs.BlockEnds.{AreUnseenTops}
use Rattle.track_index.proofs.tops.follow.Given as goal

abbrev pub invariant-loop-i : goal.invariant-loop-i
invariant-loop-i l = record {
  front : take l.i l.tops.items ++ running_ends l.best (drop l.i l.list.rows) ≡ tops_of l.list.rows;
  rest : AreUnseenTops l.to l.i l.tops.items l.list.rows;
  long : length l.tops.items ≡ length l.list.rows;
  room : vec_capacity l.tops ≡ vec_capacity l.fn.tops;
}

abbrev pub decreases-loop-i : goal.decreases-loop-i
decreases-loop-i l = length l.tops.items - l.i
