use Rattle.std.proofs.Common.{◌≡◌, ◌++◌, length, map, take, drop}
use Rattle.frame_rules.specs.Place.{with_reset_marks}
use Rattle.frame_rules.proofs.processing.reset_all.Given as goal

abbrev pub invariant-loop-i : goal.invariant-loop-i
invariant-loop-i g l = record {
  items : l.tracks.items ≡ map (with_reset_marks l.timing) (take l.i l.initial.tracks.items) ++ drop l.i l.initial.tracks.items;
  places : l.tracks.spare ≡ l.initial.tracks.spare;
  end : l.i-end ≡ length l.initial.tracks.items;
}
