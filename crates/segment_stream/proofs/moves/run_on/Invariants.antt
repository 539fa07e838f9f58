use Rattle.std.proofs.Common.{◌≡◌, ◌+◌, ◌-◌, length, drop}
use Rattle.std.specs.List.{concat}
use Rattle.segment_walk.specs.Moves.{segments}
use Rattle.segment_stream.specs.Kept.{kept_of, kept_with_lookahead, IsConsistent, IsUnchangedSince, snapshot}
use Rattle.segment_stream.proofs.moves.run_on.Given as goal
use Rattle.segment_stream.proofs.Snapshots.{walk_state}

abbrev pub invariant-moves : goal.invariant-moves
invariant-moves l = record {
  same : kept_with_lookahead (kept_of (snapshot l.last l.at l.tables l.input)) ≡ kept_with_lookahead (kept_of (snapshot l.fn.last l.fn.start l.fn.tables l.input));
  consistent : IsConsistent l.at l.tables (concat l.input);
  since : IsUnchangedSince l.fn.start.position.mode l.at.position.mode l.fn.tables l.tables;
  total : l.at.position.offset + (length (concat l.input) - l.at.from) ≡ l.fn.start.position.offset + (length (concat l.input) - l.fn.start.from);
  same_failed : l.at.position.failed ≡ l.fn.start.position.failed;
}

abbrev pub decreases-moves : goal.decreases-moves
decreases-moves l = segments.size (walk_state l.last l.at.position l.tables (drop l.at.from (concat l.input)))
