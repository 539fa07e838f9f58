use Rattle.std.proofs.Common.{◌≡◌, ◌+◌, false, length}
use Rattle.std.specs.List.{concat}
use Rattle.parser_loop.specs.Walk.{settled_state}
use Rattle.adts_stream.specs.Walk.{adts}
use Rattle.adts_stream.specs.Values.{state_of}
use Rattle.adts_stream.proofs.walk.settle_on.Given as goal

abbrev pub invariant-moves : goal.invariant-moves
invariant-moves l = record {
  same : settled_state adts (state_of l.last l.position (concat l.input)) ≡ settled_state adts (state_of l.fn.last l.fn.position (concat l.fn.input));
  total : l.position.offset + length (concat l.input) ≡ l.fn.position.offset + length (concat l.fn.input);
  unfailed : l.position.failed ≡ false;
}

abbrev pub decreases-moves : goal.decreases-moves
decreases-moves l = adts.size (state_of l.last l.position (concat l.input))
