use Rattle.std.proofs.Common.{◌≡◌, ◌≤◌, take}
use Rattle.std.specs.List.{count_by}
use Rattle.track_store.specs.declared.tracks.Track.{Track}
use Rattle.mse_base.specs.Moments.{is_same_kind}
use Rattle.track_buffers.proofs.partners.count_held.Given as goal

abbrev pub invariant-loop-i : goal.invariant-loop-i
invariant-loop-i g l = record {
  count : l.count ≡ count_by (λ (t : Track _). is_same_kind l.kind t.kind) (take l.i l.tracks.items);
  low : l.count ≤ l.i;
}
