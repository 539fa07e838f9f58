use Rattle.std.proofs.Common.{◌≡◌, ◌≤◌, nat_lt, filter, vec_len, vec_capacity}
use Rattle.track_index.specs.Syncs.{AreAscending}
use Rattle.track_index.proofs.syncs.keep_below.Given as goal

abbrev pub invariant-loop-last : goal.invariant-loop-last
invariant-loop-last l = record {
  ascending : AreAscending l.syncs.items;
  serials : filter (λ n. nat_lt n l.serial) l.syncs.items ≡ filter (λ n. nat_lt n l.serial) l.fn.syncs.items;
  shorter : vec_len l.syncs ≤ vec_len l.fn.syncs;
  capacity : vec_capacity l.syncs ≡ vec_capacity l.fn.syncs;
}

abbrev pub decreases-loop-last : goal.decreases-loop-last
decreases-loop-last l = vec_len l.syncs
