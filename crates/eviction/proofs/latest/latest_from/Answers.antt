use Rattle.std.proofs.Common.{◌≤ℤ◌, sym, arith}
use Rattle.std.proofs.lemmas.Int.{ints}
use Rattle.track_store.specs.State.{states_of}
use Rattle.eviction.specs.Steps.{times_at}
use Rattle.eviction.proofs.Times.{all_has}
use Rattle.eviction.proofs.Between.{found_between, gap_above, latest_of, lower}
use Rattle.eviction.proofs.Evictions.{rising_at}
use Rattle.eviction.proofs.latest.latest_from.Goals as goal

pub loop-high-smaller-in-Some : goal.loop-high-smaller-in-Some
loop-high-smaller-in-Some g c =
    let ts = times_at c.args.lead (states_of g.S.FrameStore.frames c.args.tracks.now.items) in
    let found = found_between c.middle-half.result c.args.next.now ts c.in-Some.t (rising_at c.args.lead (states_of g.S.FrameStore.frames c.args.tracks.now.items)) (sym c.in-Some.ensures) in
    let most = all_has _ c.in-Some.t ts c.loop-high.invariant.high found.has found.below in
    let low = c.middle-half.ensures.0 in
    let after = found.after in
    gap_above c.loop-high.low c.loop-high.high c.in-Some.t (omega (arith, ints)) most

pub loop-high-preserved-in-Some : goal.loop-high-preserved-in-Some
loop-high-preserved-in-Some g c =
    let ts = times_at c.args.lead (states_of g.S.FrameStore.frames c.args.tracks.now.items) in
    let found = found_between c.middle-half.result c.args.next.now ts c.in-Some.t (rising_at c.args.lead (states_of g.S.FrameStore.frames c.args.tracks.now.items)) (sym c.in-Some.ensures) in
    let low = c.middle-half.ensures.0 in
    let after = found.after in
    let later = c.loop-high.invariant.later in
    record {
      has = found.has;
      below = found.below;
      high = c.loop-high.invariant.high;
      later = omega (arith, ints);
    }

pub loop-high-preserved : goal.loop-high-preserved
loop-high-preserved g c =
    let ts = times_at c.args.lead (states_of g.S.FrameStore.frames c.args.tracks.now.items) in
    record {
      has = c.loop-high.invariant.has;
      below = c.loop-high.invariant.below;
      high = lower c.middle-half.result c.args.next.now ts (sym c.in-None.ensures);
      later = c.loop-high.invariant.later;
    }

pub returns-clause-latest : goal.returns-clause-latest
returns-clause-latest g c =
    let ts = times_at c.args.lead (states_of g.S.FrameStore.frames c.args.tracks.now.items) in
    let past : c.loop-high.high ≤ℤ c.loop-high.low = grind (arith, ints, c.loop-high-test.ensures) in
    latest_of c.loop-high.low c.loop-high.high c.args.next.now ts c.loop-high.invariant.has c.loop-high.invariant.below c.loop-high.invariant.high past
