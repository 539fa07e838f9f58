use Rattle.std.proofs.Common.{◌≢◌, ◌+◌, ◌≤◌, List, [], ◌∷◌, ◌++◌, length, ap, arith, length-append}
use Rattle.std.specs.List.{AllByRecursion}
use Rattle.bmff_write.specs.declared.track_out.TrackOut.{TrackOut}
use Rattle.bmff_write.specs.Tracks.{IsTrackOut, AreNumbersDistinct}
use Rattle.bmff_write.proofs.MovieLaws.{all_push}
use Rattle.stream_tests.proofs.tests.given.tracks_of_64.Goals as goal

all_weaker : (P Q : TrackOut → Type 0) (ts : List TrackOut) → ((t : TrackOut) → P t → Q t) → AllByRecursion P ts → AllByRecursion Q ts
all_weaker P Q [] so all = tt
all_weaker P Q (t ∷ ts) so all = (so t all.0, all_weaker P Q ts so all.1)

distinct_push : (ts : List TrackOut) (t : TrackOut) → AreNumbersDistinct ts → AllByRecursion (λ (u : TrackOut). u.id ≢ t.id) ts
    → AreNumbersDistinct (ts ++ t ∷ [])
distinct_push [] t distinct others = (tt, tt)
distinct_push (u ∷ us) t distinct others =
    (all_push (λ (v : TrackOut). u.id ≢ v.id) us t distinct.0 others.0, distinct_push us t distinct.1 others.1)

pub loop-i-preserved : goal.loop-i-preserved
loop-i-preserved c =
    let ts = c.loop-i.tracks.items in
    let t = c.plain_track-track.result in
    let i = c.loop-i.i in
    let number = c.plain_track-track.ensures.number in
    let pushed = c.in_ok-push.ensures.items in
    let before = c.loop-i.invariant in
    let below = all_weaker (λ (u : TrackOut). u.id ≤ i) (λ (u : TrackOut). u.id ≤ i + 1) ts (λ u h. omega (arith, h)) before.below in
    let others = all_weaker (λ (u : TrackOut). u.id ≤ i) (λ (u : TrackOut). u.id ≢ t.id) ts (λ u h. omega (arith, h, number)) before.below in
    record {
      count = omega (arith, ap length pushed, length-append ts (t ∷ []), before.count);
      each = rw pushed (all_push IsTrackOut ts t before.each c.plain_track-track.ensures.track);
      below = rw pushed (all_push (λ (u : TrackOut). u.id ≤ i + 1) ts t below (omega (arith, number)));
      distinct = rw pushed (distinct_push ts t before.distinct others);
    }
