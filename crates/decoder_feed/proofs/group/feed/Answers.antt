use Rattle.std.proofs.Common.{◌∙◌, ◌≤◌, sym, arith}
use Rattle.decoder_feed.proofs.Groups.{starts_before, feed_places, feed_group}
use Rattle.decoder_feed.proofs.group.feed.Goals as goal

pub places_between-requires : goal.places_between-requires
places_between-requires g c =
    let before : c.in-Some-group_start.first ≤ c.in-Some.last = starts_before (g.S.FrameStore.frames c.args.track.now.store) c.in-Some.last c.in-Some-group_start.first c.requires.ascending c.in-Some.ensures.in_range (sym c.group_start.ensures ∙ c.in-Some-group_start.is) in
    omega arith

pub returns-in_err-places_between-in-Some-group_start-clause-group : goal.returns-in_err-places_between-in-Some-group_start-clause-group
returns-in_err-places_between-in-Some-group_start-clause-group g c = feed_group c.args.t _ c.requires.ascending c.requires.chained

pub returns-in_ok-places_between-in-Some-group_start-clause-places : goal.returns-in_ok-places_between-in-Some-group_start-clause-places
returns-in_ok-places_between-in-Some-group_start-clause-places g c =
    let fs = g.S.FrameStore.frames c.args.track.now.store in
    feed_places c.args.t fs c.in-Some.last c.in-Some-group_start.first _ c.requires.ascending c.in-Some.ensures.frame c.in-Some.ensures.in_range (sym c.group_start.ensures ∙ c.in-Some-group_start.is) (c.in_ok-places_between-in-Some-group_start.ensures fs (omega (arith, c.in-Some.ensures.in_range)))

pub returns-in_ok-places_between-in-Some-group_start-clause-group : goal.returns-in_ok-places_between-in-Some-group_start-clause-group
returns-in_ok-places_between-in-Some-group_start-clause-group g c = feed_group c.args.t _ c.requires.ascending c.requires.chained
