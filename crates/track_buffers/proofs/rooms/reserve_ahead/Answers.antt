use Rattle.std.proofs.Common.{◌≤◌, arith}
use Rattle.range_removal.proofs.Rooms.{same_length}
use Rattle.track_buffers.proofs.Ahead.{ahead_own, ahead_each}
use Rattle.track_buffers.proofs.rooms.reserve_ahead.Goals as goal

pub returns-then-n-ahead-clause-spare : goal.returns-then-n-ahead-clause-spare
returns-then-n-ahead-clause-spare g c =
    let ts = c.args.tracks.now.items in
    let us = c.reserve_own.new.tracks.items in
    let more : c.args.n ≤ c.args.ahead.others = omega (arith, c.if-n-ahead.true) in
    (c.in_ok-own.ensures.spare.0, more, ahead_own g.S.FrameStore.spare c.args.ahead c.in_ok-own.own ts us (same_length g.S.FrameStore.gap ts us c.reserve_own.ensures.gaps) c.reserve_own.ensures.no_room_lost c.requires c.in_ok-own.ensures.spare.1)

pub returns-clause-spare : goal.returns-clause-spare
returns-clause-spare g c =
    (c.in_ok-each.ensures.spare.0, c.in_ok-each.ensures.spare.0, ahead_each g.S.FrameStore.spare c.in_ok-each.each c.args.ahead.place c.reserve_each.new.tracks.items c.in_ok-each.ensures.spare.1)
