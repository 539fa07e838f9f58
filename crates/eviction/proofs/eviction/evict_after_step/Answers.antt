use Rattle.track_store.specs.State.{states_of}
use Rattle.eviction.proofs.Evictions.{after_removed, fewer_after}
use Rattle.eviction.proofs.eviction.evict_after_step.Goals as goal

pub returns-then-remove_while_full-clause-states : goal.returns-then-remove_while_full-clause-states
returns-then-remove_while_full-clause-states g c =
    let F = g.S.FrameStore.frames in
    let ts = states_of F c.args.tracks.now.items in
    let us = states_of F c.remove_while_full.new.tracks.items in
    let d = c.args.duration.now in
    let is = c.if-remove_while_full.ensures.states in
    after_removed c.args.need.now.new_bytes c.args.need.now.quota c.args.position c.args.lead d c.args.next.now c.in-Some.start ts us c.in-Some.ensures c.if-remove_while_full.ensures.answer is

pub returns-then-remove_while_full-clause-fewer : goal.returns-then-remove_while_full-clause-fewer
returns-then-remove_while_full-clause-fewer g c =
    let F = g.S.FrameStore.frames in
    let ts = states_of F c.args.tracks.now.items in
    let us = states_of F c.remove_while_full.new.tracks.items in
    let d = c.args.duration.now in
    let is = c.if-remove_while_full.ensures.states in
    fewer_after c.args.lead c.args.position d c.args.next.now c.in-Some.start ts us c.in-Some.ensures is
