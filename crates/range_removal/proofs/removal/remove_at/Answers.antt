use Rattle.std.proofs.Common.{◌≡◌, ◌∙◌, ap, sym, set, map, slice_get, Some, None}
use Rattle.std.specs.Option.{option_copied_mut}
use Rattle.std.proofs.lemmas.Option.{slice_get-map}
use Rattle.std.proofs.lemmas.List.{map-set}
use Rattle.track_store.specs.State.{TrackState, state_of}
use Rattle.range_removal.proofs.Rooms.{keeps_set, gaps_set}
use Rattle.range_removal.proofs.removal.remove_at.Goals as goal

pub returns-in-Some-clause-states : goal.returns-in-Some-clause-states
returns-in-Some-clause-states g c =
    let st = state_of {S = g.row.S.Denot} g.S.FrameStore.frames in
    let ts = c.args.tracks.now.items in
    let at : slice_get ts c.args.i ≡ Some c.in-Some.track.now = sym c.get_mut.ensures.value ∙ ap option_copied_mut c.in-Some.is in
    rw (slice_get-map st ts c.args.i, at) (map-set st ts c.args.i c.remove_from.new.track ∙ ap (λ (t : TrackState). set (map st ts) c.args.i t) c.remove_from.ensures.state)

pub returns-in-Some-clause-no_room_lost : goal.returns-in-Some-clause-no_room_lost
returns-in-Some-clause-no_room_lost g c =
    let ts = c.args.tracks.now.items in
    let at : slice_get ts c.args.i ≡ Some c.in-Some.track.now = sym c.get_mut.ensures.value ∙ ap option_copied_mut c.in-Some.is in
    keeps_set g.S.FrameStore.spare ts c.args.i c.in-Some.track.now c.remove_from.new.track at c.remove_from.ensures.no_room_lost

pub returns-in-Some-clause-gaps : goal.returns-in-Some-clause-gaps
returns-in-Some-clause-gaps g c =
    let ts = c.args.tracks.now.items in
    let at : slice_get ts c.args.i ≡ Some c.in-Some.track.now = sym c.get_mut.ensures.value ∙ ap option_copied_mut c.in-Some.is in
    gaps_set g.S.FrameStore.gap ts c.args.i c.in-Some.track.now c.remove_from.new.track at c.remove_from.ensures.gap

pub returns-in-None-clause-states : goal.returns-in-None-clause-states
returns-in-None-clause-states g c =
    let st = state_of {S = g.row.S.Denot} g.S.FrameStore.frames in
    let ts = c.args.tracks.now.items in
    let at : slice_get ts c.args.i ≡ None = sym c.get_mut.ensures.value ∙ ap option_copied_mut c.in-None.is in
    rw (slice_get-map st ts c.args.i, at) tt
