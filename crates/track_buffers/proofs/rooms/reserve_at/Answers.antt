use Rattle.std.proofs.Common.{◌≡◌, ◌∙◌, List, ap, sym, slice_get, Some}
use Rattle.std.specs.Option.{option_copied_mut}
use Rattle.range_removal.proofs.Rooms.{keeps_set, gaps_set}
use Rattle.track_store.specs.declared.store.Stored.{Stored}
use Rattle.track_store.specs.State.{state_of}
use Rattle.track_buffers.proofs.OneTrack.{unedited, get_set}
use Rattle.track_buffers.proofs.rooms.reserve_at.Goals as goal

pub returns-in-Some-clause-states : goal.returns-in-Some-clause-states
returns-in-Some-clause-states g c =
    let ts = c.args.tracks.now.items in
    let t = c.in-Some.track.now in
    let u = record t { store = c.reserve.new.self } in
    let at : slice_get ts c.args.i ≡ Some t = sym c.get_mut.ensures.value ∙ ap option_copied_mut c.in-Some.is in
    unedited g.S.FrameStore.frames ts c.args.i t u at (ap (λ (fs : List Stored). record (state_of g.S.FrameStore.frames t) { frames = fs }) c.reserve.ensures.frames)

pub returns-in-Some-clause-spare : goal.returns-in-Some-clause-spare
returns-in-Some-clause-spare g c =
    let ts = c.args.tracks.now.items in
    let t = c.in-Some.track.now in
    let u = record t { store = c.reserve.new.self } in
    let at : slice_get ts c.args.i ≡ Some t = sym c.get_mut.ensures.value ∙ ap option_copied_mut c.in-Some.is in
    rw (get_set ts c.args.i t u at) c.reserve.ensures.spare

pub returns-in-Some-clause-no_room_lost : goal.returns-in-Some-clause-no_room_lost
returns-in-Some-clause-no_room_lost g c =
    let ts = c.args.tracks.now.items in
    let t = c.in-Some.track.now in
    let u = record t { store = c.reserve.new.self } in
    let at : slice_get ts c.args.i ≡ Some t = sym c.get_mut.ensures.value ∙ ap option_copied_mut c.in-Some.is in
    keeps_set g.S.FrameStore.spare ts c.args.i t u at c.reserve.ensures.no_room_lost

pub returns-in-Some-clause-gaps : goal.returns-in-Some-clause-gaps
returns-in-Some-clause-gaps g c =
    let ts = c.args.tracks.now.items in
    let t = c.in-Some.track.now in
    let u = record t { store = c.reserve.new.self } in
    let at : slice_get ts c.args.i ≡ Some t = sym c.get_mut.ensures.value ∙ ap option_copied_mut c.in-Some.is in
    gaps_set g.S.FrameStore.gap ts c.args.i t u at c.reserve.ensures.gap
