use Rattle.std.proofs.Common.{◌∙◌, ◌<◌, ◌≤◌, ap, sym, filter, length, arith}
use Rattle.std.specs.List.{list_all}
use Rattle.std.proofs.lemmas.List.{length-map, take_all}
use Rattle.track_store.specs.State.{TrackState, states_of}
use Rattle.track_buffers.specs.Initialized.{is_media_track, is_partner, partner_of}
use Rattle.track_buffers.proofs.Loops.{all_more, all_stops}
use Rattle.track_buffers.proofs.partners.has_all_partners.Goals as goal

pub returns-then-not-has_partner_at : goal.returns-then-not-has_partner_at
returns-then-not-has_partner_at g c =
    let ts = states_of g.S.FrameStore.frames c.args.tracks.now.items in
    let p = λ (t : TrackState). is_partner c.args.pending t (partner_of ts (filter is_media_track c.args.news.now) t) in
    let here : c.loop-i.i < length ts = rw length-map (omega (arith, c.len-i-end.ensures)) in
    sym (all_stops p ts c.loop-i.i c.has_partner_at.result c.has_partner_at.ensures here c.if-not-has_partner_at.true)

pub loop-i-preserved : goal.loop-i-preserved
loop-i-preserved g c =
    let ts = states_of g.S.FrameStore.frames c.args.tracks.now.items in
    let p = λ (t : TrackState). is_partner c.args.pending t (partner_of ts (filter is_media_track c.args.news.now) t) in
    let here : c.loop-i.i < length ts = rw length-map (omega (arith, c.len-i-end.ensures)) in
    all_more p ts c.loop-i.i c.has_partner_at.result here c.loop-i.invariant c.has_partner_at.ensures c.if-not-has_partner_at.false

pub returns : goal.returns
returns g c =
    let ts = states_of g.S.FrameStore.frames c.args.tracks.now.items in
    let p = λ (t : TrackState). is_partner c.args.pending t (partner_of ts (filter is_media_track c.args.news.now) t) in
    let past : length ts ≤ c.loop-i.i = rw length-map (omega (arith, c.len-i-end.ensures)) in
    sym (ap (list_all p) (sym (take_all c.loop-i.i ts past)) ∙ c.loop-i.invariant)
