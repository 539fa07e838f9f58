use Rattle.std.proofs.Common.{◌∙◌, ◌<◌, ◌≤◌, filter, length, arith}
use Rattle.std.proofs.lemmas.List.{length-map}
use Rattle.range_removal.proofs.Loops.{written_more, all_written}
use Rattle.track_store.specs.State.{TrackState, states_of}
use Rattle.track_buffers.specs.Initialized.{is_media_track, partner_of, track_with_partner}
use Rattle.track_buffers.proofs.TrackPartners.{renewed_here, kinds_renewed_here, same_length}
use Rattle.track_buffers.proofs.partners.renew_all.Goals as goal

pub loop-i-preserved : goal.loop-i-preserved
loop-i-preserved g c =
    let F = g.S.FrameStore.frames in
    let old = states_of F c.args.tracks.now.items in
    let now = states_of F c.loop-i.tracks.items in
    let next = states_of F c.renew_at.new.tracks.items in
    let news = filter is_media_track c.args.news.now in
    let f = λ (t : TrackState). track_with_partner t (partner_of old news t) in
    let here : c.loop-i.i < length old = rw length-map (omega (arith, c.loop-i.invariant.end, c.loop-i-test.true)) in
    record {
      states = written_more f old now next c.loop-i.i here c.loop-i.invariant.states (renewed_here old now next news c.loop-i.i c.loop-i.invariant.kinds c.renew_at.ensures.states);
      kinds = kinds_renewed_here now next news c.loop-i.i (rw (same_length now old c.loop-i.invariant.kinds) here) c.renew_at.ensures.states ∙ c.loop-i.invariant.kinds;
      stores = c.renew_at.ensures.stores ∙ c.loop-i.invariant.stores;
      places = c.renew_at.ensures.places ∙ c.loop-i.invariant.places;
      end = c.loop-i.invariant.end;
    }

pub returns-clause-states : goal.returns-clause-states
returns-clause-states g c =
    let F = g.S.FrameStore.frames in
    let old = states_of F c.args.tracks.now.items in
    let news = filter is_media_track c.args.news.now in
    let past : length old ≤ c.loop-i.i = rw length-map (omega (arith, c.loop-i.invariant.end, c.loop-i-test.false)) in
    all_written (λ (t : TrackState). track_with_partner t (partner_of old news t)) old (states_of F c.loop-i.tracks.items) c.loop-i.i past c.loop-i.invariant.states
