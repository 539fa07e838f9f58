use Rattle.std.proofs.Common.{◌∙◌, ◌≤◌, ◌^◌, List, refl, sym, ap, subst, arith}
use Rattle.std.specs.Option.{IfSome}
use Rattle.range_removal.proofs.Rooms.{room_kept, same_length}
use Rattle.track_store.specs.Kept.{AreSoundAndCountable, bytes_in, gaps_of}
use Rattle.track_store.specs.State.{TrackState, states_of}
use Rattle.track_buffers.specs.Frames.{IsTrackPlace}
use Rattle.track_buffers.specs.Buffered.{ranges_in}
use Rattle.track_buffers.proofs.Ahead.{ahead_least, ahead_kept}
use Rattle.track_buffers.proofs.KeptTracks.{all_room, room_kept_by}
use Rattle.track_buffers.proofs.Steady.{steady_by}
use Rattle.track_buffers.proofs.WatchedRange.{watch_kept, ranges_kept}
use Rattle.track_buffers.proofs.buffers.TrackBuffers.reserve_frames.Goals as goal

pub returns-then-n-least-clause-spare : goal.returns-then-n-least-clause-spare
returns-then-n-least-clause-spare g c =
    let b = c.self.inside in
    let most : c.args.n ≤ 2 ^ 64 = omega (arith, c.ranges.n) in
    let less : c.args.n ≤ c.least.result = omega (arith, c.if-n-least.true) in
    let own : c.args.n ≤ b.known.ahead.own = omega (arith, less, c.least.ensures.own) in
    let others : c.args.n ≤ b.known.ahead.others = omega (arith, less, c.least.ensures.others) in
    rw (← c.self.view_is) (all_room g.S.FrameStore.spare c.args.n b.tracks.items most (ahead_least g.S.FrameStore.spare c.args.n b.known.ahead b.tracks.items own others c.self.invariant.1))

pub invariant_of-self : goal.invariant_of-self
invariant_of-self g c =
    let F = g.S.FrameStore.frames in
    let G = g.S.FrameStore.gap in
    let b = c.self.inside in
    let ts = b.tracks.items in
    let us = c.reserve_ahead.new.tracks.items in
    let r = c.reserve_ahead.ensures in
    let kept = subst (λ (xs : List TrackState). AreSoundAndCountable xs) (sym r.states) c.self.invariant.0.sound in
    (steady_by (states_of F ts) (states_of F us) (gaps_of G ts) (gaps_of G us) b.settings _ b.gap c.self.invariant.0 kept r.gaps c.self.invariant.0.window_start refl, ahead_kept g.S.FrameStore.spare b.known.ahead ts us (same_length G ts us r.gaps) r.no_room_lost c.self.invariant.1, watch_kept b.known.watch (ranges_in F G ts) (ranges_in F G us) (ranges_kept F G b.gap ts us c.self.invariant.0.gaps_are r.gaps r.states) c.self.invariant.2, subst (λ (xs : List TrackState). IfSome b.known.last (λ l. IsTrackPlace l xs)) (sym r.states) c.self.invariant.3, c.self.invariant.4 ∙ sym (ap bytes_in r.states))

pub invariant_of-self-2 : goal.invariant_of-self-2
invariant_of-self-2 g c =
    let F = g.S.FrameStore.frames in
    let G = g.S.FrameStore.gap in
    let b = c.self.inside in
    let ts = b.tracks.items in
    let us = c.reserve_ahead.new.tracks.items in
    let r = c.reserve_ahead.ensures in
    let kept = subst (λ (xs : List TrackState). AreSoundAndCountable xs) (sym r.states) c.self.invariant.0.sound in
    (steady_by (states_of F ts) (states_of F us) (gaps_of G ts) (gaps_of G us) b.settings _ b.gap c.self.invariant.0 kept r.gaps c.self.invariant.0.window_start refl, c.in_ok-self-inside.ensures.spare.2, watch_kept b.known.watch (ranges_in F G ts) (ranges_in F G us) (ranges_kept F G b.gap ts us c.self.invariant.0.gaps_are r.gaps r.states) c.self.invariant.2, subst (λ (xs : List TrackState). IfSome b.known.last (λ l. IsTrackPlace l xs)) (sym r.states) c.self.invariant.3, c.self.invariant.4 ∙ sym (ap bytes_in r.states))

pub returns-clause-spare : goal.returns-clause-spare
returns-clause-spare g c =
    let most : c.args.n ≤ 2 ^ 64 = omega (arith, c.ranges.n) in
    let us = c.reserve_ahead.new.tracks.items in
    let a = c.in_ok-self-inside.field-0 in
    all_room g.S.FrameStore.spare c.args.n us most (ahead_least g.S.FrameStore.spare c.args.n a us c.in_ok-self-inside.ensures.spare.0 c.in_ok-self-inside.ensures.spare.1 c.in_ok-self-inside.ensures.spare.2)

pub returns-clause-no_room_lost : goal.returns-clause-no_room_lost
returns-clause-no_room_lost g c =
    let ts = c.self.inside.tracks.items in
    let us = c.reserve_ahead.new.tracks.items in
    let long = same_length g.S.FrameStore.gap ts us c.reserve_ahead.ensures.gaps in
    rw (← c.self.view_is) (room_kept_by g.S.FrameStore.spare ts us (λ n. room_kept g.S.FrameStore.spare n ts us long c.reserve_ahead.ensures.no_room_lost))

pub returns-in_err-self-inside-clause-no_room_lost : goal.returns-in_err-self-inside-clause-no_room_lost
returns-in_err-self-inside-clause-no_room_lost g c =
    let ts = c.self.inside.tracks.items in
    let us = c.reserve_ahead.new.tracks.items in
    let long = same_length g.S.FrameStore.gap ts us c.reserve_ahead.ensures.gaps in
    rw (← c.self.view_is) (room_kept_by g.S.FrameStore.spare ts us (λ n. room_kept g.S.FrameStore.spare n ts us long c.reserve_ahead.ensures.no_room_lost))
