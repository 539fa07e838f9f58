use Rattle.std.proofs.Common.{◌≡◌, ◌∙◌, ◌+◌, ◌-◌, ◌<◌, List, ℤ, length, sym, subst, arith}
use Rattle.std.specs.List.{AllByRecursion}
use Rattle.std.proofs.lemmas.List.{length-map}
use Rattle.range_removal.proofs.Rooms.{same_length}
use Rattle.track_store.specs.Kept.{bytes_in, gaps_of}
use Rattle.track_store.specs.State.{states_of}
use Rattle.track_buffers.specs.declared.rooms.Ahead.{Ahead}
use Rattle.track_buffers.specs.Ahead.{HasRoomAhead}
use Rattle.track_buffers.specs.Buffered.{ranges_in}
use Rattle.track_buffers.proofs.Ahead.{ahead_after}
use Rattle.track_buffers.proofs.Durations.{not_after_none}
use Rattle.track_buffers.proofs.KeptTracks.{gaps_forward, room_all, room_less_by}
use Rattle.track_buffers.proofs.FramesOfOneTrack.{same_place}
use Rattle.track_buffers.proofs.SharedRanges.{ranges_all}
use Rattle.track_buffers.proofs.Steady.{steady_by}
use Rattle.track_buffers.proofs.UsedBytes.{used_turns, used_within}
use Rattle.track_buffers.proofs.WatchedRange.{ranges_changed}
use Rattle.track_buffers.proofs.buffers.TrackBuffers.process.Goals as goal

pub process_at-effect-requires-clause-ready : goal.process_at-effect-requires-clause-ready
process_at-effect-requires-clause-ready g c = record {
  in_range = c.in-Some.ensures.in_range;
  room = room_all g.S.FrameStore.spare 1 c.self.inside.tracks.items (rw (← c.self.view_is) at c.requires.room);
  sound_and_countable = c.self.invariant.0.sound;
  window_start = c.self.invariant.0.window_start;
  dur_not_negative = c.requires.dur_not_negative;
}

pub watch_after-requires-clause-some : goal.watch_after-requires-clause-some
watch_after-requires-clause-some g c =
    let long = same_length g.S.FrameStore.gap c.self.inside.tracks.items c.process_at-effect.new.tracks.items c.process_at-effect.ensures.stores.gaps in
    omega (arith, long, c.in-Some.ensures.in_range)

pub watch_after-requires-clause-gaps_from_zero : goal.watch_after-requires-clause-gaps_from_zero
watch_after-requires-clause-gaps_from_zero g c =
    let G = g.S.FrameStore.gap in
    let b = c.self.inside in
    let us = c.process_at-effect.new.tracks.items in
    gaps_forward b.gap (gaps_of G us) c.self.invariant.0.gap_from_zero (subst (λ (zs : List ℤ). AllByRecursion (λ z. z ≡ b.gap) zs) (sym c.process_at-effect.ensures.stores.gaps) c.self.invariant.0.gaps_are)

pub returns-in-Some-clause-room : goal.returns-in-Some-clause-room
returns-in-Some-clause-room g c = rw (← c.self.view_is) (room_less_by g.S.FrameStore.spare c.self.inside.tracks.items c.process_at-effect.new.tracks.items c.process_at-effect.ensures.stores.room)

pub returns-in-None-clause-no_fall : goal.returns-in-None-clause-no_fall
returns-in-None-clause-no_fall g c = not_after_none c.args.duration c.no_effect.result c.no_effect.ensures

pub invariant_of-self : goal.invariant_of-self
invariant_of-self g c =
    let F = g.S.FrameStore.frames in
    let G = g.S.FrameStore.gap in
    let P = g.S.FrameStore.spare in
    let b = c.self.inside in
    let ts = b.tracks.items in
    let us = c.process_at-effect.new.tracks.items in
    let p = c.process_at-effect.ensures in
    let i = c.in-Some.i in
    let long : length us ≡ length ts = same_length G ts us p.stores.gaps in
    let gaps = gaps_forward b.gap (gaps_of G ts) c.self.invariant.0.gap_from_zero c.self.invariant.0.gaps_are in
    let low : i < length (ranges_in {S = g.row.S.Denot} F G us) = rw length-map (omega (arith, long, c.in-Some.ensures.in_range)) in
    let states : i < length (states_of F ts) = rw length-map c.in-Some.ensures.in_range in
    let states2 : i < length (states_of F us) = rw length-map (omega (arith, long, c.in-Some.ensures.in_range)) in
    let used = used_turns (states_of F ts) (states_of F us) i c.used_at-stored.result c.used_at.result states states2 c.used_at-stored.ensures.value c.used_at.ensures.value p.tracks.frames in
    let is : (c.self.inside.known.used - c.used_at-stored.result) + c.used_at.result ≡ bytes_in (states_of F us) = omega (arith, used.within, used.turns, c.self.invariant.4) in
    (steady_by (states_of F ts) (states_of F us) (gaps_of G ts) (gaps_of G us) b.settings _ b.gap c.self.invariant.0 p.tracks.sound_and_countable p.stores.gaps p.window_start p.window_end, subst (λ (a : Ahead). HasRoomAhead P a us) (sym c.after_frame-self-inside.ensures) (ahead_after P b.known.ahead i ts us long p.stores.spare_there c.self.invariant.1), c.watch_after.ensures (ranges_in F G ts) low (ranges_all F G ts gaps) (ranges_changed F G b.gap ts us i c.self.invariant.0.gaps_are p.stores.gaps p.tracks.frames) c.self.invariant.2 c.own_span-old.ensures, same_place c.args.frame.track_id (states_of F ts) (states_of F us) p.tracks.ids ∙ sym c.in-Some.ensures.place, is)

pub overflow_sub-self : goal.overflow_sub-self
overflow_sub-self g c =
    let F = g.S.FrameStore.frames in
    let ts = c.self.inside.tracks.items in
    let within = used_within (states_of F ts) c.in-Some.i c.used_at-stored.result (rw length-map c.in-Some.ensures.in_range) c.used_at-stored.ensures.value in
    rw c.self.invariant.4 within

pub returns-in-Some-clause-changes : goal.returns-in-Some-clause-changes
returns-in-Some-clause-changes g c = c.process_at-effect.ensures.effect.changes

pub returns-in-Some-clause-within_duration : goal.returns-in-Some-clause-within_duration
returns-in-Some-clause-within_duration g c = rw (← c.self.view_is) c.process_at-effect.ensures.effect.within_duration

pub returns-in-Some-clause-no_fall : goal.returns-in-Some-clause-no_fall
returns-in-Some-clause-no_fall g c = c.process_at-effect.ensures.effect.no_fall

pub returns-in-Some-clause-no_init : goal.returns-in-Some-clause-no_init
returns-in-Some-clause-no_init g c = c.process_at-effect.ensures.effect.no_init
