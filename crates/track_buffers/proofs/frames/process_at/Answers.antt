use Rattle.std.proofs.Common.{◌∙◌, ◌≤◌, ap, sym, subst, arith}
use Rattle.std.proofs.lemmas.List.{length-map}
use Rattle.track_store.specs.State.{states_of}
use Rattle.frame_rules.specs.Place.{Placement}
use Rattle.frame_rules.specs.declared.answer.Placed.TheVariants as placed_as
use Rattle.track_buffers.specs.declared.effects.SourceEffect.{SourceEffect}
use Rattle.track_buffers.specs.declared.effects.MediaFault.TheVariants.{TimeRange, Counts}
use Rattle.track_buffers.specs.Media.{AreEndedWithin, media_of, no_effect}
use Rattle.track_buffers.specs.Frames.{frame_result_of}
use Rattle.track_buffers.proofs.FramesOfOneTrack.{set_alone_by, same_ids}
use Rattle.track_buffers.proofs.CodedFrames.{as_before, broke_same, window_end_stays, ends_stored, changed_few}
use Rattle.track_buffers.proofs.KeptTracks.{ends_kept}
use Rattle.track_buffers.proofs.Durations.{not_after_stored, not_after_none}
use Rattle.track_store.proofs.StillSound.{sound_in, counted_in, room_in}
use Rattle.track_buffers.proofs.frames.process_at.Goals as goal

pub place_with_used-requires-clause-placeable : goal.place_with_used-requires-clause-placeable
place_with_used-requires-clause-placeable g c =
    let F = g.S.FrameStore.frames in
    let ts = states_of F c.args.tracks.now.items in
    record {
      in_range = c.requires.ready.in_range;
      room = room_in g.S.FrameStore.spare 1 c.args.tracks.now.items c.args.i c.requires.ready.room;
      sound = sound_in ts c.args.i c.requires.ready.sound_and_countable.sound;
      count = counted_in ts c.args.i c.requires.ready.sound_and_countable.counted;
      small = c.requires.ready.sound_and_countable.small;
      window_start = c.requires.ready.window_start;
      dur_not_negative = c.requires.ready.dur_not_negative;
    }

pub returns-in-Stored-clause-window_end : goal.returns-in-Stored-clause-window_end
returns-in-Stored-clause-window_end g c =
    let F = g.S.FrameStore.frames in
    let ts = states_of F c.args.tracks.now.items in
    let us = states_of F c.place_with_used.new.tracks.items in
    window_end_stays placed_as.Stored us ts c.place_with_used.new.settings c.args.settings.now c.args.i c.args.frame c.in-Stored.ensures.placement

pub returns-in-Dropped-clause-window_end : goal.returns-in-Dropped-clause-window_end
returns-in-Dropped-clause-window_end g c =
    let F = g.S.FrameStore.frames in
    let ts = states_of F c.args.tracks.now.items in
    let us = states_of F c.place_with_used.new.tracks.items in
    window_end_stays (placed_as.Dropped c.in-Dropped.field-0) us ts c.place_with_used.new.settings c.args.settings.now c.args.i c.args.frame c.in-Dropped.ensures.placement

pub returns-in-TimeRange-clause-window_end : goal.returns-in-TimeRange-clause-window_end
returns-in-TimeRange-clause-window_end g c =
    let F = g.S.FrameStore.frames in
    let ts = states_of F c.args.tracks.now.items in
    let us = states_of F c.place_with_used.new.tracks.items in
    window_end_stays placed_as.TimeRange us ts c.place_with_used.new.settings c.args.settings.now c.args.i c.args.frame c.in-TimeRange.ensures.placement

pub returns-in-TimeRange-clause-result : goal.returns-in-TimeRange-clause-result
returns-in-TimeRange-clause-result g c = λ pending gap.
    let F = g.S.FrameStore.frames in
    let ts = states_of F c.args.tracks.now.items in
    let us = states_of F c.place_with_used.new.tracks.items in
    let both = as_before placed_as.TimeRange us ts c.place_with_used.new.settings c.args.settings.now c.args.i c.args.frame c.in-TimeRange.ensures.placement (rw length-map c.requires.ready.in_range) tt in
    broke_same TimeRange us ts c.place_with_used.new.settings c.args.settings.now pending gap c.no_effect-in-TimeRange.result c.args.duration.now both.0 both.1 c.no_effect-in-TimeRange.ensures
    ∙ ap (λ (o : Placement). frame_result_of o (media_of F c.args.tracks.now.items c.args.settings.now pending gap) c.args.duration.now) c.in-TimeRange.ensures.placement

pub returns-in-Counts-clause-window_end : goal.returns-in-Counts-clause-window_end
returns-in-Counts-clause-window_end g c =
    let F = g.S.FrameStore.frames in
    let ts = states_of F c.args.tracks.now.items in
    let us = states_of F c.place_with_used.new.tracks.items in
    window_end_stays placed_as.Counts us ts c.place_with_used.new.settings c.args.settings.now c.args.i c.args.frame c.in-Counts.ensures.placement

pub returns-in-Counts-clause-result : goal.returns-in-Counts-clause-result
returns-in-Counts-clause-result g c = λ pending gap.
    let F = g.S.FrameStore.frames in
    let ts = states_of F c.args.tracks.now.items in
    let us = states_of F c.place_with_used.new.tracks.items in
    let both = as_before placed_as.Counts us ts c.place_with_used.new.settings c.args.settings.now c.args.i c.args.frame c.in-Counts.ensures.placement (rw length-map c.requires.ready.in_range) tt in
    broke_same Counts us ts c.place_with_used.new.settings c.args.settings.now pending gap c.no_effect-in-Counts.result c.args.duration.now both.0 both.1 c.no_effect-in-Counts.ensures
    ∙ ap (λ (o : Placement). frame_result_of o (media_of F c.args.tracks.now.items c.args.settings.now pending gap) c.args.duration.now) c.in-Counts.ensures.placement

pub returns-in-Stored-clause-effect : goal.returns-in-Stored-clause-effect
returns-in-Stored-clause-effect g c = record {
  changes = (subst (λ (b : SourceEffect). b.duration_changes ≤ 1) (sym c.duration_change.ensures.effect) (changed_few c.at_least-new_duration.result (no_effect c.args.duration.now)));
  within_duration = (let F = g.S.FrameStore.frames in
      let ts = states_of F c.args.tracks.now.items in
      let us = states_of F c.place_with_used.new.tracks.items in
      ends_stored ts us c.place_with_used.new.settings.group_end c.args.duration.now c.at_least-new_duration.result c.duration_change.result c.in-Stored.ensures.ends c.at_least-new_duration.ensures c.duration_change.ensures.effect);
  no_fall = (not_after_stored c.place_with_used.new.settings.group_end c.args.duration.now c.at_least-new_duration.result c.duration_change.result c.at_least-new_duration.ensures c.duration_change.ensures.effect);
  no_init = (c.duration_change.ensures.no_init);
}

pub returns-in-Stored-clause-tracks : goal.returns-in-Stored-clause-tracks
returns-in-Stored-clause-tracks g c = record {
  sound_and_countable = c.in-Stored.ensures.sound_and_countable c.requires.ready.sound_and_countable;
  ids = (let F = g.S.FrameStore.frames in
      same_ids placed_as.Stored (states_of F c.args.tracks.now.items) (states_of F c.place_with_used.new.tracks.items) c.args.settings.now c.place_with_used.new.settings c.args.i c.args.frame c.in-Stored.ensures.placement);
  frames = (let F = g.S.FrameStore.frames in
      set_alone_by placed_as.Stored (states_of F c.args.tracks.now.items) (states_of F c.place_with_used.new.tracks.items) c.args.settings.now c.place_with_used.new.settings c.args.i c.args.frame c.in-Stored.ensures.placement);
}

pub returns-in-Dropped-clause-effect : goal.returns-in-Dropped-clause-effect
returns-in-Dropped-clause-effect g c = record {
  changes = (subst (λ (b : SourceEffect). b.duration_changes ≤ 1) (sym c.no_effect.ensures) (omega arith));
  within_duration = (λ h.
      let F = g.S.FrameStore.frames in
      let ts = states_of F c.args.tracks.now.items in
      let us = states_of F c.place_with_used.new.tracks.items in
      subst (λ (b : SourceEffect). AreEndedWithin b.duration us) (sym c.no_effect.ensures) (ends_kept ts us c.in-Dropped.ensures.ends c.args.duration.now h));
  no_fall = (not_after_none c.args.duration.now c.no_effect.result c.no_effect.ensures);
  no_init = (ap (λ (b : SourceEffect). b.received_init) c.no_effect.ensures);
}

pub returns-in-Dropped-clause-tracks : goal.returns-in-Dropped-clause-tracks
returns-in-Dropped-clause-tracks g c = record {
  sound_and_countable = c.in-Dropped.ensures.sound_and_countable c.requires.ready.sound_and_countable;
  ids = (let F = g.S.FrameStore.frames in
      same_ids (placed_as.Dropped c.in-Dropped.field-0) (states_of F c.args.tracks.now.items) (states_of F c.place_with_used.new.tracks.items) c.args.settings.now c.place_with_used.new.settings c.args.i c.args.frame c.in-Dropped.ensures.placement);
  frames = (let F = g.S.FrameStore.frames in
      set_alone_by (placed_as.Dropped c.in-Dropped.field-0) (states_of F c.args.tracks.now.items) (states_of F c.place_with_used.new.tracks.items) c.args.settings.now c.place_with_used.new.settings c.args.i c.args.frame c.in-Dropped.ensures.placement);
}

pub returns-in-TimeRange-clause-effect : goal.returns-in-TimeRange-clause-effect
returns-in-TimeRange-clause-effect g c = record {
  changes = (subst (λ (b : SourceEffect). b.duration_changes ≤ 1) (sym c.no_effect-in-TimeRange.ensures) (omega arith));
  within_duration = (λ h.
      let F = g.S.FrameStore.frames in
      let ts = states_of F c.args.tracks.now.items in
      let us = states_of F c.place_with_used.new.tracks.items in
      subst (λ (b : SourceEffect). AreEndedWithin b.duration us) (sym c.no_effect-in-TimeRange.ensures) (ends_kept ts us c.in-TimeRange.ensures.ends c.args.duration.now h));
  no_fall = (not_after_none c.args.duration.now c.no_effect-in-TimeRange.result c.no_effect-in-TimeRange.ensures);
  no_init = (ap (λ (b : SourceEffect). b.received_init) c.no_effect-in-TimeRange.ensures);
}

pub returns-in-TimeRange-clause-tracks : goal.returns-in-TimeRange-clause-tracks
returns-in-TimeRange-clause-tracks g c = record {
  sound_and_countable = c.in-TimeRange.ensures.sound_and_countable c.requires.ready.sound_and_countable;
  ids = (let F = g.S.FrameStore.frames in
      same_ids placed_as.TimeRange (states_of F c.args.tracks.now.items) (states_of F c.place_with_used.new.tracks.items) c.args.settings.now c.place_with_used.new.settings c.args.i c.args.frame c.in-TimeRange.ensures.placement);
  frames = (let F = g.S.FrameStore.frames in
      set_alone_by placed_as.TimeRange (states_of F c.args.tracks.now.items) (states_of F c.place_with_used.new.tracks.items) c.args.settings.now c.place_with_used.new.settings c.args.i c.args.frame c.in-TimeRange.ensures.placement);
}

pub returns-in-Counts-clause-effect : goal.returns-in-Counts-clause-effect
returns-in-Counts-clause-effect g c = record {
  changes = (subst (λ (b : SourceEffect). b.duration_changes ≤ 1) (sym c.no_effect-in-Counts.ensures) (omega arith));
  within_duration = (λ h.
      let F = g.S.FrameStore.frames in
      let ts = states_of F c.args.tracks.now.items in
      let us = states_of F c.place_with_used.new.tracks.items in
      subst (λ (b : SourceEffect). AreEndedWithin b.duration us) (sym c.no_effect-in-Counts.ensures) (ends_kept ts us c.in-Counts.ensures.ends c.args.duration.now h));
  no_fall = (not_after_none c.args.duration.now c.no_effect-in-Counts.result c.no_effect-in-Counts.ensures);
  no_init = (ap (λ (b : SourceEffect). b.received_init) c.no_effect-in-Counts.ensures);
}

pub returns-in-Counts-clause-tracks : goal.returns-in-Counts-clause-tracks
returns-in-Counts-clause-tracks g c = record {
  sound_and_countable = c.in-Counts.ensures.sound_and_countable c.requires.ready.sound_and_countable;
  ids = (let F = g.S.FrameStore.frames in
      same_ids placed_as.Counts (states_of F c.args.tracks.now.items) (states_of F c.place_with_used.new.tracks.items) c.args.settings.now c.place_with_used.new.settings c.args.i c.args.frame c.in-Counts.ensures.placement);
  frames = (let F = g.S.FrameStore.frames in
      set_alone_by placed_as.Counts (states_of F c.args.tracks.now.items) (states_of F c.place_with_used.new.tracks.items) c.args.settings.now c.place_with_used.new.settings c.args.i c.args.frame c.in-Counts.ensures.placement);
}
