use Rattle.std.proofs.Common.{refl, Some}
use Rattle.track_store.specs.State.{states_of}
use Rattle.track_store.proofs.StillSound.{still_same}
use Rattle.frame_rules.specs.Plain.{timing_by}
use Rattle.frame_rules.proofs.AllTracks.{by_found, placed_full, ready_sound}
use Rattle.frame_rules.proofs.PlainFrames.{plain_is}
use Rattle.frame_rules.proofs.Rooms.{stores_same}
use Rattle.frame_rules.proofs.SoundPlaced.{placed_by, timing_here}
use Rattle.frame_rules.proofs.processing.place_with_used.Goals as goal

pub is_full-requires-clause-small : goal.is_full-requires-clause-small
is_full-requires-clause-small g c = c.requires.placeable.small

pub place_in_track-requires-clause-ready : goal.place_in_track-requires-clause-ready
place_in_track-requires-clause-ready g c =
    ready_sound g.S.FrameStore.frames g.S.FrameStore.spare c.args.tracks.now.items c.args.index c.args.frame c.args.settings.now c.requires.placeable (rw c.len.ensures at c.if-is_full.ensures)

pub place_in_track-requires-clause-timed : goal.place_in_track-requires-clause-timed
place_in_track-requires-clause-timed g c = timing_here c.args.tracks.now.items c.args.settings.now c.args.index c.args.frame (timing_by c.args.settings.now c.in-Some.times) c.requires.placeable.in_range c.in-Some.ensures

pub place_by_timing-requires : goal.place_by_timing-requires
place_by_timing-requires g c =
    ready_sound g.S.FrameStore.frames g.S.FrameStore.spare c.args.tracks.now.items c.args.index c.args.frame c.args.settings.now c.requires.placeable (rw c.len.ensures at c.if-is_full.ensures)

pub returns-then-is_full : goal.returns-then-is_full
returns-then-is_full g c =
    let F = g.S.FrameStore.frames in
    let old = c.args.tracks.now.items in
    record {
      placement = placed_full F old c.args.settings.now c.args.index c.args.frame c.requires.placeable.in_range (rw c.len.ensures at c.if-is_full.ensures);
      sound = still_same (states_of F old);
      small = c.requires.placeable.small;
      sound_and_countable = λ all. all;
      window_start = c.requires.placeable.window_start;
      ends = λ limit all. all;
      stores = stores_same g.S.FrameStore.spare g.S.FrameStore.gap c.args.index old;
      places = refl;
    }

pub returns-in-Some : goal.returns-in-Some
returns-in-Some g c =
    let F = g.S.FrameStore.frames in
    let s = c.args.settings.now in
    let old = c.args.tracks.now in
    let is = plain_is s c.in-Some.times c.args.frame c.args.index (states_of F old.items) _ c.place_in_track.ensures.placement in
    placed_by F g.S.FrameStore.spare g.S.FrameStore.gap c.args.index c.args.frame s old c.place_in_track.result c.place_in_track.new.settings c.place_in_track.new.tracks c.requires.placeable (rw c.len.ensures at c.if-is_full.ensures) (by_found F old.items s c.args.index c.args.frame (Some (timing_by s c.in-Some.times)) _ c.in-Some.ensures is) c.place_in_track.ensures.stores c.place_in_track.ensures.places

pub returns-in-None : goal.returns-in-None
returns-in-None g c =
    placed_by g.S.FrameStore.frames g.S.FrameStore.spare g.S.FrameStore.gap c.args.index c.args.frame c.args.settings.now c.args.tracks.now c.place_by_timing.result c.place_by_timing.new.settings c.place_by_timing.new.tracks c.requires.placeable (rw c.len.ensures at c.if-is_full.ensures) c.place_by_timing.ensures.placement c.place_by_timing.ensures.stores c.place_by_timing.ensures.places
