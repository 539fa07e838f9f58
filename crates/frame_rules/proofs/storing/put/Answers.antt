use Rattle.std.proofs.Common.{◌∙◌, ◌+◌, ◌<◌, ◌^◌, sym, subst, length, arith}
use Rattle.std.specs.List.{AllByRecursion}
use Rattle.track_store.specs.Frames.{bytes_of}
use Rattle.track_store.specs.Sound.{HasPredecessor}
use Rattle.track_store.specs.State.{TrackState, state_of}
use Rattle.overlap_rules.proofs.Firm.{firm_room, used_room}
use Rattle.frame_rules.specs.Plain.{timing_by}
use Rattle.frame_rules.proofs.PutFrames.{may_follow, stored_is}
use Rattle.frame_rules.proofs.storing.put.Goals as goal

pub add-requires-clause-later : goal.add-requires-clause-later
add-requires-clause-later g c =
    let t = state_of g.S.FrameStore.frames c.args.track.now in
    let firm = firm_room c.args.times.now.pts c.args.times.now.end t c.requires.sound in
    rw (c.stored_frame-frame.ensures c.args.settings.now) (subst (λ (s : TrackState). AllByRecursion (λ f. f.serial < s.marks.received) s.frames) (sym c.make_room.ensures.state) firm.below)

pub add-requires-clause-predecessor : goal.add-requires-clause-predecessor
add-requires-clause-predecessor g c =
    let t = state_of g.S.FrameStore.frames c.args.track.now in
    let kept = sym c.drop_reason.ensures ∙ c.in_default.is in
    rw (c.stored_frame-frame.ensures c.args.settings.now) (λ none. subst (λ (s : TrackState). HasPredecessor s.marks.received s.frames) (sym c.make_room.ensures.state) (may_follow (timing_by c.args.settings.now c.args.times.now) c.args.frame.sync t c.requires.sound kept none))

pub add-requires-clause-small : goal.add-requires-clause-small
add-requires-clause-small g c =
    let t = state_of g.S.FrameStore.frames c.args.track.now in
    let left = used_room c.args.times.now.pts c.args.times.now.end t in
    rw (c.stored_frame-frame.ensures c.args.settings.now) (subst (λ (s : TrackState). bytes_of s.frames + length c.args.frame.payload < 2 ^ 62) (sym c.make_room.ensures.state) (omega (arith, left, c.requires.small)))

pub add-requires-clause-dur_not_negative : goal.add-requires-clause-dur_not_negative
add-requires-clause-dur_not_negative g c = rw (c.stored_frame-frame.ensures c.args.settings.now) c.requires.dur_not_negative

pub add-requires-clause-end_is_tick : goal.add-requires-clause-end_is_tick
add-requires-clause-end_is_tick g c = rw (c.stored_frame-frame.ensures c.args.settings.now) c.requires.timed.1

pub returns-clause-state : goal.returns-clause-state
returns-clause-state g c =
    let F = g.S.FrameStore.frames in
    let w = timing_by c.args.settings.now c.args.times.now in
    let kept = sym c.drop_reason.ensures ∙ c.in_default.is in
    stored_is w c.args.frame (state_of F c.args.track.now) (state_of F c.make_room.new.track) (F c.add.new.self) c.stored_frame-frame.result c.mark.new.marks kept c.make_room.ensures.state c.add.ensures.frames (c.stored_frame-frame.ensures c.args.settings.now) (c.mark.ensures c.args.settings.now)
