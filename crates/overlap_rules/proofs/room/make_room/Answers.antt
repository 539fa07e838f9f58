use Rattle.std.proofs.Common.{◌∙◌, ap, subst, sym}
use Rattle.track_store.specs.State.{state_of}
use Rattle.track_store.specs.Sound.{IsSound}
use Rattle.overlap_rules.specs.Steps.{track_without_older}
use Rattle.overlap_rules.proofs.Firm.{sound_room}
use Rattle.overlap_rules.proofs.Rules.{steps_are_one}
use Rattle.overlap_rules.proofs.room.make_room.Goals as goal

pub returns-clause-state : goal.returns-clause-state
returns-clause-state g c =
    c.remove_existing.ensures.state ∙ ap (track_without_older c.args.pts c.args.end) c.resolve_overlap_of_first.ensures.state ∙ steps_are_one c.args.pts c.args.end (state_of g.S.FrameStore.frames c.args.track.now)

pub returns-clause-sound : goal.returns-clause-sound
returns-clause-sound g c = λ sound. subst IsSound (sym (returns-clause-state g c)) (sound_room c.args.pts c.args.end (state_of g.S.FrameStore.frames c.args.track.now) sound)
