use Rattle.std.proofs.Common.{◌≡◌, ◌∙◌, ap, sym, slice_get, Some, inl, inr, arith}
use Rattle.std.specs.Option.{option_copied_mut}
use Rattle.std.proofs.lemmas.Option.{slice_get_cases}
use Rattle.frame_rules.specs.Plain.{timing_by}
use Rattle.frame_rules.proofs.AllTracks.{placed_at}
use Rattle.frame_rules.proofs.Rooms.{stores_same, stores_set}
use Rattle.frame_rules.proofs.processing.place_in_track.Goals as goal

pub returns-in-Some-clause-placement : goal.returns-in-Some-clause-placement
returns-in-Some-clause-placement g c =
    let there : slice_get c.args.tracks.now.items c.args.index ≡ Some c.in-Some.track.now = sym c.get_mut.ensures.value ∙ ap option_copied_mut c.in-Some.is in
    placed_at g.S.FrameStore.frames (timing_by c.args.settings.now c.args.times.now) c.args.frame c.args.index c.args.tracks.now.items c.in-Some.track.now c.put-answer.new.track c.put-answer.result c.update_settings.new.settings there c.put-answer.ensures.state c.put-answer.ensures.answer c.update_settings.ensures

pub returns-in-Some-clause-stores : goal.returns-in-Some-clause-stores
returns-in-Some-clause-stores g c =
    let there : slice_get c.args.tracks.now.items c.args.index ≡ Some c.in-Some.track.now = sym c.get_mut.ensures.value ∙ ap option_copied_mut c.in-Some.is in
    stores_set g.S.FrameStore.spare g.S.FrameStore.gap c.args.index c.args.tracks.now.items c.in-Some.track.now c.put-answer.new.track there c.put-answer.ensures.spare c.put-answer.ensures.gap

-- the place is in range
pub returns-in-None-clause-placement : goal.returns-in-None-clause-placement
returns-in-None-clause-placement g c =
    elim (slice_get_cases c.args.tracks.now.items c.args.index).1 [
      | inl found ↦ (let none = sym c.get_mut.ensures.value ∙ ap option_copied_mut c.in-None.is in absurd cc)
      | inr past ↦ (let low = c.requires.ready.in_range in absurd (omega arith))
    ]

pub returns-in-None-clause-stores : goal.returns-in-None-clause-stores
returns-in-None-clause-stores g c = stores_same g.S.FrameStore.spare g.S.FrameStore.gap c.args.index c.args.tracks.now.items
