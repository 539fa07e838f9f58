use Rattle.std.proofs.Common.{◌∙◌, ap, sym, ℤ, List, Option}
use Rattle.track_store.specs.declared.store.Stored.{Stored}
use Rattle.track_store.specs.State.{state_of}
use Rattle.track_store.specs.Frames.{frames_without}
use Rattle.overlap_rules.specs.Overlap.{is_removed_from}
use Rattle.track_store.proofs.ClearedLists.{cleared-nothing}
use Rattle.overlap_rules.proofs.room.remove_existing.Goals as goal

pub returns-in-Some-clause-state : goal.returns-in-Some-clause-state
returns-in-Some-clause-state g c =
    let t = state_of g.S.FrameStore.frames c.args.track.now in
    let first = c.args.track.now.marks.group_first in
    let from = sym c.in-Some.is ∙ c.removal_start.ensures in
    ap (λ (fs : List Stored). record t { frames = fs }) (c.remove_older.ensures.frames ∙ ap (λ (o : Option ℤ). frames_without (is_removed_from o c.args.end first) t.frames) from)

pub returns-in-None-clause-state : goal.returns-in-None-clause-state
returns-in-None-clause-state g c =
    let t = state_of g.S.FrameStore.frames c.args.track.now in
    let first = c.args.track.now.marks.group_first in
    let from = sym c.in-None.is ∙ c.removal_start.ensures in
    ap (λ (fs : List Stored). record t { frames = fs }) (sym (cleared-nothing t.frames) ∙ ap (λ (o : Option ℤ). frames_without (is_removed_from o c.args.end first) t.frames) from)
