use Rattle.std.proofs.Common.{◌∙◌, ℕ, Option, Some, ap, sym}
use Rattle.track_store.specs.Frames.{frames_without}
use Rattle.overlap_rules.specs.Overlap.{is_removed_from}
use Rattle.overlap_rules.proofs.Rules.{older_of_none}
use Rattle.overlap_rules.proofs.room.remove_older.Goals as goal

pub returns-in-None-clause-frames : goal.returns-in-None-clause-frames
returns-in-None-clause-frames g c =
    let fs = g.S.FrameStore.frames c.args.store.now in
    c.remove_between.ensures.frames ∙ older_of_none c.args.from c.args.end fs
    ∙ ap (λ (first : Option ℕ). frames_without (is_removed_from (Some c.args.from) c.args.end first) fs) (sym c.in-None.is)
