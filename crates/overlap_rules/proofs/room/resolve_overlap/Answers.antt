use Rattle.std.proofs.Common.{◌≡◌, ◌∙◌, ap, sym, slice_get, Some, option_copied}
use Rattle.track_store.specs.Frames.{overlapped}
use Rattle.track_store.proofs.LastOverlap.{overlapped-covers}
use Rattle.overlap_rules.proofs.Rules.{applicable}
use Rattle.overlap_rules.proofs.room.resolve_overlap.Goals as goal

pub rule_for-rule-requires : goal.rule_for-rule-requires
rule_for-rule-requires g c =
    let fs = g.S.FrameStore.frames c.args.store.now in
    let at : slice_get fs c.in-Some.i ≡ Some c.in-Some-get.stored.now = sym c.get.ensures ∙ ap option_copied c.in-Some-get.is in
    let over : overlapped c.args.pts fs ≡ Some c.in-Some-get.stored.now = sym c.in-Some.ensures.frame ∙ at in
    rw over at (overlapped-covers c.args.pts fs)

pub apply-requires-clause-applicable : goal.apply-requires-clause-applicable
apply-requires-clause-applicable g c =
    let fs = g.S.FrameStore.frames c.args.store.now in
    let x = c.in-Some-get.stored.now in
    let at : slice_get fs c.in-Some.i ≡ Some x = sym c.get.ensures ∙ ap option_copied c.in-Some-get.is in
    let over : overlapped c.args.pts fs ≡ Some x = sym c.in-Some.ensures.frame ∙ at in
    let held = rw over at (overlapped-covers c.args.pts fs) in
    rw (at, c.rule_for-rule.ensures) (applicable c.args.kind c.args.pts x held)
