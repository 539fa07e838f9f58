use Rattle.std.proofs.Common.{◌≡◌, take, drop, length-drop, IfOk, ap, ◌∙◌, sym, subst, refl, arith}
use Rattle.std.specs.List.{concat}
use Rattle.bmff_fragment.specs.Plans.{plan_of}
use Rattle.bmff_init.specs.Movies.{init_of}
use Rattle.segment_walk.specs.Moves.{WalkState, move_of_init}
use Rattle.segment_walk.specs.declared.kinds.BoxStep.TheVariants as step
use Rattle.segment_walk.specs.Ranges.{mode_of}
use Rattle.segment_stream.specs.Kept.{move_of_pending}
use Rattle.segment_stream.proofs.Acts.{fits}
use Rattle.segment_stream.proofs.PendingLaws.{skip-dry, stuck, end-near, step-item, plan-stuck, active-by}
use Rattle.segment_stream.proofs.Snapshots.{walk_state}
use Rattle.segment_stream.proofs.pending.pending_item.Goals as goal

pub returns-then-is_skipping-clause-value : goal.returns-then-is_skipping-clause-value
returns-then-is_skipping-clause-value c =
    let r = c.args.progress.now in
    skip-dry c.args.last.now r.position.mode r.position.offset (drop r.from (concat c.args.input.now)) r.position.failed r.want c.args.tables.now c.if-progress.false (sym c.is_skipping.ensures ∙ c.if-is_skipping.true) c.requires.at_front.rests

pub pending_init-requires : goal.pending_init-requires
pending_init-requires c =
    let r = c.args.progress.now in
    let m = mode_of c.args.tables.now.slots.items c.args.tables.now.known.items r.position.mode in
    let f = fits c.args.last.now m (drop r.from (concat c.args.input.now)) (step.ReadInit c.in-ReadInit.len) c.in-ReadInit.ensures in
    omega (arith, f.2, length-drop r.from (concat c.args.input.now))

pub returns-in-ReadInit-clause-value : goal.returns-in-ReadInit-clause-value
returns-in-ReadInit-clause-value c =
    let r = c.args.progress.now in
    let tables = c.args.tables.now in
    let b = concat c.args.input.now in
    let s : WalkState = walk_state c.args.last.now r.position tables (drop r.from b) in
    let z : drop r.from b ≡ b = ap (λ n. drop n b) c.requires.at_front.front in
    let h = subst (λ v. IfOk c.pending_init.result (λ item. move_of_init s c.in-ReadInit.len (init_of (take c.in-ReadInit.len v)) ≡ move_of_pending s item)) (sym z) (c.pending_init.ensures.value s) in
    step-item c.pending_init.result c.args.last.now r.position.mode r.position.offset (drop r.from b) r.position.failed tables (step.ReadInit c.in-ReadInit.len) c.if-progress.false (sym c.is_skipping.ensures ∙ c.if-is_skipping.false) c.in-ReadInit.ensures h

pub pending_moof-requires-clause-whole : goal.pending_moof-requires-clause-whole
pending_moof-requires-clause-whole c =
    let r = c.args.progress.now in
    let m = mode_of c.args.tables.now.slots.items c.args.tables.now.known.items r.position.mode in
    let f = fits c.args.last.now m (drop r.from (concat c.args.input.now)) (step.ReadMoof c.in-ReadMoof.len) c.in-ReadMoof.ensures in
    omega (arith, f.2, length-drop r.from (concat c.args.input.now))

pub pending_moof-requires-clause-not_passed : goal.pending_moof-requires-clause-not_passed
pending_moof-requires-clause-not_passed c = λ p slots w h.
    let r = c.args.progress.now in
    let b = concat c.args.input.now in
    let z : drop r.from b ≡ b = ap (λ n. drop n b) c.requires.at_front.front in
    plan-stuck c.args.last.now p r.position.mode r.position.offset r.want (drop r.from b) r.position.failed c.args.tables.now c.in-ReadMoof.len slots w c.if-progress.false (active-by r.position.mode (sym c.is_skipping.ensures ∙ c.if-is_skipping.false)) c.requires.at_front.rests c.in-ReadMoof.ensures (ap (λ v. plan_of p.tracks (take c.in-ReadMoof.len v)) z ∙ h)

pub returns-in-ReadMoof-clause-value : goal.returns-in-ReadMoof-clause-value
returns-in-ReadMoof-clause-value c =
    let r = c.args.progress.now in
    let tables = c.args.tables.now in
    let b = concat c.args.input.now in
    let s : WalkState = walk_state c.args.last.now r.position tables (drop r.from b) in
    let z : drop r.from b ≡ b = ap (λ n. drop n b) c.requires.at_front.front in
    step-item c.pending_moof.result c.args.last.now r.position.mode r.position.offset (drop r.from b) r.position.failed tables (step.ReadMoof c.in-ReadMoof.len) c.if-progress.false (sym c.is_skipping.ensures ∙ c.if-is_skipping.false) c.in-ReadMoof.ensures (c.pending_moof.ensures.value s z)

pub returns-in-EndSegment-clause-inside : goal.returns-in-EndSegment-clause-inside
returns-in-EndSegment-clause-inside c =
    let r = c.args.progress.now in
    let m = mode_of c.args.tables.now.slots.items c.args.tables.now.known.items r.position.mode in
    let f = fits c.args.last.now m (drop r.from (concat c.args.input.now)) (step.EndSegment c.in-EndSegment.end) c.in-EndSegment.ensures in
    omega (arith, f.1, length-drop r.from (concat c.args.input.now))

pub returns-in-Fail-clause-inside : goal.returns-in-Fail-clause-inside
returns-in-Fail-clause-inside c =
    let r = c.args.progress.now in
    let m = mode_of c.args.tables.now.slots.items c.args.tables.now.known.items r.position.mode in
    let f = fits c.args.last.now m (drop r.from (concat c.args.input.now)) (step.Fail c.in-Fail.fault c.in-Fail.at) c.in-Fail.ensures in
    omega (arith, f, length-drop r.from (concat c.args.input.now), end-near r.position.mode c.args.tables.now r.first r.ready c.requires.at_front.consistent.counts)

pub returns-in-Skip-clause-value : goal.returns-in-Skip-clause-value
returns-in-Skip-clause-value c =
    let r = c.args.progress.now in
    absurd (stuck c.args.last.now r.position.mode r.position.offset r.want (drop r.from (concat c.args.input.now)) r.position.failed c.args.tables.now (step.Skip c.in-Skip.to c.in-Skip.len) c.if-progress.false (sym c.is_skipping.ensures ∙ c.if-is_skipping.false) c.requires.at_front.rests c.in-Skip.ensures tt)

pub returns-in-EnterData-clause-value : goal.returns-in-EnterData-clause-value
returns-in-EnterData-clause-value c =
    let r = c.args.progress.now in
    absurd (stuck c.args.last.now r.position.mode r.position.offset r.want (drop r.from (concat c.args.input.now)) r.position.failed c.args.tables.now (step.EnterData c.in-EnterData.start c.in-EnterData.end) c.if-progress.false (sym c.is_skipping.ensures ∙ c.if-is_skipping.false) c.requires.at_front.rests c.in-EnterData.ensures tt)

pub returns-in-NextBox-clause-value : goal.returns-in-NextBox-clause-value
returns-in-NextBox-clause-value c =
    let r = c.args.progress.now in
    absurd (stuck c.args.last.now r.position.mode r.position.offset r.want (drop r.from (concat c.args.input.now)) r.position.failed c.args.tables.now (step.NextBox c.in-NextBox.field-0) c.if-progress.false (sym c.is_skipping.ensures ∙ c.if-is_skipping.false) c.requires.at_front.rests c.in-NextBox.ensures tt)

pub returns-in-GiveFrame-clause-value : goal.returns-in-GiveFrame-clause-value
returns-in-GiveFrame-clause-value c =
    let r = c.args.progress.now in
    absurd (stuck c.args.last.now r.position.mode r.position.offset r.want (drop r.from (concat c.args.input.now)) r.position.failed c.args.tables.now (step.GiveFrame c.in-GiveFrame.field-0) c.if-progress.false (sym c.is_skipping.ensures ∙ c.if-is_skipping.false) c.requires.at_front.rests c.in-GiveFrame.ensures refl)
