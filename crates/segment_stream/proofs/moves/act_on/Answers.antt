use Rattle.std.proofs.Common.{◌≤◌, ◌^◌, ◌++◌, ◌∷◌, [], length, take, drop, ap, ◌∙◌, refl, arith, length-drop}
use Rattle.std.specs.Prelude.{All}
use Rattle.std.specs.List.{concat}
use Rattle.segment_walk.specs.declared.kinds.BoxStep.TheVariants as step
use Rattle.segment_walk.specs.declared.kinds.Fragment.{Fragment}
use Rattle.segment_walk.specs.Ranges.{mode_of}
use Rattle.segment_stream.specs.Kept.{IsOrdered}
use Rattle.segment_stream.proofs.Acts.{is_active, fits, rests-wait, rests-fail, rests-end, rests-init, rests-plan, moved-skip, moved-plan, moved-data, moved-next, plan-is, plan-none, of-slots}
use Rattle.segment_stream.proofs.ReadyRow.{gives-within, moved-frames}
use Rattle.segment_stream.proofs.moves.act_on.Goals as goal

pub plan-requires-clause-inside : goal.plan-requires-clause-inside
plan-requires-clause-inside c =
    let at = c.args.at in
    let tables = c.args.tables.now in
    let bytes = concat c.args.input.now in
    let rest = drop at.from bytes in
    let a = is_active tables at.position.mode c.requires.active in
    let f = fits c.args.last.now (mode_of tables.slots.items tables.known.items at.position.mode) rest (step.ReadMoof c.in-ReadMoof.len) c.in-ReadMoof.ensures in omega (arith, f.2, length-drop at.from bytes, c.requires.consistent.inside)

pub returns-in_default-clause-ok : goal.returns-in_default-clause-ok
returns-in_default-clause-ok c =
    let at = c.args.at in
    let tables = c.args.tables.now in
    let bytes = concat c.args.input.now in
    let rest = drop at.from bytes in
    let a = is_active tables at.position.mode c.requires.active in
    (rests-plan c.args.last.now (mode_of tables.slots.items tables.known.items at.position.mode) at.position.offset rest at.position.failed _ c.in-ReadMoof.len c.requires.unfailed a c.in-ReadMoof.ensures (plan-none c.args.last.now (take c.in-ReadMoof.len rest) c.in_ok-slots-in-ReadMoof.field-0 c.in_ok-slots-in-ReadMoof.ensures.plan (λ v e. c.in_default.not-Some v e)), refl)

pub returns-in-Wait-clause-ok : goal.returns-in-Wait-clause-ok
returns-in-Wait-clause-ok c =
    let at = c.args.at in
    let tables = c.args.tables.now in
    let bytes = concat c.args.input.now in
    let rest = drop at.from bytes in
    let a = is_active tables at.position.mode c.requires.active in
    (rests-wait c.args.last.now (mode_of tables.slots.items tables.known.items at.position.mode) at.position.offset rest at.position.failed _ c.requires.unfailed a c.in-Wait.ensures, refl)

pub returns-in-ReadInit-clause-ok : goal.returns-in-ReadInit-clause-ok
returns-in-ReadInit-clause-ok c =
    let at = c.args.at in
    let tables = c.args.tables.now in
    let bytes = concat c.args.input.now in
    let rest = drop at.from bytes in
    let a = is_active tables at.position.mode c.requires.active in
    (rests-init c.args.last.now (mode_of tables.slots.items tables.known.items at.position.mode) at.position.offset rest at.position.failed _ _ c.requires.unfailed a c.in-ReadInit.ensures, refl)

pub returns-in-EndSegment-clause-ok : goal.returns-in-EndSegment-clause-ok
returns-in-EndSegment-clause-ok c =
    let at = c.args.at in
    let tables = c.args.tables.now in
    let bytes = concat c.args.input.now in
    let rest = drop at.from bytes in
    let a = is_active tables at.position.mode c.requires.active in
    (rests-end c.args.last.now (mode_of tables.slots.items tables.known.items at.position.mode) at.position.offset rest at.position.failed _ _ c.requires.unfailed a c.in-EndSegment.ensures, refl)

pub returns-in-Fail-clause-ok : goal.returns-in-Fail-clause-ok
returns-in-Fail-clause-ok c =
    let at = c.args.at in
    let tables = c.args.tables.now in
    let bytes = concat c.args.input.now in
    let rest = drop at.from bytes in
    let a = is_active tables at.position.mode c.requires.active in
    (rests-fail c.args.last.now (mode_of tables.slots.items tables.known.items at.position.mode) at.position.offset rest at.position.failed _ _ _ c.requires.unfailed a c.in-Fail.ensures, refl)

pub returns-in-Skip-clause-ok : goal.returns-in-Skip-clause-ok
returns-in-Skip-clause-ok c =
    let at = c.args.at in
    let tables = c.args.tables.now in
    let bytes = concat c.args.input.now in
    let rest = drop at.from bytes in
    let a = is_active tables at.position.mode c.requires.active in
    rw c.in_mode.ensures (moved-skip c.args.last.now at.position.mode at.position.offset at.from at.first at.ready at.want at.position.failed tables bytes _ _ c.requires.unfailed c.requires.active c.requires.consistent c.in-Skip.ensures)

pub returns-in-Some-clause-ok : goal.returns-in-Some-clause-ok
returns-in-Some-clause-ok c =
    let at = c.args.at in
    let tables = c.args.tables.now in
    let bytes = concat c.args.input.now in
    let rest = drop at.from bytes in
    let a = is_active tables at.position.mode c.requires.active in
    rw c.behind_moof.ensures (moved-plan c.args.last.now at.position.mode at.position.offset at.from at.first at.ready at.want at.position.failed tables _ bytes _ c.requires.unfailed c.requires.active c.requires.consistent c.in-ReadMoof.ensures (plan-is c.args.last.now (take c.in-ReadMoof.len rest) c.in_ok-slots-in-ReadMoof.field-0 c.in-Some.slots c.in_ok-slots-in-ReadMoof.ensures.plan c.in-Some.is) c.clear.ensures.items (of-slots (All IsOrdered) c.in_ok-slots-in-ReadMoof.field-0 c.in-Some.slots c.in_ok-slots-in-ReadMoof.ensures.ordered c.in-Some.is) (of-slots (λ slots. length slots ≤ 2 ^ 20) c.in_ok-slots-in-ReadMoof.field-0 c.in-Some.slots c.in_ok-slots-in-ReadMoof.ensures.few c.in-Some.is))

pub returns-in_ok-push-in-EnterData-clause-ok : goal.returns-in_ok-push-in-EnterData-clause-ok
returns-in_ok-push-in-EnterData-clause-ok c =
    let at = c.args.at in
    let tables = c.args.tables.now in
    let bytes = concat c.args.input.now in
    let rest = drop at.from bytes in
    let a = is_active tables at.position.mode c.requires.active in
    let t = c.in_ok-push-in-EnterData.ensures.items ∙ ap (λ v. v ++ (record { start = c.in-EnterData.start; end = c.in-EnterData.end }) ∷ []) (c.truncate.ensures.items ∙ ap (λ (i : Fragment). take i.known tables.known.items) c.fragment-open.ensures) in
    rw (c.in_mode-in-EnterData.ensures, c.fragment-open.ensures) (moved-data c.args.last.now at.position.mode at.position.offset at.from at.first at.ready at.want at.position.failed tables _ bytes c.in-EnterData.start c.in-EnterData.end c.requires.unfailed c.requires.active c.requires.consistent c.in-EnterData.ensures t)

pub returns-in-NextBox-clause-ok : goal.returns-in-NextBox-clause-ok
returns-in-NextBox-clause-ok c =
    let at = c.args.at in
    let tables = c.args.tables.now in
    let bytes = concat c.args.input.now in
    let rest = drop at.from bytes in
    let a = is_active tables at.position.mode c.requires.active in
    rw (c.before_box.ensures, c.fragment-open.ensures) (moved-next c.args.last.now at.position.mode at.position.offset at.from at.first at.ready at.want at.position.failed tables bytes _ c.requires.unfailed c.requires.active c.requires.consistent c.in-NextBox.ensures)

pub returns-in-GiveFrame-clause-ok : goal.returns-in-GiveFrame-clause-ok
returns-in-GiveFrame-clause-ok c =
    let at = c.args.at in
    let tables = c.args.tables.now in
    let bytes = concat c.args.input.now in
    let rest = drop at.from bytes in
    let a = is_active tables at.position.mode c.requires.active in
    rw (c.behind_frames.ensures, c.fragment-open.ensures) (moved-frames c.args.last.now at.position.mode at.position.offset at.from at.first at.ready at.want at.position.failed tables bytes _ c.requires.unfailed c.requires.active c.requires.consistent c.in-GiveFrame.ensures)

pub behind_frames-requires-clause-counted : goal.behind_frames-requires-clause-counted
behind_frames-requires-clause-counted c =
    let at = c.args.at in
    let rest = drop at.from (concat c.args.input.now) in
    let g = gives-within c.args.last.now at.position.mode rest at.first at.ready c.args.tables.now _ c.requires.active c.requires.consistent.counts c.in-GiveFrame.ensures in
    rw c.fragment-open.ensures g.0

pub behind_frames-requires-clause-there : goal.behind_frames-requires-clause-there
behind_frames-requires-clause-there c =
    let at = c.args.at in
    let rest = drop at.from (concat c.args.input.now) in
    let g = gives-within c.args.last.now at.position.mode rest at.first at.ready c.args.tables.now _ c.requires.active c.requires.consistent.counts c.in-GiveFrame.ensures in
    rw c.fragment-open.ensures g.1
