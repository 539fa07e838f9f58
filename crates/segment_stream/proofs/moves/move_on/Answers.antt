use Rattle.std.proofs.Common.{drop, refl}
use Rattle.std.specs.List.{concat}
use Rattle.segment_walk.specs.Ranges.{mode_of}
use Rattle.segment_stream.proofs.Acts.{rests-failed}
use Rattle.segment_stream.proofs.moves.move_on.Goals as goal

pub returns-then-at-clause-ok : goal.returns-then-at-clause-ok
returns-then-at-clause-ok c =
    let at = c.args.at in
    let tables = c.args.tables.now in
    (rests-failed c.args.last.now (mode_of tables.slots.items tables.known.items at.position.mode) at.position.offset (drop at.from (concat c.args.input.now)) at.position.failed _ c.if-at.true, refl)

pub returns-in-Skipping-clause-ok : goal.returns-in-Skipping-clause-ok
returns-in-Skipping-clause-ok c = c.pass_over.ensures c.args.last.now c.args.tables.now
