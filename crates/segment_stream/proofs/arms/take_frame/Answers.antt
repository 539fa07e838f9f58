use Rattle.std.proofs.Common.{drop}
use Rattle.std.specs.List.{concat}
use Rattle.segment_stream.proofs.PendingLaws.{slots-enough, first-frame, taken-frame}
use Rattle.segment_stream.proofs.arms.take_frame.Goals as goal

pub returns-clause-item : goal.returns-clause-item
returns-clause-item c = λ last.
    let r = c.args.progress.now in
    first-frame (drop r.from (concat c.args.input.now)) r.position.offset c.args.tables.now.slots.items r.first r.ready _ _ c.requires.ready (slots-enough r.position.mode c.args.tables.now r.first r.ready c.requires.consistent.counts c.requires.ready) (c.in_ok-item.ensures last)

pub returns-clause-ok : goal.returns-clause-ok
returns-clause-ok c = λ last.
    let r = c.args.progress.now in
    taken-frame _ (drop r.from (concat c.args.input.now)) r.position.offset c.args.tables.now.slots.items r.first r.ready c.requires.ready (slots-enough r.position.mode c.args.tables.now r.first r.ready c.requires.consistent.counts c.requires.ready)
