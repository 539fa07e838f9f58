use Rattle.std.proofs.Common.{drop, length, ap, ◌∙◌, sym, arith}
use Rattle.std.specs.List.{concat}
use Rattle.segment_walk.specs.Moves.{WalkState}
use Rattle.segment_stream.specs.declared.progress.Progress.{Progress}
use Rattle.segment_stream.specs.declared.progress.PendingItem.TheVariants as pending
use Rattle.segment_stream.specs.Kept.{move_of_pending}
use Rattle.segment_stream.proofs.ArmLaws.{all-kept, bytes-gone, dropped, front-item, kept-failed, rest-failed}
use Rattle.segment_stream.proofs.arms.next_on.Goals as goal
use Rattle.segment_stream.proofs.Snapshots.{walk_state}

pub returns-then-progress-gt0-clause-pieces : goal.returns-then-progress-gt0-clause-pieces
returns-then-progress-gt0-clause-pieces c = all-kept c.args.input.now c.requires.none_empty

pub returns-in-Dry-clause-pieces : goal.returns-in-Dry-clause-pieces
returns-in-Dry-clause-pieces c = all-kept c.args.input.now c.requires.none_empty

pub returns-in-Fault-clause-kept : goal.returns-in-Fault-clause-kept
returns-in-Fault-clause-kept c =
    let r = c.args.progress.now in
    let tables = c.args.tables.now in
    let b = concat c.args.input.now in
    let last = c.args.last.now in
    let s : WalkState = walk_state last r.position tables (drop r.from b) in
    let e = c.in_ok-pending_item.ensures.value ∙ ap (move_of_pending s) c.in-Fault.is in
    let q = front-item last r.position.mode r.position.offset r.from r.first r.ready r.want r.position.failed tables b (pending.Fault c.in-Fault.fault c.in-Fault.at) c.requires.at_front.front (omega arith) e in
    rw c.fail_on.ensures.progress (kept-failed last r.position.mode r.position.offset r.first r.ready 0 tables _ (bytes-gone c.args.input.now _ c.fail_on.ensures.input) (omega arith) ∙ sym q.1)

pub returns-in-Fault-clause-at_front : goal.returns-in-Fault-clause-at_front
returns-in-Fault-clause-at_front c =
    let r = c.args.progress.now in
    rw c.fail_on.ensures.progress (rest-failed c.args.last.now r.position.mode r.position.offset r.first r.ready _ c.args.tables.now _ (bytes-gone c.args.input.now _ c.fail_on.ensures.input) (omega arith) (omega (arith, c.requires.at_front.consistent.small)) c.requires.at_front.consistent.counts)

pub returns-in-Fault-clause-emptied : goal.returns-in-Fault-clause-emptied
returns-in-Fault-clause-emptied c = λ e. (bytes-gone c.args.input.now _ c.fail_on.ensures.input, omega (arith, ap (λ (r : Progress). r.ready) c.fail_on.ensures.progress))

pub returns-in-Fault-clause-total : goal.returns-in-Fault-clause-total
returns-in-Fault-clause-total c = omega (arith, ap (λ (r : Progress). r.position.offset) c.fail_on.ensures.progress, ap length (bytes-gone c.args.input.now _ c.fail_on.ensures.input))

pub returns-in-Fault-clause-pieces : goal.returns-in-Fault-clause-pieces
returns-in-Fault-clause-pieces c = dropped (length (concat c.args.input.now)) c.args.input.now _ (omega arith) c.fail_on.ensures.input
