use Rattle.std.proofs.Common.{length, ap, ◌∙◌, arith, length-append, sym, subst}
use Rattle.std.specs.List.{concat}
use Rattle.input_chunks.proofs.Rows.{bytes-pushed}
use Rattle.segment_stream.specs.Kept.{IsConsistent}
use Rattle.segment_stream.proofs.Found.{found-same, found-ok, found-failed, consistent-longer, keeps-rest, since-keeps}
use Rattle.segment_stream.proofs.offers.offer_on.Goals as goal

pub returns-then-len-progress-clause-found : goal.returns-then-len-progress-clause-found
returns-then-len-progress-clause-found c =
    let r = c.args.progress in
    let b = concat c.args.input.now in
    let e = ap concat c.in_ok-push_bytes.ensures.ok ∙ bytes-pushed c.args.bytes c.args.input.now in
    let l = ap length e ∙ length-append b c.args.bytes in
    found-same c.args.last.now r.position.mode r.position.offset r.from r.first r.ready r.want r.position.failed c.args.tables.now b c.args.bytes _ e c.if-progress.false c.requires.at_front (omega (arith, l, c.len-2.ensures)) c.requires.countable

pub run_on-requires-clause-consistent : goal.run_on-requires-clause-consistent
run_on-requires-clause-consistent c =
    let r = c.args.progress in
    let b = concat c.args.input.now in
    let e = ap concat c.in_ok-push_bytes.ensures.ok ∙ bytes-pushed c.args.bytes c.args.input.now in
    subst (λ v. IsConsistent r c.args.tables.now v) (sym e) (consistent-longer r.position.mode r.position.offset r.from r.first r.ready r.want r.position.failed c.args.tables.now b c.args.bytes c.requires.at_front.front c.requires.countable c.requires.at_front.consistent)

pub drop_back-requires : goal.drop_back-requires
drop_back-requires c =
    let b = concat c.args.input.now in
    let e = ap concat c.in_ok-push_bytes.ensures.ok ∙ bytes-pushed c.args.bytes c.args.input.now in
    omega (arith, ap length e, length-append b c.args.bytes)

pub returns-in-Ok-clause-found : goal.returns-in-Ok-clause-found
returns-in-Ok-clause-found c =
    let b = concat c.args.input.now in
    let e = ap concat c.in_ok-push_bytes.ensures.ok ∙ bytes-pushed c.args.bytes c.args.input.now in
    found-ok c.in-Ok.next c.args.last.now c.args.progress c.args.tables.now _ b c.args.bytes _ e c.if-progress.false c.requires.at_front c.in-Ok.ensures.since c.in-Ok.ensures.kept c.in-Ok.ensures.consistent c.in-Ok.ensures.waits c.in-Ok.ensures.total

pub returns-then-progress-clause-found : goal.returns-then-progress-clause-found
returns-then-progress-clause-found c =
    let r = c.args.progress in
    let b = concat c.args.input.now in
    let e = ap concat c.in_ok-push_bytes.ensures.ok ∙ bytes-pushed c.args.bytes c.args.input.now in
    rw c.past_all.ensures (found-failed c.args.last.now r.position.mode r.position.offset r.from r.first r.ready r.want _ _ r.position.failed c.args.tables.now b c.args.bytes _ e c.if-progress.true c.len.ensures c.requires.at_front (c.requires.emptied c.if-progress.true))

pub returns-in-Ok-clause-at_front : goal.returns-in-Ok-clause-at_front
returns-in-Ok-clause-at_front c =
    let r = c.args.progress in
    let tables = c.args.tables.now in
    let new = c.run_on.new.tables in
    keeps-rest c.args.last.now r tables new (concat c.args.input.now) (since-keeps r.position.mode c.in-Ok.next.position.mode tables new c.in-Ok.ensures.since) c.requires.at_front

pub returns-in-Err-clause-at_front : goal.returns-in-Err-clause-at_front
returns-in-Err-clause-at_front c = keeps-rest c.args.last.now c.args.progress c.args.tables.now c.run_on.new.tables (concat c.args.input.now) c.in-Err.ensures.err c.requires.at_front
