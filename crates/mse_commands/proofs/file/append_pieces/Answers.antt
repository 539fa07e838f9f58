use Rattle.std.proofs.Common.{◌≡◌, ◌<◌, ◌≤◌, ◌+◌, ◌-◌, ◌∙◌, [], ◌∷◌, length, sym, arith}
use Rattle.std.specs.Prelude.{min}
use Rattle.std.proofs.lemmas.Grind.{common_steps}
use Rattle.mse_commands.specs.Shown.{pieces_of}
use Rattle.mse_commands.proofs.FileAppends.{front_none, front_opened}
use Rattle.mse_commands.proofs.FileProgress.{begins_filing, ends_at_fault, ends_filed, front_cut, front_filed, goes_on_filing, next_filed}
use Rattle.mse_commands.proofs.file.append_pieces.Goals as goal
use Rattle.mse_commands.proofs.file.append_pieces.Goals.{then-at-len, else-at-len}

pub appending-init : goal.appending-init
appending-init g c =
    let whole : c.len-len.result ≡ length c.args.file.items = grind (arith, common_steps) in
    begins_filing c.args.file.items c.args.size c.len-len.result c.in-Ok.blobs c.args.run.now c.open.new.run whole c.in-Ok.ensures c.in-Ok-open.ensures.ok

pub returns-in_default-clause-err : goal.returns-in_default-clause-err
returns-in_default-clause-err g c = front_none c.args.file.items (pieces_of c.args.size (length c.args.file.items)) c.args.run.now

pub returns-in_default-open-clause-err : goal.returns-in_default-open-clause-err
returns-in_default-open-clause-err g c =
    front_opened c.args.file.items (pieces_of c.args.size (length c.args.file.items)) c.args.run.now c.open.new.run (rw c.in-Ok.ensures at c.in_default-open.ensures.err)

pub returns-in_default-append-clause-err : goal.returns-in_default-append-clause-err
returns-in_default-append-clause-err g c = rw c.in_default-append.ensures.err
    (front_filed c.args.file.items c.args.size c.len-len.result c.appending.at c.appending.blobs c.args.run.now c.appending.run c.appending.invariant)

pub returns-in_default-drain_quietly-clause-err : goal.returns-in_default-drain_quietly-clause-err
returns-in_default-drain_quietly-clause-err g c =
    let is : c.min-count.result ≡ min c.args.size (c.len-len.result - c.appending.at) = grind (arith, common_steps) in
    let call = rw c.piece_at.ensures at c.in-Ok-append.ensures.ok in
    front_cut c.args.file.items c.args.size c.len-len.result c.appending.at c.min-count.result c.appending.blobs c.args.run.now c.appending.run c.append.new.run c.drain_quietly.new.self
    c.requires c.appending-test.true is c.appending.invariant call (c.drain_quietly.ensures.drains (c.args.file.items ∷ []))

pub returns-then-is_some-clause-ok : goal.returns-then-is_some-clause-ok
returns-then-is_some-clause-ok g c =
    let is : c.min-count.result ≡ min c.args.size (c.len-len.result - c.appending.at) = grind (arith, common_steps) in
    let call = rw c.piece_at.ensures at c.in-Ok-append.ensures.ok in
    let done = next_filed c.args.file.items c.args.size c.len-len.result c.appending.at c.min-count.result c.appending.blobs c.args.run.now c.appending.run c.append.new.run c.drain_quietly.new.self
    c.requires c.appending-test.true is c.appending.invariant call (c.drain_quietly.ensures.drains (c.args.file.items ∷ [])) c.in-Ok-drain_quietly.ensures.nothing_left in
    ends_at_fault c.args.file.items c.args.size c.len-len.result (c.appending.at + c.min-count.result) c.args.run.now c.drain_quietly.new.self c.fault.result done
    (sym c.is_some.ensures ∙ c.if-is_some.true) (λ st h. c.fault.ensures st (rw c.engine.ensures h)) c.appending.invariant.whole

pub appending-preserved : goal.appending-preserved
appending-preserved g c =
    let is : c.min-count.result ≡ min c.args.size (c.len-len.result - c.appending.at) = grind (arith, common_steps) in
    let call = rw c.piece_at.ensures at c.in-Ok-append.ensures.ok in
    let done = next_filed c.args.file.items c.args.size c.len-len.result c.appending.at c.min-count.result c.appending.blobs c.args.run.now c.appending.run c.append.new.run c.drain_quietly.new.self
    c.requires c.appending-test.true is c.appending.invariant call (c.drain_quietly.ensures.drains (c.args.file.items ∷ [])) c.in-Ok-drain_quietly.ensures.nothing_left in
    let more : c.appending.at < c.len-len.result = c.appending-test.true in
    let within : c.appending.at + c.min-count.result ≤ c.len-len.result = omega (arith, is, more) in
    let are : c.appending.at + c.min-count.result < c.len-len.result → c.if-at-len.blobs ≡ c.args.file.items ∷ [] = λ h.
    elim c.if-at-len.branch [ then-at-len w ↦ absurd (omega (arith, h, w.if-at-len.true)) | else-at-len w ↦ w.blobs-is ∙ c.appending.invariant.bytes_are c.appending-test.true ] in
    goes_on_filing c.args.file.items c.args.size c.len-len.result (c.appending.at + c.min-count.result) c.if-at-len.blobs c.args.run.now c.drain_quietly.new.self c.fault.result done
    (sym c.is_some.ensures ∙ c.if-is_some.false) (λ st h. c.fault.ensures st (rw c.engine.ensures h)) within c.appending.invariant.whole are

pub returns-clause-ok : goal.returns-clause-ok
returns-clause-ok g c =
    ends_filed c.args.file.items c.args.size c.len-len.result c.appending.at c.appending.blobs c.args.run.now c.appending.run c.requires c.appending-test.false c.appending.invariant
