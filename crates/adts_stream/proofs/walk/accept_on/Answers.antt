use Rattle.std.proofs.Common.{◌∙◌, ◌-◌, ℕ, List, length, take, drop, ap, arith}
use Rattle.std.specs.List.{concat}
use Rattle.std.proofs.lemmas.List.{length-take-le}
use Rattle.input_chunks.proofs.Rows.{bytes-front}
use Rattle.adts_stream.specs.Values.{state_of}
use Rattle.adts_stream.proofs.StreamLaws.{kept_with-failed, kept_with-going}
use Rattle.adts_stream.proofs.walk.accept_on.Goals as goal

pub returns-then-position-clause-kept : goal.returns-then-position-clause-kept
returns-then-position-clause-kept c =
    let bytes = concat c.args.input.now in
    let k = length bytes - c.args.len in
    let e = ap concat c.drop_back.ensures ∙ bytes-front k c.args.input.now in
    ap (λ (b : List ℕ). state_of c.args.last.now c.args.position.now b) e ∙ kept_with-failed c.args.last.now c.args.position.now (take k bytes) (drop k bytes) c.if-position.true

pub returns-then-position-clause-total : goal.returns-then-position-clause-total
returns-then-position-clause-total c =
    let bytes = concat c.args.input.now in
    let k = length bytes - c.args.len in
    let e = ap concat c.drop_back.ensures ∙ bytes-front k c.args.input.now in
    omega (arith, ap length e, length-take-le k bytes (omega arith))

pub returns-clause-kept : goal.returns-clause-kept
returns-clause-kept c =
    let bytes = concat c.args.input.now in
    c.settle_on.ensures.settled ∙ kept_with-going c.args.last.now c.args.position.now bytes (length bytes - c.args.len) c.if-position.false
