use Rattle.std.proofs.Common.{◌∙◌, ℕ, List, length, true, ap, arith}
use Rattle.std.specs.List.{concat}
use Rattle.std.proofs.lemmas.List.{drop_all}
use Rattle.input_chunks.proofs.Rows.{bytes-without}
use Rattle.adts_stream.specs.declared.position.ParsePoint.TheVariants.{AtHeader}
use Rattle.adts_stream.specs.Walk.{WalkState}
use Rattle.adts_stream.proofs.arms.fail_on.Goals as goal

pub returns-clause-kept : goal.returns-clause-kept
returns-clause-kept c = λ last.
    let e = ap concat c.drop_front.ensures ∙ bytes-without c.len-all.result c.args.input.now ∙ drop_all c.len-all.result (concat c.args.input.now) (omega arith) in
    let s : List ℕ → WalkState = λ rest. record { last = last; point = AtHeader; offset = c.args.position.now.offset; rest = rest; failed = true } in
    ap s e

pub returns-clause-total : goal.returns-clause-total
returns-clause-total c =
    let e = ap concat c.drop_front.ensures ∙ bytes-without c.len-all.result c.args.input.now ∙ drop_all c.len-all.result (concat c.args.input.now) (omega arith) in
    omega (arith, ap length e)
