use Rattle.std.proofs.Common.{◌∙◌, ◌+◌, ℕ, Bool, List, length, drop, ap, arith}
use Rattle.std.specs.List.{concat}
use Rattle.std.proofs.lemmas.List.{length-drop}
use Rattle.input_chunks.proofs.Rows.{bytes-without}
use Rattle.parser_loop.specs.Walk.{settled_state}
use Rattle.adts_stream.specs.declared.position.ParsePoint.TheVariants.{AtHeader}
use Rattle.adts_stream.specs.Walk.{WalkState, adts}
use Rattle.adts_stream.proofs.arms.end_on.Goals as goal

pub settle_on-requires-clause-bounded : goal.settle_on-requires-clause-bounded
settle_on-requires-clause-bounded c =
    let e = ap concat c.drop_front.ensures ∙ bytes-without c.args.len c.args.input.now in
    omega (arith, c.requires.bounded, c.requires.inside, ap length e, length-drop c.args.len (concat c.args.input.now))

pub returns-clause-kept : goal.returns-clause-kept
returns-clause-kept c =
    let e = ap concat c.drop_front.ensures ∙ bytes-without c.args.len c.args.input.now in
    let s : List ℕ → Bool → WalkState = λ rest failed. record { last = c.args.last.now; point = AtHeader; offset = c.args.position.now.offset + c.args.len; rest = rest; failed = failed } in
    c.settle_on.ensures.settled ∙ ap (λ rest. settled_state adts (s rest c.args.position.now.failed)) e ∙ ap (λ failed. settled_state adts (s (drop c.args.len (concat c.args.input.now)) failed)) c.requires.unfailed

pub returns-clause-total : goal.returns-clause-total
returns-clause-total c =
    let e = ap concat c.drop_front.ensures ∙ bytes-without c.args.len c.args.input.now in
    omega (arith, c.settle_on.ensures.total, c.requires.inside, ap length e, length-drop c.args.len (concat c.args.input.now))
