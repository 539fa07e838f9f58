use Rattle.std.proofs.Common.{length, length-drop, ap, ◌∙◌, arith}
use Rattle.std.specs.List.{concat}
use Rattle.input_chunks.proofs.Rows.{bytes-without}
use Rattle.segment_stream.specs.declared.progress.ParserPosition.{ParserPosition}
use Rattle.segment_stream.proofs.ArmLaws.{dropped}
use Rattle.segment_stream.proofs.arms.pass_item.Goals as goal

pub returns-clause-kept : goal.returns-clause-kept
returns-clause-kept c = c.enter.ensures.kept c.args.last.now ∙ c.in_ok-next_state.ensures.kept

pub returns-clause-total : goal.returns-clause-total
returns-clause-total c =
    let old = c.args.input.now in
    let from = c.in_ok-next_state.next_state.progress.from in
    omega (arith, ap (λ (s : ParserPosition). s.offset) c.enter.ensures.position, ap (λ ps. length (concat ps)) c.enter.ensures.pieces ∙ ap length (bytes-without from old) ∙ length-drop from (concat old), c.in_ok-next_state.ensures.total)

pub returns-clause-pieces : goal.returns-clause-pieces
returns-clause-pieces c = dropped c.in_ok-next_state.next_state.progress.from c.args.input.now _ c.in_ok-next_state.ensures.consistent.inside c.enter.ensures.pieces
