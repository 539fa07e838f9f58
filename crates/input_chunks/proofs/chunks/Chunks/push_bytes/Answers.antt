use Rattle.std.proofs.Common.{◌≡◌, ◌<◌, [], length, ap, ◌∙◌, refl, arith}
use Rattle.input_chunks.specs.Pieces.{pieces_without_last}
use Rattle.input_chunks.specs.Ends.{pieces_of}
use Rattle.input_chunks.proofs.Rows.{back-again}
use Rattle.input_chunks.proofs.Kept.{push-holds, push-undone}
use Rattle.input_chunks.proofs.chunks.Chunks.push_bytes.Goals as goal

pub returns-then-is_empty-clause-undone : goal.returns-then-is_empty-clause-undone
returns-then-is_empty-clause-undone c =
    let ps = pieces_of c.self.inside.entries.items in
    let z : length c.args.piece ≡ 0 = grind (arith, c.if-is_empty.ensures) in
    rw (← c.self.view_is) (ap (λ n. pieces_without_last n ps) z ∙ back-again [] ps c.self.invariant.0)

pub invariant_of-self-2 : goal.invariant_of-self-2
invariant_of-self-2 c =
    let z : 0 < length c.args.piece = grind (arith, c.if-is_empty.ensures) in
    push-holds c.self.inside.dropped c.self.inside.len _ _ c.args.piece c.self.inside.entries.items _ (omega arith) z c.self.invariant.0 c.self.invariant.1 c.self.invariant.2 refl c.in_ok-push_owned.ensures.ok

pub returns-clause-undone : goal.returns-clause-undone
returns-clause-undone c =
    let z : 0 < length c.args.piece = grind (arith, c.if-is_empty.ensures) in
    push-undone c.args.piece _ c.self.inside.entries.items _ z c.self.invariant.0 c.in_ok-push_owned.ensures.ok ∙ c.self.view_is
