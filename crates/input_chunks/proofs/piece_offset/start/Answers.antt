use Rattle.std.proofs.Common.{◌≡◌, ◌+◌, ◌-◌, ◌%◌, ◌^◌, suc, length, take, ap, ◌∙◌, arith}
use Rattle.std.specs.List.{concat}
use Rattle.input_chunks.specs.Ends.{pieces_of}
use Rattle.input_chunks.proofs.Kept.{ended-at, wrap-back, front-few}
use Rattle.input_chunks.proofs.piece_offset.start.Goals as goal

pub returns : goal.returns
returns c =
    let es = c.args.entries.now.items in
    let base = c.args.base in
    let z : suc (c.args.i - 1) ≡ c.args.i = omega arith in
    let s = length (concat (take c.args.i (pieces_of es))) in
    let e = ended-at es (c.args.i - 1) c.index-last.result.now base (omega (arith, c.requires.within)) c.index-last.ensures c.requires.ended ∙ ap (λ n. (base + length (concat (take n (pieces_of es)))) % 2 ^ 64) z in
    rw e (wrap-back base s (omega arith) (omega (arith, front-few c.args.i (pieces_of es), c.requires.small)))
