use Rattle.std.proofs.Common.{◌≡◌, length, take, ap, arith}
use Rattle.std.specs.List.{concat}
use Rattle.std.proofs.lemmas.List.{take_all}
use Rattle.input_chunks.specs.Ends.{pieces_of}
use Rattle.input_chunks.proofs.Kept.{pieces-length, bytes-at, some-bytes}
use Rattle.input_chunks.proofs.piece_offset.piece_offset_of.Goals as goal

pub search-init : goal.search-init
search-init c =
    let es = c.args.entries.now.items in
    let l = pieces-length es in
    let t : take c.len-high.result (pieces_of es) ≡ pieces_of es = take_all c.len-high.result (pieces_of es) (omega arith) in
    record {
      before = omega arith;
      behind = omega (arith, ap (λ ps. length (concat ps)) t, c.requires.inside);
      apart = omega (arith, some-bytes es c.args.from c.requires.inside);
      within = omega arith;
    }

pub returns-clause-bytes : goal.returns-clause-bytes
returns-clause-bytes c = bytes-at c.search.low _ c.args.from (pieces_of c.args.entries.now.items) (omega (arith, c.start-2.ensures, c.search.invariant.before))
