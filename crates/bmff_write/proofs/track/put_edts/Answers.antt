use Rattle.std.proofs.Common.{◌≤◌, ◌++◌, length, sym, ap, ◌∙◌, arith, append_assoc, append-nil}
use Rattle.std.proofs.lemmas.Result.{on_ok_weaker}
use lib.Chars.{codes}
use Rattle.bmff_write.specs.Boxes.{header_bytes}
use Rattle.bmff_write.specs.Movie.{elst_bytes, edts_bytes}
use Rattle.bmff_write.proofs.MovieSizes.{edts_is, edts_none}
use Rattle.bmff_write.proofs.track.put_edts.Goals as goal

pub returns-then-is_empty : goal.returns-then-is_empty
returns-then-is_empty c =
    let out = c.args.out.now.items in
    sym (ap (λ b. out ++ b) (edts_none c.args.edits.now (grind arith)) ∙ append-nil out)

pub returns : goal.returns
returns c =
    let some : 1 ≤ length c.args.edits.now = grind arith in
    let is = edts_is c.args.edits.now some in
    let joined = append_assoc c.args.out.now.items (header_bytes (length (edts_bytes c.args.edits.now)) (codes "edts")) (elst_bytes c.args.edits.now) in
    on_ok_weaker c.put_elst.result (λ put. cc (is, joined, put, c.in_ok-put_header.ensures, c.edts_len.ensures.size)) c.put_elst.ensures
