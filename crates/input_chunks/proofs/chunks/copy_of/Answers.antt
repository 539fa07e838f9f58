use Rattle.std.proofs.Common.{◌+◌, length, drop, ap, ◌∙◌, arith}
use Rattle.std.specs.List.{concat}
use Rattle.std.proofs.lemmas.List.{length-append}
use Rattle.input_chunks.proofs.Rows.{bytes-from, copy-end, copy-through, copy-past}
use Rattle.input_chunks.specs.Ends.{pieces_of}
use Rattle.input_chunks.proofs.Kept.{pieces-length, piece-at, copy-done}
use Rattle.input_chunks.proofs.chunks.copy_of.Goals as goal
use Rattle.input_chunks.proofs.chunks.copy_of.Goals.{then-skip-bytes+else-len_left-rest+in_ok-extend_from_slice-2, else-skip-bytes}

pub returns-then-len_left-rest : goal.returns-then-len_left-rest
returns-then-len_left-rest c =
    let es = c.args.entries.now.items in
    let ps = pieces_of es in
    let e = bytes-from ps c.entries.i c.index-entry.result.now.piece (omega (arith, pieces-length es)) (piece-at es c.entries.i c.index-entry.result.now (omega arith) c.index-entry.ensures) in
    copy-end _ _ _ _ _ c.index-entry.result.now.piece _ _ _ c.entries.skip c.entries.len_left c.in_ok-extend_from_slice.ensures.items c.split_at-then-len_left-rest.ensures.front c.split_at.ensures.back c.as_slice-bytes.ensures e (omega (arith, c.split_at.ensures.back_len, ap length c.as_slice-bytes.ensures)) c.entries.invariant.same

pub entries-preserved : goal.entries-preserved
entries-preserved c =
    let es = c.args.entries.now.items in
    let ps = pieces_of es in
    let p = c.index-entry.result.now.piece in
    let e = bytes-from ps c.entries.i p (omega (arith, pieces-length es)) (piece-at es c.entries.i c.index-entry.result.now (omega arith) c.index-entry.ensures) in
    let l = ap length c.as_slice-bytes.ensures in
    let m = ap length e ∙ length-append p (concat (drop (c.entries.i + 1) ps)) in
    elim c.if-skip-bytes.branch [
      | then-skip-bytes+else-len_left-rest+in_ok-extend_from_slice-2 w ↦
          rw (w.into-is, w.skip-is, w.len_left-is) (record {
            same = copy-through _ _ _ _ p _ _ _ c.entries.skip c.entries.len_left _ w.in_ok-extend_from_slice-2.ensures.items w.split_at.ensures.back c.as_slice-bytes.ensures e (omega arith) (omega (arith, w.split_at.ensures.back_len)) (omega (arith, w.split_at.ensures.back_len)) c.entries.invariant.same;
            room = omega (arith, w.split_at.ensures.back_len, c.entries.invariant.room);
          })
      | else-skip-bytes w ↦
          rw (w.into-is, w.skip-is, w.len_left-is) (record {
            same = copy-past _ p _ _ _ c.entries.skip c.entries.len_left _ e (omega arith) (omega arith) c.entries.invariant.same;
            room = omega (arith, c.entries.invariant.room);
          })
    ]

pub returns : goal.returns
returns c = copy-done c.entries.into.items _ c.args.entries.now.items c.entries.i c.entries.skip c.entries.len_left (omega arith) c.entries.invariant.same
