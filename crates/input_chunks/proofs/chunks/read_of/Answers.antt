use Rattle.std.proofs.Common.{◌≡◌, ◌+◌, ◌-◌, length, take, drop, ap, ◌∙◌, sym, arith}
use Rattle.std.specs.List.{concat}
use Rattle.std.proofs.lemmas.List.{length-append, take_all}
use Rattle.input_chunks.proofs.Rows.{bytes-from, copy-through, copy-past}
use Rattle.input_chunks.specs.Ends.{pieces_of}
use Rattle.input_chunks.proofs.Kept.{pieces-length, piece-at, copy-done, none-left, read-end}
use Rattle.input_chunks.proofs.chunks.read_of.Goals as goal
use Rattle.input_chunks.proofs.chunks.read_of.Goals.{then-skip-bytes+else-len_left-rest, else-skip-bytes}

pub entries-preserved : goal.entries-preserved
entries-preserved c =
    let es = c.args.entries.now.items in
    let ps = pieces_of es in
    let p = c.index-entry.result.now.piece in
    let e = bytes-from ps c.entries.i p (omega (arith, pieces-length es)) (piece-at es c.entries.i c.index-entry.result.now (omega arith) c.index-entry.ensures) in
    let l = ap length c.as_slice-bytes.ensures in
    let m = ap length e ∙ length-append p (concat (drop (c.entries.i + 1) ps)) in
    let len_left = length c.entries.into - c.entries.filled_len in
    elim c.if-skip-bytes.branch [
      | then-skip-bytes+else-len_left-rest w ↦
          let f = w.fill-then-skip-bytes.ensures.len in
          rw (w.into-is, w.skip-is, w.filled_len-is, f) (record {
            same = copy-through _ _ _ _ p _ _ _ c.entries.skip len_left _ w.fill-then-skip-bytes.ensures.front w.split_at.ensures.back c.as_slice-bytes.ensures e (omega arith) (omega (arith, w.split_at.ensures.back_len)) (omega (arith, w.split_at.ensures.back_len)) c.entries.invariant.same;
            room = omega (arith, w.split_at.ensures.back_len, c.entries.invariant.room);
            filled = omega arith;
          })
      | else-skip-bytes w ↦
          rw (w.into-is, w.skip-is, w.filled_len-is) (record {
            same = copy-past _ p _ _ _ c.entries.skip len_left _ e (omega arith) (omega arith) c.entries.invariant.same;
            room = omega (arith, c.entries.invariant.room);
            filled = c.entries.invariant.filled;
          })
    ]

pub returns-then-len_left-rest : goal.returns-then-len_left-rest
returns-then-len_left-rest c =
    let es = c.args.entries.now.items in
    let p = c.index-entry.result.now.piece in
    let e = bytes-from (pieces_of es) c.entries.i p (omega (arith, pieces-length es)) (piece-at es c.entries.i c.index-entry.result.now (omega arith) c.index-entry.ensures) in
    let len_left = length c.entries.into - c.entries.filled_len in
    let same_len : length c.entries.into ≡ length c.args.into.now = omega arith in
    read-end c.fill.new.into c.entries.into _ _ _ p _ _ _ c.entries.filled_len c.entries.skip len_left c.fill.ensures.front c.fill.ensures.len (omega (arith, c.entries.invariant.filled)) c.split_at-then-len_left-rest.ensures.front c.split_at.ensures.back c.as_slice-bytes.ensures e (omega (arith, c.split_at.ensures.back_len, ap length c.as_slice-bytes.ensures)) (c.entries.invariant.same ∙ ap (λ n. take n (drop c.args.skip (concat (drop c.args.first (pieces_of es))))) same_len)

pub returns : goal.returns
returns c =
    let es = c.args.entries.now.items in
    let z = none-left es c.entries.i (omega arith) in
    let full : c.entries.filled_len ≡ length c.entries.into = omega (arith, z, c.entries.invariant.room, c.entries.invariant.filled) in
    let same_len : length c.entries.into ≡ length c.args.into.now = omega arith in
    sym (take_all c.entries.filled_len c.entries.into (omega arith)) ∙ copy-done (take c.entries.filled_len c.entries.into) _ es c.entries.i c.entries.skip _ (omega arith) c.entries.invariant.same ∙ ap (λ n. take n (drop c.args.skip (concat (drop c.args.first (pieces_of es))))) same_len
