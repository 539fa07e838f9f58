use Rattle.std.proofs.Common.{◌≡◌, ◌++◌, ◌+◌, ap, sym, ◌∙◌, arith, append_assoc, append-nil, drop}
use Rattle.bmff_write.specs.declared.traf_out.TrafOut.{TrafOut}
use Rattle.bmff_write.specs.Tracks.{payload_len}
use Rattle.bmff_write.specs.Fragment.{traf_bytes, trafs_bytes}
use Rattle.bmff_write.proofs.FragmentSizes.{sum_next, trafs_next, trafs_end}
use Rattle.bmff_write.proofs.fragment.put_trafs.Goals as goal

pub loop-traf-preserved : goal.loop-traf-preserved
loop-traf-preserved c =
    let trafs = c.args.trafs.now in
    let i = c.loop-traf.traf-index in
    let at = c.loop-traf.at in
    let t = c.traf-item.result in
    let size : c.samples_payload-at.result ≡ payload_len t.samples = c.samples_payload-at.ensures ∙ ap payload_len c.as_slice.ensures in
    let next = trafs_next at trafs i t c.loop-traf-test.true c.traf-item.is in
    let sum = sum_next (λ (u : TrafOut). payload_len u.samples) trafs i t c.loop-traf-test.true c.traf-item.is in
    record {
      wrote =
          (let joined = append_assoc c.loop-traf.out.items (traf_bytes at t) (trafs_bytes (at + payload_len t.samples) (drop (i + 1) trafs)) in
          cc (size, next, joined, c.in_ok-put_traf.ensures, c.loop-traf.invariant.wrote));
      place = omega (arith, sum, size, c.loop-traf.invariant.place);
    }

pub returns : goal.returns
returns c =
    let rest = trafs_end c.loop-traf.at c.args.trafs.now c.loop-traf.traf-index c.loop-traf-test.false in
    sym (append-nil c.loop-traf.out.items) ∙ ap (λ r. c.loop-traf.out.items ++ r) (sym rest) ∙ c.loop-traf.invariant.wrote
