use Rattle.std.proofs.Common.{◌∙◌, ◌<◌, arith, length}
use Rattle.track_store.specs.declared.tracks.Track.{Track}
use Rattle.mse_base.specs.Moments.{is_same_kind}
use Rattle.track_buffers.proofs.Loops.{count_more, count_same}
use Rattle.track_buffers.proofs.partners.count_held.Goals as goal
use Rattle.track_buffers.proofs.partners.count_held.Goals.{then-is_kind_at, else-is_kind_at}

pub loop-i-preserved : goal.loop-i-preserved
loop-i-preserved g c =
    let p = λ (t : Track g.row.S.Denot). is_same_kind c.args.kind t.kind in
    let ts = c.args.tracks.now.items in
    let here : c.loop-i.i < length ts = omega (arith, c.len-i-end.ensures) in
    elim c.if-is_kind_at.branch [
      | then-is_kind_at w ↦ record {
        count = w.count-is ∙ count_more p ts c.loop-i.i c.loop-i.count c.is_kind_at.result here c.loop-i.invariant.count c.is_kind_at.ensures w.if-is_kind_at.true;
        low = omega arith;
      }
      | else-is_kind_at w ↦ record {
        count = w.count-is ∙ count_same p ts c.loop-i.i c.loop-i.count c.is_kind_at.result here c.loop-i.invariant.count c.is_kind_at.ensures w.if-is_kind_at.false;
        low = omega arith;
      }
    ]
