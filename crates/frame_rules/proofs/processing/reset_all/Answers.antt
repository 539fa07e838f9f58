use Rattle.std.proofs.Common.{◌∙◌, ◌<◌, length, arith}
use Rattle.frame_rules.specs.Place.{with_reset_marks}
use Rattle.frame_rules.proofs.Loops.{written_more}
use Rattle.frame_rules.proofs.processing.reset_all.Goals as goal

pub loop-i-preserved : goal.loop-i-preserved
loop-i-preserved g c =
    let here : c.loop-i.i < length c.args.tracks.now.items = omega arith in
    record {
      items = written_more (with_reset_marks c.args.timing.now) c.args.tracks.now.items c.loop-i.tracks.items c.reset_at.new.tracks.items c.loop-i.i here c.loop-i.invariant.items c.reset_at.ensures.items;
      places = c.reset_at.ensures.places ∙ c.loop-i.invariant.places;
      end = c.loop-i.invariant.end;
    }
