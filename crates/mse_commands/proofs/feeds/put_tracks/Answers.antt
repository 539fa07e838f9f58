use Rattle.std.proofs.Common.{◌≡◌, ◌<◌, arith, length, ◌∙◌}
use Rattle.std.proofs.lemmas.Result.{err_from_is_err_and}
use Rattle.feed_lines.specs.Lines.{lines_of_track}
use Rattle.mse_commands.specs.Feeds.{tracks_in}
use Rattle.mse_commands.proofs.PutTexts.{one_failed, one_put}
use Rattle.mse_commands.proofs.EngineTracks.{held}
use Rattle.script_run.proofs.GoneThrough.{gone_through}
use Rattle.mse_commands.proofs.feeds.put_tracks.Goals as goal

pub returns-in_err-put_track-clause-err : goal.returns-in_err-put_track-clause-err
returns-in_err-put_track-clause-err g c = λ st h.
    let count : c.in-Ok.count ≡ length (tracks_in st) = c.in-Ok.ensures st h in
    let low : c.loop-i.i < length (tracks_in st) = omega (arith, c.loop-i-test.true, count) in
    let t = held (tracks_in st) c.loop-i.i low in
    let p = err_from_is_err_and c.from_residual.result c.from_residual.ensures.1 in
    rw p.1 (one_failed (lines_of_track c.args.at) (tracks_in st) c.loop-i.i t.0 _ _ _ t.1 (c.loop-i.invariant.put st h) (rw t.1 at (c.in_err-put_track.ensures.err st h)))

pub loop-i-preserved : goal.loop-i-preserved
loop-i-preserved g c = record {
  put = λ st h.
      let count : c.in-Ok.count ≡ length (tracks_in st) = c.in-Ok.ensures st h in
      let low : c.loop-i.i < length (tracks_in st) = omega (arith, c.loop-i-test.true, count) in
      let t = held (tracks_in st) c.loop-i.i low in
      one_put (lines_of_track c.args.at) (tracks_in st) c.loop-i.i t.0 _ _ _ t.1 (c.loop-i.invariant.put st h) (rw t.1 at (c.in_ok-put_track.ensures.ok st h));
  same_faults = c.in_ok-put_track.ensures.puts.told (gone_through _ _) ∙ c.loop-i.invariant.same_faults;
}
