use Rattle.std.proofs.Common.{◌∙◌, sym}
use Rattle.mse_engine.specs.Standing.{kept_engine, kept_scene}
use Rattle.mse_engine.proofs.Quiet.{blank_stays}
use Rattle.mse_engine.proofs.finish.is_unchanged_by_settle.Goals as goal

pub returns-then-is_blank : goal.returns-then-is_blank
returns-then-is_blank g c =
    let e = c.args.element.now.state in
    c.is_unchanged_by_settle.ensures ∙ blank_stays (kept_scene (kept_engine c.args.source.now c.args.buffers.now.buffers e)) c.duration.result e.player (sym c.is_blank.ensures ∙ c.if-is_blank.true)
