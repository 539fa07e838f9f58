use Rattle.std.proofs.Common.{◌∙◌, sym}
use Rattle.element_seek.specs.Settling.{after_settle}
use Rattle.element_seek.proofs.Settled.{settled-still}
use Rattle.media_element.proofs.QueuedEvents.{silent}
use Rattle.mse_engine.specs.Scenes.{scene_at}
use Rattle.mse_engine.specs.Standing.{kept_engine, kept_scene, view_of}
use Rattle.mse_engine.proofs.finish.settle.Goals as goal

pub returns-else-not-is_unchanged_by_settle : goal.returns-else-not-is_unchanged_by_settle
returns-else-not-is_unchanged_by_settle g c =
    let e = c.args.element.now.state in
    let scene = scene_at e.player.position (view_of c.args.source.now c.args.buffers.now.buffers) in
    let unchanged = sym c.is_unchanged_by_settle.ensures ∙ c.if-not-is_unchanged_by_settle.false in
    record {
      element = sym (silent (after_settle scene) e (settled-still scene e.player unchanged));
      settled = settled-still (kept_scene (kept_engine c.args.source.now c.args.buffers.now.buffers e)) e.player unchanged;
    }
