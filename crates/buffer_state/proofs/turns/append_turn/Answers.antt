use Rattle.std.proofs.Common.{◌∙◌, ap, subst}
use Rattle.parser_loop.specs.Items.{FrameItem}
use Rattle.track_buffers.specs.Media.{Media, MediaView}
use Rattle.buffer_state.specs.State.{Feed, Content, kept_buffer, next_item, surroundings}
use Rattle.buffer_state.specs.Replies.{IsBufferAnswer}
use Rattle.buffer_state.specs.Turns.{append_turn_result}
use Rattle.buffer_state.proofs.AppendSteps.{frame-breaks}
use Rattle.buffer_state.proofs.StepsLeft.{fewer-given}
use Rattle.buffer_state.proofs.turns.append_turn.Goals as goal

pub returns-then-eq-clause-fewer : goal.returns-then-eq-clause-fewer
returns-then-eq-clause-fewer g c = fewer-given c.args.stream.now c.next_frame.new.self c.args.media.now.media c.process.new.self.media c.args.running.now (FrameItem c.in-Ok.frame c.in-Ok.offset) c.requires.appending c.stands.ensures c.in-Ok.ensures.stands

pub returns-else-eq-clause-fewer : goal.returns-else-eq-clause-fewer
returns-else-eq-clause-fewer g c = fewer-given c.args.stream.now c.next_frame.new.self c.args.media.now.media c.process.new.self.media c.args.running.now (FrameItem c.in-Ok.frame c.in-Ok.offset) c.requires.appending c.stands.ensures c.in-Ok.ensures.stands

-- the media is as before the reservation, and the parts of the step are put together
pub returns-in-AppendError-clause-answered : goal.returns-in-AppendError-clause-answered
returns-in-AppendError-clause-answered g c =
    let a = surroundings c.args.around.now in
    let turned = frame-breaks c.args.stream.now c.next_frame.new.self c.frame_fault.new.stream c.watch.new.self.media c.process.new.self.media c.frame_fault.new.media.media c.args.running.now c.frame_fault.new.running c.in-Ok.frame c.in-Ok.offset c.in-AppendError.fault c.in-AppendError.effect c.frame_fault.result a c.in-Ok.ensures.item c.in-Ok.ensures.stands c.in-Ok.ensures.latest c.in-AppendError.ensures.result c.frame_fault.ensures.answered in
    subst (λ (m : Media). IsBufferAnswer (kept_buffer c.args.stream.now m c.args.running.now) c.frame_fault.result (kept_buffer c.frame_fault.new.stream c.frame_fault.new.media.media c.frame_fault.new.running) (λ (f : Feed) (d : Content). append_turn_result (next_item f) a f d)) (ap (λ (v : MediaView). v.media) c.watch.ensures ∙ c.in_ok-reserve_frames.ensures.media) turned
