use Rattle.std.proofs.Common.{◌<◌, sym, subst}
use Rattle.mse_base.specs.declared.ticks.Moment.{Moment}
use Rattle.mse_base.specs.Moments.{IsNotAfter}
use Rattle.parser_loop.specs.Items.{latest_after_any, answer_item}
use Rattle.byte_stream.specs.Streams.{latest_of}
use Rattle.track_buffers.specs.Media.{Media, AreEndedWithin}
use Rattle.track_buffers.proofs.Durations.{within_later}
use Rattle.buffer_state.specs.declared.running.Running.{Running}
use Rattle.buffer_state.specs.declared.running.Running.TheVariants.{Append}
use Rattle.buffer_state.specs.State.{Feed, Content, kept_buffer, next_item, surroundings}
use Rattle.buffer_state.specs.Replies.{IsBufferAnswer}
use Rattle.buffer_state.specs.Turns.{append_turn_result}
use Rattle.buffer_state.specs.Steps.{IsLeftByStep, duration_after}
use Rattle.buffer_state.specs.StepsLeft.{steps_left}
use Rattle.buffer_state.proofs.AppendSteps.{append-turns, refusal-turns}
use Rattle.buffer_state.proofs.StepsLeft.{fewer}
use Rattle.buffer_state.proofs.turns.item_turn.Goals as goal

-- the segment that comes next is refused; the media is as before it was judged
pub returns-in-Some-clause-answered : goal.returns-in-Some-clause-answered
returns-in-Some-clause-answered g c =
    let a = surroundings c.args.around.now in
    let turned = refusal-turns c.args.stream.now c.answer.new.stream c.prepare.new.media.media c.answer.new.media.media c.args.running.now c.answer.new.running c.in-Some.step c.answer.result a (λ r s. rw c.in-Some.is at (c.in_ok-step.ensures.prepared r s)) c.answer.ensures.answered in
    subst (λ (m : Media). IsBufferAnswer (kept_buffer c.args.stream.now m c.args.running.now) c.answer.result (kept_buffer c.answer.new.stream c.answer.new.media.media c.answer.new.running) (λ (f : Feed) (d : Content). append_turn_result (next_item f) a f d)) c.in_ok-step.ensures.media turned

-- what ended within the duration ends within the one that the refused segment tells
pub returns-in-Some-clause-within_duration : goal.returns-in-Some-clause-within_duration
returns-in-Some-clause-within_duration g c = λ h.
    let d : Moment = c.args.around.now.duration in
    let e : Moment = duration_after c.in-Some.step d in
    let later : IsNotAfter d e = rw c.in-Some.is at c.in_ok-step.ensures.no_fall in
    let was : AreEndedWithin d c.prepare.new.media.media.tracks = subst (λ (m : Media). AreEndedWithin d m.tracks) (sym c.in_ok-step.ensures.media) h in
    subst (λ (x : Moment). AreEndedWithin x c.answer.new.media.media.tracks) (sym c.answer.ensures.duration) (c.answer.ensures.within_duration e (within_later d e c.prepare.new.media.media.tracks later was))

-- the media is as before the reservation, and the parts of the step are put together
pub returns-in_ok-next-in-None-clause-answered : goal.returns-in_ok-next-in-None-clause-answered
returns-in_ok-next-in-None-clause-answered g c =
    let a = surroundings c.args.around.now in
    let turned = append-turns c.args.stream.now c.next.new.self c.answer-in-None.new.stream c.prepare.new.media.media c.take_item-step.new.media.media c.answer-in-None.new.media.media c.args.running.now c.answer-in-None.new.running (answer_item c.in_ok-next-in-None.next) c.take_item-step.result c.answer-in-None.result a c.in_ok-next-in-None.ensures.item c.in_ok-next-in-None.ensures.stands c.in_ok-next-in-None.ensures.latest c.take_item-step.ensures.step c.answer-in-None.ensures.answered in
    subst (λ (m : Media). IsBufferAnswer (kept_buffer c.args.stream.now m c.args.running.now) c.answer-in-None.result (kept_buffer c.answer-in-None.new.stream c.answer-in-None.new.media.media c.answer-in-None.new.running) (λ (f : Feed) (d : Content). append_turn_result (next_item f) a f d)) c.in_ok-step.ensures.media turned

pub returns-in_ok-next-in-None-clause-fewer : goal.returns-in_ok-next-in-None-clause-fewer
returns-in_ok-next-in-None-clause-fewer g c =
    let next = answer_item c.in_ok-next-in-None.next in
    let latest = latest_of c.args.stream.now in
    let leaves : IsLeftByStep c.take_item-step.result c.next.new.self Append c.answer-in-None.new.stream c.answer-in-None.new.running = subst (λ (r : Running). IsLeftByStep c.take_item-step.result c.next.new.self r c.answer-in-None.new.stream c.answer-in-None.new.running) c.requires.appending c.answer-in-None.ensures.leaves in
    let less = fewer c.args.stream.now c.next.new.self c.answer-in-None.new.stream c.args.media.now.media c.answer-in-None.new.media.media c.answer-in-None.new.running next c.take_item-step.result (record { media = c.prepare.new.media.media; latest = latest }) (record { media = c.take_item-step.new.media.media; latest = latest_after_any latest next }) c.args.around.now.duration c.requires.stands c.in_ok-next-in-None.ensures.stands (c.take_item-step.ensures.step latest) leaves in
    subst (λ (r : Running). steps_left (kept_buffer c.answer-in-None.new.stream c.answer-in-None.new.media.media c.answer-in-None.new.running) < steps_left (kept_buffer c.args.stream.now c.args.media.now.media r)) (sym c.requires.appending) less
