use Rattle.std.proofs.Common.{sym, subst}
use Rattle.std.specs.Prelude.{IfOk}
use Rattle.mse_calls.specs.declared.answers.Answer.TheVariants as answer
use Rattle.mse_calls.specs.declared.calls.Call.{Call}
use Rattle.mse_engine.specs.Calls.{after_call, state_view}
use Rattle.mse_engine.specs.Standing.{IsStep, kept_engine}
use Rattle.mse_engine.proofs.ElementEffects.{read_step}
use Rattle.mse_engine.proofs.calls.make_call.Goals as goal

pub returns-in-Attach-clause-answered : goal.returns-in-Attach-clause-answered
returns-in-Attach-clause-answered g c st h = subst (λ (x : Call). IfOk c.attach.result (λ answer. IsStep answer (kept_engine c.attach.new.source c.args.buffers.now.buffers c.attach.new.element.state) (after_call c.args.blobs.now x st))) (sym c.in-Attach.is) (c.attach.ensures.answered st h)

pub returns-in-SetDuration-clause-answered : goal.returns-in-SetDuration-clause-answered
returns-in-SetDuration-clause-answered g c st h = subst (λ (x : Call). IfOk c.set_duration.result (λ answer. IsStep answer (kept_engine c.set_duration.new.source c.args.buffers.now.buffers c.set_duration.new.element.state) (after_call c.args.blobs.now x st))) (sym c.in-SetDuration.is) (c.set_duration.ensures.answered st h)

pub returns-in-EndOfStream-clause-answered : goal.returns-in-EndOfStream-clause-answered
returns-in-EndOfStream-clause-answered g c st h = subst (λ (x : Call). IfOk c.end_of_stream.result (λ answer. IsStep answer (kept_engine c.end_of_stream.new.source c.args.buffers.now.buffers c.end_of_stream.new.element.state) (after_call c.args.blobs.now x st))) (sym c.in-EndOfStream.is) (c.end_of_stream.ensures.answered st h)

pub returns-in-SetLiveSeekableRange-clause-answered : goal.returns-in-SetLiveSeekableRange-clause-answered
returns-in-SetLiveSeekableRange-clause-answered g c st h = subst (λ (x : Call). IfOk c.set_live.result (λ answer. IsStep answer (kept_engine c.set_live.new.source c.args.buffers.now.buffers c.set_live.new.element.state) (after_call c.args.blobs.now x st))) (sym c.in-SetLiveSeekableRange.is) (c.set_live.ensures.answered st h)

pub returns-in-ClearLiveSeekableRange-clause-answered : goal.returns-in-ClearLiveSeekableRange-clause-answered
returns-in-ClearLiveSeekableRange-clause-answered g c st h = subst (λ (x : Call). IfOk c.clear_live.result (λ answer. IsStep answer (kept_engine c.clear_live.new.source c.args.buffers.now.buffers c.clear_live.new.element.state) (after_call c.args.blobs.now x st))) (sym c.in-ClearLiveSeekableRange.is) (c.clear_live.ensures.answered st h)

pub returns-in-RemoveSourceBuffer-clause-answered : goal.returns-in-RemoveSourceBuffer-clause-answered
returns-in-RemoveSourceBuffer-clause-answered g c st h = subst (λ (x : Call). IfOk c.remove_source_buffer.result (λ answer. IsStep answer (kept_engine c.remove_source_buffer.new.source c.remove_source_buffer.new.buffers.buffers c.remove_source_buffer.new.element.state) (after_call c.args.blobs.now x st))) (sym c.in-RemoveSourceBuffer.is) (c.remove_source_buffer.ensures.answered st h)

pub returns-in-SetMode-clause-answered : goal.returns-in-SetMode-clause-answered
returns-in-SetMode-clause-answered g c st h = subst (λ (x : Call). IfOk c.call.result (λ answer. IsStep answer (kept_engine c.call.new.source c.call.new.buffers.buffers c.call.new.element.state) (after_call c.args.blobs.now x st))) (sym c.in-SetMode.is) (c.call.ensures.answered st h)

pub returns-in-SetTimestampOffset-clause-answered : goal.returns-in-SetTimestampOffset-clause-answered
returns-in-SetTimestampOffset-clause-answered g c st h = subst (λ (x : Call). IfOk c.call-in-SetTimestampOffset.result (λ answer. IsStep answer (kept_engine c.call-in-SetTimestampOffset.new.source c.call-in-SetTimestampOffset.new.buffers.buffers c.call-in-SetTimestampOffset.new.element.state) (after_call c.args.blobs.now x st))) (sym c.in-SetTimestampOffset.is) (c.call-in-SetTimestampOffset.ensures.answered st h)

pub returns-in-SetAppendWindowStart-clause-answered : goal.returns-in-SetAppendWindowStart-clause-answered
returns-in-SetAppendWindowStart-clause-answered g c st h = subst (λ (x : Call). IfOk c.call-in-SetAppendWindowStart.result (λ answer. IsStep answer (kept_engine c.call-in-SetAppendWindowStart.new.source c.call-in-SetAppendWindowStart.new.buffers.buffers c.call-in-SetAppendWindowStart.new.element.state) (after_call c.args.blobs.now x st))) (sym c.in-SetAppendWindowStart.is) (c.call-in-SetAppendWindowStart.ensures.answered st h)

pub returns-in-SetAppendWindowEnd-clause-answered : goal.returns-in-SetAppendWindowEnd-clause-answered
returns-in-SetAppendWindowEnd-clause-answered g c st h = subst (λ (x : Call). IfOk c.call-in-SetAppendWindowEnd.result (λ answer. IsStep answer (kept_engine c.call-in-SetAppendWindowEnd.new.source c.call-in-SetAppendWindowEnd.new.buffers.buffers c.call-in-SetAppendWindowEnd.new.element.state) (after_call c.args.blobs.now x st))) (sym c.in-SetAppendWindowEnd.is) (c.call-in-SetAppendWindowEnd.ensures.answered st h)

pub returns-in-Abort-clause-answered : goal.returns-in-Abort-clause-answered
returns-in-Abort-clause-answered g c st h = subst (λ (x : Call). IfOk c.call-in-Abort.result (λ answer. IsStep answer (kept_engine c.call-in-Abort.new.source c.call-in-Abort.new.buffers.buffers c.call-in-Abort.new.element.state) (after_call c.args.blobs.now x st))) (sym c.in-Abort.is) (c.call-in-Abort.ensures.answered st h)

pub returns-in-Remove-clause-answered : goal.returns-in-Remove-clause-answered
returns-in-Remove-clause-answered g c st h = subst (λ (x : Call). IfOk c.call-in-Remove.result (λ answer. IsStep answer (kept_engine c.call-in-Remove.new.source c.call-in-Remove.new.buffers.buffers c.call-in-Remove.new.element.state) (after_call c.args.blobs.now x st))) (sym c.in-Remove.is) (c.call-in-Remove.ensures.answered st h)

pub returns-in-Seek-clause-answered : goal.returns-in-Seek-clause-answered
returns-in-Seek-clause-answered g c st h = subst (λ (x : Call). IfOk c.seek.result (λ answer. IsStep answer (kept_engine c.args.source.now c.args.buffers.now.buffers c.seek.new.element.state) (after_call c.args.blobs.now x st))) (sym c.in-Seek.is) (c.seek.ensures.answered st h)

pub returns-in-Play-clause-answered : goal.returns-in-Play-clause-answered
returns-in-Play-clause-answered g c st h = subst (λ (x : Call). IfOk c.play.result (λ answer. IsStep answer (kept_engine c.args.source.now c.args.buffers.now.buffers c.play.new.element.state) (after_call c.args.blobs.now x st))) (sym c.in-Play.is) (c.play.ensures.answered st h)

pub returns-in-Pause-clause-answered : goal.returns-in-Pause-clause-answered
returns-in-Pause-clause-answered g c st h = subst (λ (x : Call). IfOk c.pause.result (λ answer. IsStep answer (kept_engine c.args.source.now c.args.buffers.now.buffers c.pause.new.element.state) (after_call c.args.blobs.now x st))) (sym c.in-Pause.is) (c.pause.ensures.answered st h)

pub returns-in-Advance-clause-answered : goal.returns-in-Advance-clause-answered
returns-in-Advance-clause-answered g c st h = subst (λ (x : Call). IfOk c.advance.result (λ answer. IsStep answer (kept_engine c.args.source.now c.args.buffers.now.buffers c.advance.new.element.state) (after_call c.args.blobs.now x st))) (sym c.in-Advance.is) (c.advance.ensures.answered st h)

pub returns-in-Buffered-clause-answered : goal.returns-in-Buffered-clause-answered
returns-in-Buffered-clause-answered g c st h = subst (λ (x : Call). IfOk c.buffered.result (λ answer. IsStep answer (kept_engine c.args.source.now c.args.buffers.now.buffers c.args.element.now.state) (after_call c.args.blobs.now x st))) (sym c.in-Buffered.is) (c.buffered.ensures c.args.element.now.state c.requires.steady st h)

pub returns-in-ElementBuffered-clause-answered : goal.returns-in-ElementBuffered-clause-answered
returns-in-ElementBuffered-clause-answered g c st h = subst (λ (x : Call). IfOk c.element_buffered.result (λ answer. IsStep answer (kept_engine c.args.source.now c.args.buffers.now.buffers c.args.element.now.state) (after_call c.args.blobs.now x st))) (sym c.in-ElementBuffered.is) (c.element_buffered.ensures c.args.element.now.state c.requires.steady st h)

pub returns-in-Seekable-clause-answered : goal.returns-in-Seekable-clause-answered
returns-in-Seekable-clause-answered g c st h = subst (λ (x : Call). IfOk c.seekable.result (λ answer. IsStep answer (kept_engine c.args.source.now c.args.buffers.now.buffers c.args.element.now.state) (after_call c.args.blobs.now x st))) (sym c.in-Seekable.is) (c.seekable.ensures c.args.element.now.state c.requires.steady st h)

pub returns-in-SourceState-clause-answered : goal.returns-in-SourceState-clause-answered
returns-in-SourceState-clause-answered g c st h =
    let x = kept_engine c.args.source.now c.args.buffers.now.buffers c.args.element.now.state in
    let told = c.state_view.ensures st h.source h.element in
    let here = read_step x st (answer.State c.state_view.result) (answer.State (state_view st)) (λ i. answer.State (told i)) c.requires.steady.settled h in
    subst (λ (y : Call). IsStep (answer.State c.state_view.result) x (after_call c.args.blobs.now y st)) (sym c.in-SourceState.is) here
