use Rattle.mse_engine.proofs.ReplyParts.{still_ready, finished}
use Rattle.mse_engine.proofs.finish.apply_work_reply.Goals as goal

pub load-requires-clause-ready_to_load : goal.load-requires-clause-ready_to_load
load-requires-clause-ready_to_load g c h = still_ready c.args.k c.args.reply.now c.args.source.now c.apply_reply-effects.new.self c.args.buffers.now.buffers c.args.element.now.state c.tell_durations.new.element.state c.tell_active.new.element.state c.is_blank-blank.result c.apply_reply-effects.result.activates c.apply_reply-effects.result.loads c.is_blank-blank.ensures c.apply_reply-effects.ensures.activates c.apply_reply-effects.ensures.loads c.apply_reply-effects.ensures.source c.tell_durations.ensures.state c.tell_active.ensures.state c.args.bounds.now c.requires.ready_to_load h

pub returns : goal.returns
returns g c = record {
  source = c.apply_reply-effects.ensures.source;
  end =
      record {
        element = finished c.args.k c.args.reply.now c.args.source.now c.apply_reply-effects.new.self c.args.buffers.now.buffers c.args.element.now.state c.tell_durations.new.element.state c.tell_active.new.element.state c.is_blank-blank.result c.apply_reply-effects.result.activates c.apply_reply-effects.result.loads c.is_blank-blank.ensures c.apply_reply-effects.ensures.activates c.apply_reply-effects.ensures.loads c.apply_reply-effects.ensures.source c.tell_durations.ensures.state c.tell_active.ensures.state c.load.new.element.state c.tell_kinds.new.self.state c.tell_fault.new.element.state c.settle.new.element.state c.load.ensures.state c.tell_kinds.ensures.state c.tell_fault.ensures.state c.settle.ensures.element;
        settled = c.settle.ensures.settled;
      };
}
