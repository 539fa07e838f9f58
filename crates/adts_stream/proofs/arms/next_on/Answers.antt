use Rattle.std.proofs.Common.{◌∙◌}
use Rattle.std.specs.List.{concat}
use Rattle.parser_loop.specs.Items.{FrameItem, InitItem, FaultItem}
use Rattle.adts_stream.specs.Frames.{coded_frame, presentation_of}
use Rattle.adts_stream.specs.Values.{state_of}
use Rattle.adts_stream.proofs.Moves.{behind-fault, kept-frame, kept-init, on-ok, on-ok-both}
use Rattle.adts_stream.proofs.arms.next_on.Goals as goal

pub returns-in-Init-clause-kept : goal.returns-in-Init-clause-kept
returns-in-Init-clause-kept c =
    let position = c.args.position.now in
    let rest = concat c.args.input.now in
    let h = c.in-Init.header in
    on-ok-both c.init_on.result (λ l n. kept-init c.args.last.now c.init_on.new.last position c.init_on.new.position rest h (InitItem (presentation_of h.rate) position.offset) c.in-Init.ensures l n) c.init_on.ensures.last c.init_on.ensures.position

pub returns-in-Frame-clause-kept : goal.returns-in-Frame-clause-kept
returns-in-Frame-clause-kept c =
    let position = c.args.position.now in
    let rest = concat c.args.input.now in
    let h = c.in-Frame.header in
    on-ok c.frame_on.result (λ n. kept-frame c.args.last.now position c.frame_on.new.position rest h (FrameItem (coded_frame h rest) position.offset) c.in-Frame.ensures.0 n) c.frame_on.ensures.position

pub returns-in-Fault-clause-kept : goal.returns-in-Fault-clause-kept
returns-in-Fault-clause-kept c =
    let s = state_of c.args.last.now c.args.position.now (concat c.args.input.now) in
    c.fail_on.ensures.kept c.args.last.now ∙ behind-fault s (FaultItem c.in-Fault.fault c.args.position.now.offset) c.in-Fault.ensures
