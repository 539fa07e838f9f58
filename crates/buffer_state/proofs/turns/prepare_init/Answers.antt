use Rattle.std.proofs.Common.{sym}
use Rattle.buffer_state.proofs.AppendSteps.{refused-step}
use Rattle.buffer_state.proofs.turns.prepare_init.Goals as goal

pub returns-then-is_some-clause-prepared : goal.returns-then-is_some-clause-prepared
returns-then-is_some-clause-prepared g c =
    refused-step c.step_at.result c.receive-effect.result c.args.presentation.now c.args.offset c.init_fault.result c.args.media.now.media c.receive-effect.new.self.media c.args.duration c.init_fault.ensures (sym c.if-is_some.ensures) c.receive-effect.ensures.result c.step_at.ensures.step
