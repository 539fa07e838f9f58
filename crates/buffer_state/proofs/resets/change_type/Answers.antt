use Rattle.std.proofs.Common.{sym}
use Rattle.buffer_state.specs.State.{surroundings}
use Rattle.buffer_state.proofs.TypeChanges.{type-changes}
use Rattle.buffer_state.proofs.resets.change_type.Goals as goal

pub returns-in-Supported-clause-done : goal.returns-in-Supported-clause-done
returns-in-Supported-clause-done g c =
    type-changes c.args.running.now c.args.answer c.in-Supported.container (surroundings c.args.around.now) c.args.stream.now c.take_type.new.stream c.args.media.now.media c.take_type.new.media.media c.take_type.result (sym c.if-is_updating.ensures) (sym c.in-Supported.is) c.take_type.ensures.done
