use Rattle.std.proofs.Common.{◌∙◌, sym, ap}
use Rattle.std.specs.Option.{option_copied}
use Rattle.buffer_state.specs.AllCalls.{call_at}
use Rattle.source_buffers.specs.All.{most_changes_in_slot}
use Rattle.source_buffers.proofs.all.most_changes.Goals as goal

pub returns-in-Some-clause-most : goal.returns-in-Some-clause-most
returns-in-Some-clause-most g c = λ a.
    c.most_changes.ensures.most a
    ∙ ap (most_changes_in_slot (call_at a c.args.call.now)) (sym (ap option_copied c.in-Some.is) ∙ c.buffer_at.ensures)

pub returns-in-None-clause-most : goal.returns-in-None-clause-most
returns-in-None-clause-most g c = λ a.
    ap (most_changes_in_slot (call_at a c.args.call.now)) (sym (ap option_copied c.in-None.is) ∙ c.buffer_at.ensures)
