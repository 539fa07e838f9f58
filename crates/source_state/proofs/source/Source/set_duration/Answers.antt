use Rattle.std.proofs.Common.{◌∙◌, sym}
use Rattle.source_state.proofs.RefusedDurations.{duration_same}
use Rattle.source_state.proofs.source.Source.set_duration.Goals as goal

pub returns-in-Some-clause-answer : goal.returns-in-Some-clause-answer
returns-in-Some-clause-answer c = (duration_same c.args.d c.args.all.now c.args.self.now c.in-Some.name (sym c.duration_refusal.ensures ∙ c.in-Some.is)).0

pub returns-in-Some-clause-state : goal.returns-in-Some-clause-state
returns-in-Some-clause-state c = (duration_same c.args.d c.args.all.now c.args.self.now c.in-Some.name (sym c.duration_refusal.ensures ∙ c.in-Some.is)).1
