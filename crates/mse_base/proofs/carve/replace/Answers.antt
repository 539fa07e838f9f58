use Rattle.std.proofs.Common.{◌∙◌}
use Rattle.mse_base.proofs.Places.{set_whole}
use Rattle.mse_base.proofs.carve.replace.Goals as goal

pub returns-in-Some-clause-spans : goal.returns-in-Some-clause-spans
returns-in-Some-clause-spans c = c.set.ensures.spans ∙ set_whole c.args.ranges.now.spans c.args.i c.in-Some.span c.args.part c.requires.within c.in-Some.is
