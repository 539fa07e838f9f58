use Rattle.mse_engine.proofs.RefusedCalls.{tells_refusal}
use Rattle.mse_engine.proofs.LateRefusals.{late-refusal}
use Rattle.mse_engine.proofs.laws.refusals.Goals as goal

pub returns-clause-told : goal.returns-clause-told
returns-clause-told c = tells_refusal

pub returns-clause-late : goal.returns-clause-late
returns-clause-late c = late-refusal
