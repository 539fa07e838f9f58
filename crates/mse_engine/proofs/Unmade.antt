-- Calls for which there was no memory.
use Rattle.std.proofs.Common.{◌≡◌, sym, subst}
use Rattle.std.specs.Prelude.{Result, Ok, Err, IsErr}
use Rattle.std.proofs.lemmas.Bool.{false≢true}
use Rattle.mse_calls.specs.AnswerAndState.{AnswerAndState}
use Rattle.mse_calls.specs.declared.answers.Answer.{Answer}
use Rattle.mse_engine.specs.State.{State}
use Rattle.mse_engine.specs.Standing.{KeptEngine, IsSteady}
use Rattle.mse_engine.specs.EngineCalls.{IsEngineCall}

-- a call that left all as it was, and fails
pub unmade : {E : Type 0} {old new : KeptEngine} {call : State → AnswerAndState Answer State} (result : Result Answer E) → IsErr result → new ≡ old → IsSteady old → IsEngineCall old result new call
unmade (Ok answer) failed same steady = absurd (false≢true failed)
unmade (Err e) failed same steady = record { answered = λ st h. tt; steady = subst (λ (k : KeptEngine). IsSteady k) (sym same) steady; err = same }
