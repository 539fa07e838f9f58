-- What the calls on the parts of the engine answer and keep: a device of the proof, in which the clauses of all these
-- calls stand once.
use Rattle.std.specs.Prelude.{◌≡◌, Result, OnErr}
use Rattle.mse_calls.specs.AnswerAndState.{AnswerAndState}
use Rattle.mse_calls.specs.declared.answers.Answer.{Answer}
use Rattle.mse_engine.specs.State.{State}
use Rattle.mse_engine.specs.Standing.{KeptEngine, IsEngineAnswer, IsSteady}

-- a call answers what is meant, for every state that was stood for, and leaves what is kept steady; where there is no
-- memory, it changes nothing
pub record IsEngineCall {E : Type 0} (old : KeptEngine) (result : Result Answer E)
    (new : KeptEngine) (call : State → AnswerAndState Answer State) : Type 0 where
  pub answered : IsEngineAnswer old result new call
  pub steady : IsSteady new
  pub err : OnErr result (new ≡ old)

-- a read of what is steady answers what is meant, and leaves it
abbrev pub IsEngineRead : {E : Type 0} → KeptEngine → Result Answer E
    → (State → AnswerAndState Answer State)
    → Type 0
IsEngineRead k result call = IsSteady k → IsEngineAnswer k result k call
