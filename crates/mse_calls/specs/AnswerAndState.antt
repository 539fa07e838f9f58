-- What a call answers, and the state behind it.
pub record AnswerAndState (A S : Type 0) : Type 0 where
  pub answer : A
  pub state : S
