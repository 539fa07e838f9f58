-- What a listener by rules keeps, as contracts see it.
use Rattle.std.specs.Prelude.{List}
use Rattle.mse_calls.specs.declared.rules.Rule.{Rule}
use Rattle.run_steps.specs.declared.note.Note.{Note}

pub record ListenerView : Type 0 where
  pub rules : List Rule
  pub notes : List Note
