-- Something of the outside, and how often it has failed.
use Rattle.std.specs.Prelude.{ℕ}

-- a source of files and how many loads have failed, or an output and how many puts have failed
pub record Counted (X : Type 0) : Type 0 where
  pub over : X
  pub faults : ℕ
