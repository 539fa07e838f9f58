use Rattle.std.proofs.Common.{◌≡◌, ◌≤◌, ◌++◌, List, ℕ, length}
use Rattle.mse_outside.proofs.Left.{IsGiven}
use Rattle.mse_outside.proofs.folder.append_all.Given as goal

-- what was taken was appended, it is not too much, and the file has the rest
abbrev pub invariant-loop-turn : goal.invariant-loop-turn
invariant-loop-turn g l = (l.len ≤ l.most) × ((more : List ℕ) × (l.into.items ≡ l.fn.into.items ++ more) × (length more ≡ l.len) × IsGiven l.turn more (g.F.OpenFile.left l.fn.file) (g.F.OpenFile.left l.file))
