use Rattle.std.proofs.Common.{◌≡◌, ℕ, ◌+◌, drop, List, ap, ◌∙◌}
use Rattle.mse_calls.specs.Blobs.{forgotten_before, behind_forgotten}
use Rattle.mse_calls.proofs.Forgotten.{more-forgotten}
use Rattle.mse_calls.proofs.blobs.Blobs.forget_before.Goals as goal
use Rattle.mse_calls.proofs.blobs.Blobs.forget_before.Goals.{then-is_none+in_ok-copy_of+in-Some-1, then-is_none+in_ok-copy_of+in-None-1, else-is_none}

pub returns-clause-ok : goal.returns-clause-ok
returns-clause-ok c =
    let f : ℕ = c.if-is_none.self-inside.forgotten in
    let items : List (List ℕ) = c.if-is_none.self-inside.items.items in
    let same : behind_forgotten f items ≡ c.args.self.now =
    elim c.if-is_none.branch [
      | then-is_none+in_ok-copy_of+in-Some-1 w ↦ ap (λ b. behind_forgotten b.forgotten b.items.items) w.self-inside-is ∙ c.self.view_is
      | then-is_none+in_ok-copy_of+in-None-1 w ↦ ap (λ b. behind_forgotten b.forgotten b.items.items) w.self-inside-is ∙ c.self.view_is
      | else-is_none w ↦ ap (λ b. behind_forgotten b.forgotten b.items.items) w.self-inside-is ∙ c.self.view_is
    ] in
    ap (λ left. behind_forgotten (f + c.drop_first.result) left) c.drop_first.ensures.left
    ∙ ap (λ count. behind_forgotten (f + count) (drop c.saturating_sub.result items)) c.drop_first.ensures.count
    ∙ more-forgotten c.args.n f c.saturating_sub.result items c.saturating_sub.ensures
    ∙ ap (λ blobs. forgotten_before c.args.n blobs) same
