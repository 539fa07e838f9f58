use Rattle.std.proofs.Common.{◌≡◌, ◌∙◌, ℕ, List, subst, sym}
use Rattle.case_runs.specs.Closing.{CloseAlike, IsClosing}
use Rattle.case_runs.proofs.ways.difference_of_closing.Goals as goal

alike : (text other kept a b : List ℕ) → IsClosing text a → IsClosing kept b → kept ≡ other → a ≡ b → CloseAlike text other
alike text other kept a b of_text of_kept e same =
    (a, of_text, subst (λ (t : List ℕ). IsClosing t a) e (subst (λ (x : List ℕ). IsClosing kept x) (sym same) of_kept))

pub returns-clause-closing : goal.returns-clause-closing
returns-clause-closing c = λ e.
    alike _ _ _ _ _ c.closing.ensures c.closing-found.ensures (c.in_ok-text_of.ensures.text ∙ c.written.ensures)
    (sym c.as_bytes-2.ensures.value ∙ c.in_ok-difference.ensures.same.0 e ∙ c.as_bytes-3.ensures.value)
