use Rattle.std.proofs.Common.{ℕ, zero, suc, ◌∙◌, sym, subst}
use Rattle.std.specs.Prelude.{replicate}
use Rattle.std.specs.List.{AllByRecursion}
use Rattle.mse_base.specs.Presentation.{IsReadable}
use Rattle.stream_tests.proofs.tests.fragments.too_many_tracks.Goals as goal

-- what holds of an element holds of any number of it
all-replicate : {X : Type 0} (P : X → Type 0) (x : X) (n : ℕ) → P x → AllByRecursion P (replicate n x)
all-replicate P x zero h = tt
all-replicate P x (suc n) h = (h, all-replicate P x n h)

pub returns : goal.returns
returns c = subst (AllByRecursion IsReadable) (sym (c.from_vec.ensures ∙ c.in_ok-tracks.ensures.items)) (all-replicate IsReadable c.args.media 65 c.requires)
