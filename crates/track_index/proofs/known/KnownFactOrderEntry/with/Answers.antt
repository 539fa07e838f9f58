use Rattle.std.proofs.Common.{◌≡◌, ◌∙◌, ◌||◌, Some, ap, sym}
use Rattle.track_index.proofs.BlockEnds.{known_with}
use Rattle.mse_base.proofs.Compared.{max_of_two}
use Rattle.mse_base.specs.Moments.{greatest_of_two}
use Rattle.track_index.proofs.known.KnownFactOrderEntry.with.Goals as goal
use Rattle.track_index.proofs.known.KnownFactOrderEntry.with.Goals.{then-self, else-self}

pub returns : goal.returns
returns c = λ xs ys k.
    let sync : c.if-self.result ≡ (c.args.self.now.sync || c.args.x.now.sync) =
    elim c.if-self.branch [
      | then-self w ↦ w.result-is ∙ w.if-self.true ∙ sym (ap (λ b. b || c.args.x.now.sync) w.if-self.true)
      | else-self w ↦ w.result-is ∙ sym (ap (λ b. b || c.args.x.now.sync) w.if-self.false)
    ] in
    known_with c.args.self.now xs ys c.args.x.now c.max.result c.if-self.result k (c.max.ensures ∙ max_of_two c.args.self.now.end (Some c.end_mark.result) ∙ ap (λ z. greatest_of_two c.args.self.now.end (Some z)) c.end_mark.ensures) sync
