use Rattle.std.proofs.Common.{◌≡◌, ◌∙◌, ◌<◌, ℕ, inl, inr, length, get_or, ap, arith}
use Rattle.mse_base.specs.Rows.{row_items}
use Rattle.track_index.proofs.FrameGroups.{IsPlaceUpTo, group_found, group_there}
use Rattle.track_index.proofs.frames.group_start.Goals.{then-i-len, else-i-len}
use Rattle.track_index.proofs.frames.group_start.Goals as goal

pub returns-in-Some : goal.returns-in-Some
returns-in-Some c =
    let fs = row_items c.args.frames.now.rows in
    let x = c.item.result.now in
    let k = c.if-i-len.number in
    let which : IsPlaceUpTo c.args.i k (length fs) = elim c.if-i-len.branch as (λ _. IsPlaceUpTo c.args.i k (length fs)) [
      | then-i-len w ↦ inl w.number-is
      | else-i-len w ↦ inr (omega arith, omega arith)
    ] in
    let within : k < length fs = omega arith in
    let at : x ≡ get_or fs k x = c.item.ensures ∙ ap (λ (n : ℕ). get_or fs n x) c.place-place.ensures.place in
    c.place_of.ensures.place ∙ group_found c.args.syncs.now c.args.i k c.in-Some.start fs x within which at c.requires.ascending c.requires.chained c.requires.syncs c.in-Some.ensures

pub returns-in-None : goal.returns-in-None
returns-in-None c =
    let fs = row_items c.args.frames.now.rows in
    let x = c.item.result.now in
    let k = c.if-i-len.number in
    let within : k < length fs = omega arith in
    let at : x ≡ get_or fs k x = c.item.ensures ∙ ap (λ (n : ℕ). get_or fs n x) c.place-place.ensures.place in
    absurd (group_there c.args.syncs.now k fs x within at c.requires.ascending c.requires.chained c.requires.syncs c.in-None.ensures)
