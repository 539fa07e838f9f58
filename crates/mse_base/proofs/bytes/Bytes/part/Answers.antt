use Rattle.std.proofs.Common.{arith, ◌∙◌, ℕ, ◌+◌, ◌-◌, length, drop, slice_range, sym, ap, Vec, Global}
use Rattle.std.proofs.lemmas.List.{length-take}
use Rattle.mse_base.proofs.Slices.{part_of_part}
use Rattle.mse_base.proofs.bytes.Bytes.part.Goals as goal

pub returns : goal.returns
returns c = let items = c.self.inside.shared.value.items in let start = c.self.inside.start in let end = c.self.inside.end in ap (λ (v : Vec ℕ Global). slice_range v.items (start + c.args.start) (start + c.args.end)) c.in_ok-clone.ensures.cases ∙ sym (part_of_part c.args.start c.args.end start end items c.requires.0 (omega (arith, c.requires, ap length c.self.view_is, length-take (end - start) (drop start items), c.self.invariant))) ∙ ap (λ xs. slice_range xs c.args.start c.args.end) c.self.view_is
