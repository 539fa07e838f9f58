use Rattle.std.proofs.Common.{arith, ◌∙◌, ◌-◌, length, drop, sym, ap}
use Rattle.std.proofs.lemmas.List.{length-take}
use Rattle.mse_base.proofs.Slices.{part_without_front}
use Rattle.mse_base.proofs.bytes.Bytes.pass.Goals as goal

pub returns : goal.returns
returns c = let items = c.self.inside.shared.value.items in let start = c.self.inside.start in let end = c.self.inside.end in sym (part_without_front c.args.n start end items (omega (arith, c.requires, ap length c.self.view_is, length-take (end - start) (drop start items), c.self.invariant))) ∙ ap (drop c.args.n) c.self.view_is
