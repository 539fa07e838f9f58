use Rattle.std.proofs.Common.{◌≡◌, length, arith, ap, sym, ◌∙◌, unwrap_or, []}
use Rattle.bmff_boxes.specs.Children.{child_of}
use Rattle.bmff_boxes.proofs.RowLaws.{found, ended, not-uneven}
use Rattle.bmff_boxes.proofs.row.Row.next.Goals as goal

pub invariant_of-self : goal.invariant_of-self
invariant_of-self c = (found c.self.inside.rest.now _ _ _ (c.in-Found.ensures.value ∙ ap child_of c.children-walk.ensures) c.self.invariant).row

pub returns-in-Found-clause-some : goal.returns-in-Found-clause-some
returns-in-Found-clause-some c = sym c.self.view_is ∙ (found c.self.inside.rest.now _ _ _ (c.in-Found.ensures.value ∙ ap child_of c.children-walk.ensures) c.self.invariant).boxes

pub returns-in-Found-clause-shorter : goal.returns-in-Found-clause-shorter
returns-in-Found-clause-shorter c =
    omega (arith, ap length (sym c.self.view_is ∙ (found c.self.inside.rest.now _ _ _ (c.in-Found.ensures.value ∙ ap child_of c.children-walk.ensures) c.self.invariant).boxes))

pub returns-in-End-clause-none : goal.returns-in-End-clause-none
returns-in-End-clause-none c =
    let e : c.args.self.now ≡ [] = sym c.self.view_is ∙ ap (λ o. unwrap_or o []) (ended _ _ (c.in-End.ensures.value ∙ ap child_of c.children-walk.ensures)) in
    (e, e)

pub returns-in-Uneven-clause-none : goal.returns-in-Uneven-clause-none
returns-in-Uneven-clause-none c = absurd (not-uneven c.self.inside.rest.now _ (c.in-Uneven.ensures.value ∙ ap child_of c.children-walk.ensures) c.self.invariant)
