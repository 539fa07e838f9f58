use Rattle.std.proofs.Common.{◌≤◌, length, None, ap, sym, ◌∙◌, arith, subst, IfSome, Option}
use Rattle.sample_tables.specs.declared.box_place.BoxPlace.{BoxPlace}
use Rattle.sample_tables.proofs.PlaceLaws.{first_behind, rest_places, first-all, first-step, after-holds}
use Rattle.sample_tables.proofs.box_place.first_place.Goals as goal

pub boxes-init : goal.boxes-init
boxes-init c = record {
  same = ap (λ b. first_behind None c.args.kind (rest_places (length c.args.bytes.now) b)) c.children-walk.ensures ∙ first-all c.args.kind c.args.bytes.now;
  left = omega (arith, ap length c.children-walk.ensures);
  order = tt;
  within = tt;
}

pub boxes-preserved : goal.boxes-preserved
boxes-preserved c =
    let left = c.boxes.invariant.left in
    let shorter = c.in-Found.ensures.rest_len in
    record {
      same = first-step (length c.args.bytes.now) c.boxes.walk.rest.now c.args.kind _ _ _ c.boxes.first _ _ c.in-Found.ensures.value c.first_after-first.ensures c.boxes.invariant.same;
      left = omega (arith, left, shorter);
      order =
          (let P : Option BoxPlace → Type 0 = λ f. IfSome f (λ place. place.start ≤ place.end) in
          subst P (sym c.first_after-first.ensures) (after-holds (λ place. place.start ≤ place.end) c.boxes.first c.args.kind _ c.boxes.invariant.order (omega (arith, left, shorter))));
      within =
          (let P : Option BoxPlace → Type 0 = λ f. IfSome f (λ place. place.end ≤ length c.args.bytes.now) in
          subst P (sym c.first_after-first.ensures) (after-holds (λ place. place.end ≤ length c.args.bytes.now) c.boxes.first c.args.kind _ c.boxes.invariant.within (omega arith)));
    }
