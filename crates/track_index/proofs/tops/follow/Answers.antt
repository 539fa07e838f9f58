use Rattle.std.proofs.Common.{◌≡◌, ◌∙◌, ◌<◌, ◌-◌, ℤ, Option, length, get_or, refl, subst, ap, sym, arith}
use Rattle.std.proofs.lemmas.List.{length-set}
use Rattle.track_index.specs.declared.known.Known.{Known}
use Rattle.mse_base.proofs.Compared.{max_of_two}
use Rattle.mse_base.specs.Moments.{greatest_of_two}
use Rattle.track_index.proofs.BlockEnds.{same_end, follow_init, follow_stop, follow_front, unseen_init, unseen_next}
use Rattle.track_index.proofs.tops.follow.Goals as goal

pub loop-i-init : goal.loop-i-init
loop-i-init c =
    let ts = c.args.tops.now.items in
    let rows = c.args.list.now.rows in
    let best = c.end_before-best.result in
    record {
      front = follow_init ts rows c.args.from best c.end_before-best.ensures.none (λ p. c.end_before-best.ensures.some p ∙ ap (λ zs. get_or zs (c.args.from - 1) best) c.deref.ensures.value) c.requires.within c.requires.len c.requires.front;
      rest = unseen_init ts rows c.args.from c.args.to c.requires.in_order c.requires.rest;
      long = c.requires.len;
      room = refl;
    }

pub returns-then-eq-clause-items : goal.returns-then-eq-clause-items
returns-then-eq-clause-items c =
    let ts = c.loop-i.tops.items in
    let rows = c.args.list.now.rows in
    let i = c.loop-i.i in
    let inv = c.loop-i.invariant in
    let m : i < length ts = omega arith in
    let top = c.max-top.ensures ∙ max_of_two c.loop-i.best c.fact.result.now.end ∙ ap (λ (k : Known). greatest_of_two c.loop-i.best k.end) c.fact.ensures in
    follow_stop c.loop-i.best ts rows i c.max-top.result (omega (arith, inv.long)) m top (subst (λ (z : Option ℤ). get_or ts i z ≡ z) (same_end _ _ (sym c.eq.ensures ∙ c.if-eq.true)) (sym c.index.ensures)) (inv.rest.1 c.if-to-i.true) inv.front

pub loop-i-preserved : goal.loop-i-preserved
loop-i-preserved c =
    let ts = c.loop-i.tops.items in
    let rows = c.args.list.now.rows in
    let i = c.loop-i.i in
    let inv = c.loop-i.invariant in
    let m : i < length ts = omega arith in
    let l : i < length rows = omega (arith, inv.long) in
    let top = c.max-top.ensures ∙ max_of_two c.loop-i.best c.fact.result.now.end ∙ ap (λ (k : Known). greatest_of_two c.loop-i.best k.end) c.fact.ensures in
    record {
      front = follow_front c.loop-i.best ts rows i c.max-top.result l m top inv.front;
      rest = unseen_next ts rows c.args.to i c.max-top.result l m inv.rest;
      long = length-set ts i c.max-top.result ∙ inv.long;
      room = inv.room;
    }
