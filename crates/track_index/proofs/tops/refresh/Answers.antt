use Rattle.std.proofs.Common.{◌≡◌, ◌∙◌, ◌+◌, ◌-◌, ◌≤◌, ℕ, length, drop, ap, sym, arith, inl, inr}
use Rattle.track_index.specs.Tops.{running_ends}
use Rattle.track_index.proofs.Blocks.{less_cases}
use Rattle.track_index.proofs.tops.refresh.Goals as goal

pub adjust-requires : goal.adjust-requires
adjust-requires c =
    let r = c.requires in
    let n = c.blocks-after.ensures in
    record {
      within = r.within;
      some = r.some;
      at_most_one_more = omega (arith, r.at_most_one_more, n);
      at_most_touched_gone = omega (arith, r.at_most_touched_gone, n);
      gone = λ h. r.gone (omega (arith, h, n));
      room = omega (arith, r.room, n);
    }

pub follow-requires : goal.follow-requires
follow-requires c =
    let r = c.requires in
    let ts = c.args.tops.now.items in
    let rows = c.args.list.now.rows in
    let n = c.blocks-after.ensures in
    let m : c.len-before.result ≡ length ts = omega (arith, c.len-before.ensures, c.args.tops.now.ok.0) in
    let to = ((c.args.last + 1) + c.blocks-after.result) - c.len-before.result in
    let z : to ≡ ((c.args.last + 1) + c.blocks-after.result) - length ts = ap (λ (k : ℕ). ((c.args.last + 1) + c.blocks-after.result) - k) m in
    let k : to ≡ ((c.args.last + 1) + length rows) - length ts = omega (arith, m, n) in
    record {
      len = omega (arith, c.adjust.ensures.len, n);
      in_order = omega (arith, r.at_most_touched_gone, n, m);
      within = elim (less_cases (length rows) (length ts)) as (λ _. c.args.b ≤ length rows) [
        | inl lt ↦ (let g = r.gone lt in omega (arith, g, r.at_most_touched_gone))
        | inr ge ↦ omega (arith, ge, r.within)
      ];
      front = c.adjust.ensures.front ∙ r.front;
      rest = (r.rest.0, ap (λ (j : ℕ). drop j c.adjust.new.tops.items) z ∙ c.adjust.ensures.rest ∙ r.rest.1 ∙ ap (λ (j : ℕ). running_ends r.rest.0 (drop j rows)) (sym k));
    }
