use Rattle.std.proofs.Common.{◌≡◌, ◌∙◌, ◌+◌, ◌-◌, ◌≤◌, ◌<◌, ℕ, drop, take, length, ap, arith, None, inl, inr}
use Rattle.std.proofs.lemmas.List.{length-append, length-take-le, length-drop}
use Rattle.track_index.proofs.BlockEnds.{drop_insert, take_taken, drop_taken}
use Rattle.track_index.proofs.Blocks.{less_cases}
use Rattle.track_index.proofs.tops.adjust.Goals as goal

pub returns-then-after-before-clause-rest : goal.returns-then-after-before-clause-rest
returns-then-after-before-clause-rest c =
    ap (drop _) c.in-Ok.ensures.items ∙ drop_insert c.args.tops.now.items c.args.b _ c.args.behind None c.requires.within (omega (arith, c.requires.some)) (omega (arith, c.len-before.ensures, c.if-after-before.true, c.requires.at_most_one_more, c.args.tops.now.ok.0))

-- the ends that go are there
few_go : (b behind after before : ℕ) → b ≤ before → b + before ≤ behind + after → (after < before → behind ≤ before) → b + (before - after) ≤ before
few_go b behind after before l t g = elim (less_cases after before) as (λ _. b + (before - after) ≤ before) [
  | inl lt ↦ (let k = g lt in omega arith)
  | inr ge ↦ omega (arith, ge)
]

pub take_out-requires-clause-within : goal.take_out-requires-clause-within
take_out-requires-clause-within c =
    let ts = c.args.tops.now.items in
    let m : c.len-before.result ≡ length ts = omega (arith, c.len-before.ensures, c.args.tops.now.ok.0) in
    let few = few_go c.args.b c.args.behind c.args.after (length ts) c.requires.within c.requires.at_most_touched_gone c.requires.gone in
    omega (arith, few, m)

pub returns-clause-len : goal.returns-clause-len
returns-clause-len c =
    let ts = c.args.tops.now.items in
    let b = c.args.b in
    let m : c.len-before.result ≡ length ts = omega (arith, c.len-before.ensures, c.args.tops.now.ok.0) in
    let few = few_go b c.args.behind c.args.after (length ts) c.requires.within c.requires.at_most_touched_gone c.requires.gone in
    let k = b + (c.len-before.result - c.args.after) in
    omega (arith, few, m, ap length c.take_out.ensures.items, length-append (take b ts) (drop k ts), length-take-le b ts c.requires.within, length-drop k ts, c.if-after-before.false)

pub returns-clause-front : goal.returns-clause-front
returns-clause-front c = ap (take c.args.b) c.take_out.ensures.items ∙ take_taken c.args.tops.now.items _ c.args.b c.requires.within

pub returns-clause-rest : goal.returns-clause-rest
returns-clause-rest c =
    let ts = c.args.tops.now.items in
    let b = c.args.b in
    let m : c.len-before.result ≡ length ts = omega (arith, c.len-before.ensures, c.args.tops.now.ok.0) in
    let few = few_go b c.args.behind c.args.after (length ts) c.requires.within c.requires.at_most_touched_gone c.requires.gone in
    ap (drop _) c.take_out.ensures.items ∙ drop_taken ts b (c.len-before.result - c.args.after) _ c.args.behind (omega (arith, few, m)) (omega (arith, c.requires.at_most_touched_gone)) (omega (arith, c.requires.at_most_touched_gone, m, c.if-after-before.false))
