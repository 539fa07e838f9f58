use Rattle.std.proofs.Common.{◌≡◌, ◌∙◌, ◌++◌, ◌<◌, List, ℕ, Bor, ap, append_assoc, take, drop, sym, arith, rules}
use Rattle.std.proofs.lemmas.List.{take-append-drop, take_rest}
use Rattle.mse_outside.proofs.Taken.{written-more, written-interrupted}
use Rattle.mse_outside.proofs.stdout.write_whole.Goals as goal
use Rattle.mse_outside.proofs.stdout.write_whole.Goals.{in-Ok-write_some, in-Err-write_some+in-Interrupted}

pub loop-turn-preserved : goal.loop-turn-preserved
loop-turn-preserved g c = elim c.match-write_some.branch [
  | in-Ok-write_some w ↦
      let i = c.loop-turn.invariant in
      let some = w.in-Ok-write_some in
      let count = some.count in
      let rest = c.loop-turn.rest.now in
      let other = some.count-test.1 in
      let positive : 0 < count = search (arith) in
      let is : c.match-write_some.rest.now ≡ drop count rest = ap (λ (b : Bor (List ℕ)). b.now) w.rest-is ∙ take_rest rest count in
      (i.0 ++ take count rest, i.1 ∙ ap (λ zs. i.0 ++ zs) (sym (take-append-drop count rest)) ∙ sym (append_assoc i.0 (take count rest) (drop count rest)) ∙ ap (λ zs. (i.0 ++ take count rest) ++ zs) (sym is), written-more c.loop-turn.turn count rest i.0 _ _ _ i.2 some.ensures.told positive some.ensures.bound)
  | in-Err-write_some+in-Interrupted w ↦
      let i = c.loop-turn.invariant in
      let is : c.match-write_some.rest.now ≡ c.loop-turn.rest.now = ap (λ (b : Bor (List ℕ)). b.now) w.rest-is in
      (i.0, i.1 ∙ ap (λ zs. i.0 ++ zs) (sym is), written-interrupted c.loop-turn.turn c.loop-turn.rest.now i.0 w.in-Err-write_some.error _ _ _ i.2 w.in-Err-write_some.ensures.told (search rules))
]
