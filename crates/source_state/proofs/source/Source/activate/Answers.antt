use Rattle.std.proofs.Common.{◌≡◌, ◌∙◌, true, false, [], ◌∷◌, ap, arith, length-append}
use Rattle.source_state.specs.State.{SourceState, is_listed_in}
use Rattle.source_state.proofs.ActivePlaces.{push_lt}
use Rattle.source_state.proofs.source.Source.activate.Goals as goal

pub push_reserved-requires : goal.push_reserved-requires
push_reserved-requires c =
    let listed : is_listed_in c.args.k c.self.inside.listed.items ≡ true = ap (λ (s : SourceState). is_listed_in c.args.k s.listed) c.self.view_is ∙ c.requires.listed in
    let inactive : is_listed_in c.args.k c.self.inside.active.items ≡ false = ap (λ (s : SourceState). is_listed_in c.args.k s.active) c.self.view_is ∙ c.requires.inactive in
    omega (arith, push_lt c.self.inside.listed.items c.self.inside.active.items c.args.k listed inactive, c.self.invariant)

pub invariant_of-self : goal.invariant_of-self
invariant_of-self c =
    let listed : is_listed_in c.args.k c.self.inside.listed.items ≡ true = ap (λ (s : SourceState). is_listed_in c.args.k s.listed) c.self.view_is ∙ c.requires.listed in
    let inactive : is_listed_in c.args.k c.self.inside.active.items ≡ false = ap (λ (s : SourceState). is_listed_in c.args.k s.active) c.self.view_is ∙ c.requires.inactive in
    let fewer = push_lt c.self.inside.listed.items c.self.inside.active.items c.args.k listed inactive in
    rw (c.push_reserved.ensures.items, c.push_reserved.ensures.capacity) (omega (arith, fewer, length-append c.self.inside.active.items (c.args.k ∷ []), c.self.invariant))
