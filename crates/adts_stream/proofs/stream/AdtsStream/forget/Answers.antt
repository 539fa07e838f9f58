use Rattle.std.proofs.Common.{ℕ, None, Option, sym, subst}
use Rattle.std.specs.List.{concat}
use Rattle.parser_loop.specs.StringReadings.{string_from}
use Rattle.adts_stream.specs.Streams.{IsStanding, Stands, adts_view}
use Rattle.adts_stream.proofs.StreamLaws.{holds-empty, idle, stands-start-view}
use Rattle.adts_stream.proofs.stream.AdtsStream.forget.Goals as goal

pub invariant_of-self : goal.invariant_of-self
invariant_of-self c =
    let s = c.self.inside in
    let h = idle s.last s.position (concat s.input) s.fed s.offered c.args.self.now c.self.view_is c.requires in
    let new = c.restart.new in
    subst (λ (o : Option ℕ). IsStanding None new.position (concat new.input) 0 o) (sym h.1) (holds-empty None new.position (concat new.input) c.restart.ensures.position c.restart.ensures.input)

pub returns-clause-stands : goal.returns-clause-stands
returns-clause-stands c =
    let s = c.self.inside in
    let h = idle s.last s.position (concat s.input) s.fed s.offered c.args.self.now c.self.view_is c.requires in
    let new = c.restart.new in
    subst (λ (o : Option ℕ). Stands (adts_view None new.position (concat new.input) 0 o) (string_from None)) (sym h.1) (stands-start-view None new.position (concat new.input) c.restart.ensures.position c.restart.ensures.input)
