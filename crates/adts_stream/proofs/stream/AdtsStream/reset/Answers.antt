use Rattle.std.proofs.Common.{ℕ, Option, ap, ◌∙◌, sym, subst}
use Rattle.std.specs.List.{concat}
use Rattle.mse_base.specs.declared.track.Presentation.{Presentation}
use Rattle.parser_loop.specs.StringReadings.{string_from}
use Rattle.adts_stream.specs.Streams.{AdtsView, IsStanding, Stands, adts_view}
use Rattle.adts_stream.proofs.StreamLaws.{holds-empty, idle, stands-latest, stands-start-view}
use Rattle.adts_stream.proofs.stream.AdtsStream.reset.Goals as goal

pub invariant_of-self : goal.invariant_of-self
invariant_of-self c =
    let s = c.self.inside in
    let h = idle s.last s.position (concat s.input) s.fed s.offered c.args.self.now c.self.view_is c.requires in
    let new = c.restart.new in
    subst (λ (o : Option ℕ). IsStanding s.last new.position (concat new.input) 0 o) (sym h.1) (holds-empty s.last new.position (concat new.input) c.restart.ensures.position c.restart.ensures.input)

pub returns-clause-stands : goal.returns-clause-stands
returns-clause-stands c =
    let s = c.self.inside in
    let h = idle s.last s.position (concat s.input) s.fed s.offered c.args.self.now c.self.view_is c.requires in
    let new = c.restart.new in
    let p = subst (λ (o : Option ℕ). Stands (adts_view s.last new.position (concat new.input) 0 o) (string_from s.last)) (sym h.1) (stands-start-view s.last new.position (concat new.input) c.restart.ensures.position c.restart.ensures.input) in
    subst (λ (last : Option Presentation). Stands (adts_view s.last new.position (concat new.input) 0 s.offered) (string_from last)) (ap (λ (v : AdtsView). v.state.last) h.0) p

pub returns-clause-latest : goal.returns-clause-latest
returns-clause-latest c = λ r st.
    let s = c.self.inside in
    let h = idle s.last s.position (concat s.input) s.fed s.offered c.args.self.now c.self.view_is c.requires in
    let new = c.restart.new in
    let p = subst (λ (o : Option ℕ). Stands (adts_view s.last new.position (concat new.input) 0 o) (string_from s.last)) (sym h.1) (stands-start-view s.last new.position (concat new.input) c.restart.ensures.position c.restart.ensures.input) in
    subst (λ (last : Option Presentation). Stands (adts_view s.last new.position (concat new.input) 0 s.offered) (string_from last)) (ap (λ (v : AdtsView). v.state.last) h.0 ∙ stands-latest c.args.self.now.state r st.kept) p
