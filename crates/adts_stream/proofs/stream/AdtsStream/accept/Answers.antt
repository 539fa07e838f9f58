use Rattle.std.proofs.Common.{◌+◌, ◌-◌, ◌∙◌, ℕ, None, Some, Option, drop, length, ap, sym, subst}
use Rattle.std.specs.List.{concat}
use Rattle.adts_stream.specs.Values.{state_of}
use Rattle.adts_stream.specs.Streams.{AdtsView, HasReading, IsAdtsStream, adts_view}
use Rattle.adts_stream.proofs.StreamLaws.{accept-fed, accept-holds, accept-stands, reading-accepted, stands-accepted}
use Rattle.adts_stream.proofs.stream.AdtsStream.accept.Goals as goal

pub invariant_of-self : goal.invariant_of-self
invariant_of-self c =
    let s = c.self.inside in
    let len = c.in-Some.len in
    let new = c.accept_on.new in
    let v : AdtsView = c.args.self.now in
    let t : AdtsView = adts_view s.last new.position (concat new.input) (s.fed + len) None in
    let e = ap (λ (o : Option ℕ). adts_view s.last s.position (concat s.input) s.fed o) (sym c.in-Some.is) ∙ c.self.view_is in
    let i : IsAdtsStream s.position (concat s.input) s.fed (Some len) = subst (λ (o : Option ℕ). IsAdtsStream s.position (concat s.input) s.fed o) c.in-Some.is c.self.invariant.fields in
    let f = accept-stands s.last s.position (concat s.input) s.fed len (state_of s.last new.position (concat new.input)) v e c.accept_on.ensures.kept in
    let g = accept-fed s.last s.position (concat s.input) s.fed len v e i.inside in
    record {
      fields = accept-holds s.position new.position (concat s.input) (concat new.input) s.fed len i c.accept_on.ensures.total;
      stands = reading-accepted v t v.offered (drop (length (concat s.input) - len) (concat s.input)) (ap (λ (w : AdtsView). w.offered) (sym e)) (stands-accepted v t v.offered f g) (subst HasReading c.self.view_is c.self.invariant.stands);
    }

pub returns-clause-stands : goal.returns-clause-stands
returns-clause-stands c =
    let s = c.self.inside in
    let len = c.in-Some.len in
    let new = c.accept_on.new in
    let v : AdtsView = c.args.self.now in
    let e = ap (λ (o : Option ℕ). adts_view s.last s.position (concat s.input) s.fed o) (sym c.in-Some.is) ∙ c.self.view_is in
    let i : IsAdtsStream s.position (concat s.input) s.fed (Some len) = subst (λ (o : Option ℕ). IsAdtsStream s.position (concat s.input) s.fed o) c.in-Some.is c.self.invariant.fields in
    let f = accept-stands s.last s.position (concat s.input) s.fed len (state_of s.last new.position (concat new.input)) v e c.accept_on.ensures.kept in
    let g = accept-fed s.last s.position (concat s.input) s.fed len v e i.inside in
    stands-accepted v (adts_view s.last new.position (concat new.input) (s.fed + len) None) v.offered f g
