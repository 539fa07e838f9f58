use Rattle.std.proofs.Common.{◌-◌, Option, None, ℕ, length, ap, ◌∙◌, refl, sym, subst}
use Rattle.std.specs.List.{concat}
use Rattle.input_chunks.proofs.Rows.{bytes-front}
use Rattle.adts_stream.specs.Streams.{AdtsView, HasReading, adts_view, IsAdtsStream}
use Rattle.adts_stream.proofs.StreamLaws.{decline-holds, decline-view, reading-same}
use Rattle.adts_stream.proofs.stream.AdtsStream.decline.Goals as goal

pub invariant_of-self : goal.invariant_of-self
invariant_of-self c =
    let s = c.self.inside in
    let len = c.in-Some.len in
    let e = ap concat c.drop_back.ensures ∙ bytes-front (length (concat s.input) - len) s.input in
    let view = decline-view s.last s.position (concat s.input) _ s.fed len c.args.self.now (ap (λ (o : Option ℕ). adts_view s.last s.position (concat s.input) s.fed o) (sym c.in-Some.is) ∙ c.self.view_is) e in
    let v : AdtsView = c.args.self.now in
    let r : HasReading v = subst HasReading c.self.view_is c.self.invariant.stands in
    record {
      fields = decline-holds s.position (concat s.input) _ s.fed len (subst (λ (o : Option ℕ). IsAdtsStream s.position (concat s.input) s.fed o) c.in-Some.is c.self.invariant.fields) e;
      stands = subst HasReading (sym view) (reading-same v (record { state = v.state; fed = v.fed; offered = None }) refl refl r);
    }

pub returns : goal.returns
returns c =
    let s = c.self.inside in
    let len = c.in-Some.len in
    let e = ap concat c.drop_back.ensures ∙ bytes-front (length (concat s.input) - len) s.input in
    decline-view s.last s.position (concat s.input) _ s.fed len c.args.self.now (ap (λ (o : Option ℕ). adts_view s.last s.position (concat s.input) s.fed o) (sym c.in-Some.is) ∙ c.self.view_is) e
