use Rattle.std.proofs.Common.{Option, Some, ℕ, ap, ◌∙◌, refl, sym, subst, arith}
use Rattle.std.specs.List.{concat}
use Rattle.input_chunks.proofs.Rows.{bytes-pushed}
use Rattle.adts_stream.specs.Streams.{AdtsView, HasReading, IsAdtsStream}
use Rattle.adts_stream.proofs.StreamLaws.{idle, offer-holds, offer-view, reading-same}
use Rattle.adts_stream.proofs.stream.AdtsStream.offer_bytes.Goals as goal

pub invariant_of-self-2 : goal.invariant_of-self-2
invariant_of-self-2 c =
    let s = c.self.inside in
    let h = idle s.last s.position (concat s.input) s.fed s.offered c.args.self.now c.self.view_is c.requires.none_offered in
    let e = ap concat c.in_ok-push_bytes.ensures.ok ∙ bytes-pushed c.args.bytes s.input in
    let i = subst (λ (o : Option ℕ). IsAdtsStream s.position (concat s.input) s.fed o) h.1 c.self.invariant.fields in
    let view = offer-view s.last s.position (concat s.input) _ c.args.bytes s.fed c.len-len.result e (omega arith) ∙ ap (λ (v : AdtsView). record { state = v.state; fed = v.fed; offered = Some c.args.bytes }) h.0 in
    let v : AdtsView = c.args.self.now in
    let r : HasReading v = subst HasReading c.self.view_is c.self.invariant.stands in
    record {
      fields = offer-holds s.position (concat s.input) _ c.args.bytes s.fed c.len-len.result e (omega arith) i (omega (arith, c.len-len.ensures, c.requires.countable, ap (λ (v : AdtsView). v.fed) h.0));
      stands = subst HasReading (sym view) (reading-same v (record { state = v.state; fed = v.fed; offered = Some c.args.bytes }) refl refl r);
    }

pub returns-clause-ok : goal.returns-clause-ok
returns-clause-ok c =
    let s = c.self.inside in
    let h = idle s.last s.position (concat s.input) s.fed s.offered c.args.self.now c.self.view_is c.requires.none_offered in
    let e = ap concat c.in_ok-push_bytes.ensures.ok ∙ bytes-pushed c.args.bytes s.input in
    offer-view s.last s.position (concat s.input) _ c.args.bytes s.fed c.len-len.result e (omega arith) ∙ ap (λ (v : AdtsView). record { state = v.state; fed = v.fed; offered = Some c.args.bytes }) h.0
