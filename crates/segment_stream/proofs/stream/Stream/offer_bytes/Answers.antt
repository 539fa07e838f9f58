use Rattle.std.proofs.Common.{Some, ap, sym, subst, refl, ◌∙◌, arith}
use Rattle.segment_stream.specs.Streams.{SegmentView, HasReading}
use Rattle.segment_stream.proofs.StreamLaws.{idle, offer-holds, offer-view, reading-same}
use Rattle.segment_stream.proofs.stream.Stream.offer_bytes.Goals as goal

pub invariant_of-self-2 : goal.invariant_of-self-2
invariant_of-self-2 c =
    let s = c.self.inside in
    let h = idle s.last s.progress s.tables s.input s.fed s.offered c.args.self.now c.self.view_is c.requires.none_offered c.self.invariant.fields in
    let q = c.in_ok-progress.ensures in
    let view = offer-view s.last s.progress c.in_ok-progress.progress s.tables c.offer_on.new.tables s.input _ c.args.bytes s.fed c.len-len.result (omega arith) q.back q.pieces q.as_before ∙ ap (λ (v : SegmentView). record { kept = v.kept; pieces = v.pieces; fed = v.fed; offered = Some c.args.bytes }) h.1 in
    let v : SegmentView = c.args.self.now in
    let r : HasReading v = subst HasReading c.self.view_is c.self.invariant.stands in
    record {
      fields = offer-holds s.last s.progress c.in_ok-progress.progress s.tables _ s.input _ c.args.bytes s.fed _ (omega arith) q.back q.pieces h.0 q.at_front q.found q.emptied (omega (arith, c.requires.countable, ap (λ (v : SegmentView). v.fed) h.1));
      stands = subst HasReading (sym view) (reading-same v (record { kept = v.kept; pieces = v.pieces; fed = v.fed; offered = Some c.args.bytes }) refl refl r);
    }

pub returns-clause-ok : goal.returns-clause-ok
returns-clause-ok c =
    let s = c.self.inside in
    let h = idle s.last s.progress s.tables s.input s.fed s.offered c.args.self.now c.self.view_is c.requires.none_offered c.self.invariant.fields in
    let q = c.in_ok-progress.ensures in
    offer-view s.last s.progress c.in_ok-progress.progress s.tables c.offer_on.new.tables s.input _ c.args.bytes s.fed c.len-len.result (omega arith) q.back q.pieces q.as_before ∙ ap (λ (v : SegmentView). record { kept = v.kept; pieces = v.pieces; fed = v.fed; offered = Some c.args.bytes }) h.1
