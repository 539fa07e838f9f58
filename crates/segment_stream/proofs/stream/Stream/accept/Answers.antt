use Rattle.std.proofs.Common.{◌+◌, Option, None, ap, ◌∙◌, sym, subst}
use Rattle.segment_stream.specs.declared.stream.Offered.{Offered}
use Rattle.segment_stream.specs.Kept.{snapshot}
use Rattle.segment_stream.specs.Streams.{SegmentView, HasReading, segment_view, pushed_last, IsStreamWithOffer, IsSegmentStream}
use Rattle.segment_stream.proofs.StreamLaws.{accept-fed, accept-holds, accept-stands, accept-pieces, reading-accepted, stands-accepted}
use Rattle.segment_stream.proofs.stream.Stream.accept.Goals as goal

pub invariant_of-self : goal.invariant_of-self
invariant_of-self c =
    let s = c.self.inside in
    let o = c.in-Some.offer in
    let tables = s.tables in
    let new = c.accept_on-self-inside.new.input in
    let q = c.accept_on-self-inside.ensures in
    let h : IsStreamWithOffer (snapshot s.last s.progress tables s.input) s.input s.fed o = subst (λ (x : Option Offered). IsSegmentStream (snapshot s.last s.progress tables s.input) s.input s.fed x) c.in-Some.is c.self.invariant.fields in
    let e = ap (λ (x : Option Offered). segment_view (snapshot s.last s.progress tables s.input) s.input s.fed x) (sym c.in-Some.is) ∙ c.self.view_is in
    let f = accept-stands s.last s.progress c.accept_on-self-inside.result tables s.input new s.fed o c.args.self.now e h (q.kept s.last tables) in
    let g = accept-fed (snapshot s.last s.progress tables s.input) s.input s.fed o c.args.self.now e h.len in
    let t : SegmentView = segment_view (snapshot s.last c.accept_on-self-inside.result tables new) new (s.fed + o.len) None in
    record {
      fields = accept-holds s.last s.progress c.accept_on-self-inside.result tables s.input new s.fed o h (q.at_front s.last tables h.found.consistent h.found.rests) q.position q.ready q.pieces;
      stands = reading-accepted c.args.self.now t c.args.self.now.offered (pushed_last o.len s.input) (ap (λ (v : SegmentView). v.offered) (sym e)) (stands-accepted c.args.self.now t c.args.self.now.offered f g) (subst HasReading c.self.view_is c.self.invariant.stands);
    }

pub returns-clause-stands : goal.returns-clause-stands
returns-clause-stands c =
    let s = c.self.inside in
    let o = c.in-Some.offer in
    let tables = s.tables in
    let new = c.accept_on-self-inside.new.input in
    let q = c.accept_on-self-inside.ensures in
    let h : IsStreamWithOffer (snapshot s.last s.progress tables s.input) s.input s.fed o = subst (λ (x : Option Offered). IsSegmentStream (snapshot s.last s.progress tables s.input) s.input s.fed x) c.in-Some.is c.self.invariant.fields in
    let e = ap (λ (x : Option Offered). segment_view (snapshot s.last s.progress tables s.input) s.input s.fed x) (sym c.in-Some.is) ∙ c.self.view_is in
    let f = accept-stands s.last s.progress c.accept_on-self-inside.result tables s.input new s.fed o c.args.self.now e h (q.kept s.last tables) in
    let g = accept-fed (snapshot s.last s.progress tables s.input) s.input s.fed o c.args.self.now e h.len in
    stands-accepted c.args.self.now (segment_view (snapshot s.last c.accept_on-self-inside.result tables new) new (s.fed + o.len) None) c.args.self.now.offered f g

pub returns-clause-pieces : goal.returns-clause-pieces
returns-clause-pieces c =
    let s = c.self.inside in
    let o = c.in-Some.offer in
    let tables = s.tables in
    let new = c.accept_on-self-inside.new.input in
    let q = c.accept_on-self-inside.ensures in
    let h : IsStreamWithOffer (snapshot s.last s.progress tables s.input) s.input s.fed o = subst (λ (x : Option Offered). IsSegmentStream (snapshot s.last s.progress tables s.input) s.input s.fed x) c.in-Some.is c.self.invariant.fields in
    let e = ap (λ (x : Option Offered). segment_view (snapshot s.last s.progress tables s.input) s.input s.fed x) (sym c.in-Some.is) ∙ c.self.view_is in
    accept-pieces s.last s.progress tables s.input new s.fed c.accept_on-self-inside.result.from o c.args.self.now e h (q.at_front s.last tables h.found.consistent h.found.rests).front q.pieces
