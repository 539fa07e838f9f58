use Rattle.std.proofs.Common.{◌<◌, Some, None, Option, IfOk, length, drop, ap, sym, subst, arith}
use Rattle.std.specs.List.{concat}
use Rattle.parser_loop.specs.Items.{FrameItem}
use Rattle.parser_loop.specs.StringReadings.{after_answer}
use Rattle.segment_walk.specs.Tables.{SegmentItem}
use Rattle.segment_stream.specs.declared.stream.Offered.{Offered}
use Rattle.segment_stream.specs.Kept.{snapshot}
use Rattle.segment_stream.specs.Streams.{SegmentView, HasReading, StandsAfter, segment_view, IsStreamAtRest, IsStanding}
use Rattle.segment_stream.proofs.StreamLaws.{idle, frames-counted, frame-holds, frame-item, frame-stands, frame-reading}
use Rattle.segment_stream.proofs.stream.Stream.next_frame.Goals as goal

pub take_frame-requires-clause-ready : goal.take_frame-requires-clause-ready
take_frame-requires-clause-ready c =
    let s = c.self.inside in
    let r = s.progress in
    let h = idle s.last r s.tables s.input s.fed s.offered c.args.self.now c.self.view_is c.requires.none_offered c.self.invariant.fields in
    omega (arith, c.requires.ready, frames-counted r.position.mode (drop r.from (concat s.input)) r.position.offset s.tables r.first r.ready h.0.rest.consistent.counts, ap (λ (v : SegmentView). length v.kept.items) h.1)

pub take_frame-requires-clause-front : goal.take_frame-requires-clause-front
take_frame-requires-clause-front c =
    let s = c.self.inside in
    let h = idle s.last s.progress s.tables s.input s.fed s.offered c.args.self.now c.self.view_is c.requires.none_offered c.self.invariant.fields in
    h.0.rest.front

pub take_frame-requires-clause-consistent : goal.take_frame-requires-clause-consistent
take_frame-requires-clause-consistent c =
    let s = c.self.inside in
    let h = idle s.last s.progress s.tables s.input s.fed s.offered c.args.self.now c.self.view_is c.requires.none_offered c.self.invariant.fields in
    h.0.rest.consistent

pub invariant_of-self : goal.invariant_of-self
invariant_of-self c =
    let s = c.self.inside in
    let r = s.progress in
    let v : SegmentView = c.args.self.now in
    let h = idle s.last r s.tables s.input s.fed s.offered v c.self.view_is c.requires.none_offered c.self.invariant.fields in
    let new = c.take_frame.new.progress in
    let q = c.take_frame.ensures in
    let ready : 0 < r.ready = omega (arith, c.requires.ready, frames-counted r.position.mode (drop r.from (concat s.input)) r.position.offset s.tables r.first r.ready h.0.rest.consistent.counts, ap (λ (w : SegmentView). length w.kept.items) h.1) in
    let p : IsStreamAtRest (snapshot s.last new s.tables s.input) s.input s.fed = frame-holds c.take_frame.result s.last r new s.tables s.input s.fed h.0 ready q.progress q.err in
    let after = frame-stands c.take_frame.result s.last r new s.tables s.input s.fed v h.1 (q.item s.last) (q.ok s.last) in
    let t : SegmentView = segment_view (snapshot s.last new s.tables s.input) s.input s.fed None in
    let reading : HasReading t = frame-reading c.take_frame.result s.last r new s.tables s.input s.fed v h.1 after q.err (subst HasReading c.self.view_is c.self.invariant.stands) in
    let all : IsStanding (snapshot s.last new s.tables s.input) s.input s.fed None = record { fields = p; stands = reading } in
    subst (λ (o : Option Offered). IsStanding (snapshot s.last new s.tables s.input) s.input s.fed o) (sym h.2) all

pub returns-clause-item : goal.returns-clause-item
returns-clause-item c =
    let s = c.self.inside in
    let h = idle s.last s.progress s.tables s.input s.fed s.offered c.args.self.now c.self.view_is c.requires.none_offered c.self.invariant.fields in
    λ r st. frame-item c.take_frame.result s.last s.progress s.tables s.input s.fed c.args.self.now h.1 (c.take_frame.ensures.item s.last) r st.kept

pub returns-clause-stands : goal.returns-clause-stands
returns-clause-stands c =
    let s = c.self.inside in
    let v : SegmentView = c.args.self.now in
    let h = idle s.last s.progress s.tables s.input s.fed s.offered v c.self.view_is c.requires.none_offered c.self.invariant.fields in
    let new = c.take_frame.new.progress in
    let q = c.take_frame.ensures in
    subst (λ (o : Option Offered). IfOk c.take_frame.result (λ x. StandsAfter v (after_answer {I = SegmentItem} (Some (FrameItem x.0 x.1))) (segment_view (snapshot s.last new s.tables s.input) s.input s.fed o))) (sym h.2) (frame-stands c.take_frame.result s.last s.progress new s.tables s.input s.fed v h.1 (q.item s.last) (q.ok s.last))
