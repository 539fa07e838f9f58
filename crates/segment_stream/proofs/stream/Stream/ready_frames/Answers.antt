use Rattle.std.proofs.Common.{length, drop, ap, ◌∙◌, sym}
use Rattle.std.specs.List.{concat}
use Rattle.segment_stream.specs.Streams.{SegmentView}
use Rattle.segment_stream.proofs.StreamLaws.{idle, few-ready, frames-counted, stands-count}
use Rattle.segment_stream.proofs.stream.Stream.ready_frames.Goals as goal

pub returns-clause-value : goal.returns-clause-value
returns-clause-value c =
    let s = c.self.inside in
    let h = idle s.last s.progress s.tables s.input s.fed s.offered c.args.self.now c.self.view_is c.requires c.self.invariant.fields in
    let r = s.progress in
    sym (frames-counted r.position.mode (drop r.from (concat s.input)) r.position.offset s.tables r.first r.ready h.0.rest.consistent.counts) ∙ ap (λ (v : SegmentView). length v.kept.items) h.1

pub returns-clause-ready : goal.returns-clause-ready
returns-clause-ready c = λ r st.
    let s = c.self.inside in
    let h = idle s.last s.progress s.tables s.input s.fed s.offered c.args.self.now c.self.view_is c.requires c.self.invariant.fields in
    let at = s.progress in
    sym (frames-counted at.position.mode (drop at.from (concat s.input)) at.position.offset s.tables at.first at.ready h.0.rest.consistent.counts) ∙ ap (λ (v : SegmentView). length v.kept.items) h.1 ∙ stands-count c.args.self.now.kept r st.kept

pub returns-clause-few : goal.returns-clause-few
returns-clause-few c =
    let s = c.self.inside in
    let h = idle s.last s.progress s.tables s.input s.fed s.offered c.args.self.now c.self.view_is c.requires c.self.invariant.fields in
    let r = s.progress in
    few-ready r.position.mode s.tables r.first r.ready h.0.rest.consistent.counts
