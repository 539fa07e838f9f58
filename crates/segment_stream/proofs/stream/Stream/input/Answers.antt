use Rattle.std.proofs.Common.{drop, ap, ◌∙◌, sym}
use Rattle.std.specs.List.{concat}
use Rattle.segment_stream.specs.Streams.{SegmentView}
use Rattle.segment_stream.proofs.StreamLaws.{idle, stands-held}
use Rattle.segment_stream.proofs.stream.Stream.input.Goals as goal

pub returns-clause-held : goal.returns-clause-held
returns-clause-held c = λ r st.
    let s = c.self.inside in
    let h = idle s.last s.progress s.tables s.input s.fed s.offered c.args.self.now c.self.view_is c.requires c.self.invariant.fields in
    sym (ap (λ k. drop k (concat s.input)) h.0.rest.front) ∙ ap (λ (v : SegmentView). v.kept.state.rest) h.1 ∙ stands-held c.args.self.now.kept r st.kept
