use Rattle.std.proofs.Common.{ap, ◌∙◌}
use Rattle.segment_stream.specs.Streams.{SegmentView}
use Rattle.segment_walk.specs.Strings.{phase_of}
use Rattle.segment_stream.proofs.StreamLaws.{idle, stands-phase}
use Rattle.segment_stream.proofs.stream.Stream.phase.Goals as goal

pub returns-clause-phase : goal.returns-clause-phase
returns-clause-phase c = λ r st.
    let s = c.self.inside in
    let h = idle s.last s.progress s.tables s.input s.fed s.offered c.args.self.now c.self.view_is c.requires c.self.invariant.fields in
    c.phase_in.ensures s.tables.slots.items s.tables.known.items ∙ ap (λ (v : SegmentView). phase_of v.kept.state.mode) h.1 ∙ stands-phase c.args.self.now.kept r st.kept
