use Rattle.std.proofs.Common.{◌∙◌, ap, sym}
use Rattle.std.specs.List.{concat}
use Rattle.adts_stream.specs.Values.{ready_of}
use Rattle.adts_stream.specs.Streams.{AdtsView}
use Rattle.adts_stream.proofs.StreamLaws.{idle, stands-ready}
use Rattle.adts_stream.proofs.stream.AdtsStream.ready_frames.Goals as goal

pub returns-clause-value : goal.returns-clause-value
returns-clause-value c =
    let s = c.self.inside in
    let h = idle s.last s.position (concat s.input) s.fed s.offered c.args.self.now c.self.view_is c.requires in
    c.ready.ensures.ready s.last (concat s.input) (sym c.len.ensures) ∙ ap (λ (v : AdtsView). ready_of v.state) h.0

pub returns-clause-ready : goal.returns-clause-ready
returns-clause-ready c = λ r st.
    let s = c.self.inside in
    let h = idle s.last s.position (concat s.input) s.fed s.offered c.args.self.now c.self.view_is c.requires in
    c.ready.ensures.ready s.last (concat s.input) (sym c.len.ensures) ∙ ap (λ (v : AdtsView). ready_of v.state) h.0 ∙ stands-ready c.args.self.now.state r st.kept
