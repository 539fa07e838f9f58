use Rattle.std.proofs.Common.{ap}
use Rattle.std.specs.List.{concat}
use Rattle.adts_stream.specs.Streams.{AdtsView}
use Rattle.adts_stream.proofs.StreamLaws.{idle, waits, waits-kept}
use Rattle.adts_stream.proofs.stream.AdtsStream.waiting.Goals as goal

pub returns-clause-value : goal.returns-clause-value
returns-clause-value c =
    let s = c.self.inside in
    let h = idle s.last s.position (concat s.input) s.fed s.offered c.args.self.now c.self.view_is c.requires in
    waits-kept c.is_waiting.result s.position.point c.args.self.now.state (ap (λ (v : AdtsView). v.state.point) h.0) c.is_waiting.ensures

pub returns-clause-phase : goal.returns-clause-phase
returns-clause-phase c =
    let s = c.self.inside in
    let h = idle s.last s.position (concat s.input) s.fed s.offered c.args.self.now c.self.view_is c.requires in
    λ r st. waits c.is_waiting.result c.args.self.now.state (waits-kept c.is_waiting.result s.position.point c.args.self.now.state (ap (λ (v : AdtsView). v.state.point) h.0) c.is_waiting.ensures) r st.kept
