use Rattle.std.proofs.Common.{◌∙◌, length, ap}
use Rattle.std.specs.List.{concat}
use Rattle.adts_stream.specs.Streams.{AdtsView}
use Rattle.adts_stream.proofs.StreamLaws.{idle, stands-held}
use Rattle.adts_stream.proofs.stream.AdtsStream.held_len.Goals as goal

pub returns-clause-held : goal.returns-clause-held
returns-clause-held c = λ r st.
    let s = c.self.inside in
    let h = idle s.last s.position (concat s.input) s.fed s.offered c.args.self.now c.self.view_is c.requires in
    c.len.ensures ∙ ap (λ (v : AdtsView). length v.state.rest) h.0 ∙ ap length (stands-held c.args.self.now.state r st.kept)
