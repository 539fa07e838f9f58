use Rattle.std.proofs.Common.{Option, None, ap, ◌∙◌, sym, subst}
use Rattle.mse_base.specs.declared.track.Presentation.{Presentation}
use Rattle.segment_stream.specs.declared.stream.Offered.{Offered}
use Rattle.segment_stream.specs.Kept.{snapshot}
use Rattle.segment_stream.specs.Streams.{SegmentView, Stands, segment_view, IsStanding}
use Rattle.parser_loop.specs.StringReadings.{string_from}
use Rattle.segment_stream.proofs.StreamLaws.{idle, holds-empty, stands-empty-view, stands-latest}
use Rattle.segment_stream.proofs.stream.Stream.reset.Goals as goal

pub invariant_of-self : goal.invariant_of-self
invariant_of-self c =
    let s = c.self.inside in
    let h = idle s.last s.progress s.tables s.input s.fed s.offered c.args.self.now c.self.view_is c.requires c.self.invariant.fields in
    let tables = s.tables in
    let new = c.restart.new in
    let q : IsStanding (snapshot s.last new.progress tables new.input) new.input 0 None = rw (c.restart.ensures.progress, c.restart.ensures.input) (holds-empty s.last tables h.0.readable) in
    subst (λ (o : Option Offered). IsStanding (snapshot s.last new.progress tables new.input) new.input 0 o) (sym h.2) q

pub returns-clause-stands : goal.returns-clause-stands
returns-clause-stands c =
    let s = c.self.inside in
    let h = idle s.last s.progress s.tables s.input s.fed s.offered c.args.self.now c.self.view_is c.requires c.self.invariant.fields in
    let tables = s.tables in
    let new = c.restart.new in
    let q : Stands (segment_view (snapshot s.last new.progress tables new.input) new.input 0 None) (string_from s.last) = rw (c.restart.ensures.progress, c.restart.ensures.input) (stands-empty-view s.last tables) in
    let p = subst (λ (o : Option Offered). Stands (segment_view (snapshot s.last new.progress tables new.input) new.input 0 o) (string_from s.last)) (sym h.2) q in
    subst (λ (last : Option Presentation). Stands (segment_view (snapshot s.last new.progress tables new.input) new.input 0 s.offered) (string_from last)) (ap (λ (v : SegmentView). v.kept.state.last) h.1) p

pub returns-clause-latest : goal.returns-clause-latest
returns-clause-latest c = λ r st.
    let s = c.self.inside in
    let h = idle s.last s.progress s.tables s.input s.fed s.offered c.args.self.now c.self.view_is c.requires c.self.invariant.fields in
    let tables = s.tables in
    let new = c.restart.new in
    let q : Stands (segment_view (snapshot s.last new.progress tables new.input) new.input 0 None) (string_from s.last) = rw (c.restart.ensures.progress, c.restart.ensures.input) (stands-empty-view s.last tables) in
    let p = subst (λ (o : Option Offered). Stands (segment_view (snapshot s.last new.progress tables new.input) new.input 0 o) (string_from s.last)) (sym h.2) q in
    subst (λ (last : Option Presentation). Stands (segment_view (snapshot s.last new.progress tables new.input) new.input 0 s.offered) (string_from last)) (ap (λ (v : SegmentView). v.kept.state.last) h.1 ∙ stands-latest c.args.self.now.kept r st.kept) p
