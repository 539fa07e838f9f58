use Rattle.std.proofs.Common.{None, Option, sym, subst}
use Rattle.segment_stream.specs.declared.stream.Offered.{Offered}
use Rattle.segment_stream.specs.Kept.{snapshot}
use Rattle.segment_stream.specs.Streams.{Stands, segment_view, IsStanding}
use Rattle.parser_loop.specs.StringReadings.{string_from}
use Rattle.segment_stream.proofs.StreamLaws.{idle, holds-empty, stands-empty-view}
use Rattle.segment_stream.proofs.stream.Stream.forget.Goals as goal

pub invariant_of-self : goal.invariant_of-self
invariant_of-self c =
    let s = c.self.inside in
    let h = idle s.last s.progress s.tables s.input s.fed s.offered c.args.self.now c.self.view_is c.requires c.self.invariant.fields in
    let tables = s.tables in
    let new = c.restart.new in
    let q : IsStanding (snapshot None new.progress tables new.input) new.input 0 None = rw (c.restart.ensures.progress, c.restart.ensures.input) (holds-empty None tables tt) in
    subst (λ (o : Option Offered). IsStanding (snapshot None new.progress tables new.input) new.input 0 o) (sym h.2) q

pub returns-clause-stands : goal.returns-clause-stands
returns-clause-stands c =
    let s = c.self.inside in
    let h = idle s.last s.progress s.tables s.input s.fed s.offered c.args.self.now c.self.view_is c.requires c.self.invariant.fields in
    let tables = s.tables in
    let new = c.restart.new in
    let q : Stands (segment_view (snapshot None new.progress tables new.input) new.input 0 None) (string_from None) = rw (c.restart.ensures.progress, c.restart.ensures.input) (stands-empty-view None tables) in
    subst (λ (o : Option Offered). Stands (segment_view (snapshot None new.progress tables new.input) new.input 0 o) (string_from None)) (sym h.2) q
