use Rattle.std.proofs.Common.{◌≡◌, Option, None, IfOk, ap, sym, subst}
use Rattle.parser_loop.specs.Items.{answer_item}
use Rattle.parser_loop.specs.StringReadings.{after_answer}
use Rattle.segment_stream.specs.declared.stream.Offered.{Offered}
use Rattle.segment_stream.specs.Kept.{snapshot}
use Rattle.segment_stream.specs.Streams.{SegmentView, HasReading, StandsAfter, segment_view, IsStreamAtRest, IsStanding}
use Rattle.segment_stream.proofs.StreamLaws.{idle, next-holds, next-item, next-same, next-stands, next-dry, reading-next, stands-next, timed-answer}
use Rattle.segment_stream.proofs.stream.Stream.next.Goals as goal

pub invariant_of-self : goal.invariant_of-self
invariant_of-self c =
    let s = c.self.inside in
    let tables = s.tables in
    let h = idle s.last s.progress tables s.input s.fed s.offered c.args.self.now c.self.view_is c.requires c.self.invariant.fields in
    let new = c.next_on.new in
    let q = c.next_on.ensures in
    let p : IsStreamAtRest (snapshot new.last new.progress new.tables new.input) new.input s.fed = next-holds c.next_on.result s.last new.last s.progress new.progress tables new.tables s.input new.input s.fed h.0 q.at_front q.emptied q.readable q.total q.pieces q.err_last q.err_progress q.err_tables q.err_input in
    let v : SegmentView = c.args.self.now in
    let t : SegmentView = segment_view (snapshot new.last new.progress new.tables new.input) new.input s.fed None in
    let fed = ap (λ (w : SegmentView). w.fed) h.1 in
    let after = stands-next c.next_on.result v t fed (next-stands c.next_on.result s.last new.last s.progress new.progress tables new.tables s.input new.input s.fed v h.1 q.item q.kept) in
    let same = next-same c.next_on.result s.last new.last s.progress new.progress tables new.tables s.input new.input s.fed v h.1 q.err_last q.err_progress q.err_tables q.err_input in
    let r : HasReading t = reading-next c.next_on.result v t after same (subst HasReading c.self.view_is c.self.invariant.stands) in
    let all : IsStanding (snapshot new.last new.progress new.tables new.input) new.input s.fed None = record { fields = p; stands = r } in
    subst (λ (o : Option Offered). IsStanding (snapshot new.last new.progress new.tables new.input) new.input s.fed o) (sym h.2) all

pub returns-clause-item : goal.returns-clause-item
returns-clause-item c =
    let s = c.self.inside in
    let tables = s.tables in
    let h = idle s.last s.progress tables s.input s.fed s.offered c.args.self.now c.self.view_is c.requires c.self.invariant.fields in
    let new = c.next_on.new in
    let q = c.next_on.ensures in
    λ r st. next-item c.next_on.result s.last s.progress tables s.input s.fed c.args.self.now h.1 q.item r st.kept

pub returns-clause-stands : goal.returns-clause-stands
returns-clause-stands c =
    let s = c.self.inside in
    let tables = s.tables in
    let h = idle s.last s.progress tables s.input s.fed s.offered c.args.self.now c.self.view_is c.requires c.self.invariant.fields in
    let new = c.next_on.new in
    let q = c.next_on.ensures in
    let t : SegmentView = segment_view (snapshot new.last new.progress new.tables new.input) new.input s.fed None in
    let p = stands-next c.next_on.result c.args.self.now t (ap (λ (w : SegmentView). w.fed) h.1) (next-stands c.next_on.result s.last new.last s.progress new.progress tables new.tables s.input new.input s.fed c.args.self.now h.1 q.item q.kept) in
    subst (λ (o : Option Offered). IfOk c.next_on.result (λ next. StandsAfter c.args.self.now (after_answer (answer_item next)) (segment_view (snapshot new.last new.progress new.tables new.input) new.input s.fed o))) (sym h.2) p

pub returns-clause-dry : goal.returns-clause-dry
returns-clause-dry c =
    let s = c.self.inside in
    let tables = s.tables in
    let h = idle s.last s.progress tables s.input s.fed s.offered c.args.self.now c.self.view_is c.requires c.self.invariant.fields in
    let new = c.next_on.new in
    let q = c.next_on.ensures in
    let p = next-dry c.next_on.result s.last new.last s.progress new.progress tables new.tables s.input new.input s.fed c.args.self.now h.0 h.1 q.item q.kept q.at_front q.pieces in
    subst (λ (o : Option Offered). IfOk c.next_on.result (λ next. answer_item next ≡ None → segment_view (snapshot new.last new.progress new.tables new.input) new.input s.fed o ≡ c.args.self.now)) (sym h.2) p

pub returns-clause-timed : goal.returns-clause-timed
returns-clause-timed c = timed-answer c.next_on.result c.args.self.now (λ n. n) (subst HasReading c.self.view_is c.self.invariant.stands) (returns-clause-item c)
