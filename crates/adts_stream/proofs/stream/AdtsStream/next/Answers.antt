use Rattle.std.proofs.Common.{◌≡◌, ℕ, None, Option, IfOk, slice_get, ap, sym, subst}
use Rattle.std.specs.List.{concat}
use Rattle.parser_loop.specs.Items.{answer_item}
use Rattle.parser_loop.specs.StringReadings.{after_answer}
use Rattle.adts_stream.specs.Walk.{WalkState}
use Rattle.adts_stream.specs.Frames.{items_of_string}
use Rattle.adts_stream.specs.Values.{state_of}
use Rattle.adts_stream.specs.Streams.{AdtsView, HasReading, IsAdtsStream, IsStanding, StandsAfter, adts_view}
use Rattle.adts_stream.proofs.StreamLaws.{ForEachKept, IsKeptAfter, idle, next-holds, next-item, next-same, next-stands, reading-next, stands-next, timed-answer}
use Rattle.adts_stream.proofs.stream.AdtsStream.next.Goals as goal

-- what is kept then is for the readings behind the item
pub invariant_of-self : goal.invariant_of-self
invariant_of-self c =
    let s = c.self.inside in
    let h = idle s.last s.position (concat s.input) s.fed s.offered c.args.self.now c.self.view_is c.requires in
    let kept : WalkState = state_of s.last s.position (concat s.input) in
    let new = c.next_on.new in
    let v : AdtsView = c.args.self.now in
    let t : AdtsView = adts_view new.last new.position (concat new.input) s.fed None in
    let p = next-stands c.next_on.result kept (state_of new.last new.position (concat new.input)) c.next_on.ensures.item c.next_on.ensures.kept in
    let q = subst (λ (k : WalkState). IfOk c.next_on.result (λ x. IsKeptAfter k (after_answer (answer_item x)) t.state)) (ap (λ (w : AdtsView). w.state) h.0) p in
    let after = stands-next c.next_on.result v t (ap (λ (w : AdtsView). w.fed) h.0) q in
    let same = next-same c.next_on.result s.last new.last s.position new.position (concat s.input) (concat new.input) s.fed v h.0 c.next_on.ensures.err in
    let i : IsAdtsStream s.position (concat s.input) s.fed None = subst (λ (o : Option ℕ). IsAdtsStream s.position (concat s.input) s.fed o) h.1 c.self.invariant.fields in
    let all : IsStanding new.last new.position (concat new.input) s.fed None = record {
      fields = next-holds s.position new.position (concat s.input) (concat new.input) s.fed i c.next_on.ensures.total;
      stands = reading-next c.next_on.result v t after same (subst HasReading c.self.view_is c.self.invariant.stands);
    } in
    subst (λ (o : Option ℕ). IsStanding new.last new.position (concat new.input) s.fed o) (sym h.1) all

pub returns-clause-item : goal.returns-clause-item
returns-clause-item c =
    let s = c.self.inside in
    let h = idle s.last s.position (concat s.input) s.fed s.offered c.args.self.now c.self.view_is c.requires in
    let kept : WalkState = state_of s.last s.position (concat s.input) in
    let shown = subst (λ (k : WalkState). ForEachKept k (λ r. IfOk c.next_on.result (λ x. answer_item x ≡ slice_get (items_of_string r.before r.whole) r.taken))) (ap (λ (v : AdtsView). v.state) h.0) (next-item c.next_on.result kept c.next_on.ensures.item) in
    λ r st. shown r st.kept

pub returns-clause-stands : goal.returns-clause-stands
returns-clause-stands c =
    let s = c.self.inside in
    let h = idle s.last s.position (concat s.input) s.fed s.offered c.args.self.now c.self.view_is c.requires in
    let kept : WalkState = state_of s.last s.position (concat s.input) in
    let new = c.next_on.new in
    let t : AdtsView = adts_view new.last new.position (concat new.input) s.fed None in
    let p = next-stands c.next_on.result kept (state_of new.last new.position (concat new.input)) c.next_on.ensures.item c.next_on.ensures.kept in
    let q = subst (λ (k : WalkState). IfOk c.next_on.result (λ x. IsKeptAfter k (after_answer (answer_item x)) t.state)) (ap (λ (v : AdtsView). v.state) h.0) p in
    let after = stands-next c.next_on.result c.args.self.now t (ap (λ (w : AdtsView). w.fed) h.0) q in
    subst (λ (o : Option ℕ). IfOk c.next_on.result (λ x. StandsAfter c.args.self.now (after_answer (answer_item x)) (adts_view new.last new.position (concat new.input) s.fed o))) (sym h.1) after

pub returns-clause-timed : goal.returns-clause-timed
returns-clause-timed c = timed-answer c.next_on.result c.args.self.now (λ n. n) (subst HasReading c.self.view_is c.self.invariant.stands) (returns-clause-item c)
