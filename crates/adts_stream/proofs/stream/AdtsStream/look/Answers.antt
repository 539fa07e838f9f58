use Rattle.std.proofs.Common.{◌≡◌, ◌+◌, IfOk, slice_get, ap, sym, subst, arith}
use Rattle.std.specs.List.{concat}
use Rattle.parser_loop.specs.Items.{answer_item}
use Rattle.adts_stream.specs.Walk.{WalkState}
use Rattle.adts_stream.specs.Frames.{items_of_string}
use Rattle.adts_stream.specs.Values.{state_of}
use Rattle.adts_stream.specs.Streams.{AdtsView, HasReading, IsKeptFor}
use Rattle.adts_stream.proofs.StreamLaws.{idle, next-item, only-next, timed-answer}
use Rattle.adts_stream.proofs.stream.AdtsStream.look.Goals as goal

pub returns-clause-item : goal.returns-clause-item
returns-clause-item c = λ r st.
    let s = c.self.inside in
    let h = idle s.last s.position (concat s.input) s.fed s.offered c.args.self.now c.self.view_is c.requires.none_offered in
    let kept : WalkState = state_of s.last s.position (concat s.input) in
    let q : IsKeptFor kept r = subst (λ (k : WalkState). IsKeptFor k r) (sym (ap (λ (v : AdtsView). v.state) h.0)) st.kept in
    let z : c.args.i ≡ 0 = only-next c.args.self.now.state c.args.i c.requires.ready in
    let y : r.taken ≡ r.taken + c.args.i = omega arith in
    subst (λ k. IfOk c.look_on.result (λ next. answer_item next ≡ slice_get (items_of_string r.before r.whole) k)) y (next-item c.look_on.result kept c.look_on.ensures r q)

pub returns-clause-timed : goal.returns-clause-timed
returns-clause-timed c = timed-answer c.look_on.result c.args.self.now (λ n. n + c.args.i) (subst HasReading c.self.view_is c.self.invariant.stands) (returns-clause-item c)
