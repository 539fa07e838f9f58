use Rattle.std.proofs.Common.{◌≡◌, ℕ, ◌+◌, ◌<◌, ◌≤◌, ◌⊎◌, inl, inr, length, drop, slice_get, ap, ◌∙◌, sym, refl, subst, arith}
use Rattle.std.specs.List.{concat}
use Rattle.parser_loop.specs.Items.{answer_item}
use Rattle.parser_loop.specs.Walk.{first_item}
use Rattle.segment_walk.specs.Moves.{WalkState, segments}
use Rattle.segment_walk.specs.Segments.{items_of_string}
use Rattle.segment_stream.specs.Streams.{SegmentView, HasReading}
use Rattle.segment_stream.proofs.ArmLaws.{front-item}
use Rattle.segment_stream.proofs.StreamLaws.{idle, frames-counted, stands-item, stands-ahead, timed-of}
use Rattle.segment_stream.proofs.stream.Stream.look.Goals as goal
use Rattle.segment_stream.proofs.Snapshots.{walk_state}

none-ready : (i ready count : ℕ) → ready ≤ i → count ≡ ready → (i ≡ 0) ⊎ (i < count) → (i ≡ 0) × (ready ≡ 0)
none-ready i ready count l e (inl z) = (z, omega arith)
none-ready i ready count l e (inr h) = absurd (omega arith)

pub returns-then-i-self-clause-item : goal.returns-then-i-self-clause-item
returns-then-i-self-clause-item c = λ reading st.
    let s = c.self.inside in
    let h = idle s.last s.progress s.tables s.input s.fed s.offered c.args.self.now c.self.view_is c.requires.none_offered c.self.invariant.fields in
    let r = s.progress in
    let l = frames-counted r.position.mode (drop r.from (concat s.input)) r.position.offset s.tables r.first r.ready h.0.rest.consistent.counts in
    let k = ap (λ (v : SegmentView). v.kept.items) h.1 in
    let e = ap (λ items. slice_get items c.args.i) k ∙ stands-ahead c.args.self.now.kept c.args.i (omega (arith, l, ap length k)) reading st.kept in
    c.in_ok-frame.ensures s.last ∙ e

pub returns-clause-item : goal.returns-clause-item
returns-clause-item c = λ reading st.
    let s = c.self.inside in
    let h = idle s.last s.progress s.tables s.input s.fed s.offered c.args.self.now c.self.view_is c.requires.none_offered c.self.invariant.fields in
    let r = s.progress in
    let tables = s.tables in
    let l = frames-counted r.position.mode (drop r.from (concat s.input)) r.position.offset tables r.first r.ready h.0.rest.consistent.counts in
    let k = ap (λ (v : SegmentView). length v.kept.items) h.1 in
    let z = none-ready c.args.i r.ready (length c.args.self.now.kept.items) (omega arith) (omega arith) c.requires.ready in
    let t : WalkState = walk_state s.last r.position tables (drop r.from (concat s.input)) in
    let q = front-item s.last r.position.mode r.position.offset r.from r.first r.ready r.want r.position.failed tables (concat s.input) c.in_ok-pending.pending h.0.rest.front z.1 c.in_ok-pending.ensures.value in
    let y : reading.taken ≡ reading.taken + c.args.i = omega arith in
    c.next_of.ensures t refl ∙ sym q.0 ∙ ap (λ (v : SegmentView). first_item segments v.kept) h.1 ∙ stands-item c.args.self.now.kept reading st.kept ∙ ap (slice_get (items_of_string reading.before reading.whole)) y

pub returns-clause-timed : goal.returns-clause-timed
returns-clause-timed c =
    let h : HasReading c.args.self.now = subst HasReading c.self.view_is c.self.invariant.stands in
    timed-of h.reading (h.reading.taken + c.args.i) (answer_item c.next_of.result) (returns-clause-item c h.reading h.stands)
