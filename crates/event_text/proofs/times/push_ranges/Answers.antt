use Rattle.std.proofs.Common.{◌≡◌, ◌∷◌, ◌++◌, Some, map, take, string_bytes, ap, ◌∙◌, sym, append_assoc}
use Rattle.std.specs.List.{slice_get}
use Rattle.event_text.specs.Words.{words}
use Rattle.event_text.specs.Times.{span_text}
use Rattle.event_text.proofs.JoinedWords.{spans_more}
use Rattle.event_text.proofs.times.push_ranges.Goals as goal

pub loop-i-preserved : goal.loop-i-preserved
loop-i-preserved c =
    let there : slice_get c.args.ranges.now c.loop-i.i ≡ Some c.unwrap-span.result = sym c.get-in-loop-i.ensures ∙ c.unwrap-span.ensures in
    let before = string_bytes c.args.text.now in
    let next = 32 ∷ span_text c.unwrap-span.result in
    c.in_ok-push_next_span.ensures ∙ ap (λ t. t ++ next) c.loop-i.invariant
    ∙ append_assoc before (words (map span_text (take c.loop-i.i c.args.ranges.now))) next
    ∙ ap (λ t. before ++ t) (sym (spans_more c.args.ranges.now c.loop-i.i c.unwrap-span.result c.loop-i.auto.i there))
