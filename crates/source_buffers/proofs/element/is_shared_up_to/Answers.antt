use Rattle.std.proofs.Common.{◌∙◌, false, ◌≤◌, ◌<ℤ◌, length, arith}
use Rattle.std.proofs.lemmas.Int.{ints}
use Rattle.std.proofs.lemmas.List.{length-map}
use Rattle.track_buffers.proofs.LastingRanges.{all_last}
use Rattle.source_buffers.specs.State.{all_kept_media}
use Rattle.source_buffers.specs.Buffered.{active_ranges}
use Rattle.source_buffers.proofs.SlotLookUps.{active_normalized}
use Rattle.source_buffers.proofs.element.is_shared_up_to.Goals as goal

pub returns-then-lt : goal.returns-then-lt
returns-then-lt g c =
    let rs = active_ranges false c.args.active.now (all_kept_media c.args.slots.now.items) in
    let later : c.args.t <ℤ c.args.until = grind (arith, ints, c.lt.ensures, c.if-lt.true) in
    let some : 1 ≤ length rs = rw length-map (omega (arith, c.if-active-gt0.true)) in
    rw c.if-not-ended.true (c.are_all_up_to.ensures ∙ all_last c.args.t c.args.until rs later some (active_normalized false c.args.active.now (all_kept_media c.args.slots.now.items) c.sound.ensures.sound))
