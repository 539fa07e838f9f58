use Rattle.std.proofs.Common.{◌∙◌, ℤ, Option, Bool, true, map, ap, sym}
use Rattle.track_buffers.specs.Buffered.{with_end, with_common_end}
use Rattle.track_buffers.proofs.SharedRanges.{grown_none}
use Rattle.source_buffers.specs.State.{all_kept_media}
use Rattle.source_buffers.specs.Buffered.{active_ranges}
use Rattle.source_buffers.proofs.element.common_end.Goals as goal

pub returns-then-ended-clause-shared : goal.returns-then-ended-clause-shared
returns-then-ended-clause-shared g c =
    let ms = all_kept_media c.args.slots.now.items in
    let is = c.if-ended.true in
    rw is (ap (λ (o : Option ℤ). map (with_end o) (active_ranges true c.args.active.now ms)) c.highest_range_end.ensures)

pub returns-else-ended-clause-shared : goal.returns-else-ended-clause-shared
returns-else-ended-clause-shared g c =
    let ms = all_kept_media c.args.slots.now.items in
    grown_none (active_ranges c.args.ended c.args.active.now ms) ∙ ap (λ (b : Bool). with_common_end b (active_ranges c.args.ended c.args.active.now ms)) (sym c.if-ended.false)
