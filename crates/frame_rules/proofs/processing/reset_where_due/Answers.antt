use Rattle.std.proofs.Common.{◌∙◌, sym}
use Rattle.frame_rules.proofs.AllTracks.{idle_reset, or_parts}
use Rattle.frame_rules.proofs.processing.reset_where_due.Goals as goal

pub returns-else-is_reset_due-clause-items : goal.returns-else-is_reset_due-clause-items
returns-else-is_reset_due-clause-items g c =
    let idle = or_parts c.args.timing.now.discontinuity c.args.timing.now.starts_group (sym c.is_reset_due.ensures ∙ c.if-is_reset_due.false) in
    idle_reset c.args.timing.now c.args.tracks.now.items idle.0 idle.1
