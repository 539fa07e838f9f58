use Rattle.std.proofs.Common.{◌∙◌, ap, is_some}
use Rattle.mse_base.specs.Rows.{row_items}
use Rattle.track_store.specs.Frames.{has_serial}
use Rattle.track_index.proofs.FrameGroups.{any_position}
use Rattle.track_index.proofs.frames.is_held.Goals as goal

pub returns : goal.returns
returns c = c.is_some.ensures ∙ ap is_some c.place_of.ensures.place ∙ any_position (has_serial c.args.serial) (row_items c.args.frames.now.rows)
