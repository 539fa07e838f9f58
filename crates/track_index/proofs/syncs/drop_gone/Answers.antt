use Rattle.std.proofs.Common.{rules}
use Rattle.std.specs.List.{list_any}
use Rattle.std.proofs.lemmas.Fn.{filter_same}
use Rattle.mse_base.specs.Rows.{row_items}
use Rattle.track_store.specs.Frames.{has_serial}
use Rattle.track_index.proofs.syncs.drop_gone.Goals as goal

pub returns-clause-serials : goal.returns-clause-serials
returns-clause-serials c = filter_same _ (λ n. list_any (has_serial n) (row_items c.args.frames.now.rows)) _ (λ x b f' k. search rules) _ _ c.retain.ensures.filtered
