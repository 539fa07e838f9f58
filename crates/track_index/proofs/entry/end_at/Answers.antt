use Rattle.std.proofs.Common.{sym}
use Rattle.mse_base.proofs.TickLemmas.{tick_some, tick_none}
use Rattle.track_index.proofs.entry.end_at.Goals as goal

pub unreachable-requires : goal.unreachable-requires
unreachable-requires c = tick_none _ (sym c.in-None.ensures) c.requires

pub returns : goal.returns
returns c = tick_some _ _ (sym c.in-Some.ensures)
