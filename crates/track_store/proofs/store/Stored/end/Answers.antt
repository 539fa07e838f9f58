use Rattle.std.proofs.Common.{sym}
use Rattle.mse_base.proofs.TickLemmas.{tick_some, tick_none}
use Rattle.track_store.proofs.store.Stored.end.Goals as goal

pub returns : goal.returns
returns c = tick_some _ _ (sym c.in-Some.ensures)

pub unreachable-requires : goal.unreachable-requires
unreachable-requires c = tick_none _ (sym c.in-None.ensures) c.requires
