-- How the engine goes by the entries of a journal.
use Rattle.std.specs.Prelude.{◌≡◌, ℕ, List, []}
use Rattle.mse_calls.specs.declared.entry.Entry.{Entry}
use Rattle.mse_engine.specs.State.{State}
use Rattle.mse_engine.specs.Run.{after_entries, IsReplay}
use Rattle.mse_engine.specs.Standing.{KeptEngine, Stands}
use Rattle.mse_engine.specs.Sound.{AreSoundBehind}

-- From each state that was stood for, the entries replay, what is kept then stands for the state behind them, and the
-- state behind each of them is sound. Without an entry nothing changed.
pub record IsTransition (blobs : List (List ℕ)) (old new : KeptEngine)
    (entries : List Entry) : Type 0 where
  pub replays : (st : State) → Stands old st → IsReplay blobs st entries
  pub stands : (st : State) → Stands old st → Stands new (after_entries blobs st entries)
  pub sound : (st : State) → Stands old st → AreSoundBehind blobs st entries
  pub idle : entries ≡ [] → new ≡ old
