-- What a handle owns.
use Rattle.std.specs.Prelude.{Option, Some, None}
use mir.Syntax.{Ty}
use base.Fml.{Fml, feq}
use denote.RattleType.{RattleType}
use denote.RawPtr.{Ptr, null_ptr}
use Rattle.std.specs.Box.Ownership.{box_owns}
use Rattle.track_index.specs.contracts.index_store.IndexStore as index
use Rattle.track_index.specs.contracts.index_store.IndexStoreFrameStore.TheImpl.{ghosts}
use Rattle.live_session.specs.contracts.live.LiveSession as live
use Rattle.live_session.specs.Lives.{LiveView}

-- the type of a session
abbrev pub session_row : RattleType
session_row = live.the_row index.the_row ghosts

-- the session at the address, with the right to free its memory; where there is none the address is null
abbrev pub owned : (Ty → Ptr → Fml) → Ptr → Option LiveView → Fml
owned token at None = feq Ptr at null_ptr
owned token at (Some session) = box_owns token session_row at session
