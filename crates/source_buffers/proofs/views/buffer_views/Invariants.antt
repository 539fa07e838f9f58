use Rattle.std.proofs.Common.{◌≡◌, ◌++◌, drop}
use Rattle.source_buffers.specs.State.{BufferStates, AreSlotsStanding}
use Rattle.source_buffers.specs.Views.{buffer_views, views_from}
use Rattle.source_buffers.proofs.views.buffer_views.Given as goal

abbrev pub invariant-loop-k : goal.invariant-loop-k
invariant-loop-k g l = (bs : BufferStates) → AreSlotsStanding l.slots.items bs → l.views.items ++ views_from l.k l.ended (drop l.k bs) ≡ buffer_views l.ended bs
