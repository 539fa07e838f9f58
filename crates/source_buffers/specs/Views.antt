-- What views show of the source buffers.
use Rattle.std.specs.Prelude.{ℕ, suc, Bool, List, [], ◌∷◌, Option, Some, None}
use Rattle.mse_calls.specs.declared.views.BufferAttributes.{BufferAttributes}
use Rattle.mse_calls.specs.declared.views.BufferView.{BufferView}
use Rattle.buffer_state.specs.Calls.{buffer_attributes, buffer_view}
use Rattle.source_buffers.specs.State.{BufferState, BufferStates, in_slot}

-- the buffers that are there, where the first slot is that of a number
abbrev pub views_from : ℕ → Bool → BufferStates → List BufferView
views_from k ended [] = []
views_from k ended (None ∷ bs) = views_from (suc k) ended bs
views_from k ended (Some b ∷ bs) =
    buffer_view k ended b.feed b.content ∷ views_from (suc k) ended bs

-- the buffers that are there, in order of their numbers
abbrev pub buffer_views : Bool → BufferStates → List BufferView
buffer_views ended bs = views_from 0 ended bs

-- what a page reads of the buffer in the slot of a number
abbrev pub slot_attributes : ℕ → Bool → Bool → Option BufferState → Option BufferAttributes
slot_attributes k ended active None = None
slot_attributes k ended active (Some b) = Some (buffer_attributes k ended active b.feed b.content)

-- what it reads of the buffer of a number, if it is there
abbrev pub attributes_at : ℕ → Bool → Bool → BufferStates → Option BufferAttributes
attributes_at k ended active bs = slot_attributes k ended active (in_slot k bs)
