-- What the values of the code are to the walk.
use Rattle.std.specs.Prelude.{◌≡◌, ℕ, ◌<◌, ◌≤◌, nat_le, if◌then◌else◌, Bool, true, false, List, length, Option, None}
use Rattle.mse_base.specs.declared.track.Presentation.{Presentation}
use Rattle.parser_loop.specs.Walk.{Move, Stop, Pass, Give, item_of, settled_state}
use Rattle.adts_stream.specs.declared.position.ParsePoint.{ParsePoint}
use Rattle.adts_stream.specs.declared.position.ParsePoint.TheVariants.{AtHeader, InTag, AtFrame, AtEnd}
use Rattle.adts_stream.specs.declared.position.ParsePosition.{ParsePosition}
use Rattle.adts_stream.specs.declared.position.NextItem.{NextItem}
use Rattle.adts_stream.specs.declared.position.NextItem.TheVariants as next_item
use Rattle.parser_loop.specs.Items.{InitItem, FrameItem, SegmentEnd, FaultItem}
use Rattle.adts_stream.specs.Frames.{AdtsItem, presentation_of, coded_frame}
use Rattle.adts_stream.specs.Walk.{WalkState, state_in, state_after_init, state_past, state_after_fault, adts}

abbrev pub state_of : Option Presentation → ParsePosition → List ℕ → WalkState
state_of last position rest = record {
  last = last;
  point = position.point;
  offset = position.offset;
  rest = rest;
  failed = position.failed;
}

-- one move on the way to the next item, where there is one, or the state just before that item
abbrev pub IsMoveTo : WalkState → WalkState → Bool → Type 0
IsMoveTo s t true = (settled_state adts t ≡ settled_state adts s) × (adts.size t < adts.size s)
IsMoveTo s t false = t ≡ settled_state adts s

-- the next item, with what the walk comes to behind it
abbrev pub IsNextItem : WalkState → NextItem → Type 0
IsNextItem s next_item.Dry = item_of (adts.move s) ≡ None
IsNextItem s (next_item.Init h) =
    adts.move s ≡ Give (InitItem (presentation_of h.rate) s.offset) (state_after_init s h)
IsNextItem s (next_item.Frame h) =
    (adts.move s ≡ Give (FrameItem (coded_frame h s.rest) s.offset) (state_in s (AtEnd h)))
    × (h.len ≤ length s.rest)
IsNextItem s (next_item.End h) =
    (adts.move s ≡ Give SegmentEnd (state_past s h.len)) × (h.len ≤ length s.rest)
    × (s.failed ≡ false)
IsNextItem s (next_item.Fault f) = adts.move s ≡ Give (FaultItem f s.offset) (state_after_fault s)

-- what is kept behind the item of a move
abbrev pub state_after_item : WalkState → Move WalkState AdtsItem → WalkState
state_after_item s Stop = s
state_after_item s (Pass t) = s
state_after_item s (Give item t) = settled_state adts t

-- whether a frame comes next, of which n bytes are there
abbrev pub ready_at_point : ℕ → ParsePoint → ℕ
ready_at_point n AtHeader = 0
ready_at_point n (InTag left) = 0
ready_at_point n (AtFrame h) = if nat_le h.len n then 1 else 0
ready_at_point n (AtEnd h) = 0

abbrev pub ready_unless : WalkState → Bool → ℕ
ready_unless s true = 0
ready_unless s false = ready_at_point (length s.rest) s.point

abbrev pub ready_of : WalkState → ℕ
ready_of s = ready_unless s s.failed

abbrev pub position_at_start : ParsePosition
position_at_start = record { point = AtHeader; offset = 0; failed = false }
