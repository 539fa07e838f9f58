-- The items that the segment parser loop gives (Media Source Extensions, 3.5.1), in every byte stream format. What
-- may be wrong with a string differs from format to format: `F` is the type of its faults.
use Rattle.std.specs.Prelude.{◌≡◌, ◌≢◌, ℕ, Bool, true, false, List, [], ◌∷◌, ◌++◌, Option, Some, None}
use Rattle.std.specs.List.{list_any}
use Rattle.mse_base.specs.declared.frame.CodedFrame.{CodedFrame}
use Rattle.mse_base.specs.declared.ticks.Moment.TheVariants.{Nan}
use Rattle.mse_base.specs.declared.track.Presentation.{Presentation}
use Rattle.parser_loop.specs.declared.next.Next.{Next}
use Rattle.parser_loop.specs.declared.next.Next.TheVariants as next

-- An initialization segment that was received and a coded frame, each with its offset in the string, the end of a
-- media segment, or the fault that ends the string for good, with its offset.
pub data Item (F : Type 0) : Type 0 where
  InitItem : Presentation → ℕ → Item F
  FrameItem : CodedFrame → ℕ → Item F
  SegmentEnd : Item F
  FaultItem : F → ℕ → Item F

-- the item that an answer gives, if it gives one
abbrev pub answer_item : {F : Type 0} → Next F → Option (Item F)
answer_item (next.Init p offset) = Some (InitItem p offset)
answer_item (next.Frame frame offset) = Some (FrameItem frame offset)
answer_item next.SegmentEnd = Some SegmentEnd
answer_item (next.Fault f offset) = Some (FaultItem f offset)
answer_item next.Dry = None

abbrev pub is_fault : {F : Type 0} → Item F → Bool
is_fault (InitItem p offset) = false
is_fault (FrameItem frame offset) = false
is_fault SegmentEnd = false
is_fault (FaultItem f offset) = true

abbrev pub is_frame : {F : Type 0} → Item F → Bool
is_frame (InitItem p offset) = false
is_frame (FrameItem frame offset) = true
is_frame SegmentEnd = false
is_frame (FaultItem f offset) = false

-- an initialization segment says how long its media last, be it without end
abbrev pub IsTimed : {F : Type 0} → Item F → Type 0
IsTimed (InitItem p offset) = p.duration ≢ Nan
IsTimed (FrameItem frame offset) = Unit {0}
IsTimed SegmentEnd = Unit {0}
IsTimed (FaultItem f offset) = Unit {0}

-- ---- the latest presentation

-- that of the last initialization segment, when this item was given
abbrev pub latest_after : {F : Type 0} → Option Presentation → Item F → Option Presentation
latest_after last (InitItem p offset) = Some p
latest_after last (FrameItem frame offset) = last
latest_after last SegmentEnd = last
latest_after last (FaultItem f offset) = last

-- when the next item was asked for, and was this one or none
abbrev pub latest_after_any : {F : Type 0} → Option Presentation → Option (Item F)
    → Option Presentation
latest_after_any last None = last
latest_after_any last (Some item) = latest_after last item

-- when all of these were given
abbrev pub latest_after_all : {F : Type 0} → Option Presentation → List (Item F)
    → Option Presentation
latest_after_all last [] = last
latest_after_all last (item ∷ items) = latest_after_all (latest_after last item) items

-- ---- lists of items

-- the coded frames up to the first item that is none
abbrev pub leading_frames : {F : Type 0} → List (Item F) → List CodedFrame
leading_frames [] = []
leading_frames (InitItem p offset ∷ items) = []
leading_frames (FrameItem frame offset ∷ items) = frame ∷ leading_frames items
leading_frames (SegmentEnd ∷ items) = []
leading_frames (FaultItem f offset ∷ items) = []

-- the items are the first of the others, and all of them where one is a fault
pub record IsPrefix {F : Type 0} (items others : List (Item F)) : Type 0 where
  pub tail : List (Item F)
  pub is : others ≡ items ++ tail
  pub ended : list_any is_fault items ≡ true → others ≡ items

-- ---- other faults

-- the item, where `g` says what a fault is called among the faults of several formats
abbrev pub with_fault : {F G : Type 0} → (F → G) → Item F → Item G
with_fault g (InitItem p offset) = InitItem p offset
with_fault g (FrameItem frame offset) = FrameItem frame offset
with_fault g SegmentEnd = SegmentEnd
with_fault g (FaultItem f offset) = FaultItem (g f) offset
