-- One step over the boxes that stand one after the other in a payload (ISO/IEC 14496-12, 4.2: a box contains
-- boxes).
use Rattle.std.specs.Prelude.{◌≡◌, ◌+◌, ◌≤◌, ℕ, nat_lt, if◌then◌else◌, List, [], ◌∷◌, length, take, drop, Option, Some, None}
use Rattle.bmff_boxes.specs.declared.box_header.Header.{Header}
use Rattle.bmff_boxes.specs.declared.box_header.Header.TheVariants as head
use Rattle.bmff_boxes.specs.declared.child.Child.{Child}
use Rattle.bmff_boxes.specs.declared.child.Child.TheVariants.{Found, End, Uneven}
use Rattle.bmff_boxes.specs.Headers.{header_of}

-- what stands next: a box with its type and payload, no byte, or bytes that do not begin with a whole box
pub data ChildView : Type 0 where
  Box : List ℕ → List ℕ → ChildView
  NoBytes : ChildView
  NoBox : ChildView

-- the same of what the walker gives
abbrev pub child_view : Child → ChildView
child_view (Found kind payload) = Box kind payload.now
child_view End = NoBytes
child_view Uneven = NoBox

-- the box of this header at the front of the bytes, where all its bytes are there, and the bytes behind it
abbrev pub whole_box : List ℕ → Header → ChildView × List ℕ
whole_box b (head.Whole kind head len) =
    if nat_lt (length b) len then (NoBox, b) else (Box kind (drop head (take len b)), drop len b)
whole_box b head.Short = (NoBox, b)
whole_box b (head.Bad fault) = (NoBox, b)

-- what stands next in the bytes, and the bytes behind it
unfoldable pub child_of : List ℕ → ChildView × List ℕ
child_of [] = (NoBytes, [])
child_of (x ∷ b) = whole_box (x ∷ b) (header_of (x ∷ b))

-- the payload of a box that stands next
abbrev pub payload_in : ChildView × List ℕ → Option (List ℕ)
payload_in (Box kind payload, rest) = Some payload
payload_in (NoBytes, rest) = None
payload_in (NoBox, rest) = None

-- the payload of the box at the front of the bytes; none where no whole box stands there
abbrev pub payload_of : List ℕ → Option (List ℕ)
payload_of b = payload_in (child_of b)

-- a step over a box takes its payload and at least eight bytes of header, and another step takes none
abbrev pub IsRestAfterChild : ℕ → ℕ → Child → Type 0
IsRestAfterChild before after (Found kind payload) = length payload.now + 8 + after ≤ before
IsRestAfterChild before after End = after ≡ before
IsRestAfterChild before after Uneven = after ≡ before
