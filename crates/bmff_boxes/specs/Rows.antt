-- A payload that consists of whole boxes.
use Rattle.std.specs.Prelude.{ℕ, zero, suc, List, [], ◌∷◌, length, Option, Some, None, unwrap_or, if◌then◌else◌}
use Rattle.std.specs.Option.{option_map}
use Rattle.std.specs.Str.{bytes_eq}
use Rattle.bmff_boxes.specs.Children.{ChildView, Box, NoBytes, NoBox, child_of}

-- a box: its type, and the bytes behind its header
pub record BoxView : Type 0 where
  pub kind : List ℕ
  pub payload : List ℕ

-- the boxes from a step on, where `go` gives those behind it
abbrev pub row_by : (List ℕ → Option (List BoxView)) → ChildView × List ℕ → Option (List BoxView)
row_by go (NoBytes, rest) = Some []
row_by go (NoBox, rest) = None
row_by go (Box kind payload, rest) =
    option_map (λ row. record { kind = kind; payload = payload } ∷ row) (go rest)

-- at most n boxes
abbrev pub row_in : ℕ → List ℕ → Option (List BoxView)
row_in zero b = None
row_in (suc n) b = row_by (row_in n) (child_of b)

-- the boxes that the bytes are, one after the other; none where they are not whole boxes up to the last byte
unfoldable pub row_of : List ℕ → Option (List BoxView)
row_of b = row_in (suc (length b)) b

-- the boxes of bytes that are whole boxes
abbrev pub boxes_in : List ℕ → List BoxView
boxes_in b = unwrap_or (row_of b) []

-- the payload of the first box of a type
abbrev pub first_of : List ℕ → List BoxView → Option (List ℕ)
first_of kind [] = None
first_of kind (b ∷ bs) = if bytes_eq b.kind kind then Some b.payload else first_of kind bs

-- the payloads of all boxes of a type
abbrev pub all_of : List ℕ → List BoxView → List (List ℕ)
all_of kind [] = []
all_of kind (b ∷ bs) = if bytes_eq b.kind kind then b.payload ∷ all_of kind bs else all_of kind bs
